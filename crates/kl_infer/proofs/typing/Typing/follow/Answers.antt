use Rattle.kl_infer.proofs.Leaving.{handed_on}
use Rattle.kl_infer.proofs.Loops.{path_starts, path_more, path_stops, path_done}
use Rattle.kl_rows.specs.Places.{a_type}
use Rattle.kl_infer.proofs.typing.Typing.follow.Goals as goal

pub labels-init : goal.labels-init
labels-init c = record { asks = path_starts _ _ _ _ c.requires.fine; there = c.requires.from_there }

pub field-requires-clause-fine : goal.field-requires-clause-fine
field-requires-clause-fine c = c.labels.invariant.asks.fine

pub field-requires-clause-there : goal.field-requires-clause-there
field-requires-clause-there c = c.labels.invariant.there

pub returns-in_err-t : goal.returns-in_err-t
returns-in_err-t c = handed_on _ _ _ _ c.from_residual.ensures.1 (path_stops _ _ _ c.args.labels.now c.labels.i c.index-labels-i.result _ _ _ c.labels-test.true c.index-labels-i.is c.index-labels-i.is c.requires.there c.labels.invariant.asks _ c.in_err-t.ensures)

pub labels-preserved : goal.labels-preserved
labels-preserved c = record {
  asks = path_more _ _ _ c.args.labels.now c.labels.i c.index-labels-i.result _ _ _ c.labels-test.true c.index-labels-i.is c.index-labels-i.is c.requires.there c.labels.invariant.asks _ _ c.in_ok-t.ensures;
  there = c.in_ok-t.ensures.sort;
}

pub same-requires-clause-fine : goal.same-requires-clause-fine
same-requires-clause-fine c = c.labels.invariant.asks.fine

pub same-requires-clause-first_there : goal.same-requires-clause-first_there
same-requires-clause-first_there c = c.labels.invariant.there

pub same-requires-clause-second_there : goal.same-requires-clause-second_there
same-requires-clause-second_there c = c.labels.invariant.asks.keeps.sorts c.args.want a_type c.requires.there

pub returns : goal.returns
returns c = path_done c.same.result _ _ _ _ c.args.labels.now c.labels.i _ _ c.labels-test.false c.labels.invariant.asks c.same.ensures
