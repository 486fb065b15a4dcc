use Rattle.std.proofs.Common.{[], inr}
use Rattle.kl_rows.specs.Places.{a_type}
use Rattle.kl_infer.proofs.Leaving.{handed_on, ready_on, ready_new, ready_block}
use Rattle.kl_infer.proofs.Answering.{binds_there}
use Rattle.kl_infer.proofs.Concluding.{untaken, unbodied, function_answer, ready_first}
use Rattle.kl_infer.proofs.inference.function.Goals as goal

pub fresh-requires : goal.fresh-requires
fresh-requires c = let r = ready_first c.args.known.now _ c.new-typing.ensures c.requires in r.fine

pub takes-requires : goal.takes-requires
takes-requires c = ready_block _ _ [] _ _ _ c.new-bound.ensures.items tt (ready_new _ _ _ _ _ _ _ c.in_ok-from.ensures (ready_first c.args.known.now _ c.new-typing.ensures c.requires))

pub returns-in_err-takes : goal.returns-in_err-takes
returns-in_err-takes c = handed_on _ _ _ _ c.from_residual-in_err-takes.ensures.1 (untaken c.args.known.now _ _ _ _ _ c.new-typing.ensures c.requires c.in_ok-from.ensures _ _ c.new-bound.ensures.items c.in_err-takes.ensures)

pub fresh-requires-2 : goal.fresh-requires-2
fresh-requires-2 c = c.in_ok-takes.ensures.fine

pub check-requires : goal.check-requires
check-requires c =
    let there = binds_there _ _ _ _ _ _ c.new-bound.ensures.items c.in_ok-takes.ensures in
    let r = ready_on _ _ _ _ _ c.in_ok-takes.ensures.fine c.in_ok-takes.ensures.keeps (ready_on _ _ _ _ _ c.in_ok-from.ensures.fine c.in_ok-from.ensures.keeps (ready_first c.args.known.now _ c.new-typing.ensures c.requires)) in
    ready_new _ _ _ _ _ _ _ c.in_ok-to.ensures (ready_block _ _ _ _ _ _ c.deref.ensures.value there r)

pub returns-in_err-check : goal.returns-in_err-check
returns-in_err-check c = handed_on _ _ _ _ c.from_residual-in_err-check.ensures.1
    (unbodied c.args.known.now _ _ _ _ _ c.new-typing.ensures c.requires c.in_ok-from.ensures _ _ _ _ _ _ c.new-bound.ensures.items c.deref.ensures.value c.in_ok-takes.ensures c.in_ok-to.ensures _ c.in_err-check.ensures)

pub arrow-requires-clause-fine : goal.arrow-requires-clause-fine
arrow-requires-clause-fine c = c.in_ok-check.ensures.fine

pub arrow-requires-clause-from_there : goal.arrow-requires-clause-from_there
arrow-requires-clause-from_there c = c.in_ok-check.ensures.keeps.sorts _ a_type (c.in_ok-to.ensures.keeps.sorts _ a_type (c.in_ok-takes.ensures.keeps.sorts _ a_type c.in_ok-from.ensures.sort))

pub arrow-requires-clause-to_there : goal.arrow-requires-clause-to_there
arrow-requires-clause-to_there c = c.in_ok-check.ensures.keeps.sorts _ a_type c.in_ok-to.ensures.sort

pub conclude-requires-clause-fine : goal.conclude-requires-clause-fine
conclude-requires-clause-fine c = c.in_ok-whole.ensures.fine

pub conclude-requires-clause-on_root : goal.conclude-requires-clause-on_root
conclude-requires-clause-on_root c = inr c.in_ok-whole.ensures.sort

pub returns : goal.returns
returns c = function_answer c.args.known.now _ _ _ _ _ c.new-typing.ensures c.requires c.in_ok-from.ensures _ _ _ _ _ _ c.new-bound.ensures.items c.deref.ensures.value c.in_ok-takes.ensures c.in_ok-to.ensures
    _ _ _ c.in_ok-check.ensures c.in_ok-whole.ensures c.conclude.result c.conclude.ensures
