use Rattle.std.proofs.Common.{ap, sym, ◌∙◌, set}
use Rattle.std.proofs.lemmas.List.Edits.{map_over_more}
use Rattle.kl_outside.specs.Changes.{opened_once}
use Rattle.kl_outside.proofs.memory.count_opening.Goals as goal

pub loop-change-preserved : goal.loop-change-preserved
loop-change-preserved c =
    ap (λ x. set c.loop-change.changes c.loop-change.change-index x) (c.open_once.ensures ∙ ap (opened_once c.args.path.now) (sym c.change-item.is))
    ∙ map_over_more (opened_once c.args.path.now) c.args.changes.now c.loop-change.changes c.loop-change.change-index c.change-item.result c.loop-change-test.true c.loop-change.invariant c.change-item.is
