use Rattle.std.proofs.Common.{◌∙◌}
use Rattle.kl_rows.proofs.Kept.{needs}
use Rattle.kl_rows.proofs.keeping.needed.Goals as goal

pub returns-then-not-sweep : goal.returns-then-not-sweep
returns-then-not-sweep c =
    needs c.args.cells.now c.args.root c.sweep_back.new.kept.items c.sweep.new.kept.items c.sweep.result c.if-not-sweep.true (c.sweep_back.ensures.size ∙ c.passes.invariant.size) (c.sweep_back.ensures.stays c.args.root c.passes.invariant.has) c.sweep.ensures
