use Rattle.std.proofs.Common.{◌∙◌}
use Rattle.kl_cursor.proofs.Snaps.{snap_Fresh}
use Rattle.kl_cursor.proofs.cursor.open_plan.Goals as goal

pub returns : goal.returns
returns c = (snap_Fresh c.args.plan, c.of.ensures ∙ c.in_ok-values.ensures)
