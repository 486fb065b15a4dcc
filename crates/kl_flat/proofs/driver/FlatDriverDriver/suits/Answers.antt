use Rattle.std.proofs.Common.{sym, ◌∙◌}
use Rattle.kl_flat.proofs.Suiting.{suits}
use Rattle.kl_flat.proofs.driver.FlatDriverDriver.suits.Goals as goal

pub returns-clause-only : goal.returns-clause-only
returns-clause-only g c = λ e. suits c.args.ty.now (sym c.is_table_type.ensures ∙ e)
