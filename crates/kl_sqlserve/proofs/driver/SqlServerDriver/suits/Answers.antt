use Rattle.std.proofs.Common.{sym, ◌∙◌}
use Rattle.kl_sqlserve.proofs.Attaches.{suits}
use Rattle.kl_sqlserve.proofs.driver.SqlServerDriver.suits.Goals as goal

pub returns-clause-only : goal.returns-clause-only
returns-clause-only g c = λ e. suits c.args.ty.now (sym c.is_served.ensures ∙ e)
