use Rattle.std.proofs.Common.{sym, ◌∙◌}
use Rattle.kl_tools.proofs.MadeTypes.{suits}
use Rattle.kl_tools.proofs.driver.MadeDriverDriver.suits.Goals as goal

pub returns-clause-only : goal.returns-clause-only
returns-clause-only c = λ e. suits c.args.ty.now (sym c.is_made_type.ensures ∙ e)
