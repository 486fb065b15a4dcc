use Rattle.std.proofs.Common.{sym, ◌∙◌}
use Rattle.kl_nested.proofs.Collections.{suits}
use Rattle.kl_nested.proofs.driver.NestedDriverDriver.suits.Goals as goal

pub returns-clause-only : goal.returns-clause-only
returns-clause-only g c = λ e. suits c.args.ty.now (sym c.is_collection.ensures ∙ e)
