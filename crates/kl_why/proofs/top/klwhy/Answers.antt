use Rattle.std.proofs.Common.{Err, inr}
use Rattle.kl_why.proofs.top.klwhy.Goals as goal
use Rattle.kl_why.specs.declared.why.Why.TheVariants as why

pub returns-in-Err-clause-explains : goal.returns-in-Err-clause-explains
returns-in-Err-clause-explains g c = λ paths is. record { found = Err why.NoMemory; finds = tt; tells = inr (inr c.told-in-Err.ensures) }
