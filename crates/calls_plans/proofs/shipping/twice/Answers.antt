use Rattle.std.proofs.Common.{rules, arith}
use Rattle.kl_core.specs.declared.term.Term.{the_lemmas}
use Rattle.calls_plans.proofs.shipping.twice.Goals as goal

pub returns : goal.returns
returns c = search (rules, the_lemmas, arith)
