use Rattle.std.proofs.Common.{Result, Ok, Err, IfOk, rules}
use Rattle.kl_scope.proofs.findings.Findings.look.Goals as goal

given : {A E P : Type 0} (r : Result A E) → P → IfOk r (λ _. P)
given (Ok x) p = p
given (Err e) p = tt

pub returns-else-branch-clause-before : goal.returns-else-branch-clause-before
returns-else-branch-clause-before c = given c.twice.result (search (rules, c.in_ok-insert.ensures.updates))
