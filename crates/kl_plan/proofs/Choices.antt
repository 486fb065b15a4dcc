-- What is drawn where a condition holds, apart from what the condition itself comes to.
use Rattle.std.proofs.Common.{◌≡◌, ℕ, ◌+◌, ◌*◌, true, false, Bool, Option, Some, None, arith}
use Rattle.kl_value.specs.Views.{as_bool}
use Rattle.kl_outcome.specs.Outcome.{Outcome, done, over, stuck}
use Rattle.kl_plan.specs.Reached.{once, chosen_of}

chosen_split : (b : Option Bool) (m n p k : ℕ) → m ≡ n + p * k → chosen_of b m 0 ≡ chosen_of b n 0 + chosen_of b p 0 * k
chosen_split (Some true) m n p k h = h
chosen_split (Some false) m n p k h = omega arith
chosen_split None m n p k h = omega arith

pub once_split : (o : Outcome) (m n p k : ℕ) → m ≡ n + p * k
    → once o (λ v. chosen_of (as_bool v) m 0) ≡ once o (λ v. chosen_of (as_bool v) n 0) + once o (λ v. chosen_of (as_bool v) p 0) * k
once_split (done v) m n p k h = chosen_split (as_bool v) m n p k h
once_split (over vs) m n p k h = omega arith
once_split stuck m n p k h = omega arith
