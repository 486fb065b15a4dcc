-- The order of breaches: by token, and on one token by the number of the rule.
use Rattle.std.specs.Prelude.{ℕ}
use Rattle.kl_scope.specs.declared.refusal.ScopeError.{ScopeError}
use Rattle.kl_scope.specs.declared.refusal.ScopeError.TheVariants.{Unknown, Twice, Misapplied, Refutable, NoMemory}

abbrev pub token_of : ScopeError → ℕ
token_of (Unknown name token) = token
token_of (Twice name token) = token
token_of (Misapplied name token) = token
token_of (Refutable token) = token
token_of NoMemory = 0

abbrev pub rule_of : ScopeError → ℕ
rule_of (Unknown name token) = 1
rule_of (Twice name token) = 2
rule_of (Misapplied name token) = 3
rule_of (Refutable token) = 4
rule_of NoMemory = 5
