use Rattle.std.proofs.Common.{◌≡◌, ◌≤◌, List, ℕ, ◌++◌, length}
use Rattle.kl_lex.specs.Spelling.{spelling}
use Rattle.kl_lex.specs.declared.token.Sym.{Sym as Symbol}
use Rattle.kl_lex.proofs.symbol.symbol_at.Given as goal

abbrev pub decreases-sizes : goal.decreases-sizes
decreases-sizes l = l.size

abbrev pub invariant-sizes : goal.invariant-sizes
invariant-sizes l = (t : Symbol) (r : List ℕ) → l.bytes ≡ spelling t ++ r → length (spelling t) ≤ l.size
