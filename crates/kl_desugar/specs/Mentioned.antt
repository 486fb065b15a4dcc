-- The term of a program reads only sources that the program mentions.
use Rattle.std.specs.Prelude.{◌≡◌, true, List, ⊤}
use Rattle.kl_outcome.specs.Outcome.{Name}
use Rattle.kl_syntax.specs.declared.tree.Program.{Program}
use Rattle.kl_scope.specs.declared.scoped.Scoped.{Scoped}
use Rattle.kl_scope.specs.Breaches.{Resolves, is_marked}
use Rattle.kl_core.specs.Leaves.{Leaves}
use Rattle.kl_core.specs.Trees.{Tree}

-- where the program is in scope, each source of the term is named in it
abbrev pub ReadsMentioned : Scoped → Tree → Type 0
ReadsMentioned s t = (p : Program) (sources : List Name) → Resolves p sources s → Leaves (λ x. ⊤) (λ i. is_marked s i ≡ true) t
