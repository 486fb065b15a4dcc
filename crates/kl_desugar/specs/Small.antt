-- The term of a program is within the limits on its size.
use Rattle.std.specs.Prelude.{◌≤◌, List, None}
use Rattle.kl_outcome.specs.Outcome.{Name}
use Rattle.kl_syntax.specs.declared.tree.Program.{Program}
use Rattle.kl_scope.specs.declared.scoped.Scoped.{Scoped}
use Rattle.kl_scope.specs.Breaches.{Resolves}
use Rattle.kl_scope.specs.Limits.{Tells, program_sizes}
use Rattle.kl_core.specs.Counts.{nodes_of, depth_of}
use Rattle.kl_core.specs.Trees.{Tree}

abbrev pub IsSmall : Tree → Type 0
IsSmall t = (nodes_of t ≤ 4096) × (depth_of t ≤ 512)

-- where the program is in scope, and no declaration in it is told to pass the limits
abbrev pub StaysSmall : Scoped → Tree → Type 0
StaysSmall s t = (p : Program) (sources : List Name) → Resolves p sources s → Tells None (program_sizes s.program) → IsSmall t
