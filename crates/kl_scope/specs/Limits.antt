-- The limits on the sizes of terms.
use Rattle.std.specs.Prelude.{◌≡◌, ℕ, ◌<◌, ◌≤◌, List, [], ◌∷◌, ◌++◌, length, All, Option, Some, None}
use Rattle.kl_syntax.specs.declared.tree.Program.{Program}
use Rattle.kl_syntax.specs.View.{view, decls_of}
use Rattle.kl_scope.specs.declared.counting.SizeBreach.{SizeBreach}
use Rattle.kl_scope.specs.declared.counting.SizeBreach.TheVariants.{Nodes, Depth}
use Rattle.kl_scope.specs.declared.terms.Size.{Size}
use Rattle.kl_scope.specs.Sizes.{declared}

abbrev pub HasManyNodes : Size → Type 0
HasManyNodes s = 4096 < s.nodes

-- the nodes are told of where both are past their limits
abbrev pub IsDeep : Size → Type 0
IsDeep s = (s.nodes ≤ 4096) × (512 < s.depth)

abbrev pub IsWithin : Size → Type 0
IsWithin s = (s.nodes ≤ 4096) × (s.depth ≤ 512)

-- the declaration of this number, from 0, is past a limit, and those before it are within
pub record IsFirstPast (IsPast : Size → Type 0) (decl : ℕ) (sizes : List Size) : Type 0 where
  pub before : List Size
  pub size : Size
  pub after : List Size
  pub parts : sizes ≡ before ++ size ∷ after
  pub number : length before ≡ decl
  pub earlier : All IsWithin before
  pub past : IsPast size

abbrev pub Tells : Option SizeBreach → List Size → Type 0
Tells None sizes = All IsWithin sizes
Tells (Some (Nodes decl)) sizes = IsFirstPast HasManyNodes decl sizes
Tells (Some (Depth decl)) sizes = IsFirstPast IsDeep decl sizes

-- of the definitions in their order and of the last expression
abbrev pub program_sizes : Program → List Size
program_sizes p = declared (decls_of p.defs) (view p.last) []
