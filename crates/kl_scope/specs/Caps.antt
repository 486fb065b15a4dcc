-- Sizes as the code counts them: what passes 32 bits stays at the largest number.
-- No public contract cites this.
use Rattle.std.specs.Prelude.{◌≡◌, ℕ, min, List, Option, Some, None}
use Rattle.kl_syntax.specs.declared.tree.Decl.{Decl}
use Rattle.kl_syntax.specs.declared.tree.Pattern.{Pattern}
use Rattle.kl_syntax.specs.View.{view, pattern_view}
use Rattle.kl_scope.specs.declared.counting.SizeBreach.{SizeBreach}
use Rattle.kl_scope.specs.declared.counting.SizeBreach.TheVariants.{Nodes, Depth}
use Rattle.kl_scope.specs.declared.terms.Size.{Size}
use Rattle.kl_scope.specs.Limits.{HasManyNodes, IsDeep, IsWithin}
use Rattle.kl_scope.specs.Sizes.{leaf, matched, sized}

abbrev pub most : ℕ
most = 4294967295

unfoldable pub capped : Size → Size
capped s = record { nodes = min s.nodes most; depth = min s.depth most }

-- the size of a definition
abbrev pub decl_size : Option Pattern → Decl → List Size → Size
decl_size (Some p) d ds = matched (pattern_view p) leaf (sized (view d.body) ds) ds
decl_size None d ds = sized (view d.body) ds

-- what is told of the declaration of this place
abbrev pub Judges : Option SizeBreach → ℕ → Size → Type 0
Judges None place s = IsWithin s
Judges (Some (Nodes decl)) place s = (decl ≡ place) × HasManyNodes s
Judges (Some (Depth decl)) place s = (decl ≡ place) × IsDeep s
