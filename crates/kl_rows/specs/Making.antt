-- New numbers, and what is said of them.
use Rattle.std.specs.Prelude.{◌≡◌, ◌↔◌, ℕ, Bool, IsTrue, List, [], ◌∷◌, length, Option, Some, None}
use Rattle.kl_type.specs.Ground.{ground_of, IsProper}
use Rattle.kl_rows.specs.Expanding.{GivesType}
use Rattle.kl_rows.specs.declared.cell.TypeNode.TheVariants.{Rec, Var, Coll}
use Rattle.kl_rows.specs.declared.cell.KindNode.TheVariants.{Fixed}
use Rattle.kl_rows.specs.declared.cell.RowNode.TheVariants.{NoRow, Front}
use Rattle.kl_rows.specs.declared.cell.Cell.{Cell}
use Rattle.kl_rows.specs.declared.cell.Cell.TheVariants.{OfType, OfFunction, OfRow, OfKind}
use Rattle.kl_rows.specs.declared.schemes.Node.{Node}
use Rattle.kl_rows.specs.declared.schemes.Node.TheVariants as node
use Rattle.kl_rows.specs.Places.{Sort, a_type, a_function, a_row, a_kind, sort_of, sort_at, IsPlaced, Lacks, LacksAs, IsTidy, IsFine}
use Rattle.kl_rows.specs.Solutions.{Assignment, Says, Solves}
use Rattle.kl_rows.specs.Steps.{Grown, KeepsCells}

abbrev pub IsNewTidy : List Cell → Cell → Type 0
IsNewTidy cells (OfRow (Front fs r)) = IsTidy cells fs r
IsNewTidy cells _ = Unit {0}

-- its numbers are there, of the right sorts, and a rest lacks the labels before it
pub record CanMake (cells : List Cell) (c : Cell) : Type 0 where
  pub placed : IsPlaced cells (length cells) c
  pub tidy : IsNewTidy cells c

-- the new solutions are the old ones that give the new number what is said
pub record AddsCell (old new : List Cell) (c : Cell) (i : ℕ) : Type 0 where
  pub place : i ≡ length old
  pub fine : IsFine new
  pub keeps : KeepsCells old new
  pub sort : sort_at new i ≡ Some (sort_of c)
  pub lacks : (l : List ℕ) → LacksAs c old l → Lacks new l i
  pub solves : (s : Assignment) → Solves new s ↔ (Solves old s × Says c s i)

-- a node can be said: its numbers are there, of the right sorts, a rest lacks the label before it, and a type without
-- variables is proper
abbrev pub CanMakeNode : List Cell → Node → Type 0
CanMakeNode cells (node.Base t) = IsProper t
CanMakeNode cells (node.Rec r) = CanMake cells (OfType (Rec r))
CanMakeNode cells (node.Var r) = CanMake cells (OfType (Var r))
CanMakeNode cells (node.Coll k t) = CanMake cells (OfType (Coll k t))
CanMakeNode cells (node.Arrow a b) = CanMake cells (OfFunction a b)
CanMakeNode cells (node.Row l t r) = CanMake cells (OfRow (Front ((l, t) ∷ []) r))
CanMakeNode cells node.EmptyRow = CanMake cells (OfRow NoRow)
CanMakeNode cells (node.Fixed k) = CanMake cells (OfKind (Fixed k))

-- what `make` does for a node: one cell more, or the cells of a type without variables
abbrev pub MakesNode : List Cell → List Cell → ℕ → Node → Type 0
MakesNode old new i (node.Base t) = GivesType old new i (ground_of t)
MakesNode old new i (node.Rec r) = AddsCell old new (OfType (Rec r)) i
MakesNode old new i (node.Var r) = AddsCell old new (OfType (Var r)) i
MakesNode old new i (node.Coll k t) = AddsCell old new (OfType (Coll k t)) i
MakesNode old new i (node.Arrow a b) = AddsCell old new (OfFunction a b) i
MakesNode old new i (node.Row l t r) = AddsCell old new (OfRow (Front ((l, t) ∷ []) r)) i
MakesNode old new i node.EmptyRow = AddsCell old new (OfRow NoRow) i
MakesNode old new i (node.Fixed k) = AddsCell old new (OfKind (Fixed k)) i

-- two numbers of one sort
pub record HasSort (cells : List Cell) (a b : ℕ) : Type 0 where
  pub sort : Sort
  pub first : sort_at cells a ≡ Some sort
  pub second : sort_at cells b ≡ Some sort

-- two numbers of this sort have one type, function's type, row or kind
abbrev pub Same : Option Sort → ℕ → ℕ → Assignment → Type 0
Same (Some a_type) a b s = s.types a ≡ s.types b
Same (Some a_function) a b s = s.functions a ≡ s.functions b
Same (Some a_row) a b s = s.rows a ≡ s.rows b
Same (Some a_kind) a b s = s.kinds a ≡ s.kinds b
Same None a b s = ⊥

-- a most general unifier is added: true exactly where something makes them one, and then the solutions are those that do
pub record Unifies (yes : Bool) (old new : List Cell) (a b : ℕ) : Type 0 where
  pub fine : IsFine new
  pub keeps : KeepsCells old new
  pub exact : IsTrue yes ↔ ((s : Assignment) × Solves old s × Same (sort_at old a) a b s)
  pub down : (s : Assignment) → Solves old s → Same (sort_at old a) a b s → Grown old new s (λ u. Unit {0})
  pub up : IsTrue yes → (s : Assignment) → Solves new s → Solves old s × Same (sort_at old a) a b s
