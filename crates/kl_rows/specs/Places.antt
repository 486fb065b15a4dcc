-- Lists of cells that are in order: numbers are of the right sort, links lead back, and rows come to an end.
use Rattle.std.specs.Prelude.{◌≡◌, ◌⊎◌, ℕ, zero, suc, ◌+◌, ◌<◌, ◌≤◌, List, [], ◌∷◌, ◌++◌, Option, Some, None, option_map, slice_get}
use Rattle.std.specs.List.{AllByRecursion}
use Rattle.kl_rows.specs.declared.cell.TypeNode.TheVariants.{AnyType, Base, Rec, Var, Coll, TypeLink}
use Rattle.kl_rows.specs.declared.cell.KindNode.TheVariants.{AnyKind, Fixed, KindLink}
use Rattle.kl_rows.specs.declared.cell.RowNode.{RowNode}
use Rattle.kl_rows.specs.declared.cell.RowNode.TheVariants.{AnyRow, NoRow, Front}
use Rattle.kl_rows.specs.declared.cell.Cell.{Cell}
use Rattle.kl_rows.specs.declared.cell.Cell.TheVariants.{OfType, OfFunction, OfRow, OfKind}
use Rattle.kl_base.specs.Fields.{field}
use Rattle.kl_rows.specs.Lists.{Fields}

-- A function is what a definition of one has: from its parameter's type to its result's. It is part of nothing.
pub data Sort : Type 0 where
  a_type : Sort
  a_function : Sort
  a_row : Sort
  a_kind : Sort

abbrev pub sort_of : Cell → Sort
sort_of (OfType n) = a_type
sort_of (OfFunction a b) = a_function
sort_of (OfRow n) = a_row
sort_of (OfKind n) = a_kind

-- the sort of the cell with this number
abbrev pub sort_at : List Cell → ℕ → Option Sort
sort_at cells i = option_map sort_of (slice_get cells i)

abbrev pub IsType : List Cell → ℕ → Type 0
IsType cells i = sort_at cells i ≡ Some a_type

abbrev pub IsRowAt : List Cell → ℕ → Type 0
IsRowAt cells i = sort_at cells i ≡ Some a_row

abbrev pub IsKind : List Cell → ℕ → Type 0
IsKind cells i = sort_at cells i ≡ Some a_kind

abbrev pub IsFunction : List Cell → ℕ → Type 0
IsFunction cells i = sort_at cells i ≡ Some a_function

-- what a scheme may be of
abbrev pub IsTyped : List Cell → ℕ → Type 0
IsTyped cells i = IsType cells i ⊎ IsFunction cells i

abbrev pub AreTypes : List Cell → Fields → Type 0
AreTypes cells fields = AllByRecursion (λ f. IsType cells f.1) fields

-- its numbers are of the right sort, and links lead back
abbrev pub IsPlaced : List Cell → ℕ → Cell → Type 0
IsPlaced cells i (OfType AnyType) = Unit {0}
IsPlaced cells i (OfType (Base b)) = Unit {0}
IsPlaced cells i (OfType (Rec r)) = IsRowAt cells r
IsPlaced cells i (OfType (Var r)) = IsRowAt cells r
IsPlaced cells i (OfType (Coll k a)) = IsKind cells k × IsType cells a
IsPlaced cells i (OfFunction a b) = IsType cells a × IsType cells b
IsPlaced cells i (OfType (TypeLink a)) = (a < i) × IsType cells a
IsPlaced cells i (OfRow (AnyRow lacks)) = Unit {0}
IsPlaced cells i (OfRow NoRow) = Unit {0}
IsPlaced cells i (OfRow (Front fields rest)) = AreTypes cells fields × IsRowAt cells rest
IsPlaced cells i (OfKind AnyKind) = Unit {0}
IsPlaced cells i (OfKind (Fixed k)) = Unit {0}
IsPlaced cells i (OfKind (KindLink a)) = (a < i) × IsKind cells a

-- a fact of each part of a cell
abbrev pub Parts : Cell → (ℕ → Type 0) → Type 0
Parts (OfType AnyType) P = Unit {0}
Parts (OfType (Base b)) P = Unit {0}
Parts (OfType (Rec r)) P = P r
Parts (OfType (Var r)) P = P r
Parts (OfType (Coll k a)) P = P k × P a
Parts (OfFunction a b) P = P a × P b
Parts (OfType (TypeLink a)) P = P a
Parts (OfRow (AnyRow ls)) P = Unit {0}
Parts (OfRow NoRow) P = Unit {0}
Parts (OfRow (Front fs r)) P = AllByRecursion (λ f. P f.1) fs × P r
Parts (OfKind AnyKind) P = Unit {0}
Parts (OfKind (Fixed k)) P = Unit {0}
Parts (OfKind (KindLink a)) P = P a

-- a row's end: it is open, or has no label
abbrev pub IsEnd : RowNode → Type 0
IsEnd (Front fields rest) = ⊥
IsEnd _ = Unit {0}

pub record EndsAt (cells : List Cell) (i : ℕ) : Type 0 where
  pub node : RowNode
  pub here : slice_get cells i ≡ Some (OfRow node)
  pub is_end : IsEnd node

pub record Steps (cells : List Cell) (i : ℕ) (fields : Fields) (rest : ℕ) : Type 0 where
  pub here : slice_get cells i ≡ Some (OfRow (Front fields rest))

-- so many steps lead from a row over these fields to its end
abbrev pub Walk : List Cell → ℕ → ℕ → Fields → ℕ → Type 0
Walk cells zero i fields end = (i ≡ end) × (fields ≡ []) × EndsAt cells i
Walk cells (suc k) i fields end = (fs : Fields) × (gs : Fields) × (rest : ℕ) × Steps cells i fs rest × (fields ≡ fs ++ gs)
    × Walk cells k rest gs end

-- a sum over all cells
abbrev pub total : (Cell → ℕ) → List Cell → ℕ
total f [] = 0
total f (c ∷ cs) = f c + total f cs

abbrev pub chained_one : Cell → ℕ
chained_one (OfRow (Front fields rest)) = 1
chained_one _ = 0

-- how many rows have a rest
abbrev pub chained : List Cell → ℕ
chained cells = total chained_one cells

pub record Ended (cells : List Cell) (i : ℕ) : Type 0 where
  pub steps : ℕ
  pub fields : Fields
  pub end : ℕ
  pub walk : Walk cells steps i fields end
  pub short : steps ≤ chained cells

abbrev pub IsIn : List ℕ → List (List ℕ) → Type 0
IsIn l [] = ⊥
IsIn l (m ∷ ms) = (l ≡ m) ⊎ IsIn l ms

-- a row lacks a label as far as it is known, and its end lacks it where it is open
pub data Lacks (cells : List Cell) (l : List ℕ) : ℕ → Type 0 where
  at_open : {i : ℕ} (ls : List (List ℕ)) → slice_get cells i ≡ Some (OfRow (AnyRow ls)) → IsIn l ls → Lacks cells l i
  at_none : {i : ℕ} → slice_get cells i ≡ Some (OfRow NoRow) → Lacks cells l i
  at_front : {i : ℕ} (fs : Fields) (r : ℕ) → slice_get cells i ≡ Some (OfRow (Front fs r)) → field l fs ≡ None → Lacks cells l r
      → Lacks cells l i

-- a row that this cell makes lacks the label
abbrev pub LacksAs : Cell → List Cell → List ℕ → Type 0
LacksAs (OfRow (AnyRow ls)) cells l = IsIn l ls
LacksAs (OfRow NoRow) cells l = Unit {0}
LacksAs (OfRow (Front fs r)) cells l = (field l fs ≡ None) × Lacks cells l r
LacksAs _ cells l = ⊥

abbrev pub Differ : Fields → Type 0
Differ [] = Unit {0}
Differ (f ∷ fs) = (field f.0 fs ≡ None) × Differ fs

-- the fields have different labels, which the rest lacks
pub record IsTidy (cells : List Cell) (fields : Fields) (rest : ℕ) : Type 0 where
  pub lack : AllByRecursion (λ f. Lacks cells f.0 rest) fields
  pub differ : Differ fields

pub record IsFine (cells : List Cell) : Type 0 where
  pub tidy : (i : ℕ) (fs : Fields) (r : ℕ) → slice_get cells i ≡ Some (OfRow (Front fs r)) → IsTidy cells fs r
  pub placed : (i : ℕ) (c : Cell) → slice_get cells i ≡ Some c → IsPlaced cells i c
  pub ended : (i : ℕ) → IsRowAt cells i → Ended cells i

-- what a merge can still take: types and kinds that are no links, and open rows
abbrev pub open_one : Cell → ℕ
open_one (OfType (TypeLink a)) = 0
open_one (OfType n) = 1
open_one (OfFunction a b) = 0
open_one (OfRow (AnyRow lacks)) = 1
open_one (OfRow n) = 0
open_one (OfKind (KindLink a)) = 0
open_one (OfKind n) = 1

abbrev pub roots : List Cell → ℕ
roots cells = total open_one cells
