-- Cells that are copied in an order in which parts stand before wholes. Links are followed, and a block of fields
-- becomes one row for each field. No public contract cites this.
use Rattle.std.specs.Prelude.{◌≡◌, ℕ, ◌<◌, Bool, true, false, List, [], ◌∷◌, length, Some, slice_get, slice_index, slice_index_or}
use Rattle.kl_rows.specs.declared.cell.TypeNode.{TypeNode}
use Rattle.kl_rows.specs.declared.cell.TypeNode.TheVariants.{AnyType, Base, Rec, Var, Coll, TypeLink}
use Rattle.kl_rows.specs.declared.cell.KindNode.{KindNode}
use Rattle.kl_rows.specs.declared.cell.KindNode.TheVariants.{AnyKind, Fixed, KindLink}
use Rattle.kl_rows.specs.declared.cell.RowNode.{RowNode}
use Rattle.kl_rows.specs.declared.cell.RowNode.TheVariants.{AnyRow, NoRow, Front}
use Rattle.kl_rows.specs.declared.cell.Cell.{Cell}
use Rattle.kl_rows.specs.declared.cell.Cell.TheVariants.{OfType, OfFunction, OfRow, OfKind}
use Rattle.kl_rows.specs.Lists.{Fields}
use Rattle.kl_rows.specs.Places.{Sort, a_type, a_function, a_row, a_kind, sort_of, sort_at, IsType, IsFunction, IsRowAt, IsKind}
use Rattle.kl_rows.specs.Places.{Parts, IsPlaced, Lacks, LacksAs, IsTidy, IsFine}
use Rattle.kl_rows.specs.Solutions.{Assignment, TypeSays, FunctionSays, RowSays, KindSays, Says, Solves}
use Rattle.kl_rows.specs.Steps.{Grown, KeepsCells}

-- a cell that is no link, and no block but of one field
abbrev pub IsPlain : Cell → Type 0
IsPlain (OfType (TypeLink a)) = ⊥
IsPlain (OfType n) = Unit {0}
IsPlain (OfFunction a b) = Unit {0}
IsPlain (OfRow (Front (f ∷ []) r)) = Unit {0}
IsPlain (OfRow (Front fs r)) = ⊥
IsPlain (OfRow n) = Unit {0}
IsPlain (OfKind (KindLink a)) = ⊥
IsPlain (OfKind n) = Unit {0}

-- each cell is plain, and stands behind its parts
pub record IsSettled (cells : List Cell) : Type 0 where
  pub plain : (i : ℕ) (c : Cell) → slice_get cells i ≡ Some c → IsPlain c
  pub before : (i : ℕ) (c : Cell) → slice_get cells i ≡ Some c → Parts c (λ p. p < i)

-- what a cell says of what another assignment gives a number
abbrev pub Fits : Cell → Assignment → Assignment → ℕ → Type 0
Fits (OfType n) s u i = TypeSays n s (u.types i)
Fits (OfFunction a b) s u i = FunctionSays a b s (u.functions i)
Fits (OfRow n) s u i = RowSays n s (u.rows i)
Fits (OfKind n) s u i = KindSays n s (u.kinds i)

-- two assignments give two numbers the same
abbrev pub SameAt : Sort → Assignment → ℕ → Assignment → ℕ → Type 0
SameAt a_type w p u i = w.types p ≡ u.types i
SameAt a_function w p u i = w.functions p ≡ u.functions i
SameAt a_row w p u i = w.rows p ≡ u.rows i
SameAt a_kind w p u i = w.kinds p ≡ u.kinds i

-- cells are added of which one has the meaning of this cell
pub record Takes (old new : List Cell) (c : Cell) (p : ℕ) : Type 0 where
  pub fine : IsFine new
  pub keeps : KeepsCells old new
  pub rows : (i : ℕ) (n : RowNode) → slice_get old i ≡ Some (OfRow n) → slice_get new i ≡ Some (OfRow n)
  pub sort : sort_at new p ≡ Some (sort_of c)
  pub lacks : (l : List ℕ) → LacksAs c old l → Lacks new l p
  pub settled : IsSettled old → IsSettled new
  pub up : (s : Assignment) → Solves new s → Solves old s × Says c s p
  pub down : (s u : Assignment) (i : ℕ) → Solves old s → Fits c s u i → Grown old new s (λ w. SameAt (sort_of c) w p u i)

abbrev pub renamed_fields : (ℕ → ℕ) → Fields → Fields
renamed_fields f [] = []
renamed_fields f (x ∷ xs) = (x.0, f x.1) ∷ renamed_fields f xs

abbrev pub renamed_type : (ℕ → ℕ) → TypeNode → TypeNode
renamed_type f AnyType = AnyType
renamed_type f (Base b) = Base b
renamed_type f (Rec r) = Rec (f r)
renamed_type f (Var r) = Var (f r)
renamed_type f (Coll k a) = Coll (f k) (f a)
renamed_type f (TypeLink a) = TypeLink (f a)

abbrev pub renamed_row : (ℕ → ℕ) → RowNode → RowNode
renamed_row f (AnyRow ls) = AnyRow ls
renamed_row f NoRow = NoRow
renamed_row f (Front fs r) = Front (renamed_fields f fs) (f r)

abbrev pub renamed_kind : (ℕ → ℕ) → KindNode → KindNode
renamed_kind f AnyKind = AnyKind
renamed_kind f (Fixed k) = Fixed k
renamed_kind f (KindLink a) = KindLink (f a)

-- the cell with other numbers for its parts
abbrev pub renamed : (ℕ → ℕ) → Cell → Cell
renamed f (OfType n) = OfType (renamed_type f n)
renamed f (OfFunction a b) = OfFunction (f a) (f b)
renamed f (OfRow n) = OfRow (renamed_row f n)
renamed f (OfKind n) = OfKind (renamed_kind f n)

abbrev pub number_in : List ℕ → ℕ → ℕ
number_in numbers j = slice_index numbers j

-- what an assignment gives the numbers under which cells stand now
abbrev pub pulled : List ℕ → Assignment → Assignment
pulled numbers s = record {
  types = λ j. s.types (number_in numbers j);
  functions = λ j. s.functions (number_in numbers j);
  rows = λ j. s.rows (number_in numbers j);
  kinds = λ j. s.kinds (number_in numbers j);
  types_ground = λ j. s.types_ground (number_in numbers j);
  rows_ground = λ j. s.rows_ground (number_in numbers j);
}

-- numbers are of the right sorts, and rests lack the labels before them
pub record IsSource (cells : List Cell) : Type 0 where
  pub placed : (i : ℕ) (c : Cell) → slice_get cells i ≡ Some c → IsPlaced cells i c
  pub tidy : (i : ℕ) (fs : Fields) (r : ℕ) → slice_get cells i ≡ Some (OfRow (Front fs r)) → IsTidy cells fs r

abbrev pub IsEarlier : List ℕ → ℕ → ℕ → Type 0
IsEarlier order k p = (m : ℕ) × (m < k) × (slice_get order m ≡ Some p)

-- an order in which each cell stands once, behind its parts
pub record InOrder (cells : List Cell) (order : List ℕ) : Type 0 where
  pub within : (k i : ℕ) → slice_get order k ≡ Some i → i < length cells
  pub before : (k i : ℕ) (c : Cell) → slice_get order k ≡ Some i → slice_get cells i ≡ Some c → Parts c (IsEarlier order k)
  pub once : (k m i : ℕ) → slice_get order k ≡ Some i → slice_get order m ≡ Some i → k ≡ m
  pub all : (i : ℕ) → i < length cells → (k : ℕ) × (slice_get order k ≡ Some i)

abbrev pub kept_in : List Bool → ℕ → Bool
kept_in kept j = slice_index_or kept j false

-- with a cell its parts are kept
pub record IsClosed (cells : List Cell) (kept : List Bool) : Type 0 where
  pub parts : (i : ℕ) (c : Cell) → slice_get cells i ≡ Some c → kept_in kept i ≡ true → Parts c (λ p. kept_in kept p ≡ true)
  pub size : length kept ≡ length cells

-- the values of the cells that D names
pub record SameOn (D : ℕ → Type 0) (cells : List Cell) (numbers : List ℕ) (w u : Assignment) : Type 0 where
  pub types : (j : ℕ) → D j → IsType cells j → w.types (number_in numbers j) ≡ u.types j
  pub functions : (j : ℕ) → D j → IsFunction cells j → w.functions (number_in numbers j) ≡ u.functions j
  pub rows : (j : ℕ) → D j → IsRowAt cells j → w.rows (number_in numbers j) ≡ u.rows j
  pub kinds : (j : ℕ) → D j → IsKind cells j → w.kinds (number_in numbers j) ≡ u.kinds j

-- the assignment gives each cell that D names what it says
abbrev pub SolvesOn : (ℕ → Type 0) → List Cell → Assignment → Type 0
SolvesOn D cells u = (j : ℕ) (c : Cell) → D j → slice_get cells j ≡ Some c → Says c u j

-- the cells that D names are copied: each new solution is an old one and gives their numbers what they say, and an old
-- one grows by each assignment that does
pub record Copied (D : ℕ → Type 0) (source old new : List Cell) (numbers : List ℕ) : Type 0 where
  pub fine : IsFine new
  pub keeps : KeepsCells old new
  pub size : length numbers ≡ length source
  pub sorts : (j : ℕ) (c : Cell) → D j → slice_get source j ≡ Some c → sort_at new (number_in numbers j) ≡ Some (sort_of c)
  pub closed : (j : ℕ) (c : Cell) → D j → slice_get source j ≡ Some c → Parts c D
  pub lacks : (l : List ℕ) (j : ℕ) → D j → Lacks source l j → Lacks new l (number_in numbers j)
  pub settled : IsSettled old → IsSettled new
  pub up : (s : Assignment) → Solves new s → Solves old s × SolvesOn D source (pulled numbers s)
  pub down : (s u : Assignment) → Solves old s → SolvesOn D source u → Grown old new s (λ w. SameOn D source numbers w u)

-- those that are kept are
abbrev pub Copies : List Bool → List Cell → List Cell → List Cell → List ℕ → Type 0
Copies kept source old new numbers = Copied (λ j. kept_in kept j ≡ true) source old new numbers
