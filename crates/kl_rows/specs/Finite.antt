-- Cells that some finite types, rows and kinds meet. Public contracts cite `Solvable` alone.
use Rattle.std.specs.Prelude.{◌≡◌, ◌≢◌, ℕ, ◌+◌, ◌<◌, ◌≤◌, Bool, true, false, ◌&&◌, List, [], ◌∷◌, ◌++◌, length, Option, Some}
use Rattle.std.specs.Prelude.{None, nat_eq, slice_get}
use Rattle.kl_rows.specs.declared.cell.TypeNode.{TypeNode}
use Rattle.kl_rows.specs.declared.cell.TypeNode.TheVariants.{AnyType, Base, Rec, Var, Coll, TypeLink}
use Rattle.kl_rows.specs.declared.cell.KindNode.{KindNode}
use Rattle.kl_rows.specs.declared.cell.KindNode.TheVariants.{AnyKind, Fixed, KindLink}
use Rattle.kl_rows.specs.declared.cell.RowNode.{RowNode}
use Rattle.kl_rows.specs.declared.cell.RowNode.TheVariants.{AnyRow, NoRow, Front}
use Rattle.kl_rows.specs.declared.cell.Cell.{Cell}
use Rattle.kl_rows.specs.declared.cell.Cell.TheVariants.{OfType, OfFunction, OfRow, OfKind}
use Rattle.kl_rows.specs.declared.finite.Mark.{Mark}
use Rattle.kl_rows.specs.declared.finite.Mark.TheVariants.{Unseen, Full, Bare}
use Rattle.kl_rows.specs.Lists.{Fields}
use Rattle.kl_rows.specs.Solutions.{Assignment, Solves}

-- some assignment solves them
pub record Solvable (cells : List Cell) : Type 0 where
  pub by : Assignment
  pub solves : Solves cells by

abbrev pub or_unseen : Option Mark → Mark
or_unseen None = Unseen
or_unseen (Some m) = m

abbrev pub mark_in : List Mark → ℕ → Mark
mark_in marks i = or_unseen (slice_get marks i)

abbrev pub is_seen : Mark → Bool
is_seen Unseen = false
is_seen _ = true

abbrev pub full_if : Bool → Mark
full_if true = Full
full_if false = Unseen

abbrev pub full_only : Mark → Mark
full_only Full = Full
full_only _ = Unseen

abbrev pub all_seen : Fields → (ℕ → Mark) → Bool
all_seen [] m = true
all_seen (f ∷ fs) m = is_seen (m f.1) && all_seen fs m

-- what can be told of a cell from what is known of its parts
abbrev pub type_mark : TypeNode → (ℕ → Mark) → Mark
type_mark AnyType m = Full
type_mark (Base b) m = Full
type_mark (Rec r) m = full_if (is_seen (m r))
type_mark (Var r) m = full_only (m r)
type_mark (Coll k a) m = full_if (is_seen (m k) && is_seen (m a))
type_mark (TypeLink a) m = full_if (is_seen (m a))

abbrev pub front_mark : Fields → (ℕ → Mark) → Mark → Mark
front_mark [] m k = k
front_mark (f ∷ fs) m k = full_if (all_seen (f ∷ fs) m && is_seen k)

abbrev pub row_mark : RowNode → (ℕ → Mark) → Mark
row_mark (AnyRow lacks) m = Full
row_mark NoRow m = Bare
row_mark (Front fields rest) m = front_mark fields m (m rest)

abbrev pub kind_mark : KindNode → (ℕ → Mark) → Mark
kind_mark AnyKind m = Full
kind_mark (Fixed k) m = Full
kind_mark (KindLink a) m = full_if (is_seen (m a))

abbrev pub next_mark : Cell → (ℕ → Mark) → Mark
next_mark (OfType n) m = type_mark n m
next_mark (OfFunction a b) m = full_if (is_seen (m a) && is_seen (m b))
next_mark (OfRow n) m = row_mark n m
next_mark (OfKind n) m = kind_mark n m

-- marks in the order in which they were made, the latest first
abbrev pub Order : Type 0
Order = List (ℕ × Mark)

abbrev pub pick : Bool → Mark → Mark → Mark
pick true m n = m
pick false m n = n

abbrev pub mark_of : Order → ℕ → Mark
mark_of [] j = Unseen
mark_of (o ∷ os) j = pick (nat_eq j o.0) o.1 (mark_of os j)

-- each mark is what could be told of the cell from those made before
abbrev pub IsOrder : List Cell → Order → Type 0
IsOrder cells [] = Unit {0}
IsOrder cells (o ∷ os) = (c : Cell) × (slice_get cells o.0 ≡ Some c) × (o.1 ≡ next_mark c (mark_of os)) × (o.1 ≢ Unseen)
    × (mark_of os o.0 ≡ Unseen) × IsOrder cells os

-- nothing more can be told of any cell
abbrev pub IsStill : List Cell → (ℕ → Mark) → Type 0
IsStill cells m = (i : ℕ) (c : Cell) → slice_get cells i ≡ Some c → (next_mark c m ≢ Unseen) → m i ≢ Unseen

abbrev pub unseen_one : Mark → ℕ
unseen_one Unseen = 1
unseen_one _ = 0

-- how many cells nothing is known of
abbrev pub left : List Mark → ℕ
left [] = 0
left (m ∷ ms) = unseen_one m + left ms

-- the cells of an order, the first one first
abbrev pub listed : Order → List ℕ
listed [] = []
listed (o ∷ os) = listed os ++ o.0 ∷ []

-- the marks were made in this order
pub record Marked (cells : List Cell) (marks : List Mark) (list : List ℕ) : Type 0 where
  pub order : Order
  pub is_order : IsOrder cells order
  pub same : (i : ℕ) → mark_in marks i ≡ mark_of order i
  pub size : length marks ≡ length cells
  pub lists : list ≡ listed order

abbrev pub IsStillAt : List Cell → (ℕ → Mark) → ℕ → Type 0
IsStillAt cells m i = (c : Cell) → slice_get cells i ≡ Some c → (next_mark c m ≢ Unseen) → m i ≢ Unseen

-- one cell is looked at, and perhaps marked
pub record MarksOne (yes : Bool) (cells : List Cell) (old new : List Mark) (list : List ℕ) (at : ℕ) : Type 0 where
  pub marked : Marked cells new list
  pub less : yes ≡ true → left new < left old
  pub same : yes ≡ false → new ≡ old
  pub still : yes ≡ false → IsStillAt cells (mark_in old) at

pub record Sofar (any : Bool) (cells : List Cell) (old new : List Mark) (list : List ℕ) (k : ℕ) : Type 0 where
  pub marked : Marked cells new list
  pub fewer : left new ≤ left old
  pub less : any ≡ true → left new < left old
  pub still : any ≡ false → (i : ℕ) → i < k → IsStillAt cells (mark_in new) i

pub record Settled (cells : List Cell) (marks : List Mark) (list : List ℕ) : Type 0 where
  pub marked : Marked cells marks list
  pub still : (i : ℕ) → i < length cells → IsStillAt cells (mark_in marks) i

-- each cell was marked, in this order
pub record IsOrderOf (cells : List Cell) (list : List ℕ) : Type 0 where
  pub order : Order
  pub is_order : IsOrder cells order
  pub all : (i : ℕ) → i < length cells → mark_of order i ≢ Unseen
  pub lists : list ≡ listed order
