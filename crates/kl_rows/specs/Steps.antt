-- What a step of a merge does to the solutions.
-- Public contracts cite `Agrees`, `Grown`, `KeepsCells` and `Advances` alone.
use Rattle.std.specs.Prelude.{◌≡◌, ℕ, ◌<◌, ◌≤◌, Bool, IsTrue, List, length, Some}
use Rattle.std.specs.List.{AllByRecursion}
use Rattle.kl_type.specs.Ground.{Row, IsRow}
use Rattle.kl_rows.specs.declared.cell.Cell.{Cell}
use Rattle.kl_rows.specs.Lists.{Fields}
use Rattle.kl_rows.specs.Places.{Sort, sort_at, Lacks, IsFine, roots}
use Rattle.kl_rows.specs.Solutions.{Assignment, Splits, Solves}

-- the same below a number
pub record Agrees (size : ℕ) (s u : Assignment) : Type 0 where
  pub types : (i : ℕ) → i < size → u.types i ≡ s.types i
  pub functions : (i : ℕ) → i < size → u.functions i ≡ s.functions i
  pub rows : (i : ℕ) → i < size → u.rows i ≡ s.rows i
  pub kinds : (i : ℕ) → i < size → u.kinds i ≡ s.kinds i

-- a solution of more cells that is the old one on the old cells, and of which P holds
pub record Grown (old new : List Cell) (s : Assignment) (P : Assignment → Type 0) : Type 0 where
  pub to : Assignment
  pub agrees : Agrees (length old) s to
  pub solves : Solves new to
  pub holds : P to

-- old numbers are good, of the same sort, and lack what they lacked
pub record KeepsCells (old new : List Cell) : Type 0 where
  pub grows : length old ≤ length new
  pub sorts : (i : ℕ) (q : Sort) → sort_at old i ≡ Some q → sort_at new i ≡ Some q
  pub lacks : (l : List ℕ) (i : ℕ) → Lacks old l i → Lacks new l i

-- from cells where D is asked to cells where R is left to ask; where the answer is no, nothing meets D
pub record Advances (yes : Bool) (old new : List Cell) (D R : Assignment → Type 0) : Type 0 where
  pub fine : IsFine new
  pub keeps : KeepsCells old new
  pub fewer : roots new ≤ roots old
  pub down : (s : Assignment) → Solves old s → D s → IsTrue yes × Grown old new s R
  pub up : IsTrue yes → (s : Assignment) → Solves new s → R s → Solves old s × D s

-- that the types of each pair are one
abbrev pub Equates : List (ℕ × ℕ) → Assignment → Type 0
Equates pairs s = AllByRecursion (λ p. s.types p.0 ≡ s.types p.1) pairs

-- that two ends have these fields more, before one rest
pub record Shares (for_first for_second : Fields) (first second : ℕ) (s : Assignment) : Type 0 where
  pub rest : Row
  pub good : IsRow rest
  pub on_first : Splits for_first s.types (s.rows first) rest
  pub on_second : Splits for_second s.types (s.rows second) rest

-- two types are one, with all that this asks
abbrev pub Merges : Bool → List Cell → List Cell → ℕ → ℕ → Type 0
Merges holds old new a b = Advances holds old new (λ s. s.types a ≡ s.types b) (λ s. Unit {0})
