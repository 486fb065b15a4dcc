-- What is asked of numbers, and what this does to the solutions.
use Rattle.std.specs.Prelude.{◌≡◌, ℕ, Bool, IsTrue, List, length, map, Option, Some, None}
use Rattle.std.specs.List.{AllByRecursion}
use Rattle.kl_type.specs.Ground.{Ground, IsGround}
use Rattle.kl_rows.specs.declared.cell.Cell.{Cell}
use Rattle.kl_rows.specs.Places.{IsFine, IsType}
use Rattle.kl_rows.specs.Solutions.{Assignment, Solves}
use Rattle.kl_rows.specs.Steps.{Grown, KeepsCells}

-- Each old solution that meets D grows to a new one, and each new solution is one of the old that meet it. Where the
-- answer is no, no old solution meets D.
pub record Checks (yes : Bool) (old new : List Cell) (D : Assignment → Type 0) : Type 0 where
  pub fine : IsFine new
  pub keeps : KeepsCells old new
  pub down : (s : Assignment) → Solves old s → D s → IsTrue yes × Grown old new s (λ u. Unit {0})
  pub up : IsTrue yes → (s : Assignment) → Solves new s → Solves old s × D s

-- A number of a type of which E is said: each old solution grows so that it gives the number any type that meets E, and
-- each new solution is an old one whose type there meets it.
pub record OpensItem (old new : List Cell) (item : ℕ) (E : Ground → Assignment → Type 0) : Type 0 where
  pub fine : IsFine new
  pub keeps : KeepsCells old new
  pub sort : IsType new item
  pub down : (s : Assignment) (t : Ground) → Solves old s → IsGround t → E t s → Grown old new s (λ u. u.types item ≡ t)
  pub up : (s : Assignment) → Solves new s → Solves old s × E (s.types item) s

-- no old solution gives a type of which E can be said
pub record LeavesNone (old new : List Cell) (E : Ground → Assignment → Type 0) : Type 0 where
  pub fine : IsFine new
  pub keeps : KeepsCells old new
  pub none : (s : Assignment) (t : Ground) → Solves old s → IsGround t → E t s → ⊥

-- such a number, or none exactly where no solution gives such a type
abbrev pub Finds : Option ℕ → List Cell → List Cell → (Ground → Assignment → Type 0) → Type 0
Finds (Some item) old new E = OpensItem old new item E
Finds None old new E = LeavesNone old new E

-- so many types of which nothing is said
pub record OpensMany (old new : List Cell) (items : List ℕ) (count : ℕ) : Type 0 where
  pub fine : IsFine new
  pub keeps : KeepsCells old new
  pub size : length items ≡ count
  pub sorts : AllByRecursion (IsType new) items
  pub down : (s : Assignment) (ts : List Ground) → Solves old s → length ts ≡ count → AllByRecursion IsGround ts
      → Grown old new s (λ u. map u.types items ≡ ts)
  pub up : (s : Assignment) → Solves new s → Solves old s
