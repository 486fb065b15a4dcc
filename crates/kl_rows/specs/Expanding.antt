-- The cells of a type without variables. Public contracts cite `GivesType` alone.
use Rattle.std.specs.Prelude.{◌≡◌, ℕ, List, [], ◌∷◌, ◌++◌, length}
use Rattle.kl_type.specs.Ground.{Ground, Row, IsRow, IsProper, row_by, ground_of}
use Rattle.kl_type.specs.declared.Ty.{Ty}
use Rattle.kl_rows.specs.declared.cell.Cell.{Cell}
use Rattle.kl_rows.specs.Lists.{Fields}
use Rattle.kl_rows.specs.Places.{IsType, IsRowAt, AreTypes, IsFine}
use Rattle.kl_rows.specs.Solutions.{Assignment, Solves}
use Rattle.kl_rows.specs.Steps.{Grown, KeepsCells}

-- one cell more, and its number
pub record Pushes (old new : List Cell) (c : Cell) (at : ℕ) : Type 0 where
  pub place : at ≡ length old
  pub added : new ≡ old ++ c ∷ []

-- each new solution is an old one and gives the number this type, and each old one grows to a new one
pub record GivesType (old new : List Cell) (i : ℕ) (t : Ground) : Type 0 where
  pub fine : IsFine new
  pub keeps : KeepsCells old new
  pub sort : IsType new i
  pub up : (s : Assignment) → Solves new s → Solves old s × (s.types i ≡ t)
  pub down : (s : Assignment) → Solves old s → Grown old new s (λ u. u.types i ≡ t)

-- the same for a row
pub record GivesRow (old new : List Cell) (i : ℕ) (r : Row) : Type 0 where
  pub fine : IsFine new
  pub keeps : KeepsCells old new
  pub sort : IsRowAt new i
  pub up : (s : Assignment) → Solves new s → Solves old s × (s.rows i ≡ r)
  pub down : (s : Assignment) → Solves old s → Grown old new s (λ u. u.rows i ≡ r)

-- the same for the types of fields
pub record GivesFields (old new : List Cell) (numbers : Fields) (r : Row) : Type 0 where
  pub fine : IsFine new
  pub keeps : KeepsCells old new
  pub sorts : AreTypes new numbers
  pub up : (s : Assignment) → Solves new s → Solves old s × (row_by s.types numbers ≡ r)
  pub down : (s : Assignment) → Solves old s → Grown old new s (λ u. Unit {0})

pub record Expands (old new : List Cell) (i : ℕ) (t : Ty) : Type 0 where
  pub gives : IsFine old → IsProper t → GivesType old new i (ground_of t)

pub record ExpandsRow (old new : List Cell) (i : ℕ) (fs : List (List ℕ × Ty)) : Type 0 where
  pub gives : IsFine old → IsRow (row_by ground_of fs) → GivesRow old new i (row_by ground_of fs)
