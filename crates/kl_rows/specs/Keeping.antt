-- Which cells the scheme of a type needs. No public contract cites this.
use Rattle.std.specs.Prelude.{◌≡◌, ℕ, ◌+◌, ◌<◌, ◌≤◌, Bool, true, false, List, [], ◌∷◌, length, Some, slice_get}
use Rattle.std.specs.List.{AllByRecursion}
use Rattle.kl_rows.specs.declared.cell.TypeNode.TheVariants.{Var}
use Rattle.kl_rows.specs.declared.cell.RowNode.TheVariants.{Front}
use Rattle.kl_rows.specs.declared.cell.Cell.{Cell}
use Rattle.kl_rows.specs.declared.cell.Cell.TheVariants.{OfType, OfRow}
use Rattle.kl_rows.specs.Lists.{Fields}
use Rattle.kl_rows.specs.Places.{Parts}
use Rattle.kl_rows.specs.Copying.{kept_in, IsClosed}

-- a cell says of a row that is kept that it has a label, or is that row
abbrev pub tells : Cell → (ℕ → Bool) → Bool
tells (OfType (Var r)) k = k r
tells (OfRow (Front [] r)) k = k r
tells _ k = false

-- The root is kept, with each cell its parts, and with a row each cell that says that it has a label or is that row.
pub record Needs (cells : List Cell) (kept : List Bool) (root : ℕ) : Type 0 where
  pub root_in : kept_in kept root ≡ true
  pub closed : IsClosed cells kept
  pub told : (j : ℕ) (c : Cell) → slice_get cells j ≡ Some c → tells c (kept_in kept) ≡ true → kept_in kept j ≡ true

abbrev pub not_one : Bool → ℕ
not_one true = 0
not_one false = 1

-- how many are not kept
abbrev pub unkept : List Bool → ℕ
unkept [] = 0
unkept (b ∷ bs) = not_one b + unkept bs

-- what is kept stays kept
pub record Grows (old new : List Bool) : Type 0 where
  pub size : length new ≡ length old
  pub stays : (j : ℕ) → kept_in old j ≡ true → kept_in new j ≡ true
  pub fewer : unkept new ≤ unkept old

-- whether there is something new
pub record Widens (any : Bool) (old new : List Bool) : Type 0 where
  pub grows : Grows old new
  pub less : any ≡ true → unkept new < unkept old
  pub same : any ≡ false → new ≡ old

pub record KeepsOne (any : Bool) (at : ℕ) (old new : List Bool) : Type 0 where
  pub widens : Widens any old new
  pub has : kept_in new at ≡ true

pub record KeepsParts (any : Bool) (c : Cell) (old new : List Bool) : Type 0 where
  pub widens : Widens any old new
  pub has : Parts c (λ p. kept_in new p ≡ true)

pub record KeepsFields (any : Bool) (fields : Fields) (old new : List Bool) : Type 0 where
  pub widens : Widens any old new
  pub has : AllByRecursion (λ f. kept_in new f.1 ≡ true) fields

-- nothing is to be kept with a cell, nor the cell with what is kept
pub record ClosedAt (kept : List Bool) (c : Cell) (at : ℕ) : Type 0 where
  pub parts : kept_in kept at ≡ true → Parts c (λ p. kept_in kept p ≡ true)
  pub told : tells c (kept_in kept) ≡ true → kept_in kept at ≡ true

pub record Turns (any : Bool) (c : Cell) (at : ℕ) (old new : List Bool) : Type 0 where
  pub widens : Widens any old new
  pub still : any ≡ false → ClosedAt old c at

pub record SweptTo (any : Bool) (cells : List Cell) (old new : List Bool) (k : ℕ) : Type 0 where
  pub widens : Widens any old new
  pub still : any ≡ false → (i : ℕ) (c : Cell) → i < k → slice_get cells i ≡ Some c → ClosedAt old c i

pub record Sweeps (any : Bool) (cells : List Cell) (old new : List Bool) : Type 0 where
  pub widens : Widens any old new
  pub still : any ≡ false → (i : ℕ) (c : Cell) → slice_get cells i ≡ Some c → ClosedAt old c i
