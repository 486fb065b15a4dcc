-- Rows are picked out of columns, by their numbers. Public contracts of this crate do not cite this.
use Rattle.std.specs.Prelude.{◌≡◌, ◌<◌, ℕ, List, length, get_or}
use Rattle.kl_flat.specs.Held.{fields_at, height, value_at}
use Rattle.kl_flat.specs.declared.held.Cells.{Cells}
use Rattle.kl_flat.specs.declared.held.Column.{Column}

-- these are so many cells, whose values are those at these places
pub record Picks (places : List ℕ) (n : ℕ) (old new : Cells) : Type 0 where
  pub size : height new ≡ n
  pub values : (i : ℕ) → i < n → value_at new i ≡ value_at old (get_or places i 0)

abbrev pub PicksRows : List ℕ → List Column → List Column → Type 0
PicksRows places old new = (i : ℕ) → i < length places → fields_at new i ≡ fields_at old (get_or places i 0)
