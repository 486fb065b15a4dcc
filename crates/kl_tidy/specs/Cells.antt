-- What becomes of the cells of a column.
use Rattle.std.specs.Prelude.{◌≡◌, ◌||◌, ◌==◌, ◌+◌, ◌-◌, ℕ, ℤ, Bool, true, false, List, [], ◌∷◌, ◌++◌, cond, drop, is_none, is_some, length, nat_lt, position, replicate, take, Option, Some, None, option_map, ⊤}
use Rattle.std.specs.Fmt.{signed_decimal}
use Rattle.kl_prim.specs.Meaning.{number_in}
use Rattle.kl_flat.specs.Table.{Record}
use Rattle.kl_tidy.specs.declared.columns.Column.{Column}

-- a cell, or what is in its place where it is empty
abbrev pub filled : Option (List ℕ) → List ℕ → List ℕ
filled None cell = cell
filled (Some value) [] = value
filled (Some value) (b ∷ bs) = b ∷ bs

-- The integer of N decimals whose digits before the point are these, behind a sign or none, and behind the point these: with
-- zeros behind them until they are N. None where they are no digits or more, or where it leaves 64 bits.
abbrev pub joined : ℕ → List ℕ → List ℕ → Option ℤ
joined n whole fraction =
    cond (is_none (number_in whole) || nat_lt n (length fraction)) None (number_in (whole ++ (fraction ++ replicate (n - length fraction) 48)))

-- the integer of a number by where its point stands: nowhere, or before digits
abbrev pub at_point : ℕ → List ℕ → Option ℕ → Option ℤ
at_point n cell None = joined n cell []
at_point n cell (Some at) = cond (is_some (number_in (drop (at + 1) cell))) (joined n (take at cell) (drop (at + 1) cell)) None

-- the integer of N decimals that a decimal number is: 12.5 with 2 is 1250
abbrev pub scaled : ℕ → List ℕ → Option ℤ
scaled n cell = at_point n cell (position (λ byte. byte == 46) cell)

-- of a column with decimals each cell that is not empty is such an integer
abbrev pub in_decimals : Option ℕ → List ℕ → Option (List ℕ)
in_decimals None cell = Some cell
in_decimals (Some n) [] = Some []
in_decimals (Some n) (b ∷ bs) = option_map signed_decimal (scaled n (b ∷ bs))

-- a cell as it is printed: filled, and then in decimals
abbrev pub cell_printed : Column → List ℕ → Option (List ℕ)
cell_printed column cell = in_decimals column.decimals (filled column.missing cell)

-- ---- for private functions alone

abbrev pub AddsCell : Option (List ℕ) → Bool → Record → Record → Type 0
AddsCell (Some cell) true old new = new ≡ old ++ cell ∷ []
AddsCell None false old new = ⊤
AddsCell (Some cell) false old new = ⊥
AddsCell None true old new = ⊥
