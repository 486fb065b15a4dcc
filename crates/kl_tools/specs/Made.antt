-- Made rows, and the locators that name them.
use Rattle.std.specs.Prelude.{◌&&◌, ◌==◌, ◌%◌, ◌*◌, ℕ, zero, suc, ◌+◌, ◌-◌, ◌^◌, pos, List, [], ◌∷◌, ◌++◌, Option, Some, None}
use Rattle.std.specs.Prelude.{cond, codes, decimal, drop, nat_le, take}
use Rattle.std.specs.List.{position_from}
use Rattle.std.specs.Option.{option_map, option_and_then}
use Rattle.std.specs.Str.Parse.{digits_value}
use Rattle.kl_value.specs.declared.Value.{Value}
use Rattle.kl_value.specs.declared.Value.TheVariants as value
use Rattle.kl_prim.specs.Meaning.{is_numeral}

-- row i of a seed
abbrev pub made_row : ℕ → ℕ → Value
made_row seed i = value.Rec (
    (codes "grp", value.Int (pos ((seed + 7 * i) % 100)))
    ∷ (codes "id", value.Int (pos i))
    ∷ (codes "name", value.Text (codes "n" ++ decimal ((seed + i) % 1000)))
    ∷ [])

-- the rows from row i on, so many of them
abbrev pub rows_from : ℕ → ℕ → ℕ → List Value
rows_from seed i zero = []
rows_from seed i (suc n) = made_row seed i ∷ rows_from seed (suc i) n

-- so many rows of a seed
abbrev pub made_rows : ℕ → ℕ → List Value
made_rows seed n = rows_from seed 0 n

-- ---- locators

abbrev pub most_seed : ℕ
most_seed = 2 ^ 32 - 1

abbrev pub most_rows : ℕ
most_rows = 1000000

-- the number that digits write, where it is no greater than this
abbrev pub natural_in : ℕ → List ℕ → Option ℕ
natural_in most ds = cond (is_numeral ds && nat_le (digits_value 10 ds) most) (Some (digits_value 10 ds)) None

-- the bytes before the first space, and those behind it
abbrev pub at_space : List ℕ → Option (List ℕ × List ℕ)
at_space bs = option_map (λ i. (take i bs, drop (i + 1) bs)) (position_from (λ b. b == 32) 0 bs)

abbrev pub numbers_in : List ℕ × List ℕ → Option (ℕ × ℕ)
numbers_in p = option_and_then (λ seed. option_map (λ n. (seed, n)) (natural_in most_rows p.1)) (natural_in most_seed p.0)

-- a seed and a number of rows, each in digits, with one space between
abbrev pub made_at : List ℕ → Option (ℕ × ℕ)
made_at locator = option_and_then numbers_in (at_space locator)
