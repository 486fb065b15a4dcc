-- What handing rows does to an open cursor. No public contract cites this.
use Rattle.std.specs.Prelude.{◌≡◌, ◌⊎◌, ◌≤◌, ℕ, List, [], ◌++◌, length}
use Rattle.kl_value.specs.declared.Value.{Value}
use Rattle.kl_sqlserve.specs.Server.{ask_of, rows_left_in, type_of}
use Rattle.kl_sqlserve.specs.declared.joined.Open.{Open}

-- so many next rows of a cursor are appended, and the cursor stands behind them
pub record HandsRows (most : ℕ) (into into' : List Value) (old new : Open) (count : ℕ) : Type 0 where
  pub taken : List Value
  pub size : count ≡ length taken
  pub appended : into' ≡ into ++ taken
  pub left : rows_left_in old ≡ taken ++ rows_left_in new
  pub few : length taken ≤ most
  pub all : (length taken ≡ most) ⊎ (rows_left_in new ≡ [])
  pub ask : ask_of new ≡ ask_of old
  pub ty : type_of new ≡ type_of old
