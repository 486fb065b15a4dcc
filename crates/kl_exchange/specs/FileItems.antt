-- Which items stand in a file, and what stands behind them.
use Rattle.std.specs.Prelude.{◌≡◌, ℕ, ◌+◌, ◌<◌, nat_le, Bool, true, false, List, [], ◌∷◌, ◌++◌, length, take, None}
use Rattle.kl_exchange.specs.Grammar.{Blank, IsItem}
use Rattle.kl_exchange.specs.Reading.{nesting, IsBad, IsDeep}
use Rattle.kl_exchange.specs.State.{State}
use Rattle.kl_value.specs.declared.Value.{Value}

-- how many bytes of a file the program looks at
abbrev pub most_read : ℕ
most_read = 17179869184

-- one item behind the other
abbrev pub Items : List ℕ → List Value → Type 0
Items bytes [] = bytes ≡ []
Items bytes (v ∷ vs) = (item : List ℕ) × (rest : List ℕ) × (bytes ≡ item ++ rest) × IsItem nesting item v × Items rest vs

-- what stands behind the items that are read
pub data FileEnd : Type 0 where
  -- white space, up to the file's end
  WholeText : FileEnd
  -- bytes with which the file is no exchange text; its longest front that begins one has this length
  BadAt : ℕ → FileEnd
  -- an item whose byte at this place opens a bracket too many
  TooDeepAt : ℕ → FileEnd
  -- less than an item, up to the greatest number of bytes, and the file has more
  PastLimit : FileEnd

-- the bytes begin an item, and are less than that item
abbrev pub BeginsItem : List ℕ → Type 0
BeginsItem bytes = (more : List ℕ) × (v : Value) × (0 < length more) × IsItem nesting (bytes ++ more) v

-- so many bytes of items were read, and these are left
abbrev pub reading : ℕ → List ℕ → Bool → State
reading place left finished = record { place = place; left = left; finished = finished; refused = None }

-- what the bytes left come to
abbrev pub EndsIn : ℕ → List ℕ → Bool → FileEnd → Type 0
EndsIn place left finished WholeText = (finished ≡ true) × Blank left
EndsIn place left finished (BadAt p) = (k : ℕ) × (p ≡ place + k) × IsBad (reading place left finished) k
EndsIn place left finished (TooDeepAt p) = (k : ℕ) × (p ≡ place + k) × IsDeep (reading place left finished) k
EndsIn place left finished PastLimit = (finished ≡ false) × BeginsItem left

-- A file with these bytes, of which at most `limit` are looked at, has these items, and then comes this end.
pub record Shows (limit : ℕ) (bytes : List ℕ) (vs : List Value) (end : FileEnd) : Type 0 where
  pub read : List ℕ
  pub left : List ℕ
  pub seen : take limit bytes ≡ read ++ left
  pub items : Items read vs
  pub ends : EndsIn (length read) left (nat_le (length bytes) limit) end
