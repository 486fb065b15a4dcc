-- What a reader of a whole text has left. No public contract cites this.
use Rattle.std.specs.Prelude.{true, ◌≡◌, ℕ, ◌+◌, List, [], length, Option, Some, unwrap_or}
use Rattle.std.specs.Borrow.{Bor}
use Rattle.csv.specs.Reading.{Ready, default_config, is_flexible, reader_config, reader_state, reader_trim, records_from, source_of}
use Rattle.csv.specs.declared.parser.State.{State}
use Rattle.csv.specs.declared.reader.Reader.{Reader}
use Rattle.csv.specs.declared.reader.Trim.TheVariants as trim

abbrev pub TextReader : Type 0
TextReader = Reader (Bor (List ℕ))

-- the bytes that are left, where the reader has not failed
abbrev pub source : TextReader → Option (List ℕ)
source r = source_of (λ s. Some s.now) r

-- It reads with the defaults, trims nothing, lets records of any length through, gives its first record as a record, and
-- has not failed.
pub record IsPlain (r : TextReader) : Type 0 where
  pub trims : reader_trim r ≡ trim.None
  pub ready : Ready r
  pub config : reader_config r ≡ default_config
  pub flexible : is_flexible r ≡ true
  pub known : (y : List ℕ) × (source r ≡ Some y)

-- the records of a text from a state
abbrev pub left_from : State → List ℕ → List (List (List ℕ))
left_from s y = records_from default_config (length y + 1) s y

-- the records that are left
abbrev pub records_left : TextReader → List (List (List ℕ))
records_left r = left_from (reader_state r) (unwrap_or (source r) [])
