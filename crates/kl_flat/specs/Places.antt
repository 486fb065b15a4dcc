-- Where the columns of a type stand in a header. No public contract cites this.
use Rattle.std.specs.Prelude.{◌≡◌, true, ℕ, List, Some, map}
use Rattle.csv.specs.Records.{field_at}
use Rattle.kl_flat.specs.Table.{Columns, Record, is_header}

-- these are the places of the columns' labels, each of which stands there alone
pub record ArePlaces (columns : Columns) (header : Record) (places : List ℕ) : Type 0 where
  pub labels : map (field_at header) places ≡ map (λ c. Some c.0) columns
  pub once : is_header columns header ≡ true
