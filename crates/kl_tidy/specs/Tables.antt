-- Copies of tables that programs can name.
use Rattle.std.specs.Prelude.{◌≡◌, ℕ, List, [], ◌∷◌, Result, Ok, Err}
use Rattle.std.specs.List.{flat_map}
use Rattle.csv.specs.Reading.{AreRecords, default_config, strip_bom}
use Rattle.csv.specs.Writing.{default_writer, row_text}
use Rattle.csv.specs.declared.parser.Config.{Config}
use Rattle.csv.specs.declared.parser.State.TheVariants as state
use Rattle.kl_flat.specs.Table.{Record, table_records}
use Rattle.kl_tidy.specs.Naming.{AreNames, header_notes}
use Rattle.kl_tidy.specs.Rows.{records_printed, rows_printed}
use Rattle.kl_tidy.specs.declared.columns.Column.{Column}
use Rattle.kl_tidy.specs.declared.columns.Wrong.{Wrong}
use Rattle.kl_tidy.specs.declared.table.Found.{Found}
use Rattle.kl_tidy.specs.declared.table.Found.TheVariants as found
use Rattle.kl_tidy.specs.declared.words.Command.{Command}

-- how a table is read whose cells have this byte between them
abbrev pub config_of : ℕ → Config
config_of delimiter = record default_config { delimiter = delimiter }

-- the text of records, a line each, with commas, and in quotes each cell that has a comma, a quote or an end of line
abbrev pub table_text : List Record → List ℕ
table_text records = flat_map (row_text default_writer) records

-- the first record, and those behind it
abbrev pub header_of : List Record → Record
header_of [] = []
header_of (header ∷ rows) = header

abbrev pub rows_of : List Record → List Record
rows_of [] = []
rows_of (header ∷ rows) = rows

-- The bytes are records, and the words of their headers are these names; the notes tell which headers were changed.
pub record IsTable (command : Command) (bytes : List ℕ) (records : List Record) (names : Record) (notes : List ℕ) : Type 0 where
  pub reads : AreRecords (config_of command.delimiter) state.StartRecord (strip_bom bytes) records
  pub named : AreNames [] (header_of records) names
  pub noted : notes ≡ header_notes command.path (header_of records) names

-- The page is the rows of the table that the bytes are, as they are printed, under its names, and reads back as that.
pub record Tidies (command : Command) (bytes page notes : List ℕ) : Type 0 where
  pub records : List Record
  pub names : Record
  pub table : IsTable command bytes records names notes
  pub rows : List Record
  pub printed : rows_printed command names (rows_of records) ≡ Ok rows
  pub text : page ≡ table_text (names ∷ rows)
  pub back : table_records page ≡ names ∷ rows

-- the table that the bytes are is wrong so
pub record IsWrong (command : Command) (bytes : List ℕ) (wrong : Wrong) (notes : List ℕ) : Type 0 where
  pub records : List Record
  pub names : Record
  pub table : IsTable command bytes records names notes
  pub refused : rows_printed command names (rows_of records) ≡ Err wrong

-- ---- for private functions alone

-- the page of records as they are printed, or what is wrong
abbrev pub page_of : Record → Result (List Record) Wrong → Found
page_of names (Ok rows) = found.Page (table_text (names ∷ rows))
page_of names (Err w) = found.Wrong w

abbrev pub records_found : Record → List Column → List Record → Found
records_found names columns rows = page_of names (records_printed columns 1 rows)

abbrev pub FindsBelow : Command → Record → List Record → Found → Type 0
FindsBelow command names rows found = page_of names (rows_printed command names rows) ≡ found

pub record FindsUnder (command : Command) (header : Record) (rows : List Record) (notes : List ℕ) (found : Found) : Type 0 where
  pub names : Record
  pub named : AreNames [] header names
  pub noted : notes ≡ header_notes command.path header names
  pub below : FindsBelow command names rows found

abbrev pub Finds : Command → List ℕ → List ℕ → Found → Type 0
Finds command bytes notes (found.Page page) = Tidies command bytes page notes
Finds command bytes notes (found.Wrong w) = IsWrong command bytes w notes
