-- What is printed of a table reads back.
use Rattle.std.proofs.Common.{◌≡◌, ◌==◌, ◌+◌, ℕ, suc, Bool, true, false, cond, if◌then◌else◌, List, [], ◌∷◌, ◌++◌, length, map, nat_eq, Option, Some, None, Result, Ok, Err, IfOk, refl, sym, ap, subst, ◌∙◌, arith}
use Rattle.std.specs.Char.{is_ascii_alphabetic}
use Rattle.std.specs.List.{AllByRecursion, flat_map, list_all, list_any, starts_with}
use Rattle.std.proofs.lemmas.Bool.{and_parts}
use Rattle.std.proofs.lemmas.Bool.Decides.{nat_tests}
use Rattle.csv.specs.Machine.{next_record}
use Rattle.csv.specs.Reading.{AreRecords, default_config, records, strip_bom}
use Rattle.csv.specs.Writing.{default_writer, escaped, field_text, needs_byte, quoted, read_back, row_text}
use Rattle.csv.specs.declared.parser.State.TheVariants as state
use Rattle.csv.proofs.RoundTrip.{read-write}
use Rattle.kl_base.specs.Word.{is_word, is_word_byte}
use Rattle.kl_flat.specs.Records.{left_from}
use Rattle.kl_flat.specs.Table.{Record, table_records, two_marks}
use Rattle.kl_flat.proofs.Fuel.{left-none, left-some}
use Rattle.kl_tidy.specs.Naming.{AreNames, header_notes}
use Rattle.kl_tidy.specs.Rows.{column_of, records_printed, rows_printed, unknown_column, unless_unknown}
use Rattle.kl_tidy.specs.Tables.{Finds, FindsBelow, FindsUnder, IsTable, config_of, page_of, table_text}
use Rattle.kl_tidy.specs.declared.columns.Wrong.{Wrong}
use Rattle.kl_tidy.specs.declared.columns.Wrong.TheVariants as wrong
use Rattle.kl_tidy.specs.declared.table.Found.{Found}
use Rattle.kl_tidy.specs.declared.table.Found.TheVariants as found
use Rattle.kl_tidy.specs.declared.words.Command.{Command}
use Rattle.kl_tidy.proofs.Printing.{HaveLength, none_well, records_have}

-- ---- records

ended : next_record default_config state.StartRecord [] [] [] ≡ None
unfolding next_record
ended = refl

reads_back : (rows : List Record) → AllByRecursion (λ row. read_back row ≡ row) rows → left_from state.StartRecord (table_text rows) ≡ rows
reads_back [] all = left-none state.StartRecord [] ended
reads_back (row ∷ rows) all =
    left-some state.StartRecord (row_text default_writer row ++ table_text rows) (read_back row, state.StartRecord, table_text rows) (read-write row (table_text rows))
    ∙ (λ j. all.0 j ∷ reads_back rows all.1 j)

-- ---- the first byte

abbrev Starts : List ℕ → Type 0
Starts page = (a : ℕ) × (rest : List ℕ) × (page ≡ a ∷ rest) × ((a == 239) ≡ false)

starts_more : (xs ys : List ℕ) → Starts xs → Starts (xs ++ ys)
starts_more xs ys s = (s.0, s.1 ++ ys, ap (λ zs. zs ++ ys) s.2, s.3)

no_mark : (b : ℕ) → is_ascii_alphabetic b ≡ true → (b == 239) ≡ false
no_mark b letter = grind (arith, nat_tests, letter)

word_starts : (name : List ℕ) → is_word name ≡ true → Starts (field_text default_writer name)
word_starts [] e = cc
word_starts (b ∷ bs) e = by (list_any (needs_byte default_writer) (b ∷ bs))
  where
    by : (needs : Bool) → Starts (if needs then quoted default_writer (b ∷ bs) else b ∷ bs)
    by true = (34, escaped default_writer (b ∷ bs) ++ 34 ∷ [], refl, refl)
    by false = let letter : is_ascii_alphabetic b ≡ true = (and_parts (is_ascii_alphabetic b) (list_all is_word_byte bs) e).0 in (b, bs, refl, no_mark b letter)

stripped : (a : ℕ) (rest : List ℕ) → (a == 239) ≡ false → strip_bom (a ∷ rest) ≡ a ∷ rest
unfolding strip_bom
stripped a [] e = refl
stripped a (b ∷ []) e = refl
stripped a (b ∷ c ∷ rest) e = rw e refl

turned : (a : ℕ) → (a == 239) ≡ false → nat_eq 239 a ≡ false
turned a e = grind (arith, nat_tests, e)

unmarked : (a : ℕ) (rest : List ℕ) → (a == 239) ≡ false → starts_with nat_eq (a ∷ rest) two_marks ≡ false
unmarked a rest e = rw (turned a e) refl

whole : (page : List ℕ) → Starts page → table_records page ≡ left_from state.StartRecord page
whole page s =
    let plain : table_records (s.0 ∷ s.1) ≡ left_from state.StartRecord (s.0 ∷ s.1) =
    ap (λ b. cond b [] (records default_config (strip_bom (s.0 ∷ s.1)))) (unmarked s.0 s.1 s.3) ∙ ap (records default_config) (stripped s.0 s.1 s.3) in
    subst (λ p. table_records p ≡ left_from state.StartRecord p) (sym s.2) plain

-- ---- records of as many cells as there are names

full : (n : ℕ) (rows : List Record) → AllByRecursion (λ row. length row ≡ suc n) rows → AllByRecursion (λ row. read_back row ≡ row) rows
full n [] all = tt
full n ([] ∷ rows) all = absurd (omega (arith, all.0))
full n ((x ∷ xs) ∷ rows) all = (refl, full n rows all.1)

some_name : (n : ℕ) → (suc n == 0) ≡ false
some_name n = grind (arith, nat_tests)

as_columns : (command : Command) (names : Record) → length (map (column_of command) names) ≡ length names
as_columns command [] = refl
as_columns command (name ∷ names) = ap suc (as_columns command names)

level : (command : Command) (names : Record) (rows done : List Record) → records_printed (map (column_of command) names) 1 rows ≡ Ok done → AllByRecursion (λ row. length row ≡ length names) done
level command names rows done is =
    subst (λ n. HaveLength n (Ok done)) (as_columns command names)
    (subst (HaveLength (length (map (column_of command) names))) is (records_have (map (column_of command) names) 1 rows))

-- what is printed of rows under names is of records that are as long
printed_level : (command : Command) (name : List ℕ) (names : Record) (rows done : List Record) → rows_printed command (name ∷ names) rows ≡ Ok done
    → AllByRecursion (λ row. length row ≡ length (name ∷ names)) done
printed_level command name names rows done is =
    by (unknown_column (name ∷ names) command) (subst (λ b. cond b (none_well (wrong.Record 0)) (unless_unknown (unknown_column (name ∷ names) command) (records_printed (map (column_of command) (name ∷ names)) 1 rows)) ≡ Ok done) (some_name (length names)) is)
  where
    by : (unknown : Option (List ℕ)) → unless_unknown unknown (records_printed (map (column_of command) (name ∷ names)) 1 rows) ≡ Ok done → AllByRecursion (λ row. length row ≡ length (name ∷ names)) done
    by None e = level command (name ∷ names) rows done e
    by (Some column) e = cc

-- the text of a table reads back
pub reads_so : (command : Command) (header names : Record) (rows done : List Record) → AreNames [] header names → rows_printed command names rows ≡ Ok done
    → table_records (table_text (names ∷ done)) ≡ names ∷ done
reads_so command header [] rows done named is = absurd (none is)
  where
    none : none_well (wrong.Record 0) ≡ Ok done → ⊥
    none e = cc
reads_so command [] (name ∷ names) rows done named is = absurd named
reads_so command (h ∷ header) (name ∷ names) rows done named is =
    let word = (and_parts _ _ named.0.free).0 in
    let starts = starts_more _ (table_text done) (starts_more _ _ (starts_more _ _ (word_starts name word))) in
    whole (table_text ((name ∷ names) ∷ done)) starts ∙ reads_back ((name ∷ names) ∷ done) (refl, full (length names) done (printed_level command name names rows done is))

-- what is found of a table under its header
found_so : (command : Command) (bytes : List ℕ) (header : Record) (rows : List Record) (notes : List ℕ) (found : Found)
    → AreRecords (config_of command.delimiter) state.StartRecord (strip_bom bytes) (header ∷ rows) → FindsUnder command header rows notes found → Finds command bytes notes found
found_so command bytes header rows notes found reads under = by (rows_printed command under.names rows) refl found under.below
  where
    table : IsTable command bytes (header ∷ rows) under.names notes
    table = record { reads = reads; named = under.named; noted = under.noted }

    by : (made : Result (List Record) Wrong) → rows_printed command under.names rows ≡ made → (f : Found) → page_of under.names made ≡ f → Finds command bytes notes f
    by (Ok done) is f below = subst (Finds command bytes notes) below (record {
      records = header ∷ rows;
      names = under.names;
      table = table;
      rows = done;
      printed = is;
      text = refl;
      back = reads_so command header under.names rows done under.named is;
    })
    by (Err w) is f below = subst (Finds command bytes notes) below (record { records = header ∷ rows; names = under.names; table = table; refused = is })

-- the same of what a call answers
pub found_all : {E : Type 0} (r : Result Found E) (command : Command) (bytes : List ℕ) (header : Record) (rows records : List Record) (notes : List ℕ)
    → AreRecords (config_of command.delimiter) state.StartRecord (strip_bom bytes) records → records ≡ header ∷ rows → IfOk r (FindsUnder command header rows notes) → IfOk r (Finds command bytes notes)
found_all (Ok found) command bytes header rows records notes reads is under =
    found_so command bytes header rows notes found (subst (AreRecords (config_of command.delimiter) state.StartRecord (strip_bom bytes)) is reads) under
found_all (Err e) command bytes header rows records notes reads is under = tt

-- what is found below names is found under their header
pub found_more : {E : Type 0} (r : Result Found E) (command : Command) (header names : Record) (rows : List Record) (notes : List ℕ) → AreNames [] header names
    → notes ≡ header_notes command.path header names → IfOk r (FindsBelow command names rows) → IfOk r (FindsUnder command header rows notes)
found_more (Ok found) command header names rows notes named noted below = record { names = names; named = named; noted = noted; below = below }
found_more (Err e) command header names rows notes named noted below = tt
