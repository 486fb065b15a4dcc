-- The first record of a table is the one that is read first.
use Rattle.std.proofs.Common.{◌≡◌, ℕ, Bool, true, false, List, [], cond, Option, Some, None, nat_eq, refl, sym, ap, ◌∙◌}
use Rattle.std.specs.List.{starts_with}
use Rattle.std.specs.Option.{option_map}
use Rattle.std.proofs.lemmas.Option.{same_Some}
use Rattle.csv.specs.Machine.{Read, next_record}
use Rattle.csv.specs.Reading.{default_config, records, strip_bom}
use Rattle.csv.specs.declared.parser.State.TheVariants as state
use Rattle.kl_flat.specs.Table.{Columns, Record, bad_in, table_records, two_marks}
use Rattle.kl_flat.proofs.Fuel.{left-some}
use Rattle.kl_columns.specs.Headers.{nameable, rising, table_labels}

none_there : {A : Type 0} {x : A} → None ≡ Some x → ⊥
none_there h = cc

pub first_labels : (bytes : List ℕ) (header : Record) (columns : Columns) → Some header ≡ option_map (λ p. p.0) (next_record default_config state.StartRecord [] [] (strip_bom bytes))
    → bad_in columns (table_records bytes) ≡ None → table_labels (table_records bytes) ≡ rising (nameable header)
first_labels bytes header columns next good = by (starts_with nat_eq bytes two_marks) good
  where
    read : (o : Option Read) → next_record default_config state.StartRecord [] [] (strip_bom bytes) ≡ o → Some header ≡ option_map (λ p. p.0) o → table_labels (records default_config (strip_bom bytes)) ≡ rising (nameable header)
    read None is e = absurd (none_there (sym e))
    read (Some r) is e = ap table_labels (left-some state.StartRecord (strip_bom bytes) r is) ∙ ap (λ h. rising (nameable h)) (sym (same_Some header r.0 e))

    by : (b : Bool) → bad_in columns (cond b [] (records default_config (strip_bom bytes))) ≡ None → table_labels (cond b [] (records default_config (strip_bom bytes))) ≡ rising (nameable header)
    by true none = absurd (none_there (sym none))
    by false none = read (next_record default_config state.StartRecord [] [] (strip_bom bytes)) refl next
