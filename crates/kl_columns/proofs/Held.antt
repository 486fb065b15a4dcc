-- What a driver has at a path whose file was read, where no record of it is bad.
use Rattle.std.proofs.Common.{◌≡◌, refl, ℕ, Bool, true, false, List, length, Option, Some, None, Ok, sym, ap, subst, ◌∙◌, arith, nat_lt, not, ◌&&◌}
use Rattle.std.proofs.lemmas.Bool.Decides.{nat_tests}
use Rattle.std.proofs.lemmas.Option.{same_Some}
use Rattle.kl_value.specs.declared.Value.{Value}
use Rattle.kl_type.specs.declared.ground.Ty.{Ty}
use Rattle.kl_outside.proofs.FileLemmas.{was_there}
use Rattle.kl_outside.specs.Files.{FilesState, ReadsWhole}
use Rattle.kl_outside.specs.declared.files.Whole.TheVariants.{Bytes}
use Rattle.kl_ask.specs.Driver.{Rows, Stored, stored_by}
use Rattle.kl_flat.specs.Flat.{contents_of, most_bytes, stored_of, stored_rows}
use Rattle.kl_flat.specs.Table.{bad_record, table_rows}
use Rattle.kl_sqlserve.specs.Server.{kept_contents, kept_rows, kept_stored}
use Rattle.kl_columns.specs.Listing.{HasTypeAs, IsNarrowAt, IsReadAs, Told}
use Rattle.kl_columns.specs.Narrowing.{IsNarrow}

abbrev Holds : Told → List ℕ → Ty → Type 0
Holds told path ty = (files : List ℕ → Option (List ℕ)) → told ≡ Some files → (rows : List Value) × (stored_of (files path) ty ≡ Rows rows)

holds_rows : (path bytes : List ℕ) (ty : Ty) (f f' : FilesState) → ReadsWhole path most_bytes (Ok (Bytes bytes)) f f' → bad_record bytes ty ≡ None → Holds f.told path ty
holds_rows path bytes ty f f' reads good files is =
    let found = was_there path most_bytes (Bytes bytes) f f' files reads is in
    let short : nat_lt most_bytes (length found.0) ≡ false = grind (arith, nat_tests, found.2.1) in
    let fine : bad_record found.0 ty ≡ None = ap (λ b. bad_record b ty) (sym found.2.0) ∙ good in
    (table_rows found.0 ty, ap (λ o. stored_of o ty) found.1 ∙ rw short (ap (stored_rows found.0 ty) fine))

none_some : {A : Type 0} {x : A} → None ≡ Some x → ⊥
none_some h = cc

module _ (path : List ℕ) (ty : Ty) (stored : Stored) where
  flat_rows : (told : Told) → Holds told path ty → stored_by (contents_of told) path ty ≡ Some stored → (rows : List Value) × (stored ≡ Rows rows)
  flat_rows None holds at = absurd (none_some at)
  flat_rows (Some files) holds at = let found = holds files refl in (found.0, sym (same_Some (stored_of (files path) ty) stored at) ∙ found.1)

  sql_rows : (told : Told) → Holds told path ty → stored_by (kept_contents (contents_of told)) path ty ≡ Some stored → (rows : List Value) × (stored ≡ Rows rows)
  sql_rows None holds at = absurd (none_some at)
  sql_rows (Some files) holds at =
      let found = holds files refl in
      (kept_rows ty found.0, sym (same_Some (kept_stored ty (stored_of (files path) ty)) stored at) ∙ ap (kept_stored ty) found.1)

narrow_there : (path bytes : List ℕ) (ty : Ty) (f f' : FilesState) → ReadsWhole path most_bytes (Ok (Bytes bytes)) f f' → IsReadAs bytes ty → IsNarrowAt true f.told path ty
narrow_there path bytes ty f f' reads is files held told at =
    let found = was_there path most_bytes (Bytes bytes) f f' files reads told in
    let same : bytes ≡ held = found.2.0 ∙ same_Some found.0 held (sym found.1 ∙ at) in
    subst (λ b. IsNarrow b ty) same is.narrow

-- either driver has rows there
pub has_type : (path bytes : List ℕ) (ty : Ty) (f f' : FilesState) → ReadsWhole path most_bytes (Ok (Bytes bytes)) f f' → IsReadAs bytes ty → (sql : Bool) → HasTypeAs true sql f.told path ty
has_type path bytes ty f f' reads is true = record {
  suits = (λ i. is.suits i && not (is.unordered i));
  rows = λ stored at. sql_rows path ty stored f.told (holds_rows path bytes ty f f' reads is.good) at;
  narrow = narrow_there path bytes ty f f' reads is;
}
has_type path bytes ty f f' reads is false = record {
  suits = is.suits;
  rows = λ stored at. flat_rows path ty stored f.told (holds_rows path bytes ty f f' reads is.good) at;
  narrow = narrow_there path bytes ty f f' reads is;
}
