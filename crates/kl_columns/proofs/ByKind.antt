-- A file's type and refusal, by what kind of file it is.
use Rattle.std.proofs.Common.{◌≡◌, ◌++◌, Bool, ℕ, List, [], false, cond, Option, Result, Ok, Err, IfErr, IfOk, subst, sym, ap, ◌∙◌, append-nil}
use Rattle.kl_outside.specs.Files.{FilesState}
use Rattle.kl_type.specs.declared.ground.Ty.{Ty}
use Rattle.kl_columns.specs.Causes.{AddsNotes, RefusesAs, RefusesFile, notes_at, notes_in}
use Rattle.kl_columns.specs.Listing.{HasType, HasTypeAs, Told}
use Rattle.kl_columns.specs.Words.{is_table}
use Rattle.kl_columns.specs.declared.refusal.Refusal.{Refusal}
use Rattle.kl_columns.specs.declared.refusal.Refusal.TheVariants as refusal

module _ (result : Result Ty Refusal) (table : Bool) (path : List ℕ) (is : is_table path ≡ table) where
  pub has_type_so : (told : Told) → IfOk result (λ ty. (sql : Bool) → HasTypeAs table sql told path ty) → IfOk result (λ ty. (sql : Bool) → HasType sql told path ty)
  has_type_so told has = subst (λ b. IfOk result (λ ty. (sql : Bool) → HasTypeAs b sql told path ty)) (sym is) has

  pub refused_so : (old new : FilesState) → IfErr result (λ r. RefusesAs table r path old new) → IfErr result (λ r. RefusesFile r path old new)
  refused_so old new why = subst (λ b. IfErr result (λ r. RefusesAs b r path old new)) (sym is) why

-- of a file of values nothing is told
pub no_notes : (result : Result Ty Refusal) (path : List ℕ) (told : Told) (old new : List ℕ) → is_table path ≡ false → new ≡ old → AddsNotes result told path old new
no_notes result path told old new is same = by result
  where
    none : (files : List ℕ → Option (List ℕ)) → new ≡ old ++ notes_at files path
    none files = same ∙ sym (ap (λ b. old ++ cond b (notes_in path (files path)) []) is ∙ append-nil old)

    by : (r : Result Ty Refusal) → AddsNotes r told path old new
    by (Ok ty) = λ files told_so. none files
    by (Err (refusal.BadFile at n)) = λ files told_so. none files
    by (Err refusal.NoMemory) = tt
    by (Err r) = same
