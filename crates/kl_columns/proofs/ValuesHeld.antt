-- What the driver has at the path of a file of values that was read, or why it is refused.
use Rattle.std.proofs.Common.{◌≡◌, ◌⊎◌, inl, inr, ℕ, Bool, false, List, Option, Some, None, Result, Ok, Err, IsErrOf, refl, sym, ap, subst, ◌∙◌}
use Rattle.std.proofs.lemmas.Option.{same_Some}
use Rattle.kl_value.specs.declared.Kind.TheVariants as kind
use Rattle.kl_value.specs.declared.Value.{Value}
use Rattle.kl_type.specs.declared.ground.Ty.{Ty}
use Rattle.kl_type.specs.declared.ground.Ty.TheVariants as ty
use Rattle.kl_outside.specs.Files.{FilesState}
use Rattle.kl_exchange.specs.FileItems.{most_read}
use Rattle.kl_exchange.specs.Found.{values_of}
use Rattle.kl_heads.specs.Found.{file_text}
use Rattle.kl_ask.specs.Driver.{Rows, Stored, stored_by}
use Rattle.kl_nested.specs.Contents.{contents_of, item_layer, item_ty, stored_in, stored_of}
use Rattle.kl_nested.specs.Nested.{is_coll_layer}
use Rattle.kl_columns.specs.Causes.{RefusesValues, refusal_as}
use Rattle.kl_columns.specs.Listing.{HasTypeAs, Told}
use Rattle.kl_columns.specs.Reading.{ReadsValues}
use Rattle.kl_columns.specs.Values.{TellsItems}
use Rattle.kl_columns.specs.declared.refusal.Refusal.{Refusal}
use Rattle.kl_columns.specs.declared.refusal.Refusal.TheVariants as refusal
use Rattle.kl_columns.specs.declared.values.Unfit.{Unfit}
use Rattle.kl_columns.specs.declared.values.Unfit.TheVariants as unfit

module _ (path : List ℕ) (result : Result Ty Unfit) (old new : FilesState) (reads : ReadsValues path result old new) where
  -- where bytes are told, a file that was read is there
  was_there : (IsErrOf result unfit.Read → ⊥) → (files : List ℕ → Option (List ℕ)) → old.told ≡ Some files → (bytes : List ℕ) × (files path ≡ Some bytes) × TellsItems bytes result
  was_there well files told = by (files path) refl
    where
      by : (o : Option (List ℕ)) → files path ≡ o → (bytes : List ℕ) × (files path ≡ Some bytes) × TellsItems bytes result
      by None is = absurd (well (reads.missing (files, told, is)))
      by (Some bytes) is = (bytes, is, reads.known bytes (files, told, is))

none_some : {A : Type 0} {x : A} → None ≡ Some x → ⊥
none_some h = cc

ok_read : {t : Ty} → Ok t ≡ Err unfit.Read → ⊥
ok_read h = cc

module _ (path : List ℕ) (t : Ty) (old new : FilesState) (reads : ReadsValues path (Ok t) old new) where
  abbrev bag : Ty
  bag = ty.Coll kind.Bag t

  own_item : item_ty bag ≡ t
  own_item = ap (item_layer bag) (ty.outs-Coll kind.Bag t)

  rows_there : (stored : Stored) (told : Told) → old.told ≡ told → stored_by (contents_of most_read told) path bag ≡ Some stored → (rows : List Value) × (stored ≡ Rows rows)
  rows_there stored None is at = absurd (none_some at)
  rows_there stored (Some files) is at =
      let found = was_there path (Ok t) old new reads ok_read files is in (
        values_of (file_text most_read found.0).items,
        sym (same_Some (stored_of most_read (files path) bag) stored at) ∙ ap (λ o. stored_of most_read o bag) found.1 ∙ ap (stored_in most_read found.0) own_item ∙ found.2.rows,
      )

  pub values_type : (sql : Bool) → HasTypeAs false sql old.told path bag
  values_type sql = record {
    suits = ap is_coll_layer (ty.outs-Coll kind.Bag t);
    rows = λ stored at. rows_there stored old.told refl at;
    narrow = λ files bytes told at. (t, refl, reads.known bytes (files, told, at));
  }

module _ (path : List ℕ) (old new : FilesState) where
  told_of : (e : Unfit) → ReadsValues path (Err e) old new → RefusesValues (refusal_as path e) path old new
  told_of (unfit.Bad p) reads = (refl, was_there path (Err (unfit.Bad p)) old new reads (λ is. cc))
  told_of (unfit.Untyped n) reads = (refl, was_there path (Err (unfit.Untyped n)) old new reads (λ is. cc))
  told_of unfit.TooDeep reads = was_there path (Err unfit.TooDeep) old new reads (λ is. cc)
  told_of unfit.TooLong reads = was_there path (Err unfit.TooLong) old new reads (λ is. cc)
  told_of unfit.Read reads = reads.failed refl
  told_of unfit.NoMemory reads = tt

  pub values_refused : (e : Unfit) (r : Refusal) → ReadsValues path (Err e) old new → (r ≡ refusal_as path e) ⊎ (r ≡ refusal.NoMemory) → RefusesValues r path old new
  values_refused e r reads (inl is) = subst (λ x. RefusesValues x path old new) (sym is) (told_of e reads)
  values_refused e r reads (inr is) = subst (λ x. RefusesValues x path old new) (sym is) tt
