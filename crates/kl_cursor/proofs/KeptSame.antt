-- A look-up that finds a value leaves what is kept, in another order.
use Rattle.std.proofs.Common.{◌≡◌, Bool, true, false, cond, List, [], ◌∷◌, Option, Some, None, refl, sym, subst}
use Rattle.std.specs.List.Sorted.{IsPermutation}
use Rattle.std.specs.Map.{lookup_entry, remove_entry}
use Rattle.std.specs.Option.{option_map_or}
use Rattle.std.proofs.lemmas.List.Sorted.{IsPermutation-refl, IsPermutation-cons, IsPermutation-append_comm, IsPermutation-append_left, IsPermutation-trans}
use Rattle.kl_lookups.specs.Lookups.{moved_up}
use Rattle.kl_scans.specs.Running.{Running}
use Rattle.kl_cursor.specs.Memos.{KeepsSame}

module _ {K V : Type 0} (same : K → K → Bool) (k : K) where
  -- an entry that is found, before the others
  found_first : (es : List (K × V)) (e : K × V) → lookup_entry (same k) es ≡ Some e → IsPermutation es (e ∷ remove_entry (same k) es)
  found_first [] e h = absurd cc
  found_first (f ∷ es) e h = by (same k f.0) h (found_first es e)
    where
      by : (b : Bool) → cond b (Some f) (lookup_entry (same k) es) ≡ Some e → (lookup_entry (same k) es ≡ Some e → IsPermutation es (e ∷ remove_entry (same k) es))
          → IsPermutation (f ∷ es) (e ∷ cond b es (f ∷ remove_entry (same k) es))
      by true g r = let is : f ≡ e = cc in subst (λ z. IsPermutation (f ∷ es) (z ∷ es)) is (IsPermutation-refl (f ∷ es))
      by false g r =
          IsPermutation-trans (f ∷ es) (f ∷ e ∷ remove_entry (same k) es) (e ∷ f ∷ remove_entry (same k) es) (IsPermutation-cons f es (e ∷ remove_entry (same k) es) (r g))
          (IsPermutation-append_left (remove_entry (same k) es) (f ∷ e ∷ []) (e ∷ f ∷ []) (IsPermutation-append_comm (f ∷ []) (e ∷ [])))

  pub moved_same : (es : List (K × V)) → IsPermutation es (moved_up same k es)
  moved_same es = by (lookup_entry (same k) es) refl
    where
      by : (o : Option (K × V)) → lookup_entry (same k) es ≡ o → IsPermutation es (option_map_or (λ e. e ∷ remove_entry (same k) es) o es)
      by (Some e) is = found_first es e is
      by None is = IsPermutation-refl es

pub keeps_same : (w x : Running) → x.kept ≡ w.kept → KeepsSame w x
keeps_same w x is = subst (λ es. IsPermutation w.kept es) (sym is) (IsPermutation-refl w.kept)
