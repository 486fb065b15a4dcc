-- Entries whose keys and values are told in another way: the tests of keys tell the same of both, and so do look-ups.
use Rattle.std.proofs.Common.{◌≡◌, ℕ, Bool, true, false, cond, List, [], ◌∷◌, map, take, Option, Some, None, refl, ap, ◌∙◌}
use Rattle.std.specs.Map.{lookup, lookup_entry, remove_entry}
use Rattle.std.specs.Option.{is_some, option_map, option_map_or}
use Rattle.std.proofs.lemmas.List.{take-map}
use Rattle.kl_lookups.specs.Lookups.{has, moved_up, kept_with}
use mathlib.Core.Path.{ap₂}

module _ {J K V W : Type 0} (test : J → J → Bool) (same : K → K → Bool) (g : J → K) (f : V → W) (fits : (a b : J) → same (g a) (g b) ≡ test a b) where
  abbrev pub entry : J × V → K × W
  entry e = (g e.0, f e.1)

  pub lookup_mapped : (j : J) (es : List (J × V)) → lookup (same (g j)) (map entry es) ≡ option_map f (lookup (test j) es)
  lookup_mapped j [] = refl
  lookup_mapped j (e ∷ es) = rw (fits j e.0) (by (test j e.0) (lookup_mapped j es))
    where
      by : (b : Bool) → lookup (same (g j)) (map entry es) ≡ option_map f (lookup (test j) es)
          → cond b (Some (f e.1)) (lookup (same (g j)) (map entry es)) ≡ option_map f (cond b (Some e.1) (lookup (test j) es))
      by true r = refl
      by false r = r

  entry_mapped : (j : J) (es : List (J × V)) → lookup_entry (same (g j)) (map entry es) ≡ option_map entry (lookup_entry (test j) es)
  entry_mapped j [] = refl
  entry_mapped j (e ∷ es) = rw (fits j e.0) (by (test j e.0) (entry_mapped j es))
    where
      by : (b : Bool) → lookup_entry (same (g j)) (map entry es) ≡ option_map entry (lookup_entry (test j) es)
          → cond b (Some (entry e)) (lookup_entry (same (g j)) (map entry es)) ≡ option_map entry (cond b (Some e) (lookup_entry (test j) es))
      by true r = refl
      by false r = r

  removed_mapped : (j : J) (es : List (J × V)) → remove_entry (same (g j)) (map entry es) ≡ map entry (remove_entry (test j) es)
  removed_mapped j [] = refl
  removed_mapped j (e ∷ es) = rw (fits j e.0) (by (test j e.0) (removed_mapped j es))
    where
      by : (b : Bool) → remove_entry (same (g j)) (map entry es) ≡ map entry (remove_entry (test j) es)
          → cond b (map entry es) (entry e ∷ remove_entry (same (g j)) (map entry es)) ≡ map entry (cond b es (e ∷ remove_entry (test j) es))
      by true r = refl
      by false r = ap (λ xs. entry e ∷ xs) r

  pub has_mapped : (j : J) (es : List (J × V)) → has same (g j) (map entry es) ≡ has test j es
  has_mapped j es = ap is_some (lookup_mapped j es) ∙ by (lookup (test j) es)
    where
      by : (o : Option V) → is_some (option_map f o) ≡ is_some o
      by (Some v) = refl
      by None = refl

  pub moved_mapped : (j : J) (es : List (J × V)) → moved_up same (g j) (map entry es) ≡ map entry (moved_up test j es)
  moved_mapped j es =
      ap₂ (λ o xs. option_map_or (λ e. e ∷ xs) o (map entry es)) (entry_mapped j es) (removed_mapped j es)
      ∙ by (lookup_entry (test j) es)
    where
      by : (o : Option (J × V)) → option_map_or (λ e. e ∷ map entry (remove_entry (test j) es)) (option_map entry o) (map entry es)
          ≡ map entry (option_map_or (λ e. e ∷ remove_entry (test j) es) o es)
      by (Some e) = refl
      by None = refl

  pub kept_mapped : (capacity : ℕ) (j : J) (v : V) (es : List (J × V))
      → kept_with same capacity (g j) (f v) (map entry es) ≡ map entry (kept_with test capacity j v es)
  kept_mapped capacity j v es =
      ap₂ (λ o xs. take capacity ((option_map_or (λ e. e.0) o (g j), f v) ∷ xs)) (entry_mapped j es) (removed_mapped j es)
      ∙ ap (λ k. take capacity ((k, f v) ∷ map entry (remove_entry (test j) es))) (by (lookup_entry (test j) es))
      ∙ take-map entry capacity ((option_map_or (λ e. e.0) (lookup_entry (test j) es) j, v) ∷ remove_entry (test j) es)
    where
      by : (o : Option (J × V)) → option_map_or (λ e. e.0) (option_map entry o) (g j) ≡ g (option_map_or (λ e. e.0) o j)
      by (Some e) = refl
      by None = refl
