-- What a walk over a list has found, where each item is looked at as bytes.
use Rattle.std.proofs.Common.{◌≡◌, ◌<◌, ◌+◌, ◌||◌, ℕ, Bool, true, false, List, [], ◌∷◌, ◌++◌, length, get_or, map, take, filter, sym, ap, ◌∙◌, arith}
use Rattle.std.specs.List.{list_any}
use Rattle.std.proofs.lemmas.List.{get_or-map, length-map}
use Rattle.std.proofs.lemmas.List.Elements.{filter_more}
use Rattle.std.proofs.lemmas.List.Folds.{list_any_at, list_any_more}

module _ {X : Type 0} (p : List ℕ → Bool) (f : X → List ℕ) (xs : List X) (i : ℕ) (x : X) (less : i < length xs) (is : x ≡ get_or xs i x) where
  within : i < length (map f xs)
  within = omega (arith, less, length-map xs f)

  there : get_or (map f xs) i (f x) ≡ f x
  there = get_or-map f xs i x (f x) less ∙ ap f (sym is)

  pub found_there : p (f x) ≡ true → true ≡ list_any p (map f xs)
  found_there one = sym (list_any_at p (map f xs) i (f x) within (ap p there ∙ one))

  pub none_more : list_any p (take i (map f xs)) ≡ false → p (f x) ≡ false → list_any p (take (i + 1) (map f xs)) ≡ false
  none_more before one = list_any_more p (map f xs) i (f x) within ∙ (λ j. before j || (ap p there ∙ one) j)

  pub kept_more : filter p (take (i + 1) (map f xs)) ≡ filter p (take i (map f xs)) ++ filter p (f x ∷ [])
  kept_more = filter_more p (map f xs) i (f x) within ∙ ap (λ y. filter p (take i (map f xs)) ++ filter p (y ∷ [])) there
