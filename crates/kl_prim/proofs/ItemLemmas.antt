-- Items that are all read as something.
use Rattle.std.proofs.Common.{◌≡◌, ℤ, pos, ◌+ℤ◌, List, [], ◌∷◌, ◌++◌, map, Option, Some, None, refl, ap, ◌∙◌, fold, IsSome, unwrap_or, Result, Ok, Err, OkIff, SomeIff, subst, sym}
use Rattle.std.specs.Option.{option_map, option_and_then}
use Rattle.std.specs.Result.{result_ok}
use Rattle.std.specs.List.{All, AllByRecursion, flat_map}
use Rattle.std.proofs.lemmas.List.Elements.{recursion_from_All}
use Rattle.kl_value.specs.declared.Value.{Value}
use Rattle.kl_prim.specs.Meaning.{all_some, total}
use Rattle.kl_value.specs.Views.{as_int}

some_is : {Y : Type 0} (o : Option Y) (d : Y) → IsSome o → o ≡ Some (unwrap_or o d)
some_is (Some y) d h = refl
some_is None d h = cc

module _ {X Y : Type 0} (f : X → Option Y) (d : Y) where
  all_some_by : (xs : List X) → AllByRecursion (λ x. IsSome (f x)) xs → all_some f xs ≡ Some (map (λ x. unwrap_or (f x) d) xs)
  all_some_by [] h = refl
  all_some_by (x ∷ xs) h =
      ap (λ o. option_and_then (λ y. option_map (λ ys. y ∷ ys) (all_some f xs)) o) (some_is (f x) d h.0)
      ∙ ap (option_map (λ ys. unwrap_or (f x) d ∷ ys)) (all_some_by xs h.1)

  -- each item is read, so all are
  pub all_some_is : (xs : List X) → All (λ x. IsSome (f x)) xs → all_some f xs ≡ Some (map (λ x. unwrap_or (f x) d) xs)
  all_some_is xs h = all_some_by xs (recursion_from_All (λ x. IsSome (f x)) xs h)

-- the integer that a value is, or 0
abbrev pub int_at : Value → ℤ
int_at v = unwrap_or (as_int v) (pos 0)

fold-map : (n : ℤ) (xs : List Value) → fold ◌+ℤ◌ n (map int_at xs) ≡ fold (λ t v. t +ℤ int_at v) n xs
fold-map n [] = refl
fold-map n (x ∷ xs) = fold-map (n +ℤ int_at x) xs

pub total_is : (xs : List Value) → total (map int_at xs) ≡ fold (λ t v. t +ℤ int_at v) (pos 0) xs
total_is = fold-map (pos 0)

-- `ok()` of a conversion that says when it is well
pub some_from_ok : {T E : Type 0} (r : Result T E) (o : Option T) (P : Type 0) (v : T) → OkIff r P v → o ≡ result_ok r → SomeIff o P v
some_from_ok (Ok x) o P v h e = subst (λ q. SomeIff q P v) (sym e) h
some_from_ok (Err x) o P v h e = subst (λ q. SomeIff q P v) (sym e) h

pub flat_map-map : {X Y Z : Type 0} (f : Y → List Z) (g : X → Y) (xs : List X) → flat_map f (map g xs) ≡ flat_map (λ x. f (g x)) xs
flat_map-map f g [] = refl
flat_map-map f g (x ∷ xs) = ap (λ ys. f (g x) ++ ys) (flat_map-map f g xs)
