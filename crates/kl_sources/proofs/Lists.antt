-- Elements of lists by their place.
use Rattle.std.proofs.Common.{◌≡◌, ◌<◌, ℕ, zero, suc, List, [], ◌∷◌, map, length, Some, refl, subst, arith, slice_get}
use Rattle.std.proofs.lemmas.Option.{same_Some}
use Rattle.std.specs.List.{AllByRecursion}

pub element : {T : Type 0} (xs : List T) (i : ℕ) → i < length xs → (x : T) × (slice_get xs i ≡ Some x)
element [] i lt = absurd (omega arith)
element (x ∷ xs) zero lt = (x, refl)
element (x ∷ xs) (suc i) lt = element xs i (omega arith)

pub of_all : {T : Type 0} (P : T → Type 0) (xs : List T) (i : ℕ) (x : T) → AllByRecursion P xs → slice_get xs i ≡ Some x → P x
of_all P [] i x all is = absurd cc
of_all P (y ∷ ys) zero x all is = subst P (same_Some _ _ is) all.0
of_all P (y ∷ ys) (suc i) x all is = of_all P ys i x all.1 is

-- what stands in a list that is mapped
pub unmapped : {A B : Type 0} (f : A → B) (xs : List A) (i : ℕ) (y : B) → slice_get (map f xs) i ≡ Some y → (x : A) × (slice_get xs i ≡ Some x) × (f x ≡ y)
unmapped f [] i y is = absurd cc
unmapped f (x ∷ xs) zero y is = (x, refl, same_Some _ _ is)
unmapped f (x ∷ xs) (suc i) y is = unmapped f xs i y is
