-- Lists with the same elements, by steps: what is built of each of them has the same elements too.
use Rattle.std.proofs.Common.{◌≡◌, Bool, true, false, not, ◌&&◌, List, [], ◌∷◌, ◌++◌, map, filter, cond, refl, sym, ap, ◌∙◌, subst, append_assoc}
use Rattle.std.specs.List.{flat_map}
use Rattle.std.specs.List.Sorted.{IsPermutation}
use Rattle.std.proofs.lemmas.List.Sorted.{IsPermutation-refl, IsPermutation-cons, IsPermutation-middle, IsPermutation-trans}
use Rattle.kl_value.specs.declared.Value.{Value}
use Rattle.kl_sqltext.specs.Meaning.{without_repeats}
use Rattle.kl_ask.specs.Driver.{same_value}
use Rattle.kl_sqlserve.proofs.Keyed.{same_itself, tied}

pub data Shuffle {A : Type 0} : List A → List A → Type 0 where
  empty : Shuffle [] []
  under : {xs ys : List A} (x : A) → Shuffle xs ys → Shuffle (x ∷ xs) (x ∷ ys)
  flip : (x y : A) (xs : List A) → Shuffle (x ∷ y ∷ xs) (y ∷ x ∷ xs)
  onward : {xs ys zs : List A} → Shuffle xs ys → Shuffle ys zs → Shuffle xs zs

module _ {A : Type 0} where
  pub same : (xs : List A) → Shuffle xs xs
  same [] = empty
  same (x ∷ xs) = under x (same xs)

  pub back : {xs ys : List A} → Shuffle xs ys → Shuffle ys xs
  back empty = empty
  back (under x s) = under x (back s)
  back (flip x y xs) = flip y x xs
  back (onward s t) = onward (back t) (back s)

  pub permuted : {xs ys : List A} → Shuffle xs ys → IsPermutation xs ys
  permuted empty = IsPermutation-refl []
  permuted (under x s) = IsPermutation-cons x _ _ (permuted s)
  permuted (flip x y xs) = IsPermutation-middle (x ∷ []) y xs
  permuted (onward s t) = IsPermutation-trans _ _ _ (permuted s) (permuted t)

  in_front : (us : List A) {xs ys : List A} → Shuffle xs ys → Shuffle (us ++ xs) (us ++ ys)
  in_front [] s = s
  in_front (u ∷ us) s = under u (in_front us s)

  behind : (us : List A) {xs ys : List A} → Shuffle xs ys → Shuffle (xs ++ us) (ys ++ us)
  behind us empty = same us
  behind us (under x s) = under x (behind us s)
  behind us (flip x y xs) = flip x y (xs ++ us)
  behind us (onward s t) = onward (behind us s) (behind us t)

  both : {us vs xs ys : List A} → Shuffle us vs → Shuffle xs ys → Shuffle (us ++ xs) (vs ++ ys)
  both {us = us} {vs = vs} {xs = xs} {ys = ys} s t = onward (behind xs s) (in_front vs t)

  middle : (us : List A) (x : A) (vs : List A) → Shuffle (us ++ x ∷ vs) (x ∷ (us ++ vs))
  middle [] x vs = same (x ∷ vs)
  middle (u ∷ us) x vs = onward (under u (middle us x vs)) (flip u x (us ++ vs))

  crossed : (us vs ws : List A) → Shuffle (us ++ (vs ++ ws)) (vs ++ (us ++ ws))
  crossed [] vs ws = same (vs ++ ws)
  crossed (u ∷ us) vs ws = onward (under u (crossed us vs ws)) (back (middle vs u (us ++ ws)))

  pub filtered : (keep : A → Bool) {xs ys : List A} → Shuffle xs ys → Shuffle (filter keep xs) (filter keep ys)
  filtered keep empty = empty
  filtered keep (under {xs = xs} {ys = ys} x s) = by (keep x) refl (filtered keep s)
    where
      by : (b : Bool) → keep x ≡ b → Shuffle (filter keep xs) (filter keep ys) → Shuffle (filter keep (x ∷ xs)) (filter keep (x ∷ ys))
      by true e s = rw e (under x s)
      by false e s = rw e s
  filtered keep (flip x y xs) = by (keep x) (keep y) refl refl
    where
      by : (b c : Bool) → keep x ≡ b → keep y ≡ c → Shuffle (filter keep (x ∷ y ∷ xs)) (filter keep (y ∷ x ∷ xs))
      by true true e f = rw (e, f) (flip x y (filter keep xs))
      by true false e f = rw (e, f) (same (x ∷ filter keep xs))
      by false true e f = rw (e, f) (same (y ∷ filter keep xs))
      by false false e f = rw (e, f) (same (filter keep xs))
  filtered keep (onward s t) = onward (filtered keep s) (filtered keep t)

pub mapped : {A B : Type 0} (f : A → B) {xs ys : List A} → Shuffle xs ys → Shuffle (map f xs) (map f ys)
mapped f empty = empty
mapped f (under x s) = under (f x) (mapped f s)
mapped f (flip x y xs) = flip (f x) (f y) (map f xs)
mapped f (onward s t) = onward (mapped f s) (mapped f t)

-- ---- lists of lists

pub each : {A B : Type 0} (f g : A → List B) → ((x : A) → Shuffle (f x) (g x)) → (xs : List A) → Shuffle (flat_map f xs) (flat_map g xs)
each f g h [] = empty
each f g h (x ∷ xs) = both (h x) (each f g h xs)

parted : {A B : Type 0} (f g : A → List B) (xs : List A) → Shuffle (flat_map (λ x. f x ++ g x) xs) (flat_map f xs ++ flat_map g xs)
parted f g [] = empty
parted f g (x ∷ xs) =
    subst (λ zs. Shuffle zs ((f x ++ flat_map f xs) ++ (g x ++ flat_map g xs))) (sym (append_assoc (f x) (g x) (flat_map (λ x. f x ++ g x) xs)))
    (subst (λ zs. Shuffle (f x ++ (g x ++ flat_map (λ x. f x ++ g x) xs)) zs) (sym (append_assoc (f x) (flat_map f xs) (g x ++ flat_map g xs)))
    (in_front (f x) (onward (in_front (g x) (parted f g xs)) (crossed (g x) (flat_map f xs) (flat_map g xs)))))

abbrev none_of : {A B : Type 0} → A → List B
none_of x = []

nothing : {A B : Type 0} (xs : List A) → flat_map (none_of {A = A} {B = B}) xs ≡ []
nothing [] = refl
nothing (x ∷ xs) = nothing xs

-- two loops in one another may change places
pub exchanged : {A B C : Type 0} (f : A → B → List C) (xs : List A) (ys : List B) → Shuffle (flat_map (λ x. flat_map (λ y. f x y) ys) xs) (flat_map (λ y. flat_map (λ x. f x y) xs) ys)
exchanged f [] ys = subst (λ zs. Shuffle [] zs) (sym (nothing ys)) empty
exchanged f (x ∷ xs) ys = onward (in_front (flat_map (λ y. f x y) ys) (exchanged f xs ys)) (back (parted (λ y. f x y) (λ y. flat_map (λ x. f x y) xs) ys))

-- ---- without repeats

next : {A : Type 0} (keep : A → Bool) (x : A) (xs : List A) (b : Bool) → keep x ≡ b → filter keep (x ∷ xs) ≡ cond b (x ∷ filter keep xs) (filter keep xs)
next keep x xs b e = ap (λ c. cond c (x ∷ filter keep xs) (filter keep xs)) e

filters_cross : {A : Type 0} (p q : A → Bool) (xs : List A) → filter p (filter q xs) ≡ filter q (filter p xs)
filters_cross p q [] = refl
filters_cross p q (x ∷ xs) = by (p x) (q x) refl refl (filters_cross p q xs)
  where
    by : (b c : Bool) → p x ≡ b → q x ≡ c → filter p (filter q xs) ≡ filter q (filter p xs) → filter p (filter q (x ∷ xs)) ≡ filter q (filter p (x ∷ xs))
    by true true e f h =
        ap (filter p) (next q x xs true f) ∙ next p x (filter q xs) true e ∙ ap (λ ys. x ∷ ys) h ∙ sym (ap (filter q) (next p x xs true e) ∙ next q x (filter p xs) true f)
    by true false e f h = ap (filter p) (next q x xs false f) ∙ h ∙ sym (ap (filter q) (next p x xs true e) ∙ next q x (filter p xs) false f)
    by false true e f h = ap (filter p) (next q x xs true f) ∙ next p x (filter q xs) false e ∙ h ∙ sym (ap (filter q) (next p x xs false e))
    by false false e f h = ap (filter p) (next q x xs false f) ∙ h ∙ sym (ap (filter q) (next p x xs false e))

abbrev unlike : Value → Value → Bool
unlike v w = not (same_value v w)

two_first : (v w : Value) (vs : List Value) → Shuffle (v ∷ filter (unlike v) (w ∷ filter (unlike w) vs)) (w ∷ filter (unlike w) (v ∷ filter (unlike v) vs))
two_first v w vs = by (same_value v w) refl
  where
    tells : (b : Bool) → same_value v w ≡ b → same_value w v ≡ b
    tells true e = let is = tied v w e in subst (λ u. same_value w u ≡ true) (sym is) (same_itself w)
    tells false e = other (same_value w v) refl
      where
        other : (b : Bool) → same_value w v ≡ b → b ≡ false
        other false f = refl
        other true f = let is = tied w v f in sym (subst (λ u. same_value u w ≡ true) is (same_itself w)) ∙ e

    by : (b : Bool) → same_value v w ≡ b → Shuffle (v ∷ filter (unlike v) (w ∷ filter (unlike w) vs)) (w ∷ filter (unlike w) (v ∷ filter (unlike v) vs))
    by true e =
        let here : unlike v w ≡ false = ap not e in
        let there : unlike w v ≡ false = ap not (tells true e) in
        rw (here, there) (subst (λ u. Shuffle (v ∷ filter (unlike v) (filter (unlike u) vs)) (u ∷ filter (unlike u) (filter (unlike v) vs))) (tied v w e) (same (v ∷ filter (unlike v) (filter (unlike v) vs))))
    by false e =
        let here : unlike v w ≡ true = ap not e in
        let there : unlike w v ≡ true = ap not (tells false e) in
        rw (here, there) (subst (λ zs. Shuffle (v ∷ w ∷ filter (unlike v) (filter (unlike w) vs)) (w ∷ v ∷ zs)) (filters_cross (unlike v) (unlike w) vs) (flip v w (filter (unlike v) (filter (unlike w) vs))))

pub without_shuffled : {xs ys : List Value} → Shuffle xs ys → Shuffle (without_repeats xs) (without_repeats ys)
without_shuffled empty = empty
without_shuffled (under x s) = under x (filtered (unlike x) (without_shuffled s))
without_shuffled (flip x y xs) = two_first x y (without_repeats xs)
without_shuffled (onward s t) = onward (without_shuffled s) (without_shuffled t)
