-- A stable sort leaves a list in its one rising order, and those that tie as they came.
use Rattle.std.proofs.Common.{◌≡◌, Bool, true, false, not, ◌&&◌, cond, List, [], ◌∷◌, refl, sym, ap, ap₂, subst, ◌∙◌, true≢false, Ordering, Equal, is_lt, is_gt, is_eq}
use Rattle.std.specs.Cmp.{IsTotalOrder}
use Rattle.std.specs.List.{AllByRecursion, filter}
use Rattle.std.specs.List.Sorted.{IsSortedBy, IsStableBy, ties}
use Rattle.std.specs.Ordering.{ordering_reverse}
use Rattle.std.proofs.lemmas.Cmp.{tied_itself, alike_right}
use Rattle.kl_base.specs.Sorted.{IsRising, put_in, sorted}
use Rattle.kl_base.proofs.SortedLemmas.{IsRising-from_sorted, IsRising-sorted}
use Rattle.kl_base.proofs.Orders.{even_turned, neither, tied, ties_of}

abbrev head_or : {K : Type 0} → K → List K → K
head_or d [] = d
head_or d (x ∷ xs) = x

abbrev tail_of : {K : Type 0} → List K → List K
tail_of [] = []
tail_of (x ∷ xs) = xs

same_filter : {K : Type 0} (p q : K → Bool) → ((x : K) → p x ≡ q x) → (xs : List K) → filter p xs ≡ filter q xs
same_filter p q h [] = refl
same_filter p q h (x ∷ xs) = ap₂ (λ b F. cond b (x ∷ F) F) (h x) (same_filter p q h xs)

both_ways : {K : Type 0} (b c : Bool) (x y : K) (F : List K) → (b ≡ true → c ≡ true → ⊥) → cond c (y ∷ cond b (x ∷ F) F) (cond b (x ∷ F) F) ≡ cond b (x ∷ cond c (y ∷ F) F) (cond c (y ∷ F) F)
both_ways true true x y F n = absurd (n refl refl)
both_ways true false x y F n = refl
both_ways false true x y F n = refl
both_ways false false x y F n = refl

kept_tail : {K : Type 0} (b : Bool) (x : K) (F G : List K) → cond b (x ∷ F) F ≡ cond b (x ∷ G) G → F ≡ G
kept_tail true x F G e = ap tail_of e
kept_tail false x F G e = e

module _ {K : Type 0} (R : K → K → Ordering) (total : IsTotalOrder R) where
  abbrev alike : K → List K → List K
  alike q xs = filter (λ y. is_eq (R q y)) xs

  apart : (q x y : K) → is_gt (R x y) ≡ true → is_eq (R q x) ≡ true → is_eq (R q y) ≡ true → ⊥
  apart q x y above a b =
      let back : R y q ≡ Equal = total.antisymm y q ∙ ap ordering_reverse (tied _ b) in
      let near : R y x ≡ Equal = sym (alike_right total q x y (tied _ a)) ∙ back in
      let flat : R x y ≡ Equal = total.antisymm x y ∙ ap ordering_reverse near in
      true≢false (sym above ∙ ap is_gt flat)

  alike-put_in : (q x : K) (ys : List K) → alike q (put_in R x ys) ≡ alike q (x ∷ ys)
  alike-put_in q x [] = refl
  alike-put_in q x (y ∷ ys) =
      elim (is_gt (R x y)) as (λ b. is_gt (R x y) ≡ b → alike q (cond b (y ∷ put_in R x ys) (x ∷ y ∷ ys)) ≡ alike q (x ∷ y ∷ ys)) [
        | true ↦ λ e. ap (λ F. cond (is_eq (R q y)) (y ∷ F) F) (alike-put_in q x ys) ∙ both_ways (is_eq (R q x)) (is_eq (R q y)) x y (alike q ys) (λ a b. apart q x y e a b)
        | false ↦ λ e. refl
      ] refl

  alike-sorted : (q : K) (xs : List K) → alike q (sorted R xs) ≡ alike q xs
  alike-sorted q [] = refl
  alike-sorted q (x ∷ xs) = alike-put_in q x (sorted R xs) ∙ ap (λ F. cond (is_eq (R q x)) (x ∷ F) F) (alike-sorted q xs)

  first_has : (P : K → Type 0) (q x : K) (F ys : List K) → x ∷ F ≡ alike q ys → AllByRecursion P ys → P x
  first_has P q x F [] e all = let n : ⊥ = cc in absurd n
  first_has P q x F (y ∷ ys) e all = by_test (is_eq (R q y)) (λ d. first_has P q x F ys d all.1) e
    where
      by_test : (b : Bool) → (x ∷ F ≡ alike q ys → P x) → x ∷ F ≡ cond b (y ∷ alike q ys) (alike q ys) → P x
      by_test true later d = subst P (sym (ap (head_or x) d)) all.0
      by_test false later d = later d

  itself : (x : K) → is_eq (R x x) ≡ true
  itself x = ap is_eq (tied_itself total x)

  starts : (x : K) (xs : List K) → alike x (x ∷ xs) ≡ x ∷ alike x xs
  starts x xs = ap (λ b. cond b (x ∷ alike x xs) (alike x xs)) (itself x)

  tied_heads : (x y : K) (xs ys : List K) → IsRising R (x ∷ xs) → IsRising R (y ∷ ys) → ((q : K) → alike q (x ∷ xs) ≡ alike q (y ∷ ys)) → (b : Bool) → is_eq (R x y) ≡ b → is_eq (R x y) ≡ true
  tied_heads x y xs ys up vp same true e = e
  tied_heads x y xs ys up vp same false e =
      let other : is_eq (R y x) ≡ false = ap is_eq (total.antisymm y x) ∙ even_turned (R x y) ∙ e in
      let in_ys : x ∷ alike x xs ≡ alike x ys = sym (starts x xs) ∙ same x ∙ ap (λ b. cond b (y ∷ alike x ys) (alike x ys)) e in
      let in_xs : y ∷ alike y ys ≡ alike y xs = sym (starts y ys) ∙ sym (same y) ∙ ap (λ b. cond b (x ∷ alike y xs) (alike y xs)) other in
      let yx : is_gt (R y x) ≡ false = first_has (λ z. is_gt (R y z) ≡ false) x x _ ys in_ys vp.0 in
      let xy : is_gt (R x y) ≡ false = first_has (λ z. is_gt (R x z) ≡ false) y y _ xs in_xs up.0 in
      ap is_eq (neither (R x y) xy (ap is_gt (sym (total.antisymm y x)) ∙ yx))

  -- two rising lists in which those that tie stand in one order are one
  same_from_alike : (xs ys : List K) → IsRising R xs → IsRising R ys → ((q : K) → alike q xs ≡ alike q ys) → xs ≡ ys
  same_from_alike [] [] up vp same = refl
  same_from_alike [] (y ∷ ys) up vp same = let e : [] ≡ y ∷ alike y ys = same y ∙ starts y ys in let n : ⊥ = cc in absurd n
  same_from_alike (x ∷ xs) [] up vp same = let e : [] ≡ x ∷ alike x xs = sym (same x) ∙ starts x xs in let n : ⊥ = cc in absurd n
  same_from_alike (x ∷ xs) (y ∷ ys) up vp same =
      let tie = tied_heads x y xs ys up vp same _ refl in
      let heads : x ∷ alike x xs ≡ y ∷ alike x ys = sym (starts x xs) ∙ same x ∙ ap (λ b. cond b (y ∷ alike x ys) (alike x ys)) tie in
      let head : x ≡ y = ap (head_or x) heads in
      let tails : (q : K) → alike q xs ≡ alike q ys = λ q.
      kept_tail (is_eq (R q x)) x _ _ (same q ∙ ap (λ z. cond (is_eq (R q z)) (z ∷ alike q ys) (alike q ys)) (sym head)) in
      ap₂ ◌∷◌ head (same_from_alike xs ys up.1 vp.1 tails)

  ties_are : (x y : K) → ties (λ v w. is_lt (R v w)) x y ≡ is_eq (R x y)
  ties_are x y = ap (λ o. not (is_lt (R x y)) && not (is_lt o)) (total.antisymm y x) ∙ ties_of (R x y)

  -- what a stable sort leaves
  pub stable_is : (xs ys : List K) → IsSortedBy (λ v w. is_lt (R v w)) ys → IsStableBy (λ v w. is_lt (R v w)) xs ys → ys ≡ sorted R xs
  stable_is xs ys up stable =
      same_from_alike ys (sorted R xs) (IsRising-from_sorted R total ys up) (IsRising-sorted R total xs)
      (λ q. sym (same_filter _ _ (ties_are q) ys) ∙ stable q ∙ same_filter _ _ (ties_are q) xs ∙ sym (alike-sorted q xs))
