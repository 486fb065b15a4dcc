-- What a sort and a `dedup` of values leave.
use Rattle.std.proofs.Common.{◌≡◌, List, [], ◌∷◌, refl, sym, ap, subst, ◌∙◌, IsPermutation, IsSorted}
use Rattle.std.specs.List.{All, dedup}
use Rattle.std.proofs.lemmas.List.Elements.{recursion_from_All, All-from_recursion}
use Rattle.std.specs.List.Retain.{IsFiltered, DiffersFromLast}
use Rattle.std.specs.Ordering.{eq_by_cmp}
use Rattle.std.proofs.lemmas.List.Sorted.{IsPermutation-refl}
use Rattle.kl_value.specs.Views.{collection}
use Rattle.std.proofs.lemmas.List.Filters.{dedup_is, All-dedup}
use Rattle.kl_value.specs.Canon.{canonical, IsCanonicalOf}
use Rattle.kl_value.specs.Order.{compare}
use Rattle.kl_value.specs.IsCanonical.{IsCanonical}
use Rattle.kl_base.specs.Sorted.{sorted}
use Rattle.kl_value.specs.declared.value.Kind.{Kind}
use Rattle.kl_value.specs.declared.value.Kind.TheVariants as kind
use Rattle.kl_value.specs.declared.value.Value.{Value}
use Rattle.kl_value.specs.declared.value.Value.TheVariants as value
use Rattle.kl_value.specs.contracts.value.ValueOrd.TheImpl as derived
use Rattle.kl_value.specs.contracts.value.ValueOrd.TheImpl.Laws as laws
use Rattle.kl_value.specs.contracts.value.ValuePartialEq.TheImpl as equality
use Rattle.kl_value.proofs.IsCanonicalLemmas.{set_made, bag_made, list_made, set_strict, bag_rising, IsSorting, rising}
use Rattle.kl_value.proofs.OrderLemmas.{derived_is, compare_total, compare_exact}
use Rattle.kl_base.proofs.SortedLemmas.{IsSorted-from_rising, sorted_is, all-sorted, IsRising-sorted, count-sorted, same_from_counts, same_from_members, IsStrictlySortedBy-dedup_sorted, members-to, members-from}

-- no item, and one
pub canonical-nil : (k : Kind) → canonical k [] ≡ collection k []
unfolding canonical
canonical-nil kind.Set = refl
canonical-nil kind.Bag = refl
canonical-nil kind.List = refl

pub canonical-one : (k : Kind) (v : Value) → canonical k (v ∷ []) ≡ collection k (v ∷ [])
unfolding canonical
canonical-one kind.Set v = refl
canonical-one kind.Bag v = refl
canonical-one kind.List v = refl

-- the derived `==` of two values
pub eq_is : (v w : Value) → equality.ghosts.eq v w ≡ eq_by_cmp compare v w
eq_is v w = laws.matches_eq-law v w ∙ ap (λ R. eq_by_cmp R v w) (λ i v w. derived_is v w i)

pub sorted_values : (xs ys : List Value) → IsPermutation xs ys → IsSorted derived.ghosts.cmp ys → ys ≡ sorted compare xs
sorted_values xs ys moved up =
    sorted_is compare compare_total compare_exact xs ys moved (subst (λ R. IsSorted R ys) (λ i v w. derived_is v w i) up)

pub canonical_bag : (xs ys : List Value) → ys ≡ sorted compare xs → value.Bag ys ≡ canonical kind.Bag xs
unfolding canonical
canonical_bag xs ys up = ap value.Bag up

pub canonical_set : (xs ys zs : List Value) → ys ≡ sorted compare xs → IsFiltered (DiffersFromLast equality.ghosts.eq) [] ys zs → value.Set zs ≡ canonical kind.Set xs
unfolding canonical
canonical_set xs ys zs up kept =
    ap value.Set
    (dedup_is equality.ghosts.eq ys zs kept
    ∙ (ap (λ E. dedup E ys) (λ i v w. eq_is v w i) ∙ ap (dedup (eq_by_cmp compare)) up))

-- the canonical form is one as its description has it
pub canonical_is : (k : Kind) (xs : List Value) → IsCanonicalOf k xs (canonical k xs)
unfolding canonical
canonical_is kind.Set xs = (
  _,
  refl,
  IsStrictlySortedBy-dedup_sorted compare compare_total compare_exact xs,
  λ w. (members-to compare compare_total compare_exact xs w, members-from compare compare_total compare_exact xs w),
)
canonical_is kind.Bag xs = (_, refl, IsRising-sorted compare compare_total xs, λ w. count-sorted compare compare_total w xs)
canonical_is kind.List xs = refl

-- and the only one
pub canonical_only : (k : Kind) (xs : List Value) (v : Value) → IsCanonicalOf k xs v → v ≡ canonical k xs
unfolding canonical
canonical_only kind.Set xs v h =
    h.1
    ∙ ap value.Set
    (same_from_members compare compare_total compare_exact h.0 _ h.2 (IsStrictlySortedBy-dedup_sorted compare compare_total compare_exact xs)
    (λ w c. members-from compare compare_total compare_exact xs w ((h.3 w).0 c))
    (λ w c. (h.3 w).1 (members-to compare compare_total compare_exact xs w c)))
canonical_only kind.Bag xs v h =
    h.1
    ∙ ap value.Bag
    (same_from_counts compare compare_total compare_exact h.0 (sorted compare xs) h.2 (IsRising-sorted compare compare_total xs)
    (λ w. h.3 w ∙ sym (count-sorted compare compare_total w xs)))
canonical_only kind.List xs v h = h

pub canonical_keeps : (k : Kind) (xs : List Value) → All IsCanonical xs → IsCanonical (canonical k xs)
unfolding canonical
canonical_keeps kind.Set xs all =
    let sorted_all = all-sorted compare compare_total IsCanonical xs (recursion_from_All IsCanonical xs all) in
    set_made _
    (recursion_from_All IsCanonical (dedup (eq_by_cmp compare) (sorted compare xs))
    (All-dedup (eq_by_cmp compare) IsCanonical (sorted compare xs) (All-from_recursion IsCanonical (sorted compare xs) sorted_all)))
    (IsStrictlySortedBy-dedup_sorted compare compare_total compare_exact xs)
canonical_keeps kind.Bag xs all =
    bag_made _ (all-sorted compare compare_total IsCanonical xs (recursion_from_All IsCanonical xs all)) (IsRising-sorted compare compare_total xs)
canonical_keeps kind.List xs all = list_made xs (recursion_from_All IsCanonical xs all)

-- ---- the canonical form of items in canonical order

pub canonical_list : (xs : List Value) → value.List xs ≡ canonical kind.List xs
unfolding canonical
canonical_list xs = refl

pub set_again : (vs : List Value) → IsCanonical (value.Set vs) → value.Set vs ≡ canonical kind.Set vs
set_again vs h = canonical_only kind.Set vs (value.Set vs) (vs, refl, set_strict vs h, λ w. (λ c. c, λ c. c))

pub bag_again : (k : Kind) (vs : List Value) → IsCanonical (collection k vs) → IsSorting k → value.Bag vs ≡ canonical kind.Bag vs
bag_again k vs h s = canonical_only kind.Bag vs (value.Bag vs) (vs, refl, rising k vs h s, λ w. refl)

-- a bag without its repeats
pub set_of_bag : (vs ws : List Value) → IsCanonical (value.Bag vs) → IsFiltered (DiffersFromLast equality.ghosts.eq) [] vs ws → value.Set ws ≡ canonical kind.Set vs
set_of_bag vs ws h kept =
    canonical_set vs vs ws
    (sorted_is compare compare_total compare_exact vs vs (IsPermutation-refl vs) (IsSorted-from_rising compare compare_total compare_exact vs (bag_rising vs h)))
    kept
