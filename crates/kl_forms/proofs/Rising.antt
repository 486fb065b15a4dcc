-- Neighbours in order make a list in order, and the other way about.
use Rattle.std.proofs.Common.{◌≡◌, ◌↔◌, ℕ, zero, suc, ◌+◌, ◌<◌, Bool, true, false, IsTrue, List, [], ◌∷◌, length, get_or, refl, sym, ap, ◌∙◌, subst, arith, Ordering, Less, Equal, Greater, is_lt, is_le}
use Rattle.std.specs.Ordering.{ordering_reverse}
use Rattle.std.specs.Cmp.{IsTotalOrder}
use Rattle.std.specs.List.{AllByRecursion, IsAllAdjacentAnswer}
use Rattle.std.specs.List.Sorted.{IsStrictlySortedBy}
use Rattle.std.proofs.lemmas.Map.Keys.{sorted_head, sorted_tail, sorted_from_all_adjacent}
use Rattle.std.proofs.lemmas.Cmp.{on_total, nat_list_cmp_total}
use Rattle.kl_base.specs.Fields.{bytes_cmp, labels_of, LabelsRise}
use Rattle.kl_base.specs.Sorted.{IsRising}
use Rattle.kl_base.proofs.SortedLemmas.{IsRising-from_sorted, IsSorted-from_rising}
use Rattle.kl_value.specs.Order.{compare}
use Rattle.kl_value.specs.declared.Value.{Value}
use Rattle.kl_value.proofs.OrderLemmas.{compare_total, compare_exact}
use Rattle.kl_forms.specs.Constants.{ValueFields}
use Rattle.kl_base.proofs.Orders.{not_above}

less_is : (o : Ordering) → true ≡ is_lt o → o ≡ Less
less_is Less h = refl
less_is Equal h = let z : ⊥ = cc in absurd z
less_is Greater h = let z : ⊥ = cc in absurd z

not_less : (o : Ordering) → false ≡ is_lt o → o ≡ Less → ⊥
not_less o h e = let z : false ≡ true = h ∙ ap is_lt e in cc

module _ {X : Type 0} (R : X → X → Ordering) where
  strict_at : (xs : List X) → IsStrictlySortedBy R xs → (k : ℕ) (d : X) → k + 1 < length xs → R (get_or xs k d) (get_or xs (k + 1) d) ≡ Less
  strict_at [] up k d lt = absurd (omega arith)
  strict_at (x ∷ []) up zero d lt = absurd (omega arith)
  strict_at (x ∷ y ∷ xs) up zero d lt = (sorted_head R x (y ∷ xs) up).0
  strict_at (x ∷ xs) up (suc k) d lt =
      let e : suc k + 1 ≡ suc (k + 1) = omega arith in
      subst (λ j. R (get_or (x ∷ xs) (suc k) d) (get_or (x ∷ xs) j d) ≡ Less) (sym e) (strict_at xs (sorted_tail R x xs up) k d (omega arith))

  pub strict_is : IsTotalOrder R → (xs : List X) (r : Bool) → IsAllAdjacentAnswer (λ v w b. b ≡ is_lt (R v w)) xs r → IsTrue r ↔ IsStrictlySortedBy R xs
  unfolding IsStrictlySortedBy
  strict_is total [] true h = (λ e. tt, λ up. refl)
  strict_is total (x ∷ xs) true h = (λ e. sorted_from_all_adjacent total (x ∷ xs) x (λ k lt. less_is _ (h k x lt)), λ up. refl)
  strict_is total [] false h = absurd (let lt = h.1 in omega arith)
  strict_is total (x ∷ xs) false h = (λ e. absurd (let z : ⊥ = cc in z), λ up. absurd (not_less _ (h.2 x) (strict_at (x ∷ xs) up h.0 x h.1)))

abbrev by_label : List ℕ × Value → List ℕ × Value → Ordering
by_label f g = bytes_cmp f.0 g.0

by_label_total : IsTotalOrder by_label
by_label_total = on_total (λ (f : List ℕ × Value). f.0) nat_list_cmp_total

to_labels : (f : List ℕ × Value) (fs : ValueFields) → AllByRecursion (λ g. by_label f g ≡ Less) fs → AllByRecursion (λ l. bytes_cmp f.0 l ≡ Less) (labels_of fs)
to_labels f [] h = tt
to_labels f (g ∷ fs) h = (h.0, to_labels f fs h.1)

from_labels : (f : List ℕ × Value) (fs : ValueFields) → AllByRecursion (λ l. bytes_cmp f.0 l ≡ Less) (labels_of fs) → AllByRecursion (λ g. by_label f g ≡ Less) fs
from_labels f [] h = tt
from_labels f (g ∷ fs) h = (h.0, from_labels f fs h.1)

labels_to : (fs : ValueFields) → IsStrictlySortedBy by_label fs → LabelsRise fs
unfolding IsStrictlySortedBy
labels_to [] h = tt
labels_to (f ∷ fs) h = (to_labels f fs h.0, labels_to fs h.1)

labels_from : (fs : ValueFields) → LabelsRise fs → IsStrictlySortedBy by_label fs
unfolding IsStrictlySortedBy
labels_from [] h = tt
labels_from (f ∷ fs) h = (from_labels f fs h.0, labels_from fs h.1)

pub labels_is : (fs : ValueFields) (r : Bool) → IsAllAdjacentAnswer (λ f g b. b ≡ is_lt (bytes_cmp f.0 g.0)) fs r → IsTrue r ↔ LabelsRise fs
labels_is fs r h = let e = strict_is by_label by_label_total fs r h in (λ t. labels_to fs (e.0 t), λ up. e.1 (labels_from fs up))

above : (o : Ordering) → false ≡ is_le o → is_lt (ordering_reverse o) ≡ false → ⊥
above Less h e = cc
above Equal h e = cc
above Greater h e = cc

pub rising_is : (vs : List Value) (r : Bool) → IsAllAdjacentAnswer (λ v w b. b ≡ is_le (compare v w)) vs r → IsTrue r ↔ IsRising compare vs
rising_is vs true h = (λ e. IsRising-from_sorted compare compare_total vs (λ k d low within. ap is_lt (compare_total.antisymm _ _) ∙ not_above _ (h k d within)), λ up. refl)
rising_is [] false h = absurd (let lt = h.1 in omega arith)
rising_is (v ∷ vs) false h = (λ e. absurd (let z : ⊥ = cc in z), λ up. absurd (above _ (h.2 v) (sym (ap is_lt (compare_total.antisymm _ _)) ∙ IsSorted-from_rising compare compare_total compare_exact (v ∷ vs) up h.0 v (omega arith) h.1)))
