-- Collections in canonical form, and what is found in them.
use Rattle.std.proofs.Common.{◌≡◌, ℕ, ◌+◌, ◌-◌, ◌<◌, ⊎_elim, Bool, true, false, cond, List, [], ◌∷◌, length, take, get_or, find, Option, Some, None, Result, Ok, Err, MatchOption, slice_get, Bor, refl, sym, ap, ap₂, ◌&&◌, subst, ◌∙◌, arith, true≢false, Ordering, Less, Equal, Greater, is_lt, is_le, is_gt, is_ge, is_eq, is_ok}
use Rattle.std.specs.List.{All, AllByRecursion, Contains, list_all, list_any}
use Rattle.std.specs.List.Sorted.{IsBinarySearchResult, IsSearchInRange}
use Rattle.std.specs.Option.{option_copied}
use Rattle.std.specs.Ordering.{ordering_reverse}
use Rattle.std.proofs.lemmas.Bool.{cases_lt, and_parts}
use Rattle.std.proofs.lemmas.List.Elements.{All-contains, All-more, All-weaker, All-from_recursion, Contains-append_cases, Contains-append_left, Contains-append_right, Contains-get_or, Contains-push, Contains-push_cases, recursion_from_All, All-from_all_within}
use Rattle.std.proofs.lemmas.Cmp.{tied_itself, upto}
use Rattle.std.proofs.lemmas.List.Folds.{list_any_none, list_any-from_Any}
use Rattle.std.proofs.lemmas.List.Sorted.{searchable_from_sorted}
use Rattle.kl_base.specs.Sorted.{IsRising}
use Rattle.kl_value.specs.Order.{compare}
use Rattle.kl_value.specs.declared.Value.{Value}
use Rattle.kl_value.specs.contracts.value.ValueOrd.TheImpl as derived
use Rattle.kl_value.specs.contracts.value.ValuePartialEq.TheImpl as equality
use Rattle.kl_value.proofs.OrderLemmas.{compare_total, compare_exact, derived_is}
use Rattle.kl_base.proofs.SortedLemmas.{IsSorted-from_rising}
use Rattle.kl_value.proofs.CanonLemmas.{eq_is}
use Rattle.kl_prim.specs.Meaning.{extreme}
use Rattle.kl_base.proofs.Orders.{turned, opposite}

derived_same : derived.ghosts.cmp ≡ compare
derived_same = λ i v w. derived_is v w i

-- ---- looking for an item

same_eq : (v : Value) → let R : (Value → Bool) → (Value → Bool) → Type 0 = λ f g. f ≡ g in R (λ w. equality.ghosts.eq w v) (λ w. is_eq (compare w v))
same_eq v = λ i w. eq_is w v i

pub contained : (v : Value) (vs : List Value) → list_any (λ w. equality.ghosts.eq w v) vs ≡ list_any (λ w. is_eq (compare w v)) vs
contained v vs = ap (λ test. list_any test vs) (same_eq v)

-- what a binary search finds is there
searched_in : (v : Value) (vs : List Value) (r : Result ℕ ℕ) → IsRising compare vs → IsSearchInRange r (length vs)
    → IsBinarySearchResult (λ w. compare w v) vs r → is_ok r ≡ list_any (λ w. is_eq (compare w v)) vs
searched_in v vs (Ok i) up within at =
    let there = Contains-get_or vs i v within in
    sym (list_any-from_Any (λ w. is_eq (compare w v)) vs (there.0, get_or vs i v, there.1, there.2, ap is_eq (at v)))
searched_in v vs (Err i) up within at =
    let parted = at (searchable_from_sorted compare_total (λ w. w) vs v (IsSorted-from_rising compare compare_total compare_exact vs up)) in
    sym (list_any_none (λ w. is_eq (compare w v)) vs
    (All-from_all_within (λ w. is_eq (compare w v) ≡ false) vs
    (λ k d low high. ⊎_elim (λ p. ap is_eq (parted.0 k d low p)) (λ p. ap is_eq (parted.1 k d p high)) (cases_lt k i))))

pub searched : (v : Value) (vs : List Value) (r : Result ℕ ℕ) → IsRising compare vs → IsSearchInRange r (length vs)
    → IsBinarySearchResult (λ w. derived.ghosts.cmp w v) vs r → is_ok r ≡ list_any (λ w. is_eq (compare w v)) vs
searched v vs r up within at = searched_in v vs r up within (subst (λ R. IsBinarySearchResult (λ w. R w v) vs r) derived_same at)

-- ---- the least and the greatest item

opposite_lt : (o : Ordering) → is_lt o ≡ true → is_gt o ≡ false
opposite_lt Less h = refl
opposite_lt Equal h = refl
opposite_lt Greater h = absurd (true≢false (sym h))

abbrev pub Low : Value → Value → Type 0
Low v w = is_gt (compare v w) ≡ false

abbrev pub High : Value → Value → Type 0
High v w = is_gt (compare w v) ≡ false

itself : (v : Value) → Low v v
itself v = ap is_gt (tied_itself compare_total v)

pub low_takes : (vs : List Value) (i : ℕ) (v m : Value) → i < length vs → v ≡ get_or vs i v → is_lt (compare v m) ≡ true
    → All (Low m) (take i vs) → All (Low v) (take (i + 1) vs)
low_takes vs i v m within at less all =
    All-more (Low v) vs i v within (All-weaker (Low m) (Low v) (λ w. upto compare_total v m w (opposite_lt _ less)) (take i vs) all) (subst (Low v) at (itself v))

pub low_keeps : (vs : List Value) (i : ℕ) (v m : Value) → i < length vs → v ≡ get_or vs i v → is_lt (compare v m) ≡ false
    → All (Low m) (take i vs) → All (Low m) (take (i + 1) vs)
low_keeps vs i v m within at more all =
    All-more (Low m) vs i v within all (subst (Low m) at (ap is_gt (compare_total.antisymm m v) ∙ turned _ more))

pub high_takes : (vs : List Value) (i : ℕ) (v m : Value) → i < length vs → v ≡ get_or vs i v → is_gt (compare v m) ≡ true
    → All (High m) (take i vs) → All (High v) (take (i + 1) vs)
high_takes vs i v m within at more all =
    All-more (High v) vs i v within
    (All-weaker (High m) (High v) (λ w h. upto compare_total w m v h (ap is_gt (compare_total.antisymm m v) ∙ opposite _ more)) (take i vs) all)
    (subst (High v) at (itself v))

pub high_keeps : (vs : List Value) (i : ℕ) (v m : Value) → i < length vs → v ≡ get_or vs i v → is_gt (compare v m) ≡ false
    → All (High m) (take i vs) → All (High m) (take (i + 1) vs)
high_keeps vs i v m within at less all = All-more (High m) vs i v within all (subst (High m) at less)

here : (v : Value) (vs : List Value) → Contains (v ∷ vs) v
here v vs = Contains-append_left (v ∷ []) vs v (Contains-push [] v)

there : (v : Value) (vs : List Value) (w : Value) → Contains vs w → Contains (v ∷ vs) w
there v vs w c = Contains-append_right (v ∷ []) vs w c

nothing : (w : Value) → Contains [] w → ⊥
nothing w c = let below = c.1 in omega arith

further : (v : Value) (vs : List Value) (w : Value) → (v ≡ w → ⊥) → Contains (v ∷ vs) w → Contains vs w
further v vs w other c =
    ⊎_elim (λ first. ⊎_elim (λ none. absurd (nothing w none)) (λ same. absurd (other same)) (Contains-push_cases [] v w first)) (λ rest. rest)
    (Contains-append_cases (v ∷ []) vs w c)

module _ (p : Value → Bool) (m : Value) (yes : p m ≡ true) where
  -- what alone passes a test is found
  found_is : (vs : List Value) → ((v : Value) → Contains vs v → p v ≡ true → v ≡ m) → Contains vs m → find p vs ≡ Some m
  found_is [] only c = absurd (nothing m c)
  found_is (v ∷ vs) only c =
      elim (p v) as (λ b. p v ≡ b → cond b (Some v) (find p vs) ≡ Some m) [
        | true ↦ λ e. ap (λ w. Some w) (only v (here v vs) e)
        | false ↦ λ e. found_is vs (λ w d. only w (there v vs w d)) (further v vs m (λ same. true≢false (sym yes ∙ (ap p (sym same) ∙ e))) c)
      ] refl

all_pass : (p : Value → Bool) (vs : List Value) → AllByRecursion (λ v. p v ≡ true) vs → list_all p vs ≡ true
all_pass p [] h = refl
all_pass p (v ∷ vs) h = ap₂ ◌&&◌ h.0 (all_pass p vs h.1)

each_passes : (p : Value → Bool) (vs : List Value) → list_all p vs ≡ true → AllByRecursion (λ v. p v ≡ true) vs
each_passes p [] h = tt
each_passes p (v ∷ vs) h = let parts = and_parts (p v) (list_all p vs) h in (parts.0, each_passes p vs parts.1)

passes : (p : Value → Bool) (vs : List Value) (v : Value) → list_all p vs ≡ true → Contains vs v → p v ≡ true
passes p vs v h c = All-contains (λ w. p w ≡ true) vs v (All-from_recursion (λ w. p w ≡ true) vs (each_passes p vs h)) c

-- Of a test that two different values do not pass both ways: the item that passes it beside each is the extreme.
module _ (test : Ordering → Bool) (tie : (o : Ordering) → test o ≡ true → test (ordering_reverse o) ≡ true → o ≡ Equal) where
  extreme_is : (vs : List Value) (m : Value) → Contains vs m → All (λ w. test (compare m w) ≡ true) vs → extreme test vs ≡ Some m
  extreme_is vs m c all =
      found_is (λ v. list_all (λ w. test (compare v w)) vs) m
      (all_pass (λ w. test (compare m w)) vs (recursion_from_All (λ w. test (compare m w) ≡ true) vs all))
      vs
      (λ v d h. compare_exact v m
      (tie _ (passes (λ w. test (compare v w)) vs m h c)
      (ap test (sym (compare_total.antisymm m v)) ∙ All-contains (λ w. test (compare m w) ≡ true) vs v all d)))
      c

tie_le : (o : Ordering) → is_le o ≡ true → is_le (ordering_reverse o) ≡ true → o ≡ Equal
tie_le Less h k = absurd (true≢false (sym k))
tie_le Equal h k = refl
tie_le Greater h k = absurd (true≢false (sym h))

tie_ge : (o : Ordering) → is_ge o ≡ true → is_ge (ordering_reverse o) ≡ true → o ≡ Equal
tie_ge Less h k = absurd (true≢false (sym h))
tie_ge Equal h k = refl
tie_ge Greater h k = absurd (true≢false (sym k))

le_from : (o : Ordering) → is_gt o ≡ false → is_le o ≡ true
le_from Less h = refl
le_from Equal h = refl
le_from Greater h = absurd (true≢false h)

ge_from : (o : Ordering) → is_gt (ordering_reverse o) ≡ false → is_ge o ≡ true
ge_from Less h = absurd (true≢false h)
ge_from Equal h = refl
ge_from Greater h = refl

lowest_is : (vs : List Value) (m : Value) → Contains vs m → All (Low m) vs → extreme is_le vs ≡ Some m
lowest_is vs m c all = extreme_is is_le tie_le vs m c (All-weaker (Low m) (λ w. is_le (compare m w) ≡ true) (λ w h. le_from _ h) vs all)

highest_is : (vs : List Value) (m : Value) → Contains vs m → All (High m) vs → extreme is_ge vs ≡ Some m
highest_is vs m c all =
    extreme_is is_ge tie_ge vs m c
    (All-weaker (High m) (λ w. is_ge (compare m w) ≡ true) (λ w h. ge_from _ (ap is_gt (sym (compare_total.antisymm w m)) ∙ h)) vs all)

-- as the walks of a list give them
pub found_low : (vs : List Value) (r : Option (Bor Value)) → MatchOption r (vs ≡ []) (λ v. Contains vs v.now × All (Low v.now) vs)
    → option_copied r ≡ extreme is_le vs
found_low vs (Some v) h = sym (lowest_is vs v.now h.0 h.1)
found_low vs None h = sym (ap (extreme is_le) h)

pub found_high : (vs : List Value) (r : Option (Bor Value)) → MatchOption r (vs ≡ []) (λ v. Contains vs v.now × All (High v.now) vs)
    → option_copied r ≡ extreme is_ge vs
found_high vs (Some v) h = sym (highest_is vs v.now h.0 h.1)
found_high vs None h = sym (ap (extreme is_ge) h)

-- the first and the last of a rising list
pub first_low : (vs : List Value) → IsRising compare vs → slice_get vs 0 ≡ extreme is_le vs
first_low [] up = refl
first_low (v ∷ vs) up = sym (lowest_is (v ∷ vs) v (here v vs) (All-from_recursion (Low v) (v ∷ vs) (itself v, up.0)))

abbrev last_of : Value → List Value → Value
last_of v [] = v
last_of v (w ∷ ws) = last_of w ws

last_there : (v : Value) (vs : List Value) → Contains (v ∷ vs) (last_of v vs)
last_there v [] = here v []
last_there v (w ∷ ws) = there v (w ∷ ws) (last_of w ws) (last_there w ws)

last_above : (v : Value) (vs : List Value) → IsRising compare (v ∷ vs) → AllByRecursion (High (last_of v vs)) (v ∷ vs)
last_above v [] up = (itself v, tt)
last_above v (w ∷ ws) up =
    (All-contains (Low v) (w ∷ ws) (last_of w ws) (All-from_recursion (Low v) (w ∷ ws) up.0) (last_there w ws), last_above w ws up.1)

last_get : (v : Value) (vs : List Value) → slice_get (v ∷ vs) (length vs) ≡ Some (last_of v vs)
last_get v [] = refl
last_get v (w ∷ ws) = last_get w ws

pub last_high : (vs : List Value) → IsRising compare vs → slice_get vs (length vs - 1) ≡ extreme is_ge vs
last_high [] up = refl
last_high (v ∷ vs) up =
    let end : length (v ∷ vs) - 1 ≡ length vs = omega arith in
    ap (slice_get (v ∷ vs)) end
    ∙ (last_get v vs
    ∙ sym (highest_is (v ∷ vs) (last_of v vs) (last_there v vs) (All-from_recursion (High (last_of v vs)) (v ∷ vs) (last_above v vs up))))
