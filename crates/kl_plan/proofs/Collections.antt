-- Drawings that are alike give one collection, and a collection's items are alike to what it was made of.
use Rattle.std.proofs.Common.{◌≡◌, ◌⊎◌, inl, inr, ⊎_elim, ℕ, zero, suc, ◌+◌, ◌≤◌, ◌<◌, min, Bool, true, false, cond, List, [], ◌∷◌, refl, sym, ap, subst, ◌∙◌, arith, Ordering, is_gt}
use Rattle.std.specs.List.{sum_by, Contains, dedup, dedup_from, IsDistinct, AllByRecursion}
use Rattle.std.proofs.lemmas.List.Sorted.{IsPermutation-refl, IsPermutation-sym, IsPermutation-cons, IsPermutation-trans, IsPermutation-middle}
use Rattle.std.proofs.lemmas.Map.Keys.{IsDistinct-IsPermutation}
use Rattle.std.specs.List.Sorted.{IsPermutation}
use Rattle.std.proofs.lemmas.Cmp.{eq_by_cmp_equiv}
use Rattle.kl_ask.specs.Driver.{same_value}
use Rattle.std.specs.Ordering.{eq_by_cmp}
use Rattle.std.proofs.lemmas.Bool.{cases_eq}
use Rattle.std.proofs.lemmas.List.Sums.{sum_by-cons}
use Rattle.std.proofs.lemmas.List.Elements.{Contains-append_left, Contains-append_right, Contains-push, Contains-push_cases, Contains-append_cases}
use Rattle.kl_base.specs.Sorted.{put_in, sorted}
use Rattle.kl_base.proofs.SortedLemmas.{contains_from_count, count_from_contains, members-to, members-from}
use Rattle.kl_value.specs.Canon.{canonical}
use Rattle.kl_value.specs.Order.{compare}
use Rattle.kl_value.proofs.OrderLemmas.{compare_total, compare_exact}
use Rattle.kl_value.proofs.CanonLemmas.{canonical_is, canonical_only}
use Rattle.kl_value.specs.declared.Kind.{Kind}
use Rattle.kl_value.specs.declared.Kind.TheVariants as kind
use Rattle.kl_value.specs.declared.Value.{Value}
use Rattle.kl_type.specs.Ground.{Ground}
use Rattle.kl_outcome.specs.Outcome.{done, over, Flow, End, more, stop, fine, overflow, broken, flow, items_in, end_in, kept, gathered, collected, items_of}
use Rattle.kl_outcome.proofs.Drawing.{items_canonical}
use Rattle.kl_outcome.proofs.Flows.{flow_items, flow_is}
use Rattle.kl_outcome.proofs.OutcomeTypes.{FlowOf}
use Rattle.kl_plan.specs.Alike.{harm, IsAlike, Alike}

-- ---- sums over sorted items, and over those without repeats

sum-put_in : (R : Value → Value → Ordering) (w : Value → ℕ) (x : Value) (ys : List Value) → sum_by w (put_in R x ys) ≡ w x + sum_by w ys
sum-put_in R w x [] = sum_by-cons w x []
sum-put_in R w x (y ∷ ys) =
    elim (is_gt (R x y)) as (λ b. sum_by w (cond b (y ∷ put_in R x ys) (x ∷ y ∷ ys)) ≡ w x + sum_by w (y ∷ ys)) [
      | true ↦ omega (arith, sum_by-cons w y (put_in R x ys), sum-put_in R w x ys, sum_by-cons w y ys)
      | false ↦ sum_by-cons w x (y ∷ ys)
    ]

pub sum-sorted : (R : Value → Value → Ordering) (w : Value → ℕ) (xs : List Value) → sum_by w (sorted R xs) ≡ sum_by w xs
sum-sorted R w [] = refl
sum-sorted R w (x ∷ xs) = omega (arith, sum-put_in R w x (sorted R xs), sum-sorted R w xs, sum_by-cons w x xs)

abbrev Heavy : (Value → ℕ) → List Value → Type 0
Heavy w xs = (x : Value) × Contains xs x × (0 < w x)

heavy : (w : Value → ℕ) (xs : List Value) → 0 < sum_by w xs → Heavy w xs
heavy w [] p = absurd (omega arith)
heavy w (x ∷ xs) p = ⊎_elim
    (λ z. let h = heavy w xs (omega (arith, z, p, sum_by-cons w x xs)) in (h.0, Contains-append_right (x ∷ []) xs h.0 h.1, h.2))
    (λ n. (x, Contains-append_left (x ∷ []) xs x (Contains-push [] x), some_weight (w x) n))
    (cases_eq (w x) 0)
  where
    some_weight : (m : ℕ) → (m ≡ 0 → ⊥) → 0 < m
    some_weight zero n = absurd (n refl)
    some_weight (suc m) n = omega arith

here_weighs : (w : Value → ℕ) (y x : Value) (ys : List Value) → Contains (y ∷ []) x → w x ≤ sum_by w (y ∷ ys)
here_weighs w y x ys d = ⊎_elim
    (λ none. absurd (let below = none.1 in omega arith))
    (λ same. let e : w y ≡ w x = ap w same in omega (arith, sum_by-cons w y ys))
    (Contains-push_cases [] y x d)

adds_up : (w : Value → ℕ) (xs : List Value) (x : Value) → Contains xs x → w x ≤ sum_by w xs
adds_up w [] x c = absurd (let below = c.1 in omega arith)
adds_up w (y ∷ ys) x c = ⊎_elim (here_weighs w y x ys) (λ d. omega (arith, adds_up w ys x d, sum_by-cons w y ys)) (Contains-append_cases (y ∷ []) ys x c)

one_sign : (a b : ℕ) → (0 < a → 0 < b) → (0 < b → 0 < a) → min 1 a ≡ min 1 b
one_sign zero zero to from = refl
one_sign zero (suc b) to from = absurd (let z : 0 < 0 = from (omega arith) in omega arith)
one_sign (suc a) zero to from = absurd (let z : 0 < 0 = to (omega arith) in omega arith)
one_sign (suc a) (suc b) to from = omega arith

-- the same members
abbrev Members : List Value → List Value → Type 0
Members xs ys = ((x : Value) → Contains xs x → Contains ys x) × ((x : Value) → Contains ys x → Contains xs x)

sum_members : (w : Value → ℕ) (xs ys : List Value) → Members xs ys → min 1 (sum_by w xs) ≡ min 1 (sum_by w ys)
sum_members w xs ys m = one_sign _ _
    (λ p. let h = heavy w xs p in let low = adds_up w ys h.0 (m.0 h.0 h.1) in let some = h.2 in omega arith)
    (λ p. let h = heavy w ys p in let low = adds_up w xs h.0 (m.1 h.0 h.1) in let some = h.2 in omega arith)

pub sum_set : (w : Value → ℕ) (xs : List Value) → min 1 (sum_by w (dedup (eq_by_cmp compare) (sorted compare xs))) ≡ min 1 (sum_by w xs)
sum_set w xs = sum_members w _ xs (members-to compare compare_total compare_exact xs, members-from compare compare_total compare_exact xs)

-- ---- one collection

pub same_bag : (xs ys : List Value) → ((w : Value → ℕ) → sum_by w ys ≡ sum_by w xs) → canonical kind.Bag ys ≡ canonical kind.Bag xs
same_bag xs ys h = let c = canonical_is kind.Bag ys in canonical_only kind.Bag xs (canonical kind.Bag ys) (c.0, c.1, c.2, λ q. c.3 q ∙ h (λ y. cond (eq_by_cmp compare q y) 1 0))

moved : (xs ys : List Value) → ((w : Value → ℕ) → min 1 (sum_by w ys) ≡ min 1 (sum_by w xs)) → (x : Value) → Contains ys x → Contains xs x
moved xs ys h x c =
    let some : 0 < sum_by (λ y. cond (eq_by_cmp compare x y) 1 0) ys = count_from_contains compare compare_total compare_exact x ys c in
    let same = h (λ y. cond (eq_by_cmp compare x y) 1 0) in
    contains_from_count compare compare_total compare_exact x xs (omega arith)

pub same_set : (xs ys : List Value) → ((w : Value → ℕ) → min 1 (sum_by w ys) ≡ min 1 (sum_by w xs)) → canonical kind.Set ys ≡ canonical kind.Set xs
same_set xs ys h =
    let c = canonical_is kind.Set ys in
    canonical_only kind.Set xs (canonical kind.Set ys)
    (c.0, c.1, c.2, λ q. (λ m. moved xs ys h q ((c.3 q).0 m), λ m. (c.3 q).1 (moved ys xs (λ w. sym (h w)) q m)))

pub ends_as : (t : Ground) (f : Flow) → FlowOf t f → ((end_in f ≡ fine) × (harm f ≡ 0)) ⊎ ((end_in f ≡ overflow) × (harm f ≡ 1))
ends_as t (more v f) h = ends_as t f h.1
ends_as t (stop fine) h = inl (refl, refl)
ends_as t (stop overflow) h = inr (refl, refl)
ends_as t (stop broken) h = absurd h

pub collected_as : (k : Kind) (f : Flow) (e : End) → end_in f ≡ e → collected k f ≡ gathered k e (items_in f)
collected_as k f e h = ap (λ d. gathered k d (items_in f)) h

abbrev Sorts : Kind → Type 0
Sorts k = (xs : List Value) → kept k xs ≡ []

module _ (k : Kind) (c : ℕ → ℕ) (sorts : Sorts k) (one : (xs ys : List Value) → ((w : Value → ℕ) → c (sum_by w ys) ≡ c (sum_by w xs)) → canonical k ys ≡ canonical k xs) where
  same_by : (t : Ground) (f g : Flow) → FlowOf t f → FlowOf t g → IsAlike c f g → collected k g ≡ collected k f
  same_by t f g hf hg p = ⊎_elim
      (λ a. ⊎_elim
      (λ b. collected_as k g fine b.0 ∙ ap done (one (items_in f) (items_in g) (p.same a.1)) ∙ sym (collected_as k f fine a.0))
      (λ b. absurd (let x = p.end in let y = a.1 in let z = b.1 in omega arith))
      (ends_as t g hg))
      (λ a. ⊎_elim
      (λ b. absurd (let x = p.end in let y = a.1 in let z = b.1 in omega arith))
      (λ b. collected_as k g overflow b.0 ∙ ap over (sorts (items_in g) ∙ sym (sorts (items_in f))) ∙ sym (collected_as k f overflow a.0))
      (ends_as t g hg))
      (ends_as t f hf)

-- drawings that are alike give one collection
pub alike_same : (k : Kind) (t : Ground) (f g : Flow) → FlowOf t f → FlowOf t g → Alike k f g → collected k g ≡ collected k f
alike_same kind.Set t f g hf hg p = same_by kind.Set (min 1) (λ xs. refl) same_set t f g hf hg p
alike_same kind.Bag t f g hf hg p = same_by kind.Bag (λ n. n) (λ xs. refl) same_bag t f g hf hg p
alike_same kind.List t f g hf hg p = ap (collected kind.List) p

-- ---- the items of a collection

pub harm_flow : (xs : List Value) → harm (flow xs fine) ≡ 0
harm_flow [] = refl
harm_flow (x ∷ xs) = harm_flow xs

module _ (k : Kind) (c : ℕ → ℕ) (sorts : Sorts k) (form : List Value → List Value) (reads : (xs : List Value) → items_of (done (canonical k xs)) ≡ flow (form xs) fine)
    (counts : (w : Value → ℕ) (xs : List Value) → c (sum_by w (form xs)) ≡ c (sum_by w xs)) where
  items_by : (t : Ground) (f : Flow) → FlowOf t f → IsAlike c f (items_of (collected k f))
  items_by t f h = ⊎_elim
      (λ a. let is : items_of (collected k f) ≡ flow (form (items_in f)) fine = ap items_of (collected_as k f fine a.0) ∙ reads (items_in f) in
      subst (IsAlike c f) (sym is) (record {
        end = harm_flow (form (items_in f)) ∙ sym a.1;
        same = λ z w. ap (λ vs. c (sum_by w vs)) (flow_items (form (items_in f)) fine) ∙ counts w (items_in f);
      }))
      (λ a. let is : items_of (collected k f) ≡ stop overflow = ap items_of (collected_as k f overflow a.0) ∙ ap (λ vs. flow vs overflow) (sorts (items_in f)) in
      subst (IsAlike c f) (sym is) (record { end = sym a.1; same = λ z w. absurd (let y = a.1 in omega arith) }))
      (ends_as t f h)

list_items : (t : Ground) (f : Flow) → FlowOf t f → items_of (collected kind.List f) ≡ f
list_items t f h = ⊎_elim
    (λ a. ap items_of (collected_as kind.List f fine a.0) ∙ items_canonical kind.List (items_in f) ∙ ap (flow (items_in f)) (sym a.0) ∙ sym (flow_is f))
    (λ a. ap items_of (collected_as kind.List f overflow a.0) ∙ ap (flow (items_in f)) (sym a.0) ∙ sym (flow_is f))
    (ends_as t f h)

-- the items of a collection are alike to those that it was made of
pub alike_items : (k : Kind) (t : Ground) (f : Flow) → FlowOf t f → Alike k f (items_of (collected k f))
alike_items kind.Set t f h = items_by kind.Set (min 1) (λ xs. refl) (λ xs. dedup (eq_by_cmp compare) (sorted compare xs)) (items_canonical kind.Set) sum_set t f h
alike_items kind.Bag t f h = items_by kind.Bag (λ n. n) (λ xs. refl) (sorted compare) (items_canonical kind.Bag) (λ w xs. sum-sorted compare w xs) t f h
alike_items kind.List t f h = list_items t f h

-- ---- rows that do not repeat

perm-put_in : (R : Value → Value → Ordering) (x : Value) (ys : List Value) → IsPermutation (x ∷ ys) (put_in R x ys)
perm-put_in R x [] = IsPermutation-refl (x ∷ [])
perm-put_in R x (y ∷ ys) =
    elim (is_gt (R x y)) as (λ b. IsPermutation (x ∷ y ∷ ys) (cond b (y ∷ put_in R x ys) (x ∷ y ∷ ys))) [
      | true ↦ IsPermutation-trans (x ∷ y ∷ ys) (y ∷ x ∷ ys) (y ∷ put_in R x ys) (IsPermutation-sym (y ∷ x ∷ ys) (x ∷ y ∷ ys) (IsPermutation-middle (y ∷ []) x ys)) (IsPermutation-cons y (x ∷ ys) (put_in R x ys) (perm-put_in R x ys))
      | false ↦ IsPermutation-refl (x ∷ y ∷ ys)
    ]

perm-sorted : (R : Value → Value → Ordering) (xs : List Value) → IsPermutation xs (sorted R xs)
perm-sorted R [] = IsPermutation-refl []
perm-sorted R (x ∷ xs) = IsPermutation-trans (x ∷ xs) (x ∷ sorted R xs) (put_in R x (sorted R xs)) (IsPermutation-cons x xs (sorted R xs) (perm-sorted R xs)) (perm-put_in R x (sorted R xs))

abbrev E : Value → Value → Bool
E = eq_by_cmp compare

flips : (x y : Value) → E x y ≡ E y x
flips x y = (eq_by_cmp_equiv compare_total).symm x y

kept_distinct : (k : Value) (xs : List Value) → AllByRecursion (λ y. E k y ≡ false) xs → IsDistinct E xs → dedup_from E k xs ≡ k ∷ xs
unfolding IsDistinct
kept_distinct k [] h d = refl
kept_distinct k (x ∷ xs) h d = ap (λ b. cond b (dedup_from E k xs) (k ∷ dedup_from E x xs)) (flips x k ∙ h.0) ∙ ap (λ ys. k ∷ ys) (kept_distinct x xs d.0 d.1)

dedup_distinct : (xs : List Value) → IsDistinct E xs → dedup E xs ≡ xs
unfolding IsDistinct
dedup_distinct [] d = refl
dedup_distinct (x ∷ xs) d = kept_distinct x xs d.0 d.1

-- the items of a set of rows that do not repeat are these rows in another order
pub alike_distinct : (rows : List Value) → IsDistinct same_value rows → Alike kind.Bag (items_of (done (canonical kind.Set rows))) (flow rows fine)
alike_distinct rows d =
    let still : dedup E (sorted compare rows) ≡ sorted compare rows = dedup_distinct (sorted compare rows) (IsDistinct-IsPermutation E flips rows (sorted compare rows) (perm-sorted compare rows) d) in
    let is : items_of (done (canonical kind.Set rows)) ≡ flow (sorted compare rows) fine = items_canonical kind.Set rows ∙ ap (λ vs. flow vs fine) still in
    subst (λ g. IsAlike (λ n. n) g (flow rows fine)) (sym is) (record {
      end = harm_flow rows ∙ sym (harm_flow (sorted compare rows));
      same = λ z w. ap (sum_by w) (flow_items rows fine) ∙ sym (sum-sorted compare w rows) ∙ sym (ap (sum_by w) (flow_items (sorted compare rows) fine));
    })
