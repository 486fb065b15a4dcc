-- Look-ups of what is kept, and what is right of it.
use Rattle.std.proofs.Common.{◌≡◌, ℕ, zero, suc, Bool, true, false, List, [], ◌∷◌, map, take, nat_eq, cond, Decides, Option, Some, None, refl, sym, ap, ◌∙◌, subst, arith}
use Rattle.std.specs.Cmp.{Equal-is, tied_itself}
use Rattle.std.specs.Cmp.Lexicographic.{pointwise}
use Rattle.std.specs.List.{AllByRecursion, Contains, IsDistinct}
use Rattle.std.specs.Map.{lookup, lookup_entry, remove_entry}
use Rattle.std.specs.Option.{is_some, option_map_or}
use Rattle.std.proofs.lemmas.Bool.Decides.{Decides-and, Decides-like, Decides-eqb}
use Rattle.std.proofs.lemmas.List.{take-map}
use Rattle.std.proofs.lemmas.List.Elements.{Contains-append_right}
use Rattle.std.proofs.lemmas.Slice.Eq.{slice_eq-Decides}
use mathlib.Core.Path.{ap₂}
use Rattle.kl_value.proofs.OrderLemmas.{compare_exact, compare_total}
use Rattle.kl_value.specs.Order.{compare}
use Rattle.kl_value.specs.declared.Value.{Value}
use Rattle.kl_ask.specs.Driver.{same_value}
use Rattle.kl_lookups.specs.Lookups.{Exact, has, moved_up, kept_with}
use Rattle.kl_lookups.proofs.Lookups.{entry_missing, kept_new}
use Rattle.kl_lookups.proofs.Mapped.{lookup_mapped, has_mapped, moved_mapped}
use Rattle.kl_memo.specs.Memo as memo
use Rattle.kl_memo.specs.Memo.{Kept, Pairs, same_key, kept_at}
use Rattle.kl_memo.specs.declared.memo.MemoKey.{MemoKey}
use Rattle.kl_memo.proofs.Equal.{keys_exactly}
use Rattle.kl_plan.specs.Nodes.{Node}
use Rattle.kl_plan.specs.Subqueries.{Memo, Subquery}
use Rattle.kl_scans.specs.Keeping.{subquery, kept_in}
use Rattle.kl_scans.specs.Right.{IsRight, IsRightFor}
use Rattle.kl_scans.specs.Same.{same_subquery}
use Rattle.kl_scans.specs.Stage.{Stage, MemoOf}

-- ---- the test of subqueries is exact

same_values : (v w : Value) → Decides (same_value v w) (v ≡ w)
same_values v w = Decides-like (same_value v w) (compare_exact v w) (λ e. ap (compare v) (sym e) ∙ tied_itself compare_total v) (Equal-is (compare v w))

pub subqueries_exact : Exact same_subquery
subqueries_exact a b =
    Decides-like (same_subquery a b) (λ h. ap₂ (λ n vs. (n, vs)) h.0 h.1) (λ e. (ap (λ (k : Subquery). k.0) e, ap (λ (k : Subquery). k.1) e))
    (Decides-and (nat_eq a.0 b.0) (pointwise same_value a.1 b.1) (Decides-eqb a.0 b.0) (slice_eq-Decides same_values a.1 b.1 (pointwise same_value a.1 b.1) refl))

both_decide : {P Q : Type 0} (x y : Bool) → Decides x P → Decides y Q → (P → Q) → (Q → P) → x ≡ y
both_decide true true d e f g = refl
both_decide false false d e f g = refl
both_decide true false d e f g = sym (e.1 (f (d.0 refl)))
both_decide false true d e f g = d.1 (g (e.0 refl))

-- it tells the same as that of a cache's keys
pub same_tests : (a b : MemoKey) → same_subquery (subquery a) (subquery b) ≡ same_key a b
same_tests a b = both_decide (same_subquery (subquery a) (subquery b)) (same_key a b) (subqueries_exact (subquery a) (subquery b)) (keys_exactly a b)
    (λ e. ap (λ (k : Subquery). record { number = k.0; values = k.1 }) e) (λ e. ap subquery e)

-- ---- what a cache has, told by subqueries

module _ (key : MemoKey) (m : Kept) where
  pub has_kept : has same_subquery (subquery key) (kept_in (Some m)) ≡ is_some (kept_at key m)
  has_kept = has_mapped same_key same_subquery subquery (λ v. v) same_tests key m.entries

  pub found_kept : (v : Value) → kept_at key m ≡ Some v → lookup (same_subquery (subquery key)) (kept_in (Some m)) ≡ Some v
  found_kept v is = lookup_mapped same_key same_subquery subquery (λ v. v) same_tests key m.entries ∙ rw is refl

  pub moved_kept : kept_in (Some (memo.looked_up key m)) ≡ moved_up same_subquery (subquery key) (kept_in (Some m))
  moved_kept = sym (moved_mapped same_key same_subquery subquery (λ v. v) same_tests key m.entries)

  pub kept_more : (v : Value) → has same_subquery (subquery key) (kept_in (Some m)) ≡ false
      → kept_in (Some (memo.kept_with key v m)) ≡ kept_with same_subquery m.capacity (subquery key) v (kept_in (Some m))
  kept_more v none =
      let none_here : has same_key key m.entries ≡ false = sym has_kept ∙ none in
      ap (λ es. map (λ (e : MemoKey × Value). (subquery e.0, e.1)) (take m.capacity ((key, v) ∷ es))) (entry_missing same_key key m.entries none_here).1
      ∙ sym (take-map (λ (e : MemoKey × Value). (subquery e.0, e.1)) m.capacity ((key, v) ∷ m.entries))
      ∙ sym (kept_new same_subquery m.capacity (subquery key) v (kept_in (Some m)) none)

-- what is found is kept
pub found_there : (k : Subquery) (es : List (Subquery × Value)) (v : Value) → lookup (same_subquery k) es ≡ Some v → Contains es (k, v)
found_there k [] v is = absurd cc
found_there k (e ∷ es) v is = by (same_subquery k e.0) refl is (found_there k es v)
  where
    by : (b : Bool) → same_subquery k e.0 ≡ b → cond b (Some e.1) (lookup (same_subquery k) es) ≡ Some v
        → (lookup (same_subquery k) es ≡ Some v → Contains es (k, v)) → Contains (e ∷ es) (k, v)
    by true t f r =
        let key : k ≡ e.0 = (subqueries_exact k e.0).0 t in
        let value : e.1 ≡ v = cc in
        (0, omega arith, ap₂ (λ n w. (n, w)) (sym key) value)
    by false t f r = Contains-append_right (e ∷ []) es (k, v) (r f)

pub kept_there : (key : MemoKey) (m : Kept) (o : Option Kept) (v : Value) → o ≡ Some m → kept_at key m ≡ Some v → Contains (kept_in o) (subquery key, v)
kept_there key m o v is found =
    subst (λ (c : Option Kept). Contains (kept_in c) (subquery key, v)) (sym is) (found_there (subquery key) (kept_in (Some m)) v (found_kept key m v found))

-- and what is not found is not
pub not_there : (key : MemoKey) (m : Kept) (o : Option Kept) → o ≡ Some m → is_some (kept_at key m) ≡ false → has same_subquery (subquery key) (kept_in o) ≡ false
not_there key m o is none = ap (λ (c : Option Kept). has same_subquery (subquery key) (kept_in c)) is ∙ has_kept key m ∙ none

-- ---- what holds of all that is kept

module _ (Q : Subquery × Value → Type 0) where
  entry_all : (test : Subquery → Bool) (es : List (Subquery × Value)) (e : Subquery × Value) → lookup_entry test es ≡ Some e → AllByRecursion Q es → Q e
  entry_all test [] e is h = absurd cc
  entry_all test (x ∷ es) e is h = by (test x.0) is (λ f. entry_all test es e f h.1)
    where
      by : (b : Bool) → cond b (Some x) (lookup_entry test es) ≡ Some e → (lookup_entry test es ≡ Some e → Q e) → Q e
      by true f r = let same : x ≡ e = cc in subst Q same h.0
      by false f r = r f

  removed_all : (test : Subquery → Bool) (es : List (Subquery × Value)) → AllByRecursion Q es → AllByRecursion Q (remove_entry test es)
  removed_all test [] h = tt
  removed_all test (x ∷ es) h = by (test x.0) (removed_all test es h.1)
    where
      by : (b : Bool) → AllByRecursion Q (remove_entry test es) → AllByRecursion Q (cond b es (x ∷ remove_entry test es))
      by true r = h.1
      by false r = (h.0, r)

  pub moved_all : (k : Subquery) (es : List (Subquery × Value)) → AllByRecursion Q es → AllByRecursion Q (moved_up same_subquery k es)
  moved_all k es h = by (lookup_entry (same_subquery k) es) refl
    where
      by : (o : Option (Subquery × Value)) → lookup_entry (same_subquery k) es ≡ o → AllByRecursion Q (option_map_or (λ e. e ∷ remove_entry (same_subquery k) es) o es)
      by (Some e) is = (entry_all (same_subquery k) es e is h, removed_all (same_subquery k) es h)
      by None is = h

  taken_all : (n : ℕ) (es : List (Subquery × Value)) → AllByRecursion Q es → AllByRecursion Q (take n es)
  taken_all zero es h = tt
  taken_all (suc n) [] h = tt
  taken_all (suc n) (x ∷ es) h = (h.0, taken_all n es h.1)

  pub kept_all : (room : ℕ) (k : Subquery) (v : Value) (es : List (Subquery × Value)) → has same_subquery k es ≡ false → Q (k, v) → AllByRecursion Q es
      → AllByRecursion Q (kept_with same_subquery room k v es)
  kept_all room k v es none here h = subst (AllByRecursion Q) (sym (kept_new same_subquery room k v es none)) (taken_all room ((k, v) ∷ es) (here, h))

-- ---- a value that is right for one memo of a number is right for all of that number, which are that one

nat_itself : (n : ℕ) → nat_eq n n ≡ true
nat_itself n = (Decides-eqb n n).1 refl

apart_at : (n : ℕ) (ms : List Memo) (m : Memo) → AllByRecursion (λ i. nat_eq n i ≡ false) (map (λ m. m.0) ms) → Contains ms m → nat_eq n m.0 ≡ false
apart_at n [] m h c = absurd (omega (arith, c.1))
apart_at n (x ∷ ms) m h (zero, lt, is) = ap (λ (y : Memo). nat_eq n y.0) (sym is) ∙ h.0
apart_at n (x ∷ ms) m h (suc i, lt, is) = apart_at n ms m h.1 (i, omega (arith, lt), is)

apart_here : (x : Memo) (ms : List Memo) (m o : Memo) → AllByRecursion (λ i. nat_eq x.0 i ≡ false) (map (λ m. m.0) ms) → x ≡ m → Contains ms o → m.0 ≡ o.0 → ⊥
apart_here x ms m o h is c e =
    let off : nat_eq x.0 o.0 ≡ false = apart_at x.0 ms o h c in
    let on : nat_eq x.0 o.0 ≡ true = ap (λ n. nat_eq x.0 n) (sym e ∙ ap (λ (y : Memo). y.0) (sym is)) ∙ nat_itself x.0 in cc

only_one : (ms : List Memo) (m o : Memo) → IsDistinct nat_eq (map (λ m. m.0) ms) → Contains ms m → Contains ms o → m.0 ≡ o.0 → m ≡ o
unfolding IsDistinct
only_one [] m o d c f e = absurd (omega (arith, c.1))
only_one (x ∷ ms) m o d (zero, lt, is) (zero, lt', is') e = sym is ∙ is'
only_one (x ∷ ms) m o d (zero, lt, is) (suc j, lt', is') e =
    absurd (apart_here x ms m o d.0 is (j, omega (arith, lt'), is') e)
only_one (x ∷ ms) m o d (suc i, lt, is) (zero, lt', is') e =
    absurd (apart_here x ms o m d.0 is' (i, omega (arith, lt), is) (sym e))
only_one (x ∷ ms) m o d (suc i, lt, is) (suc j, lt', is') e = only_one ms m o d.1 (i, omega (arith, lt), is) (j, omega (arith, lt'), is') e

pub right_for : (t : Stage) → IsDistinct nat_eq (map (λ m. m.0) t.memos) → (key : Subquery) (frees : List ℕ) (p : Node) (v : Value)
    → MemoOf t key.0 frees p → IsRight t frees p key.1 v → IsRightFor t key v
right_for t differ key frees p v here right more q there =
    let same = only_one t.memos (key.0, (frees, p)) (key.0, (more, q)) differ here there refl in
    subst (λ (m : Memo). IsRight t m.1.0 m.1.1 key.1 v) same right
