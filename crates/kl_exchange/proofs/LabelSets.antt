-- Labels in order beside the fields that they come from.
use Rattle.std.proofs.Common.{◌≡◌, ℕ, ◌+◌, ◌<◌, ◌≤◌, length, drop, subst, length-append, drop_of_length-le, Bool, true, false, ◌&&◌, ◌||◌, ◌==◌, List, [], ◌∷◌, ◌++◌, refl, sym, ap, ap₂, ◌∙◌, arith, Ordering, Less, Equal, Greater, nat_eq, true≢false}
use Rattle.std.proofs.lemmas.List.{drop-append-le}
use Rattle.std.specs.Ordering.{nat_cmp, ordering_then, match_ordering, is_eq}
use Rattle.std.specs.List.{list_any}
use Rattle.std.specs.BTreeMap.{is_at}
use Rattle.std.specs.BTreeSet.{insert_key}
use Rattle.std.specs.Cmp.Lexicographic.{pointwise}
use Rattle.std.proofs.lemmas.Bool.Decides.{nat_tests}
use Rattle.kl_base.specs.Fields.{bytes_cmp}
use Rattle.kl_value.proofs.OrderLemmas.{same_bytes}
use Rattle.kl_exchange.specs.Gathered.{has_label, AreLabels}

or_comm : (a b : Bool) → (a || b) ≡ (b || a)
or_comm true true = refl
or_comm true false = refl
or_comm false true = refl
or_comm false false = refl

or_assoc : (a b c : Bool) → (a || (b || c)) ≡ ((a || b) || c)
or_assoc true b c = refl
or_assoc false b c = refl

or_again : (a b : Bool) → (a || b) ≡ ((a || b) || a)
or_again true b = refl
or_again false true = refl
or_again false false = refl

abbrev at : List ℕ → List ℕ → Bool
at l k = is_at (bytes_cmp l) k

pub tied : (k l : ℕ) → (k == l) ≡ true → nat_cmp k l ≡ Equal
tied k l e = grind (arith, nat_tests)

not_tied : (k l : ℕ) → (k == l) ≡ false → is_eq (nat_cmp k l) ≡ false
not_tied k l e = grind (arith, nat_tests)

then_not : (o p : Ordering) → is_eq o ≡ false → is_eq (ordering_then o p) ≡ false
then_not Less p e = refl
then_not Equal p e = absurd (true≢false e)
then_not Greater p e = refl

-- a label ties with another exactly where their bytes are the same
at_is : (l k : List ℕ) → at l k ≡ pointwise nat_eq l k
at_is [] [] = refl
at_is [] (k ∷ ks) = refl
at_is (l ∷ ls) [] = refl
at_is (l ∷ ls) (k ∷ ks) =
    elim (l == k) as (λ b. (l == k) ≡ b → at (l ∷ ls) (k ∷ ks) ≡ (b && pointwise nat_eq ls ks)) [
      | true ↦ λ e. ap (λ o. is_eq (ordering_then o (bytes_cmp ls ks))) (tied l k e) ∙ at_is ls ks
      | false ↦ λ e. then_not (nat_cmp l k) (bytes_cmp ls ks) (not_tied l k e)
    ] refl

module _ (l : List ℕ) where
  any_insert : (ks : List (List ℕ)) (k : List ℕ) → list_any (is_at (bytes_cmp l)) (insert_key bytes_cmp ks k) ≡ (list_any (is_at (bytes_cmp l)) ks || at l k)
  any_insert [] k = or_comm (at l k) false
  any_insert (x ∷ xs) k = placed (any_insert xs k) (bytes_cmp k x) refl
    where
      placed : list_any (is_at (bytes_cmp l)) (insert_key bytes_cmp xs k) ≡ (list_any (is_at (bytes_cmp l)) xs || at l k) → (o : Ordering) → bytes_cmp k x ≡ o
          → list_any (is_at (bytes_cmp l)) (match_ordering o (k ∷ x ∷ xs) (x ∷ xs) (x ∷ insert_key bytes_cmp xs k)) ≡ ((at l x || list_any (is_at (bytes_cmp l)) xs) || at l k)
      placed again Less e = or_comm (at l k) (at l x || list_any (is_at (bytes_cmp l)) xs)
      placed again Equal e =
          or_again (at l x) (list_any (is_at (bytes_cmp l)) xs) ∙ ap (λ b. (at l x || list_any (is_at (bytes_cmp l)) xs) || b) (ap (at l) (sym (same_bytes k x e)))
      placed again Greater e =
          ap (λ b. at l x || b) again ∙ or_assoc (at l x) (list_any (is_at (bytes_cmp l)) xs) (at l k)

  has_more : {T : Type 0} (fs : List (List ℕ × T)) (k : List ℕ) (v : T) → has_label (fs ++ (k, v) ∷ []) l ≡ (has_label fs l || pointwise nat_eq l k)
  has_more [] k v = or_comm (pointwise nat_eq l k) false
  has_more (f ∷ fs) k v = ap (λ b. pointwise nat_eq l f.0 || b) (has_more fs k v) ∙ or_assoc (pointwise nat_eq l f.0) (has_label fs l) (pointwise nat_eq l k)

pub labels_with : {T : Type 0} (ks next : List (List ℕ)) (fs more : List (List ℕ × T)) (k : List ℕ) (v : T) → AreLabels ks fs → next ≡ insert_key bytes_cmp ks k → more ≡ fs ++ (k, v) ∷ []
    → AreLabels next more
labels_with ks next fs more k v are e f = record {
  same = λ l.
      ap (list_any (is_at (bytes_cmp l))) e
      ∙ (any_insert l ks k ∙ (ap₂ ◌||◌ (are.same l) (at_is l k) ∙ (sym (has_more l fs k v) ∙ ap (λ gs. has_label gs l) (sym f))));
}

-- a field more, behind the first sixteen or among them
pub others_with : {T : Type 0} (ks next : List (List ℕ)) (fs more : List (List ℕ × T)) (k : List ℕ) (v : T) → AreLabels ks (drop 16 fs) → 16 ≤ length fs → next ≡ insert_key bytes_cmp ks k
    → more ≡ fs ++ (k, v) ∷ [] → AreLabels next (drop 16 more)
others_with ks next fs more k v are long e f =
    labels_with ks next (drop 16 fs) (drop 16 more) k v are e (ap (drop 16) f ∙ drop-append-le 16 fs ((k, v) ∷ []) long)

pub few_with : {T : Type 0} (ks next : List (List ℕ)) (fs more : List (List ℕ × T)) (k : List ℕ) (v : T) → AreLabels ks (drop 16 fs) → length fs < 16 → next ≡ ks → more ≡ fs ++ (k, v) ∷ [] → AreLabels next (drop 16 more)
few_with ks next fs more k v are short e f =
    let size : length more ≡ length fs + 1 = ap length f ∙ length-append fs ((k, v) ∷ []) in
    subst (λ ms. AreLabels ms (drop 16 more)) (sym e)
    (subst (AreLabels ks) (drop_of_length-le fs {i = 16} (omega arith) ∙ sym (drop_of_length-le more {i = 16} (omega arith))) are)
