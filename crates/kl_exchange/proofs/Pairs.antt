-- The fields of pairs whose labels differ: the pairs in rising order.
use Rattle.std.proofs.Common.{◌≡◌, ◌⊎◌, inl, inr, ◌+◌, ◌<◌, zero, suc, length, length-append, ℕ, Bool, true, false, cond, List, [], ◌∷◌, ◌++◌, Some, refl, sym, ap, subst, ◌∙◌, Ordering, Less, Equal, Greater, is_gt, IsPermutation, nat_eq, ◌&&◌, ◌==◌, arith}
use Rattle.std.specs.Ordering.{ordering_then}
use Rattle.std.specs.Cmp.{IsTotalOrder}
use Rattle.std.specs.FinMap.{IsAntisymmetric}
use Rattle.std.specs.List.{AllByRecursion, IsDistinct, list_all}
use Rattle.std.specs.Char.{is_ascii_alphabetic}
use Rattle.kl_base.specs.Word.{is_word, is_word_byte}
use Rattle.std.specs.List.Sorted.{IsStrictlySortedBy}
use Rattle.std.specs.Cmp.Lexicographic.{pointwise}
use Rattle.std.proofs.lemmas.Cmp.{then_total, on_total, nat_list_cmp_total, nat_list_eq_equiv}
use Rattle.std.proofs.lemmas.List.Sorted.{IsPermutation-refl, IsPermutation-sym, IsPermutation-cons, IsPermutation-trans, IsPermutation-middle, IsPermutation-map, sum_by-IsPermutation}
use Rattle.std.proofs.lemmas.Map.Keys.{IsDistinct-IsPermutation}
use Rattle.std.proofs.lemmas.Bool.{and_parts, or_parts}
use Rattle.std.proofs.Math.Bool.{and-false}
use Rattle.kl_base.specs.Fields.{bytes_cmp, labels_of, rises, LabelsRise, LabelsDiffer, IsFieldsOf}
use Rattle.kl_base.specs.Sorted.{IsRising, put_in, sorted}
use Rattle.kl_base.proofs.SortedLemmas.{IsRising-sorted, count-sorted, same_from_counts}
use Rattle.kl_base.proofs.FieldsLemmas.{rise_strictly, repeat}
use Rattle.kl_value.specs.Order.{compare}
use Rattle.kl_value.specs.declared.Value.{Value}
use Rattle.kl_value.proofs.OrderLemmas.{both_Equal, same_bytes, compare_total, compare_exact}
use Rattle.kl_exchange.specs.Fields.{pair_cmp, fields_of}
use Rattle.kl_exchange.specs.Gathered.{has_label}
use Rattle.kl_exchange.proofs.LabelSets.{tied}

abbrev pub Pair : Type 0
Pair = List ℕ × Value

pair_total : IsTotalOrder pair_cmp
pair_total = then_total (on_total (λ (f : Pair). f.0) nat_list_cmp_total) (on_total (λ (f : Pair). f.1) compare_total)

pair_exact : IsAntisymmetric pair_cmp
pair_exact f g e = let both = both_Equal _ _ e in λ i. (same_bytes f.0 g.0 both.0 i, compare_exact f.1 g.1 both.1 i)

-- strictly rising labels make rising pairs
above : (f : Pair) (fs : List Pair) → AllByRecursion (λ l. bytes_cmp f.0 l ≡ Less) (labels_of fs) → AllByRecursion (λ g. is_gt (pair_cmp f g) ≡ false) fs
above f [] all = tt
above f (g ∷ fs) all = (ap (λ o. is_gt (ordering_then o (compare f.1 g.1))) all.0, above f fs all.1)

rising : (fs : List Pair) → LabelsRise fs → IsRising pair_cmp fs
unfolding IsStrictlySortedBy
rising [] up = tt
rising (f ∷ fs) up = (above f fs up.0, rising fs up.1)

pub fields_are : (pairs fs : List Pair) → IsFieldsOf pairs (Some fs) → fs ≡ fields_of pairs
unfolding fields_of
fields_are pairs fs is =
    same_from_counts pair_cmp pair_total pair_exact fs (sorted pair_cmp pairs) (rising fs is.1) (IsRising-sorted pair_cmp pair_total pairs)
    (λ q. sum_by-IsPermutation _ pairs fs is.0 ∙ sym (count-sorted pair_cmp pair_total q pairs))

-- a sort is a permutation
put_moved : (f : Pair) (fs : List Pair) → IsPermutation (f ∷ fs) (put_in pair_cmp f fs)
put_moved f [] = IsPermutation-refl (f ∷ [])
put_moved f (g ∷ fs) =
    elim (is_gt (pair_cmp f g)) as (λ b. IsPermutation (f ∷ g ∷ fs) (cond b (g ∷ put_in pair_cmp f fs) (f ∷ g ∷ fs))) [
      | true ↦ IsPermutation-trans _ _ _ (IsPermutation-middle (f ∷ []) g fs) (IsPermutation-cons g _ _ (put_moved f fs))
      | false ↦ IsPermutation-refl (f ∷ g ∷ fs)
    ]

sorted_moved : (fs : List Pair) → IsPermutation fs (sorted pair_cmp fs)
sorted_moved [] = IsPermutation-refl []
sorted_moved (f ∷ fs) = IsPermutation-trans _ _ _ (IsPermutation-cons f _ _ (sorted_moved fs)) (put_moved f (sorted pair_cmp fs))

first_not_above : (o p : Ordering) → is_gt (ordering_then o p) ≡ false → is_gt o ≡ false
first_not_above Less p h = refl
first_not_above Equal p h = refl
first_not_above Greater p h = h

labels_above : (f : Pair) (fs : List Pair) → AllByRecursion (λ g. is_gt (pair_cmp f g) ≡ false) fs → AllByRecursion (λ l. is_gt (bytes_cmp f.0 l) ≡ false) (labels_of fs)
labels_above f [] all = tt
labels_above f (g ∷ fs) all = (first_not_above _ _ all.0, labels_above f fs all.1)

labels_rising : (fs : List Pair) → IsRising pair_cmp fs → IsRising bytes_cmp (labels_of fs)
labels_rising [] up = tt
labels_rising (f ∷ fs) up = (labels_above f fs up.0, labels_rising fs up.1)

strictly : (ls : List (List ℕ)) (b : Bool) → rises ls ≡ b → IsRising bytes_cmp ls → IsDistinct (pointwise nat_eq) ls → IsStrictlySortedBy bytes_cmp ls
strictly ls true is up differ = rise_strictly ls is
strictly ls false is up differ = absurd (repeat ls up is differ)

pub fields_of_is : (pairs : List Pair) → LabelsDiffer pairs → IsFieldsOf pairs (Some (fields_of pairs))
unfolding fields_of
fields_of_is pairs differ = (
  sorted_moved pairs,
  strictly _ _ refl (labels_rising _ (IsRising-sorted pair_cmp pair_total pairs))
      (IsDistinct-IsPermutation (pointwise nat_eq) (λ x y. nat_list_eq_equiv.symm x y) _ _ (IsPermutation-map (λ (f : Pair). f.0) pairs (sorted pair_cmp pairs) (sorted_moved pairs)) differ),
)

-- Labels that differ.

less_differs : (k l : List ℕ) → bytes_cmp k l ≡ Less → pointwise nat_eq k l ≡ false
less_differs [] [] less = cc
less_differs [] (l ∷ ls) less = refl
less_differs (k ∷ ks) [] less = refl
less_differs (k ∷ ks) (l ∷ ls) less =
    elim (k == l) as (λ b. (k == l) ≡ b → (b && pointwise nat_eq ks ls) ≡ false) [
      | true ↦ λ e. less_differs ks ls (subst (λ o. ordering_then o (bytes_cmp ks ls) ≡ Less) (tied k l e) less)
      | false ↦ λ e. refl
    ] refl

all_differ : (k : List ℕ) (ls : List (List ℕ)) → AllByRecursion (λ l. bytes_cmp k l ≡ Less) ls → AllByRecursion (λ l. pointwise nat_eq k l ≡ false) ls
all_differ k [] all = tt
all_differ k (l ∷ ls) all = (less_differs k l all.0, all_differ k ls all.1)

distinct_from_strict : (ls : List (List ℕ)) → IsStrictlySortedBy bytes_cmp ls → IsDistinct (pointwise nat_eq) ls
unfolding IsStrictlySortedBy IsDistinct
distinct_from_strict [] up = tt
distinct_from_strict (l ∷ ls) up = (all_differ l ls up.0, distinct_from_strict ls up.1)

pub differ_from_fields : (pairs fs : List Pair) → IsFieldsOf pairs (Some fs) → LabelsDiffer pairs
differ_from_fields pairs fs is =
    IsDistinct-IsPermutation (pointwise nat_eq) (λ x y. nat_list_eq_equiv.symm x y) (labels_of fs) (labels_of pairs)
    (IsPermutation-map (λ (f : Pair). f.0) fs pairs (IsPermutation-sym pairs fs is.0)) (distinct_from_strict (labels_of fs) is.1)

-- a label behind others that it differs from
last_differs : (k l : List ℕ) (v : Value) (fs gs : List Pair) → AllByRecursion (λ m. pointwise nat_eq k m ≡ false) (labels_of (fs ++ (l, v) ∷ gs)) → pointwise nat_eq k l ≡ false
last_differs k l v [] gs all = all.0
last_differs k l v (f ∷ fs) gs all = last_differs k l v fs gs all.1

pub fresh_label : (fs : List Pair) (l : List ℕ) (v : Value) (gs : List Pair) → LabelsDiffer (fs ++ (l, v) ∷ gs) → has_label fs l ≡ false
unfolding IsDistinct
fresh_label [] l v gs differ = refl
fresh_label (f ∷ fs) l v gs differ = rw (nat_list_eq_equiv.symm l f.0 ∙ last_differs f.0 l v fs gs differ.0, fresh_label fs l v gs differ.1)

all_push : (P : List ℕ → Type 0) (fs : List Pair) (l : List ℕ) (v : Value) → AllByRecursion P (labels_of fs) → P l → AllByRecursion P (labels_of (fs ++ (l, v) ∷ []))
all_push P [] l v all p = (p, tt)
all_push P (f ∷ fs) l v all p = (all.0, all_push P fs l v all.1 p)

pub differ_push : (fs : List Pair) (l : List ℕ) (v : Value) → LabelsDiffer fs → has_label fs l ≡ false → LabelsDiffer (fs ++ (l, v) ∷ [])
unfolding IsDistinct
differ_push [] l v differ fresh = (tt, tt)
differ_push (f ∷ fs) l v differ fresh =
    let both = or_parts (pointwise nat_eq l f.0) (has_label fs l) fresh in
    (all_push (λ m. pointwise nat_eq f.0 m ≡ false) fs l v differ.0 (nat_list_eq_equiv.symm f.0 l ∙ both.0), differ_push fs l v differ.1 both.1)

-- A label that no field has: a long one.
pub letters : ℕ → List ℕ
letters zero = []
letters (suc n) = 97 ∷ letters n

pub length-letters : (n : ℕ) → length (letters n) ≡ n
unfolding letters
length-letters zero = refl
length-letters (suc n) = ap suc (length-letters n)

pub letters_bytes : (n : ℕ) → list_all is_word_byte (letters n) ≡ true
unfolding letters
letters_bytes zero = refl
letters_bytes (suc n) = letters_bytes n

pub letters_word : (n : ℕ) → is_word (letters (suc n)) ≡ true
unfolding letters
letters_word n = letters_bytes n

all_append : (ks ls : List ℕ) → list_all is_word_byte ks ≡ true → list_all is_word_byte ls ≡ true → list_all is_word_byte (ks ++ ls) ≡ true
all_append [] ls all others = others
all_append (k ∷ ks) ls all others = let both = and_parts (is_word_byte k) (list_all is_word_byte ks) all in rw (both.0, all_append ks ls both.1 others)

pub word_goes_on : (name tail : List ℕ) → (name ≡ []) ⊎ (is_word name ≡ true) → is_word tail ≡ true → list_all is_word_byte tail ≡ true → is_word (name ++ tail) ≡ true
word_goes_on name tail (inl none) word all = rw none word
word_goes_on [] tail (inr is) word all = word
word_goes_on (b ∷ name) tail (inr is) word all =
    let both = and_parts (is_ascii_alphabetic b) (list_all is_word_byte name) is in rw (both.0, all_append name tail both.1 all)

-- the bytes of all labels
pub room : List Pair → ℕ
room [] = 0
room (f ∷ fs) = length f.0 + room fs

pub shorter_differs : (k l : List ℕ) → length l < length k → pointwise nat_eq k l ≡ false
shorter_differs [] l short = absurd (omega arith)
shorter_differs (k ∷ ks) [] short = refl
shorter_differs (k ∷ ks) (l ∷ ls) short = rw (shorter_differs ks ls (omega arith)) (and-false (k == l))

pub longer_fresh : (fs : List Pair) (name tail : List ℕ) → room fs < length tail → has_label fs (name ++ tail) ≡ false
unfolding room
longer_fresh [] name tail long = refl
longer_fresh (f ∷ fs) name tail long =
    rw (shorter_differs (name ++ tail) f.0 (omega (arith, length-append name tail)), longer_fresh fs name tail (omega arith))
