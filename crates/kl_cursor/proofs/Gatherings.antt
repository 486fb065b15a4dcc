-- What is kept of items, and what primitives make of their collection.
use Rattle.std.proofs.Common.{◌≡◌, ⊎_elim, ℕ, ◌+◌, ◌<◌, ◌≤◌, ℤ, pos, ◌+ℤ◌, Bool, true, false, not, ◌||◌, cond, nat_eq, List, [], ◌∷◌, ◌++◌, length, take, get_or, fold, All, Option, Some, Vec, IsSomeAnd, refl, sym, ap, subst, ◌∙◌, arith, append_assoc, append-nil, is_eq, is_gt}
use lib.Dec.{eqb-suc-zero}
use Rattle.std.specs.List.{Contains, list_any}
use Rattle.std.specs.Option.{option_and_then}
use Rattle.std.specs.declared.alloc.Global.{Global}
use Rattle.std.proofs.lemmas.Int.{ints}
use Rattle.std.proofs.lemmas.List.Elements.{Contains-append_left, Contains-append_right, Contains-push, Contains-push_cases, Contains-append_cases}
use Rattle.std.proofs.lemmas.List.Sums.{fold-append, fold_more}
use Rattle.std.proofs.lemmas.List.{take_all}
use Rattle.kl_base.specs.Sorted.{put_in, sorted}
use Rattle.kl_base.proofs.SortedLemmas.{contains_from_count, count_from_contains, count-sorted, members-to, members-from}
use Rattle.kl_value.specs.Canon.{canonical}
use Rattle.kl_value.specs.Order.{compare}
use Rattle.kl_value.specs.Views.{Collection, as_collection, as_int, collection, IsInt}
use Rattle.kl_value.proofs.OrderLemmas.{compare_total, compare_exact}
use Rattle.kl_value.proofs.ViewLemmas.{collection_is}
use Rattle.kl_value.specs.declared.Kind.{Kind}
use Rattle.kl_value.specs.declared.Kind.TheVariants as kind
use Rattle.kl_value.specs.declared.Value.{Value}
use Rattle.kl_prim.specs.Fits.{IsCollectionOfInts}
use Rattle.kl_prim.specs.Meaning.{with_some, all_some, as_ints, truth, amount, exact, total}
use Rattle.kl_prim.specs.Table.{Fits, meaning, row_at, rows}
use Rattle.kl_prim.proofs.ItemLemmas.{all_some_is, total_is}
use Rattle.kl_outcome.proofs.Drawing.{members}
use Rattle.kl_cursor.specs.declared.gathering.Gathering.{Gathering}
use Rattle.kl_cursor.specs.declared.gathering.Gathering.TheVariants as gathering
use Rattle.kl_cursor.specs.Gathering.{Gathered, gathered, listed, empty, counted, summed, sought, number, with_one, with_all, answer_in, is_set, Tells, TellsItems}

-- ---- some items more

pub with_then : (g : Gathered) (vs ws : List Value) → with_all (with_all g vs) ws ≡ with_all g (vs ++ ws)
with_then g vs ws = sym (fold-append with_one g vs ws)

pub with_listed : (us vs : List Value) → with_all (listed us) vs ≡ listed (us ++ vs)
with_listed us [] = ap listed (sym (append-nil us))
with_listed us (v ∷ vs) = with_listed (us ++ v ∷ []) vs ∙ ap listed (append_assoc us (v ∷ []) vs)

some_came : (vs : List Value) → with_all (empty false) vs ≡ empty false
some_came [] = refl
some_came (v ∷ vs) = some_came vs

with_empty : (vs : List Value) → with_all (empty true) vs ≡ empty (nat_eq (length vs) 0)
with_empty [] = refl
with_empty (v ∷ vs) = some_came vs ∙ ap empty (sym (eqb-suc-zero (length vs)))

with_counted : (n : ℕ) (vs : List Value) → with_all (counted n) vs ≡ counted (n + length vs)
with_counted n [] = ap counted (omega arith)
with_counted n (v ∷ vs) = with_counted (n + 1) vs ∙ ap counted (omega arith)

abbrev sum_from : ℤ → List Value → ℤ
sum_from z vs = fold (λ t v. t +ℤ number v) z vs

with_summed : (z : ℤ) (vs : List Value) → with_all (summed z) vs ≡ summed (sum_from z vs)
with_summed z [] = refl
with_summed z (v ∷ vs) = with_summed (z +ℤ number v) vs

abbrev is_among : Value → List Value → Bool
is_among w vs = list_any (λ v. is_eq (compare v w)) vs

or_then : (a b c : Bool) → ((a || b) || c) ≡ (a || (b || c))
or_then true b c = refl
or_then false b c = refl

with_sought : (w : Value) (b : Bool) (vs : List Value) → with_all (sought w b) vs ≡ sought w (b || is_among w vs)
with_sought w true [] = refl
with_sought w false [] = refl
with_sought w b (v ∷ vs) = with_sought w (b || is_eq (compare v w)) vs ∙ ap (sought w) (or_then b (is_eq (compare v w)) (is_among w vs))

-- ---- the items of a collection, some of which pass a test

abbrev Passes : (Value → Bool) → List Value → Type 0
Passes p xs = (x : Value) × Contains xs x × (p x ≡ true)

passes_at : (p : Value → Bool) (x : Value) (xs : List Value) (b : Bool) → p x ≡ b → (list_any p xs ≡ true → Passes p xs) → (p x || list_any p xs) ≡ true → Passes p (x ∷ xs)
passes_at p x xs true is go e = (x, Contains-append_left (x ∷ []) xs x (Contains-push [] x), is)
passes_at p x xs false is go e = let h = go (ap (λ b. b || list_any p xs) (sym is) ∙ e) in (h.0, Contains-append_right (x ∷ []) xs h.0 h.1, h.2)

passes : (p : Value → Bool) (xs : List Value) → list_any p xs ≡ true → Passes p xs
passes p [] e = cc
passes p (x ∷ xs) e = passes_at p x xs (p x) refl (λ h. passes p xs h) e

any_first : (p : Value → Bool) (y : Value) (ys : List Value) → p y ≡ true → list_any p (y ∷ ys) ≡ true
any_first p y ys e = ap (λ c. c || list_any p ys) e

any_behind : (p : Value → Bool) (y : Value) (ys : List Value) → list_any p ys ≡ true → list_any p (y ∷ ys) ≡ true
any_behind p y ys e = behind (p y)
  where
    behind : (b : Bool) → (b || list_any p ys) ≡ true
    behind true = refl
    behind false = e

passed : (p : Value → Bool) (xs : List Value) (x : Value) → Contains xs x → p x ≡ true → list_any p xs ≡ true
passed p [] x c e = absurd (let below = c.1 in omega arith)
passed p (y ∷ ys) x c e =
    ⊎_elim (λ a. any_first p y ys (here a)) (λ b. any_behind p y ys (passed p ys x b e)) (Contains-append_cases (y ∷ []) ys x c)
  where
    here : Contains (y ∷ []) x → p y ≡ true
    here a = ⊎_elim (λ none. absurd (let below = none.1 in omega arith)) (λ same. ap p same ∙ e) (Contains-push_cases [] y x a)

same_any : (p : Value → Bool) (xs ys : List Value) → (list_any p xs ≡ true → list_any p ys ≡ true) → (list_any p ys ≡ true → list_any p xs ≡ true) → list_any p xs ≡ list_any p ys
same_any p xs ys to from = by_case (list_any p xs) (list_any p ys) refl refl
  where
    by_case : (a b : Bool) → list_any p xs ≡ a → list_any p ys ≡ b → list_any p xs ≡ list_any p ys
    by_case true b e f = e ∙ sym (to e)
    by_case false true e f = from f ∙ sym f
    by_case false false e f = e ∙ sym f

to_members : (k : Kind) (vs : List Value) (x : Value) → Contains vs x → Contains (members k vs) x
to_members kind.Set vs x c = members-from compare compare_total compare_exact vs x c
to_members kind.Bag vs x c =
    let some = count_from_contains compare compare_total compare_exact x vs c in
    contains_from_count compare compare_total compare_exact x (sorted compare vs) (omega (arith, some, count-sorted compare compare_total x vs))
to_members kind.List vs x c = c

from_members : (k : Kind) (vs : List Value) (x : Value) → Contains (members k vs) x → Contains vs x
from_members kind.Set vs x c = members-to compare compare_total compare_exact vs x c
from_members kind.Bag vs x c =
    let some = count_from_contains compare compare_total compare_exact x (sorted compare vs) c in
    contains_from_count compare compare_total compare_exact x vs (omega (arith, some, count-sorted compare compare_total x vs))
from_members kind.List vs x c = c

any_member : (p : Value → Bool) (k : Kind) (vs : List Value) → list_any p (members k vs) ≡ list_any p vs
any_member p k vs = same_any p (members k vs) vs
    (λ e. let h = passes p (members k vs) e in passed p vs h.0 (from_members k vs h.0 h.1) h.2)
    (λ e. let h = passes p vs e in passed p (members k vs) h.0 (to_members k vs h.0 h.1) h.2)

none_any : (vs : List Value) → nat_eq (length vs) 0 ≡ not (list_any (λ v. true) vs)
none_any [] = refl
none_any (v ∷ vs) = eqb-suc-zero (length vs)

none_member : (k : Kind) (vs : List Value) → nat_eq (length (members k vs)) 0 ≡ nat_eq (length vs) 0
none_member k vs = none_any (members k vs) ∙ ap not (any_member (λ v. true) k vs) ∙ sym (none_any vs)

-- ---- sorted items

length-put_in : (x : Value) (ys : List Value) → length (put_in compare x ys) ≡ length ys + 1
length-put_in x [] = refl
length-put_in x (y ∷ ys) =
    elim (is_gt (compare x y)) as (λ b. length (cond b (y ∷ put_in compare x ys) (x ∷ y ∷ ys)) ≡ length (y ∷ ys) + 1) [
      | true ↦ (let h = length-put_in x ys in omega arith)
      | false ↦ omega arith
    ]

length-sorted : (vs : List Value) → length (sorted compare vs) ≡ length vs
length-sorted [] = refl
length-sorted (v ∷ vs) = let h = length-put_in v (sorted compare vs) in let i = length-sorted vs in omega arith

other_order : (z a b : ℤ) → (z +ℤ a) +ℤ b ≡ (z +ℤ b) +ℤ a
other_order z a b = omega (arith, ints)

sum-put_in : (z : ℤ) (x : Value) (ys : List Value) → sum_from z (put_in compare x ys) ≡ sum_from z (x ∷ ys)
sum-put_in z x [] = refl
sum-put_in z x (y ∷ ys) =
    elim (is_gt (compare x y)) as (λ b. sum_from z (cond b (y ∷ put_in compare x ys) (x ∷ y ∷ ys)) ≡ sum_from z (x ∷ y ∷ ys)) [
      | true ↦ sum-put_in (z +ℤ number y) x ys ∙ ap (λ q. sum_from q ys) (other_order z (number y) (number x))
      | false ↦ refl
    ]

sum-sorted : (z : ℤ) (vs : List Value) → sum_from z (sorted compare vs) ≡ sum_from z vs
sum-sorted z [] = refl
sum-sorted z (v ∷ vs) = sum-put_in z v (sorted compare vs) ∙ sum-sorted (z +ℤ number v) vs

pub length_members : (k : Kind) (vs : List Value) → is_set k ≡ false → length (members k vs) ≡ length vs
length_members kind.Set vs e = cc
length_members kind.Bag vs e = length-sorted vs
length_members kind.List vs e = refl

sum_members : (k : Kind) (vs : List Value) → is_set k ≡ false → sum_from (pos 0) (members k vs) ≡ sum_from (pos 0) vs
sum_members kind.Set vs e = cc
sum_members kind.Bag vs e = sum-sorted (pos 0) vs
sum_members kind.List vs e = refl

-- ---- what primitives make of a collection

canonical_made : (k : Kind) (vs : List Value) → canonical k vs ≡ collection k (members k vs)
unfolding canonical
canonical_made kind.Set vs = refl
canonical_made kind.Bag vs = refl
canonical_made kind.List vs = refl

means_empty : (v : Value) → meaning 13 (v ∷ []) ≡ with_some (as_collection v) (λ c. truth (nat_eq (length c.items) 0))
unfolding meaning row_at rows
means_empty v = refl

means_count : (v : Value) → meaning 14 (v ∷ []) ≡ with_some (as_collection v) (λ c. amount (length c.items))
unfolding meaning row_at rows
means_count v = refl

means_sum : (v : Value) → meaning 15 (v ∷ []) ≡ with_some (as_ints v) (λ ns. exact (total ns))
unfolding meaning row_at rows
means_sum v = refl

fits_sum : (v : Value) → Fits 15 (v ∷ []) → IsCollectionOfInts v
unfolding Fits row_at rows
fits_sum v h = h

means_member : (w v : Value) → meaning 16 (w ∷ v ∷ []) ≡ with_some (as_collection v) (λ c. truth (is_among w c.items))
unfolding meaning row_at rows
means_member w v = refl

pub tells_empty : (k : Kind) → Tells 13 [] k (empty true)
tells_empty k = (
  tt,
  λ vs fit.
      means_empty (canonical k vs) ∙ ap (λ o. with_some o (λ c. truth (nat_eq (length c.items) 0))) (ap as_collection (canonical_made k vs) ∙ collection_is k (members k vs)) ∙ ap truth (none_member k vs) ∙ ap answer_in (sym (with_empty vs)),
)

from_none : (n : ℕ) → n ≡ 0 + n
from_none n = omega arith

pub counts_members : (k : Kind) (vs : List Value) → meaning 14 (canonical k vs ∷ []) ≡ amount (length (members k vs))
counts_members k vs = means_count (canonical k vs) ∙ ap (λ o. with_some o (λ c. amount (length c.items))) (ap as_collection (canonical_made k vs) ∙ collection_is k (members k vs))

pub counted_all : (vs : List Value) → amount (length vs) ≡ answer_in (with_all (counted 0) vs)
counted_all vs = ap amount (from_none (length vs)) ∙ ap answer_in (sym (with_counted 0 vs))

pub tells_count : (k : Kind) → is_set k ≡ false → Tells 14 [] k (counted 0)
tells_count k e = (tt, λ vs fit. counts_members k vs ∙ ap amount (length_members k vs e) ∙ counted_all vs)

pub tells_sum : (k : Kind) → is_set k ≡ false → Tells 15 [] k (summed (pos 0))
tells_sum k e = (
  tt,
  λ vs fit.
      let ints : All IsInt (members k vs) = subst (λ o. IsSomeAnd o (λ (c : Collection). All IsInt c.items)) (ap as_collection (canonical_made k vs) ∙ collection_is k (members k vs)) (fits_sum (canonical k vs) fit) in
      means_sum (canonical k vs) ∙ ap (λ o. with_some (option_and_then (λ c. all_some as_int c.items) o) (λ ns. exact (total ns))) (ap as_collection (canonical_made k vs) ∙ collection_is k (members k vs))
      ∙ ap (λ o. with_some o (λ ns. exact (total ns))) (all_some_is as_int (pos 0) (members k vs) ints)
      ∙ ap exact (total_is (members k vs) ∙ sum_members k vs e) ∙ ap answer_in (sym (with_summed (pos 0) vs)),
)

pub tells_member : (w : Value) (k : Kind) → Tells 16 (w ∷ []) k (sought w false)
tells_member w k = (
  tt,
  λ vs fit.
      means_member w (canonical k vs) ∙ ap (λ o. with_some o (λ c. truth (is_among w c.items))) (ap as_collection (canonical_made k vs) ∙ collection_is k (members k vs)) ∙ ap truth (any_member (λ v. is_eq (compare v w)) k vs) ∙ ap answer_in (sym (with_sought w false vs)),
)

pub appended : (g : Gathering) (ws : Vec Value Global) (new more : List Value) → g ≡ gathering.Items ws → new ≡ ws.items ++ more → listed new ≡ with_all (gathered g) more
appended g ws new more is e = ap listed e ∙ sym (with_listed ws.items more) ∙ ap (λ q. with_all q more) (sym (ap gathered is))

-- ---- items, one after the other

pub each_goes : (old now new : Gathered) (vs : List Value) (i : ℕ) (v : Value) → i < length vs → v ≡ get_or vs i v → now ≡ with_all old (take i vs) → new ≡ with_one now v → new ≡ with_all old (take (i + 1) vs)
each_goes old now new vs i v lt is so_far e =
    e ∙ ap (λ g. with_one g v) so_far ∙ ap (with_one (with_all old (take i vs))) is ∙ sym (fold_more with_one old vs i v lt)

pub each_ends : (old now : Gathered) (vs : List Value) (i : ℕ) → length vs ≤ i → now ≡ with_all old (take i vs) → now ≡ with_all old vs
each_ends old now vs i le so_far = so_far ∙ ap (with_all old) (take_all i vs le)

pub tells_at : (code n : ℕ) (before : List Value) (k : Kind) (g : Gathered) → code ≡ n → Tells n before k g → Tells code before k g
tells_at code n before k g e h = subst (λ z. Tells z before k g) (sym e) h

pub tells_second : (code : ℕ) (w : Value) (o : Option Kind) (k : Kind) → code ≡ 16 → Some k ≡ o → TellsItems code (w ∷ []) o (sought w false)
tells_second code w o k e is = subst (λ z. TellsItems code (w ∷ []) z (sought w false)) is (tells_at code 16 (w ∷ []) k (sought w false) e (tells_member w k))
