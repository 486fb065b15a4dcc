-- A record used by its fields alone, taken apart and put together again.
use Rattle.std.proofs.Common.{◌≡◌, ℕ, zero, suc, ◌+◌, ◌-◌, ◌<◌, ◌≤◌, Bool, true, false, ◌&&◌, cond, nat_eq, nat_lt, List, [], ◌∷◌, length, Option, Some, None, slice_get, refl, sym, ap, ap₂, subst, ◌∙◌, arith, ⊎_elim, Less}
use Rattle.std.specs.List.{AllByRecursion}
use Rattle.std.specs.List.Sorted.{IsStrictlySortedBy}
use Rattle.std.specs.Cmp.Lexicographic.{pointwise, same_text}
use Rattle.std.proofs.lemmas.Bool.{cases_lt, lt-ltb, le-ltb, ltb-true, eq-eqb, ne_eqb, eqb-true}
use Rattle.std.proofs.lemmas.Cmp.{nat_list_eq_equiv}
use Rattle.std.proofs.lemmas.Map.Keys.{sorted_head, sorted_tail}
use Rattle.std.proofs.lemmas.Option.{same_Some, slice_get_within}
use Rattle.kl_base.specs.Fields.{bytes_cmp}
use Rattle.kl_outcome.specs.Outcome.{Name}
use Rattle.kl_core.specs.Trees.{Tree, Var, Const, Source, Rec, Proj, Inj, Case, Make, Union, Ext, If, Let, Prim, Trees, no_trees, trees, Parts, no_parts, parts, Arms, no_arms, rest, arm}
use Rattle.kl_core.proofs.Lowering.{choice_is}
use Rattle.kl_rules.specs.Unpacking.{turned_onto, packed_var, packed, packed_trees, packed_parts, packed_arms}
use Rattle.kl_rules.specs.Unpacked.{place_in, is_at, alone_in, alone_trees, alone_parts, alone_arms, unpacked, unpacked_trees, unpacked_parts, unpacked_arms}
use Rattle.kl_outcome.proofs.Having.{both_true}
use Rattle.kl_rules.proofs.Unpacking.{apart}

-- ---- a list, the last first

turned_past : {A : Type 0} (xs ys : List A) (k : ℕ) → slice_get (turned_onto xs ys) (length xs + k) ≡ slice_get ys k
turned_past [] ys k = let e : 0 + k ≡ k = omega arith in ap (slice_get ys) e
turned_past (x ∷ xs) ys k =
    let e : suc (length xs) + k ≡ length xs + suc k = omega arith in
    ap (slice_get (turned_onto xs (x ∷ ys))) e ∙ turned_past xs (x ∷ ys) (suc k)

turned_get : {A : Type 0} (xs ys : List A) (k : ℕ) → k < length xs → slice_get (turned_onto xs ys) k ≡ slice_get xs (length xs - suc k)
turned_get [] ys k h = absurd (omega (arith, h))
turned_get {A} (x ∷ xs) ys k h = ⊎_elim (λ l. low l (turned_get xs (x ∷ ys) k l)) high (cases_lt k (length xs))
  where
    low : k < length xs → slice_get (turned_onto xs (x ∷ ys)) k ≡ slice_get xs (length xs - suc k) → slice_get (turned_onto xs (x ∷ ys)) k ≡ slice_get (x ∷ xs) (suc (length xs) - suc k)
    low l next =
        let e : suc (length xs) - suc k ≡ suc (length xs - suc k) = omega (arith, l) in
        next ∙ sym (ap (slice_get (x ∷ xs)) e)

    high : length xs ≤ k → slice_get (turned_onto xs (x ∷ ys)) k ≡ slice_get (x ∷ xs) (suc (length xs) - suc k)
    high l =
        let e : k ≡ length xs + 0 = omega (arith, l, h) in
        let f : suc (length xs) - suc k ≡ 0 = omega (arith, l) in
        ap (slice_get (turned_onto xs (x ∷ ys))) e ∙ turned_past xs (x ∷ ys) 0 ∙ sym (ap (slice_get (x ∷ xs)) f)

turned_length : {A : Type 0} (xs ys : List A) → length (turned_onto xs ys) ≡ length xs + length ys
turned_length [] ys = omega arith
turned_length (x ∷ xs) ys = let e = turned_length xs (x ∷ ys) in omega (arith, e)

none_past : {A : Type 0} (xs : List A) (k : ℕ) → slice_get xs k ≡ None → length xs ≤ k
none_past [] k e = omega arith
none_past (x ∷ xs) zero e = absurd cc
none_past (x ∷ xs) (suc k) e = let h = none_past xs k e in omega (arith, h)

-- ---- where a label stands

place_found : (l : Name) (ls : List Name) → place_in l ls < length ls → slice_get ls (place_in l ls) ≡ Some l
place_found l [] h = absurd (omega (arith, h))
place_found l (m ∷ ls) h = by_bit (pointwise nat_eq l m) refl (place_found l ls)
  where
    smaller : suc (place_in l ls) < suc (length ls) → place_in l ls < length ls
    smaller g = omega (arith, g)

    by_bit : (b : Bool) → pointwise nat_eq l m ≡ b → (place_in l ls < length ls → slice_get ls (place_in l ls) ≡ Some l)
        → slice_get (m ∷ ls) (cond (pointwise nat_eq l m) 0 (suc (place_in l ls))) ≡ Some l
    by_bit true i next = rw i (ap (λ x. Some x) (sym (same_text l m (sym i))))
    by_bit false i next = rw i (next (smaller (rw i at h)))

below_all : (m : Name) (ls : List Name) → AllByRecursion (λ l. bytes_cmp m l ≡ Less) ls → (k : ℕ) (l : Name) → slice_get ls k ≡ Some l → bytes_cmp m l ≡ Less
below_all m [] all k l e = absurd cc
below_all m (n ∷ ls) all zero l e = subst (λ y. bytes_cmp m y ≡ Less) (same_Some n l e) all.0
below_all m (n ∷ ls) all (suc k) l e = below_all m ls all.1 k l e

place_at : (ls : List Name) → IsStrictlySortedBy bytes_cmp ls → (k : ℕ) (l : Name) → slice_get ls k ≡ Some l → place_in l ls ≡ k
place_at [] up k l e = absurd cc
place_at (m ∷ ls) up zero l e = rw (subst (λ x. pointwise nat_eq l x ≡ true) (sym (same_Some m l e)) (nat_list_eq_equiv.refl l)) refl
place_at (m ∷ ls) up (suc k) l e = rw (apart l m (below_all m ls (sorted_head bytes_cmp m ls up) k l e)) (ap suc (place_at ls (sorted_tail bytes_cmp m ls up) k l e))

-- ---- a position by itself

at_itself : (n : ℕ) → is_at n (Var n) ≡ true
at_itself n = eq-eqb n n refl

at_is : (n : ℕ) (t : Tree) → is_at n t ≡ true → t ≡ Var n
at_is n (Var x) e = ap Var (eqb-true x n e)
at_is n t e = absurd cc

module _ (ls : List Name) where
  abbrev turned : List Name
  turned = turned_onto ls []

  as_long : length turned ≡ length ls
  as_long = let e = turned_length ls [] in omega (arith, e)

  turned_place : (k : ℕ) (o : Option Name) → slice_get turned k ≡ o → k < length ls → slice_get ls (length ls - suc k) ≡ o
  turned_place k o e h = sym (turned_get ls [] k h) ∙ e

  turned_within : (k : ℕ) (l : Name) → slice_get turned k ≡ Some l → k < length ls
  turned_within k l e = let h = slice_get_within turned k l e in let f = as_long in omega (arith, h, f)

  turned_none : (k : ℕ) → slice_get turned k ≡ None → length ls ≤ k
  turned_none k e = let h = none_past turned k e in let f = as_long in omega (arith, h, f)

  -- ---- the record's position is made by no term alone

  never_var : (x n : ℕ) → is_at n (packed turned n (Var x)) ≡ false
  never_var x n = ⊎_elim low high (cases_lt x n)
    where
      low : x < n → is_at n (packed turned n (Var x)) ≡ false
      low h = rw (lt-ltb x n h) (ne_eqb x n (λ e. omega (arith, h, e)))

      by_label : n ≤ x → (o : Option Name) → slice_get turned (x - n) ≡ o → is_at n (packed_var turned n x o) ≡ false
      by_label h (Some l) i = refl
      by_label h None i =
          let g = turned_none (x - n) i in
          let f = as_long in
          ne_eqb (x + 1 - length turned) n (λ e. omega (arith, h, g, f, e))

      high : n ≤ x → is_at n (packed turned n (Var x)) ≡ false
      high h = rw (le-ltb x n h) (by_label h (slice_get turned (x - n)) refl)

  never_at : (t : Tree) (n : ℕ) → is_at n (packed turned n t) ≡ false
  never_at (Var x) n = never_var x n
  never_at (Const v) n = refl
  never_at (Source i) n = refl
  never_at (Rec ps) n = refl
  never_at (Proj l a) n = refl
  never_at (Inj l a) n = refl
  never_at (Case a bs) n = refl
  never_at (Make k ts) n = refl
  never_at (Union a b) n = refl
  never_at (Ext k b s) n = refl
  never_at (If a b c) n = refl
  never_at (Let a b) n = refl
  never_at (Prim c ts) n = refl

  -- ---- put together what was taken apart

  repacked_var : (x n : ℕ) → cond (nat_eq x n) false true ≡ true → packed turned n (cond (nat_lt n x) (Var (x - 1 + length ls)) (Var x)) ≡ Var x
  repacked_var x n h = ⊎_elim above below (cases_lt n x)
    where
      raised_back : n < x → (o : Option Name) → slice_get turned (x - 1 + length ls - n) ≡ o → packed_var turned n (x - 1 + length ls) o ≡ Var x
      raised_back l (Some m) i = let g = turned_within (x - 1 + length ls - n) m i in absurd (omega (arith, l, g))
      raised_back l None i = let f = as_long in let e : x - 1 + length ls + 1 - length turned ≡ x = omega (arith, l, f) in ap Var e

      above : n < x → packed turned n (cond (nat_lt n x) (Var (x - 1 + length ls)) (Var x)) ≡ Var x
      above l = rw (lt-ltb n x l, le-ltb (x - 1 + length ls) n (omega (arith, l))) (raised_back l (slice_get turned (x - 1 + length ls - n)) refl)

      lower : x ≤ n → (x ≡ n → ⊥) → packed turned n (cond (nat_lt n x) (Var (x - 1 + length ls)) (Var x)) ≡ Var x
      lower l d = let m : x < n = grind (arith, l, d) in rw (le-ltb n x l, lt-ltb x n m) refl

      not_same : x ≡ n → ⊥
      not_same e = let f = rw (eq-eqb x n e) at h in cc

      below : x ≤ n → packed turned n (cond (nat_lt n x) (Var (x - 1 + length ls)) (Var x)) ≡ Var x
      below l = lower l not_same

  repacked_field : (l : Name) (n : ℕ) → place_in l ls < length ls → packed turned n (Var (n + (length ls - suc (place_in l ls)))) ≡ Proj l (Var n)
  repacked_field l n h =
      let k : ℕ = length ls - suc (place_in l ls) in
      let less : k < length ls = omega (arith, h) in
      let back : length ls - suc k ≡ place_in l ls = omega (arith, h) in
      let off : n + k - n ≡ k = omega arith in
      let found : slice_get turned (n + k - n) ≡ Some l = ap (slice_get turned) off ∙ turned_get ls [] k less ∙ ap (slice_get ls) back ∙ place_found l ls h in
      rw (le-ltb (n + k) n (omega arith)) (ap (packed_var turned n (n + k)) found)

  repacked_proj : (l : Name) (a : Tree) (n : ℕ) (b : Bool) → is_at n a ≡ b → cond (is_at n a) (nat_lt (place_in l ls) (length ls)) (alone_in ls n a) ≡ true
      → (alone_in ls n a ≡ true → packed turned n (unpacked ls n a) ≡ a)
      → packed turned n (cond (is_at n a) (Var (n + (length ls - suc (place_in l ls)))) (Proj l (unpacked ls n a))) ≡ Proj l a
  repacked_proj l a n true i h next = rw i (repacked_field l n (ltb-true (place_in l ls) (length ls) (rw i at h)) ∙ ap (Proj l) (sym (at_is n a i)))
  repacked_proj l a n false i h next = rw i (ap (Proj l) (next (rw i at h)))

  mutual
    pub repacked : (t : Tree) (n : ℕ) → alone_in ls n t ≡ true → packed turned n (unpacked ls n t) ≡ t
    repacked (Var x) n h = repacked_var x n h
    repacked (Const v) n h = refl
    repacked (Source i) n h = refl
    repacked (Rec ps) n h = ap Rec (repacked_parts ps n h)
    repacked (Proj l a) n h = repacked_proj l a n (is_at n a) refl h (λ g. repacked a n g)
    repacked (Inj l a) n h = ap (Inj l) (repacked a n h)
    repacked (Case a bs) n h = let g = both_true (alone_in ls n a) (alone_arms ls n bs) h in ap₂ Case (repacked a n g.0) (repacked_arms bs n g.1)
    repacked (Make k ts) n h = ap (Make k) (repacked_trees ts n h)
    repacked (Union a b) n h = let g = both_true (alone_in ls n a) (alone_in ls n b) h in ap₂ Union (repacked a n g.0) (repacked b n g.1)
    repacked (Ext k b s) n h = let g = both_true (alone_in ls (n + 1) b) (alone_in ls n s) h in ap₂ (Ext k) (repacked b (n + 1) g.0) (repacked s n g.1)
    repacked (If a b c) n h =
        let g = both_true (alone_in ls n a) (alone_in ls n b && alone_in ls n c) h in
        let i = both_true (alone_in ls n b) (alone_in ls n c) g.1 in
        choice_is (repacked a n g.0) (repacked b n i.0) (repacked c n i.1)
    repacked (Let a b) n h = let g = both_true (alone_in ls n a) (alone_in ls (n + 1) b) h in ap₂ Let (repacked a n g.0) (repacked b (n + 1) g.1)
    repacked (Prim c ts) n h = ap (Prim c) (repacked_trees ts n h)

    repacked_trees : (ts : Trees) (n : ℕ) → alone_trees ls n ts ≡ true → packed_trees turned n (unpacked_trees ls n ts) ≡ ts
    repacked_trees no_trees n h = refl
    repacked_trees (trees t ts) n h = let g = both_true (alone_in ls n t) (alone_trees ls n ts) h in ap₂ trees (repacked t n g.0) (repacked_trees ts n g.1)

    repacked_parts : (ps : Parts) (n : ℕ) → alone_parts ls n ps ≡ true → packed_parts turned n (unpacked_parts ls n ps) ≡ ps
    repacked_parts no_parts n h = refl
    repacked_parts (parts l t ps) n h = let g = both_true (alone_in ls n t) (alone_parts ls n ps) h in ap₂ (parts l) (repacked t n g.0) (repacked_parts ps n g.1)

    repacked_arms : (bs : Arms) (n : ℕ) → alone_arms ls n bs ≡ true → packed_arms turned n (unpacked_arms ls n bs) ≡ bs
    repacked_arms no_arms n h = refl
    repacked_arms (rest c) n h = ap rest (repacked c n h)
    repacked_arms (arm l b bs) n h = let g = both_true (alone_in ls (n + 1) b) (alone_arms ls n bs) h in ap₂ (arm l) (repacked b (n + 1) g.0) (repacked_arms bs n g.1)

  -- ---- take apart what was put together

  module _ (up : IsStrictlySortedBy bytes_cmp ls) where
    field_place : (x n : ℕ) (l : Name) → n ≤ x → slice_get turned (x - n) ≡ Some l → place_in l ls ≡ length ls - suc (x - n)
    field_place x n l h i = place_at ls up (length ls - suc (x - n)) l (turned_place (x - n) (Some l) i (turned_within (x - n) l i))

    opened_var : (x n : ℕ) → (unpacked ls n (packed turned n (Var x)) ≡ Var x) × (alone_in ls n (packed turned n (Var x)) ≡ true)
    opened_var x n = ⊎_elim low high (cases_lt x n)
      where
        low : x < n → (unpacked ls n (packed turned n (Var x)) ≡ Var x) × (alone_in ls n (packed turned n (Var x)) ≡ true)
        low h = rw (lt-ltb x n h) (lower, apart_from)
          where
            lower : cond (nat_lt n x) (Var (x - 1 + length ls)) (Var x) ≡ Var x
            lower = rw (le-ltb n x (omega (arith, h))) refl

            apart_from : cond (nat_eq x n) false true ≡ true
            apart_from = rw (ne_eqb x n (λ e. omega (arith, h, e))) refl

        by_label : n ≤ x → (o : Option Name) → slice_get turned (x - n) ≡ o → (unpacked ls n (packed_var turned n x o) ≡ Var x) × (alone_in ls n (packed_var turned n x o) ≡ true)
        by_label h (Some l) i =
            let less = turned_within (x - n) l i in
            let at = field_place x n l h i in
            let e : n + (length ls - suc (place_in l ls)) ≡ x = omega (arith, h, less, at) in
            let there : place_in l ls < length ls = omega (arith, less, at) in
            rw (at_itself n) (ap Var e, lt-ltb (place_in l ls) (length ls) there)
        by_label h None i =
            let g = turned_none (x - n) i in
            let f = as_long in
            let y : ℕ = x + 1 - length turned in
            let past : n < y = omega (arith, h, g, f) in
            let back : y - 1 + length ls ≡ x = omega (arith, h, g, f) in
            (rw (lt-ltb n y past) (ap Var back), rw (ne_eqb y n (λ e. omega (arith, past, e))) refl)

        high : n ≤ x → (unpacked ls n (packed turned n (Var x)) ≡ Var x) × (alone_in ls n (packed turned n (Var x)) ≡ true)
        high h = rw (le-ltb x n h) (by_label h (slice_get turned (x - n)) refl)

    mutual
      pub opened : (t : Tree) (n : ℕ) → unpacked ls n (packed turned n t) ≡ t
      opened (Var x) n = (opened_var x n).0
      opened (Const v) n = refl
      opened (Source i) n = refl
      opened (Rec ps) n = ap Rec (opened_parts ps n)
      opened (Proj l a) n = rw (never_at a n) (ap (Proj l) (opened a n))
      opened (Inj l a) n = ap (Inj l) (opened a n)
      opened (Case a bs) n = ap₂ Case (opened a n) (opened_arms bs n)
      opened (Make k ts) n = ap (Make k) (opened_trees ts n)
      opened (Union a b) n = ap₂ Union (opened a n) (opened b n)
      opened (Ext k b s) n = ap₂ (Ext k) (opened b (n + 1)) (opened s n)
      opened (If a b c) n = choice_is (opened a n) (opened b n) (opened c n)
      opened (Let a b) n = ap₂ Let (opened a n) (opened b (n + 1))
      opened (Prim c ts) n = ap (Prim c) (opened_trees ts n)

      opened_trees : (ts : Trees) (n : ℕ) → unpacked_trees ls n (packed_trees turned n ts) ≡ ts
      opened_trees no_trees n = refl
      opened_trees (trees t ts) n = ap₂ trees (opened t n) (opened_trees ts n)

      opened_parts : (ps : Parts) (n : ℕ) → unpacked_parts ls n (packed_parts turned n ps) ≡ ps
      opened_parts no_parts n = refl
      opened_parts (parts l t ps) n = ap₂ (parts l) (opened t n) (opened_parts ps n)

      opened_arms : (bs : Arms) (n : ℕ) → unpacked_arms ls n (packed_arms turned n bs) ≡ bs
      opened_arms no_arms n = refl
      opened_arms (rest c) n = ap rest (opened c n)
      opened_arms (arm l b bs) n = ap₂ (arm l) (opened b (n + 1)) (opened_arms bs n)

    mutual
      pub packed_alone : (t : Tree) (n : ℕ) → alone_in ls n (packed turned n t) ≡ true
      packed_alone (Var x) n = (opened_var x n).1
      packed_alone (Const v) n = refl
      packed_alone (Source i) n = refl
      packed_alone (Rec ps) n = packed_alone_parts ps n
      packed_alone (Proj l a) n = rw (never_at a n) (packed_alone a n)
      packed_alone (Inj l a) n = packed_alone a n
      packed_alone (Case a bs) n = rw (packed_alone a n) (packed_alone_arms bs n)
      packed_alone (Make k ts) n = packed_alone_trees ts n
      packed_alone (Union a b) n = rw (packed_alone a n) (packed_alone b n)
      packed_alone (Ext k b s) n = rw (packed_alone b (n + 1)) (packed_alone s n)
      packed_alone (If a b c) n = rw (packed_alone a n, packed_alone b n) (packed_alone c n)
      packed_alone (Let a b) n = rw (packed_alone a n) (packed_alone b (n + 1))
      packed_alone (Prim c ts) n = packed_alone_trees ts n

      packed_alone_trees : (ts : Trees) (n : ℕ) → alone_trees ls n (packed_trees turned n ts) ≡ true
      packed_alone_trees no_trees n = refl
      packed_alone_trees (trees t ts) n = rw (packed_alone t n) (packed_alone_trees ts n)

      packed_alone_parts : (ps : Parts) (n : ℕ) → alone_parts ls n (packed_parts turned n ps) ≡ true
      packed_alone_parts no_parts n = refl
      packed_alone_parts (parts l t ps) n = rw (packed_alone t n) (packed_alone_parts ps n)

      packed_alone_arms : (bs : Arms) (n : ℕ) → alone_arms ls n (packed_arms turned n bs) ≡ true
      packed_alone_arms no_arms n = refl
      packed_alone_arms (rest c) n = packed_alone c n
      packed_alone_arms (arm l b bs) n = rw (packed_alone b (n + 1)) (packed_alone_arms bs n)
