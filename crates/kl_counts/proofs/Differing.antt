-- Where the numbers of scans, joins and memos_of differ, each stands in one place.
use Rattle.std.proofs.Common.{◌≡◌, ⊎_elim, ◌≤◌, ℕ, Bool, true, false, List, [], ◌∷◌, ◌++◌, map, cond, nat_eq, refl, sym, ap, subst, ◌∙◌, arith}
use Rattle.std.specs.List.{AllByRecursion, IsDistinct, sum_by, flat_map}
use Rattle.std.proofs.lemmas.List.Sums.{sum_by-cons, sum_by-append}
use Rattle.kl_ask.specs.declared.settings.JoinHow.{JoinHow}
use Rattle.kl_plan.specs.declared.plan.Scan.{Scan}
use Rattle.kl_plan.specs.Nodes.{Node}
use Rattle.kl_plan.specs.Numbers.{scans_in, joins_in, NumbersDiffer}
use Rattle.kl_counts.specs.Places.{Places, AnyScan, AnyJoin, NoMemo, MemoFree, Apart}
use Rattle.kl_plan.specs.Parts.{memos_of}
use Rattle.kl_plan.specs.Subqueries.{Memo}
use Rattle.kl_counts.specs.Once.{OtherScan, OtherInner, AnyMemo, NoneOutside, NoneInside, InnerOf, OnlyInner, OtherJoin, NoJoinInside}
use Rattle.kl_counts.specs.Standing.{Place, alone, inner, scan_of, outside, inside}
use Rattle.kl_counts.specs.Counts.{Within}
use Rattle.kl_counts.proofs.Same.{nat_itself, nat_is}
use Rattle.kl_counts.proofs.Regular.{places_with, In, listed, Listed}
use Rattle.kl_counts.proofs.Standing.{stands, join_weight, weigh_all, joined_all}

-- ---- how often a number is among some

abbrev at : ℕ → ℕ → ℕ
at n x = cond (nat_eq x n) 1 0

at_it : (n x : ℕ) → nat_eq x n ≡ true → at n x ≡ 1
at_it n x h = ap (λ b. cond b 1 0) h

at_other : (n x : ℕ) → nat_eq x n ≡ false → at n x ≡ 0
at_other n x h = ap (λ b. cond b 1 0) h

pub other_back : (n x : ℕ) → nat_eq n x ≡ false → nat_eq x n ≡ false
other_back n x h = by (nat_eq x n) refl
  where
    by : (b : Bool) → nat_eq x n ≡ b → b ≡ false
    by true t = let e = nat_is x n t in sym (nat_itself n) ∙ ap (nat_eq n) (sym e) ∙ h
    by false t = refl

absent : (n : ℕ) (ns : List ℕ) → AllByRecursion (λ y. nat_eq n y ≡ false) ns → sum_by (at n) ns ≡ 0
absent n [] h = refl
absent n (x ∷ xs) h = omega (arith, absent n xs h.1, at_other n x (other_back n x h.0), sum_by-cons (at n) x xs)

once_in : (n : ℕ) (ns : List ℕ) → IsDistinct nat_eq ns → sum_by (at n) ns ≤ 1
unfolding IsDistinct
once_in n [] d = omega arith
once_in n (x ∷ xs) d = by (nat_eq x n) refl (once_in n xs d.1)
  where
    by : (b : Bool) → nat_eq x n ≡ b → sum_by (at n) xs ≤ 1 → sum_by (at n) (x ∷ xs) ≤ 1
    by true t r = let e = nat_is x n t in let none = absent n xs (subst (λ z. AllByRecursion (λ y. nat_eq z y ≡ false) xs) e d.0) in omega (arith, at_it n x t, sum_by-cons (at n) x xs)
    by false t r = omega (arith, at_other n x t, sum_by-cons (at n) x xs)

mapped : (n : ℕ) (cs : List Scan) → sum_by (at n) (map (λ c. c.number) cs) ≡ sum_by (λ c. at n c.number) cs
mapped n [] = refl
mapped n (c ∷ cs) = omega (arith, mapped n cs, sum_by-cons (at n) c.number (map (λ c. c.number) cs), sum_by-cons (λ c. at n c.number) c cs)

-- ---- among places

abbrev scan_weight : ℕ → Place → ℕ
scan_weight n x = at n (scan_of x).number

-- no scan has the number
abbrev pub Other : ℕ → Place → Type 0
Other n (alone c) = nat_eq c.number n ≡ false
Other n (inner m way i) = nat_eq i.number n ≡ false

other_of : (n : ℕ) (x : Place) → nat_eq (scan_of x).number n ≡ false → Other n x
other_of n (alone c) h = h
other_of n (inner m way i) h = h

weighs : (w : Place → ℕ) (x : Place) (ps : List Place) → Within x ps → w x ≤ sum_by w ps
weighs w x [] i = absurd i
weighs w x (y ∷ ys) i = ⊎_elim (λ e. omega (arith, ap w e, sum_by-cons w y ys)) (λ j. omega (arith, weighs w x ys j, sum_by-cons w y ys)) i

all_other : (n : ℕ) (ps : List Place) → sum_by (scan_weight n) ps ≡ 0 → AllByRecursion (Other n) ps
all_other n [] z = tt
all_other n (x ∷ xs) z = (other_of n x (by (nat_eq (scan_of x).number n) refl), all_other n xs (omega (arith, sum_by-cons (scan_weight n) x xs)))
  where
    by : (b : Bool) → nat_eq (scan_of x).number n ≡ b → b ≡ false
    by true t = absurd (omega (arith, at_it n (scan_of x).number t, sum_by-cons (scan_weight n) x xs))
    by false t = refl

-- ---- what holds of the places in memos_of holds at each memo

first : (Q : Place → Type 0) (xs ys : List Place) → AllByRecursion Q (xs ++ ys) → AllByRecursion Q xs
first Q [] ys h = tt
first Q (x ∷ xs) ys h = (h.0, first Q xs ys h.1)

second : (Q : Place → Type 0) (xs ys : List Place) → AllByRecursion Q (xs ++ ys) → AllByRecursion Q ys
second Q [] ys h = h
second Q (x ∷ xs) ys h = second Q xs ys h.1

parts : (Q : Place → Type 0) (ms : List Memo) → AllByRecursion Q (flat_map (λ m. outside m.1.1) ms) → AllByRecursion (λ m. AllByRecursion Q (outside m.1.1)) ms
parts Q [] h = tt
parts Q (m ∷ ms) h = (first Q (outside m.1.1) (flat_map (λ m. outside m.1.1) ms) h, parts Q ms (second Q (outside m.1.1) (flat_map (λ m. outside m.1.1) ms) h))

all_in : (F : Memo → Type 0) (ms : List Memo) (m : Memo) → AllByRecursion F ms → In m ms → F m
all_in F [] m h i = absurd i
all_in F (x ∷ xs) m h i = ⊎_elim (λ e. subst F (sym e) h.0) (all_in F xs m h.1) i

-- no join has the number
abbrev NoNamesake : ℕ → Place → Type 0
NoNamesake j (alone c) = Unit {0}
NoNamesake j (inner m way i) = nat_eq m j ≡ false

no_weight : (n x : ℕ) → at n x ≡ 0 → nat_eq x n ≡ false
no_weight n x z = by (nat_eq x n) refl
  where
    by : (b : Bool) → nat_eq x n ≡ b → b ≡ false
    by true t = absurd (omega (arith, at_it n x t))
    by false t = refl

none_named : (j : ℕ) (ps : List Place) → sum_by (join_weight (at j)) ps ≡ 0 → AllByRecursion (NoNamesake j) ps
none_named j [] z = tt
none_named j (x ∷ xs) z = (here x (omega (arith, sum_by-cons (join_weight (at j)) x xs)), none_named j xs (omega (arith, sum_by-cons (join_weight (at j)) x xs)))
  where
    here : (x : Place) → join_weight (at j) x ≡ 0 → NoNamesake j x
    here (alone c) z = tt
    here (inner m way i) z = no_weight j m z

module _ (p : Node) (apart : Apart p) where
  -- what holds of all places in memos, where they stand
  in_memos : (Q : Place → Type 0) → AllByRecursion Q (inside p) → Places AnyScan AnyJoin (λ d m fs q. Places (λ c. Q (alone c)) (λ n way i. Q (inner n way i)) NoMemo d q) 0 p
  in_memos Q h =
      places_with AnyScan AnyScan AnyScan AnyJoin AnyJoin AnyJoin (λ d m fs q. MemoFree d q) (Listed (memos_of p)) (λ d m fs q. Places (λ c. Q (alone c)) (λ n way i. Q (inner n way i)) NoMemo d q)
      (λ c h g. tt) (λ n way i h g. tt)
      (λ d n fs q free i.
      places_with AnyScan (λ c. Q (alone c)) (λ c. Q (alone c)) AnyJoin (λ n way i. Q (inner n way i)) (λ n way i. Q (inner n way i)) NoMemo AnyMemo NoMemo (λ c h g. g) (λ n way i h g. g) (λ d n fs q h g. h) d q free
      (stands Q d q (all_in (λ m. AllByRecursion Q (outside m.1.1)) (memos_of p) ((n, (fs, q))) (parts Q (memos_of p) h) i)))
      0 p apart (listed (memos_of p) 0 p (λ m i. i))

  module _ (differ : NumbersDiffer p) where
    few_scans : (n : ℕ) → sum_by (scan_weight n) (outside p ++ inside p) ≤ 1
    few_scans n = omega (arith, weigh_all (λ c. at n c.number) p apart, mapped n (scans_in p), once_in n (map (λ c. c.number) (scans_in p)) differ.scans)

    few_joins : (j : ℕ) → sum_by (join_weight (at j)) (outside p ++ inside p) ≤ 1
    few_joins j = omega (arith, joined_all (at j) p apart, once_in j (joins_in p) differ.joins)

    -- a scan outside every memo has no namesake inside one
    pub none_inside : (x : Place) → Within x (outside p) → NoneInside (scan_of x).number p
    none_inside x i =
        let n = (scan_of x).number in
        let here : at n n ≡ 1 = at_it n n (nat_itself n) in
        in_memos (Other n) (all_other n (inside p) (omega (arith, few_scans n, sum_by-append (scan_weight n) (outside p) (inside p), weighs (scan_weight n) x (outside p) i)))

    -- a scan inside a memo has none outside
    pub none_outside : (x : Place) → Within x (inside p) → NoneOutside (scan_of x).number p
    none_outside x i =
        let n = (scan_of x).number in
        let here : at n n ≡ 1 = at_it n n (nat_itself n) in
        stands (Other n) 0 p (all_other n (outside p) (omega (arith, few_scans n, sum_by-append (scan_weight n) (outside p) (inside p), weighs (scan_weight n) x (inside p) i)))

    -- ---- the inner part of a join

    abbrev Pairs : ℕ → ℕ → Place → Type 0
    Pairs n j (alone c) = nat_eq c.number n ≡ false
    Pairs n j (inner m way i) = nat_eq i.number n ≡ nat_eq m j

    -- no scan has its number, and no join its number
    pairs_neither : (n j : ℕ) (x : Place) → scan_weight n x ≡ 0 → join_weight (at j) x ≡ 0 → Pairs n j x
    pairs_neither n j (alone c) s t = no_weight n c.number s
    pairs_neither n j (inner m way i) s t = no_weight n i.number s ∙ sym (no_weight j m t)

    all_neither : (n j : ℕ) (ps : List Place) → sum_by (scan_weight n) ps ≡ 0 → sum_by (join_weight (at j)) ps ≡ 0 → AllByRecursion (Pairs n j) ps
    all_neither n j [] s t = tt
    all_neither n j (x ∷ xs) s t = (
      pairs_neither n j x (omega (arith, sum_by-cons (scan_weight n) x xs)) (omega (arith, sum_by-cons (join_weight (at j)) x xs)),
      all_neither n j xs (omega (arith, sum_by-cons (scan_weight n) x xs)) (omega (arith, sum_by-cons (join_weight (at j)) x xs)),
    )

    all_pairs : (j : ℕ) (way : JoinHow) (i : Scan) (ps : List Place) → Within (inner j way i) ps → sum_by (scan_weight i.number) ps ≤ 1 → sum_by (join_weight (at j)) ps ≤ 1 → AllByRecursion (Pairs i.number j) ps
    all_pairs j way i [] h s t = absurd h
    all_pairs j way i (x ∷ xs) h s t = ⊎_elim here (later (all_pairs j way i xs)) h
      where
        scan_one : scan_weight i.number (inner j way i) ≡ 1
        scan_one = at_it i.number i.number (nat_itself i.number)

        join_one : join_weight (at j) (inner j way i) ≡ 1
        join_one = at_it j j (nat_itself j)

        here : inner j way i ≡ x → Pairs i.number j x × AllByRecursion (Pairs i.number j) xs
        here e = (
          subst (Pairs i.number j) e (nat_itself i.number ∙ sym (nat_itself j)),
          all_neither i.number j xs (omega (arith, scan_one, ap (scan_weight i.number) e, sum_by-cons (scan_weight i.number) x xs)) (omega (arith, join_one, ap (join_weight (at j)) e, sum_by-cons (join_weight (at j)) x xs)),
        )

        later : (Within (inner j way i) xs → sum_by (scan_weight i.number) xs ≤ 1 → sum_by (join_weight (at j)) xs ≤ 1 → AllByRecursion (Pairs i.number j) xs) → Within (inner j way i) xs → Pairs i.number j x × AllByRecursion (Pairs i.number j) xs
        later r k =
            let scans = weighs (scan_weight i.number) (inner j way i) xs k in
            let joins = weighs (join_weight (at j)) (inner j way i) xs k in
            let a = sum_by-cons (scan_weight i.number) x xs in
            let b = sum_by-cons (join_weight (at j)) x xs in
            (pairs_neither i.number j x (omega (arith, scan_one)) (omega (arith, join_one)), r k (omega arith) (omega arith))

    pub only_inner : (j : ℕ) (way : JoinHow) (i : Scan) → Within (inner j way i) (outside p ++ inside p) → OnlyInner i.number j p
    only_inner j way i h =
        let all = all_pairs j way i (outside p ++ inside p) h (few_scans i.number) (few_joins j) in
        places_with (OtherScan i.number) AnyScan (OtherScan i.number) (InnerOf i.number j) AnyJoin (InnerOf i.number j) AnyMemo (λ d m fs q. Places (OtherScan i.number) (InnerOf i.number j) NoMemo d q)
        (λ d m fs q. Places (OtherScan i.number) (InnerOf i.number j) NoMemo d q) (λ c h g. h) (λ n way i h g. h) (λ d n fs q h g. g) 0 p
        (stands (Pairs i.number j) 0 p (first (Pairs i.number j) (outside p) (inside p) all)) (in_memos (Pairs i.number j) (second (Pairs i.number j) (outside p) (inside p) all))

    -- ---- joins outside every memo

    -- a join outside every memo has no namesake inside one
    pub no_join_inside : (j : ℕ) (way : JoinHow) (i : Scan) → Within (inner j way i) (outside p) → NoJoinInside j p
    no_join_inside j way i h =
        let one : join_weight (at j) (inner j way i) ≡ 1 = at_it j j (nat_itself j) in
        let none = none_named j (inside p) (omega (arith, few_joins j, sum_by-append (join_weight (at j)) (outside p) (inside p), weighs (join_weight (at j)) (inner j way i) (outside p) h)) in
        places_with AnyScan AnyScan AnyScan AnyJoin AnyJoin AnyJoin (λ d m fs q. Places (λ c. NoNamesake j (alone c)) (λ n way i. NoNamesake j (inner n way i)) NoMemo d q) (λ d m fs q. Places (λ c. NoNamesake j (alone c)) (λ n way i. NoNamesake j (inner n way i)) NoMemo d q)
        (λ d m fs q. Places AnyScan (OtherJoin j) NoMemo d q) (λ c h g. tt) (λ n way i h g. tt)
        (λ d n fs q h g. places_with AnyScan AnyScan AnyScan (OtherJoin j) (OtherJoin j) (OtherJoin j) NoMemo NoMemo NoMemo (λ c h g. tt) (λ n way i h g. g) (λ d n fs q h g. h) d q h h)
        0 p (in_memos (NoNamesake j) none) (in_memos (NoNamesake j) none)

    -- ---- a scan by itself

    -- no join has an inner scan of its number
    abbrev pub NotInner : ℕ → Place → Type 0
    NotInner n (alone c) = Unit {0}
    NotInner n (inner m way i) = nat_eq i.number n ≡ false

    all_not : (n : ℕ) (ps : List Place) → sum_by (scan_weight n) ps ≡ 0 → AllByRecursion (NotInner n) ps
    all_not n [] z = tt
    all_not n (x ∷ xs) z = (here x (omega (arith, sum_by-cons (scan_weight n) x xs)), all_not n xs (omega (arith, sum_by-cons (scan_weight n) x xs)))
      where
        here : (x : Place) → scan_weight n x ≡ 0 → NotInner n x
        here (alone c) z = tt
        here (inner m way i) z = no_weight n i.number z

    all_not_inner : (c : Scan) (ps : List Place) → Within (alone c) ps → sum_by (scan_weight c.number) ps ≤ 1 → AllByRecursion (NotInner c.number) ps
    all_not_inner c [] h s = absurd h
    all_not_inner c (x ∷ xs) h s = ⊎_elim now (later (all_not_inner c xs)) h
      where
        one : scan_weight c.number (alone c) ≡ 1
        one = at_it c.number c.number (nat_itself c.number)

        other : (x : Place) → scan_weight c.number x ≡ 0 → NotInner c.number x
        other (alone d) z = tt
        other (inner m way i) z = no_weight c.number i.number z

        now : alone c ≡ x → NotInner c.number x × AllByRecursion (NotInner c.number) xs
        now e = (subst (NotInner c.number) e tt, all_not c.number xs (omega (arith, one, ap (scan_weight c.number) e, sum_by-cons (scan_weight c.number) x xs)))

        later : (Within (alone c) xs → sum_by (scan_weight c.number) xs ≤ 1 → AllByRecursion (NotInner c.number) xs) → Within (alone c) xs → NotInner c.number x × AllByRecursion (NotInner c.number) xs
        later r k =
            let some = weighs (scan_weight c.number) (alone c) xs k in
            let a = sum_by-cons (scan_weight c.number) x xs in
            (other x (omega (arith, one)), r k (omega (arith, one)))

    pub inner_other : (c : Scan) → Within (alone c) (outside p ++ inside p) → Places AnyScan (OtherInner c.number) (λ d m fs q. Places AnyScan (OtherInner c.number) NoMemo d q) 0 p
    inner_other c h =
        let all = all_not_inner c (outside p ++ inside p) h (few_scans c.number) in
        places_with AnyScan AnyScan AnyScan (OtherInner c.number) AnyJoin (OtherInner c.number) AnyMemo (λ d m fs q. Places AnyScan (OtherInner c.number) NoMemo d q) (λ d m fs q. Places AnyScan (OtherInner c.number) NoMemo d q)
        (λ c h g. tt) (λ n way i h g. h) (λ d n fs q h g. g) 0 p
        (stands (NotInner c.number) 0 p (first (NotInner c.number) (outside p) (inside p) all)) (in_memos (NotInner c.number) (second (NotInner c.number) (outside p) (inside p) all))
