-- Which scans and joins stand where, by their numbers, which differ.
use Rattle.std.proofs.Common.{◌≡◌, ℕ, suc, ◌+◌, List, [], ◌∷◌, ◌++◌, refl, sym, ap, ◌∙◌, arith}
use Rattle.std.specs.List.{AllByRecursion, sum_by, flat_map}
use Rattle.std.proofs.lemmas.List.Sums.{sum_by-cons, sum_by-append}
use Rattle.std.proofs.lemmas.Grind.{flat_map-append}
use Rattle.kl_ask.specs.declared.settings.JoinHow.{JoinHow}
use Rattle.kl_plan.specs.declared.plan.Scan.{Scan}
use Rattle.kl_plan.specs.Nodes as node
use Rattle.kl_plan.specs.Nodes.{Node, Nodes, no_nodes, nodes, Fields, no_fields, fields, Branches, no_branches, rest, branch, Key as JoinKey, no_key, key}
use Rattle.kl_plan.specs.Numbers.{scans_in, scans_of_nodes, scans_of_fields, scans_of_branches, scans_of_key, joins_in, joins_of_nodes, joins_of_fields, joins_of_branches, joins_of_key}
use Rattle.kl_counts.specs.Places.{Places, PlacesNodes, PlacesFields, PlacesBranches, PlacesKey, AnyScan, AnyJoin, NoMemo, MemoFree, Apart}
use Rattle.kl_plan.specs.Parts.{memos_of, memos_of_nodes, memos_of_fields, memos_of_branches, memos_of_key}
use Rattle.kl_plan.specs.Subqueries.{Memo}
use Rattle.kl_counts.specs.Once.{AnyMemo}
use Rattle.kl_counts.specs.Standing.{Place, alone, inner, scan_of, outside, outside_nodes, outside_fields, outside_branches, outside_key, inside}
use Rattle.kl_counts.proofs.Regular.{places_with, no_memos}

-- ---- where something stands, by the list

module _ (Q : Place → Type 0) where
  front : (xs ys : List Place) → AllByRecursion Q (xs ++ ys) → AllByRecursion Q xs
  front [] ys h = tt
  front (x ∷ xs) ys h = (h.0, front xs ys h.1)

  back : (xs ys : List Place) → AllByRecursion Q (xs ++ ys) → AllByRecursion Q ys
  back [] ys h = h
  back (x ∷ xs) ys h = back xs ys h.1

  abbrev pub QScan : Scan → Type 0
  QScan c = Q (alone c)

  abbrev pub QJoin : ℕ → JoinHow → Scan → Type 0
  QJoin n way i = Q (inner n way i)

  mutual
    pub stands : (d : ℕ) (p : Node) → AllByRecursion Q (outside p) → Places QScan QJoin AnyMemo d p
    stands d (node.Plain t) h = tt
    stands d (node.Var x) h = tt
    stands d (node.Rec ps) h = stands_fields d ps h
    stands d (node.Proj l a) h = stands d a h
    stands d (node.Inj l a) h = stands d a h
    stands d (node.Case a bs) h = (stands d a (front (outside a) (outside_branches bs) h), stands_branches d bs (back (outside a) (outside_branches bs) h))
    stands d (node.Make k ps) h = stands_nodes d ps h
    stands d (node.Union a b) h = (stands d a (front (outside a) (outside b) h), stands d b (back (outside a) (outside b) h))
    stands d (node.Ext k b s) h = (stands (suc d) b (back (outside s) (outside b) h), stands d s (front (outside s) (outside b) h))
    stands d (node.If a b c) h =
        let g = back (outside a) (outside b ++ outside c) h in
        (stands d a (front (outside a) (outside b ++ outside c) h), stands d b (front (outside b) (outside c) g), stands d c (back (outside b) (outside c) g))
    stands d (node.Let a b) h = (stands d a (front (outside a) (outside b) h), stands (suc d) b (back (outside a) (outside b) h))
    stands d (node.Prim c ps) h = stands_nodes d ps h
    stands d (node.Scan c) h = h.0
    stands d (node.Join n k way o cs i q b) h =
        let g = back (outside o) (outside_nodes cs ++ (outside_key q ++ (inner n way i ∷ outside b))) h in
        let f = back (outside_nodes cs) (outside_key q ++ (inner n way i ∷ outside b)) g in
        let e = back (outside_key q) (inner n way i ∷ outside b) f in (
          stands d o (front (outside o) (outside_nodes cs ++ (outside_key q ++ (inner n way i ∷ outside b))) h),
          stands_nodes (suc d) cs (front (outside_nodes cs) (outside_key q ++ (inner n way i ∷ outside b)) g),
          stands_key (suc d) q (front (outside_key q) (inner n way i ∷ outside b) f),
          e.0,
          stands (suc (suc d)) b e.1,
        )
    stands d (node.Memo n frees p) h = tt

    stands_nodes : (d : ℕ) (ps : Nodes) → AllByRecursion Q (outside_nodes ps) → PlacesNodes QScan QJoin AnyMemo d ps
    stands_nodes d no_nodes h = tt
    stands_nodes d (nodes p ps) h = (stands d p (front (outside p) (outside_nodes ps) h), stands_nodes d ps (back (outside p) (outside_nodes ps) h))

    stands_fields : (d : ℕ) (ps : Fields) → AllByRecursion Q (outside_fields ps) → PlacesFields QScan QJoin AnyMemo d ps
    stands_fields d no_fields h = tt
    stands_fields d (fields l p ps) h = (stands d p (front (outside p) (outside_fields ps) h), stands_fields d ps (back (outside p) (outside_fields ps) h))

    stands_branches : (d : ℕ) (bs : Branches) → AllByRecursion Q (outside_branches bs) → PlacesBranches QScan QJoin AnyMemo d bs
    stands_branches d no_branches h = tt
    stands_branches d (rest c) h = stands d c h
    stands_branches d (branch l b bs) h = (stands (suc d) b (front (outside b) (outside_branches bs) h), stands_branches d bs (back (outside b) (outside_branches bs) h))

    stands_key : (d : ℕ) (q : JoinKey) → AllByRecursion Q (outside_key q) → PlacesKey QScan QJoin AnyMemo d q
    stands_key d no_key h = tt
    stands_key d (key l p) h = stands d p h

abbrev pub join_weight : (ℕ → ℕ) → Place → ℕ
join_weight w (alone c) = 0
join_weight w (inner n way i) = w n

-- ---- the scans of a plan are those in its places

module _ (w : Scan → ℕ) where
  abbrev weigh_out : List Place → ℕ
  weigh_out ps = sum_by (λ x. w (scan_of x)) ps

  abbrev weigh_ins : List Memo → ℕ
  weigh_ins ms = sum_by (λ x. w (scan_of x)) (flat_map (λ m. outside m.1.1) ms)

  weigh_both : (xs ys : List Scan) (ps qs : List Place) (ms ns : List Memo) → sum_by w xs ≡ weigh_out ps + weigh_ins ms → sum_by w ys ≡ weigh_out qs + weigh_ins ns
      → sum_by w (xs ++ ys) ≡ weigh_out (ps ++ qs) + weigh_ins (ms ++ ns)
  weigh_both xs ys ps qs ms ns f g =
      let all : weigh_ins (ms ++ ns) ≡ weigh_ins ms + weigh_ins ns = ap (sum_by (λ x. w (scan_of x))) (flat_map-append (λ m. outside m.1.1) ms ns) ∙ sum_by-append (λ x. w (scan_of x)) (flat_map (λ m. outside m.1.1) ms) (flat_map (λ m. outside m.1.1) ns) in
      omega (arith, sum_by-append w xs ys, sum_by-append (λ x. w (scan_of x)) ps qs)

  abbrev weigh_part : ℕ → ℕ → List ℕ → Node → Type 0
  weigh_part d n frees q = (sum_by w (scans_in q) ≡ weigh_out (outside q)) × (memos_of q ≡ [])

  mutual
    weigh : (d : ℕ) (p : Node) → Places AnyScan AnyJoin weigh_part d p → sum_by w (scans_in p) ≡ weigh_out (outside p) + weigh_ins (memos_of p)
    weigh d (node.Plain t) h = refl
    weigh d (node.Var x) h = refl
    weigh d (node.Rec ps) h = weigh_fields d ps h
    weigh d (node.Proj l a) h = weigh d a h
    weigh d (node.Inj l a) h = weigh d a h
    weigh d (node.Case a bs) h = weigh_both (scans_in a) (scans_of_branches bs) (outside a) (outside_branches bs) (memos_of a) (memos_of_branches bs) (weigh d a h.0) (weigh_branches d bs h.1)
    weigh d (node.Make k ps) h = weigh_nodes d ps h
    weigh d (node.Union a b) h = weigh_both (scans_in a) (scans_in b) (outside a) (outside b) (memos_of a) (memos_of b) (weigh d a h.0) (weigh d b h.1)
    weigh d (node.Ext k b s) h = weigh_both (scans_in s) (scans_in b) (outside s) (outside b) (memos_of s) (memos_of b) (weigh d s h.1) (weigh (suc d) b h.0)
    weigh d (node.If a b c) h =
        weigh_both (scans_in a) (scans_in b ++ scans_in c) (outside a) (outside b ++ outside c) (memos_of a) (memos_of b ++ memos_of c) (weigh d a h.0)
        (weigh_both (scans_in b) (scans_in c) (outside b) (outside c) (memos_of b) (memos_of c) (weigh d b h.1) (weigh d c h.2))
    weigh d (node.Let a b) h = weigh_both (scans_in a) (scans_in b) (outside a) (outside b) (memos_of a) (memos_of b) (weigh d a h.0) (weigh (suc d) b h.1)
    weigh d (node.Prim c ps) h = weigh_nodes d ps h
    weigh d (node.Scan c) h = omega (arith, sum_by-cons w c [], sum_by-cons (λ x. w (scan_of x)) (alone c) [])
    weigh d (node.Join n k way o cs i q b) h =
        let body = weigh (suc (suc d)) b h.4 in
        let last : sum_by w (i ∷ scans_in b) ≡ weigh_out (inner n way i ∷ outside b) + weigh_ins (memos_of b) = omega (arith, sum_by-cons w i (scans_in b), sum_by-cons (λ x. w (scan_of x)) (inner n way i) (outside b)) in
        weigh_both (scans_in o) (scans_of_nodes cs ++ (scans_of_key q ++ (i ∷ scans_in b))) (outside o) (outside_nodes cs ++ (outside_key q ++ (inner n way i ∷ outside b))) (memos_of o) (memos_of_nodes cs ++ (memos_of_key q ++ memos_of b)) (weigh d o h.0)
        (weigh_both (scans_of_nodes cs) (scans_of_key q ++ (i ∷ scans_in b)) (outside_nodes cs) (outside_key q ++ (inner n way i ∷ outside b)) (memos_of_nodes cs) (memos_of_key q ++ memos_of b) (weigh_nodes (suc d) cs h.1)
        (weigh_both (scans_of_key q) (i ∷ scans_in b) (outside_key q) (inner n way i ∷ outside b) (memos_of_key q) (memos_of b) (weigh_key (suc d) q h.2) last))
    weigh d (node.Memo n frees p) h = rw h.1 (let part : sum_by w (scans_in p) ≡ weigh_out (outside p) = h.0 in omega (arith, sum_by-append (λ x. w (scan_of x)) (outside p) []))

    weigh_nodes : (d : ℕ) (ps : Nodes) → PlacesNodes AnyScan AnyJoin weigh_part d ps → sum_by w (scans_of_nodes ps) ≡ weigh_out (outside_nodes ps) + weigh_ins (memos_of_nodes ps)
    weigh_nodes d no_nodes h = refl
    weigh_nodes d (nodes p ps) h = weigh_both (scans_in p) (scans_of_nodes ps) (outside p) (outside_nodes ps) (memos_of p) (memos_of_nodes ps) (weigh d p h.0) (weigh_nodes d ps h.1)

    weigh_fields : (d : ℕ) (ps : Fields) → PlacesFields AnyScan AnyJoin weigh_part d ps → sum_by w (scans_of_fields ps) ≡ weigh_out (outside_fields ps) + weigh_ins (memos_of_fields ps)
    weigh_fields d no_fields h = refl
    weigh_fields d (fields l p ps) h = weigh_both (scans_in p) (scans_of_fields ps) (outside p) (outside_fields ps) (memos_of p) (memos_of_fields ps) (weigh d p h.0) (weigh_fields d ps h.1)

    weigh_branches : (d : ℕ) (bs : Branches) → PlacesBranches AnyScan AnyJoin weigh_part d bs → sum_by w (scans_of_branches bs) ≡ weigh_out (outside_branches bs) + weigh_ins (memos_of_branches bs)
    weigh_branches d no_branches h = refl
    weigh_branches d (rest c) h = weigh d c h
    weigh_branches d (branch l b bs) h = weigh_both (scans_in b) (scans_of_branches bs) (outside b) (outside_branches bs) (memos_of b) (memos_of_branches bs) (weigh (suc d) b h.0) (weigh_branches d bs h.1)

    weigh_key : (d : ℕ) (q : JoinKey) → PlacesKey AnyScan AnyJoin weigh_part d q → sum_by w (scans_of_key q) ≡ weigh_out (outside_key q) + weigh_ins (memos_of_key q)
    weigh_key d no_key h = refl
    weigh_key d (key l p) h = weigh d p h

  weigh_free : (d : ℕ) (q : Node) → MemoFree d q → sum_by w (scans_in q) ≡ weigh_out (outside q)
  weigh_free d q h =
      let all = weigh d q (places_with AnyScan AnyScan AnyScan AnyJoin AnyJoin AnyJoin NoMemo NoMemo weigh_part (λ c h g. tt) (λ n way i h g. tt) (λ d n frees q h g. absurd h) d q h h) in
      let none = no_memos AnyScan AnyJoin d q h in
      omega (arith, ap weigh_ins none)

  pub weigh_all : (p : Node) → Apart p → sum_by w (scans_in p) ≡ weigh_out (outside p ++ inside p)
  weigh_all p h =
      let all = weigh 0 p (places_with AnyScan AnyScan AnyScan AnyJoin AnyJoin AnyJoin (λ d n frees q. MemoFree d q) (λ d n frees q. MemoFree d q) weigh_part (λ c h g. tt) (λ n way i h g. tt) (λ d n frees q h g. (weigh_free d q h, no_memos AnyScan AnyJoin d q h)) 0 p h h) in
      all ∙ sym (sum_by-append (λ x. w (scan_of x)) (outside p) (inside p))

-- ---- and so are its joins

module _ (w : ℕ → ℕ) where
  abbrev joined_out : List Place → ℕ
  joined_out ps = sum_by (join_weight w) ps

  abbrev joined_ins : List Memo → ℕ
  joined_ins ms = sum_by (join_weight w) (flat_map (λ m. outside m.1.1) ms)

  joined_both : (xs ys : List ℕ) (ps qs : List Place) (ms ns : List Memo) → sum_by w xs ≡ joined_out ps + joined_ins ms → sum_by w ys ≡ joined_out qs + joined_ins ns
      → sum_by w (xs ++ ys) ≡ joined_out (ps ++ qs) + joined_ins (ms ++ ns)
  joined_both xs ys ps qs ms ns f g =
      let all : joined_ins (ms ++ ns) ≡ joined_ins ms + joined_ins ns = ap (sum_by (join_weight w)) (flat_map-append (λ m. outside m.1.1) ms ns) ∙ sum_by-append (join_weight w) (flat_map (λ m. outside m.1.1) ms) (flat_map (λ m. outside m.1.1) ns) in
      omega (arith, sum_by-append w xs ys, sum_by-append (join_weight w) ps qs)

  abbrev joined_part : ℕ → ℕ → List ℕ → Node → Type 0
  joined_part d n frees q = (sum_by w (joins_in q) ≡ joined_out (outside q)) × (memos_of q ≡ [])

  mutual
    joined : (d : ℕ) (p : Node) → Places AnyScan AnyJoin joined_part d p → sum_by w (joins_in p) ≡ joined_out (outside p) + joined_ins (memos_of p)
    joined d (node.Plain t) h = refl
    joined d (node.Var x) h = refl
    joined d (node.Rec ps) h = joined_fields d ps h
    joined d (node.Proj l a) h = joined d a h
    joined d (node.Inj l a) h = joined d a h
    joined d (node.Case a bs) h = joined_both (joins_in a) (joins_of_branches bs) (outside a) (outside_branches bs) (memos_of a) (memos_of_branches bs) (joined d a h.0) (joined_branches d bs h.1)
    joined d (node.Make k ps) h = joined_nodes d ps h
    joined d (node.Union a b) h = joined_both (joins_in a) (joins_in b) (outside a) (outside b) (memos_of a) (memos_of b) (joined d a h.0) (joined d b h.1)
    joined d (node.Ext k b s) h = joined_both (joins_in s) (joins_in b) (outside s) (outside b) (memos_of s) (memos_of b) (joined d s h.1) (joined (suc d) b h.0)
    joined d (node.If a b c) h =
        joined_both (joins_in a) (joins_in b ++ joins_in c) (outside a) (outside b ++ outside c) (memos_of a) (memos_of b ++ memos_of c) (joined d a h.0)
        (joined_both (joins_in b) (joins_in c) (outside b) (outside c) (memos_of b) (memos_of c) (joined d b h.1) (joined d c h.2))
    joined d (node.Let a b) h = joined_both (joins_in a) (joins_in b) (outside a) (outside b) (memos_of a) (memos_of b) (joined d a h.0) (joined (suc d) b h.1)
    joined d (node.Prim c ps) h = joined_nodes d ps h
    joined d (node.Scan c) h = omega (arith, sum_by-cons (join_weight w) (alone c) [])
    joined d (node.Join n k way o cs i q b) h =
        let body = joined (suc (suc d)) b h.4 in
        let outer = joined d o h.0 in
        let conds = joined_nodes (suc d) cs h.1 in
        let value = joined_key (suc d) q h.2 in
        let rest1 = joined_both (joins_of_key q) (joins_in b) (outside_key q) (outside b) (memos_of_key q) (memos_of b) value body in
        let rest2 = joined_both (joins_of_nodes cs) (joins_of_key q ++ joins_in b) (outside_nodes cs) (outside_key q ++ outside b) (memos_of_nodes cs) (memos_of_key q ++ memos_of b) conds rest1 in
        let rest3 = joined_both (joins_in o) (joins_of_nodes cs ++ (joins_of_key q ++ joins_in b)) (outside o) (outside_nodes cs ++ (outside_key q ++ outside b)) (memos_of o) (memos_of_nodes cs ++ (memos_of_key q ++ memos_of b)) outer rest2 in
        omega (
          arith,
          sum_by-cons w n (joins_in o ++ (joins_of_nodes cs ++ (joins_of_key q ++ joins_in b))),
          sum_by-append (join_weight w) (outside o) (outside_nodes cs ++ (outside_key q ++ (inner n way i ∷ outside b))),
          sum_by-append (join_weight w) (outside_nodes cs) (outside_key q ++ (inner n way i ∷ outside b)),
          sum_by-append (join_weight w) (outside_key q) (inner n way i ∷ outside b),
          sum_by-cons (join_weight w) (inner n way i) (outside b),
          sum_by-append (join_weight w) (outside o) (outside_nodes cs ++ (outside_key q ++ outside b)),
          sum_by-append (join_weight w) (outside_nodes cs) (outside_key q ++ outside b),
          sum_by-append (join_weight w) (outside_key q) (outside b),
        )
    joined d (node.Memo n frees p) h = rw h.1 (let part : sum_by w (joins_in p) ≡ joined_out (outside p) = h.0 in omega (arith, sum_by-append (join_weight w) (outside p) []))

    joined_nodes : (d : ℕ) (ps : Nodes) → PlacesNodes AnyScan AnyJoin joined_part d ps → sum_by w (joins_of_nodes ps) ≡ joined_out (outside_nodes ps) + joined_ins (memos_of_nodes ps)
    joined_nodes d no_nodes h = refl
    joined_nodes d (nodes p ps) h = joined_both (joins_in p) (joins_of_nodes ps) (outside p) (outside_nodes ps) (memos_of p) (memos_of_nodes ps) (joined d p h.0) (joined_nodes d ps h.1)

    joined_fields : (d : ℕ) (ps : Fields) → PlacesFields AnyScan AnyJoin joined_part d ps → sum_by w (joins_of_fields ps) ≡ joined_out (outside_fields ps) + joined_ins (memos_of_fields ps)
    joined_fields d no_fields h = refl
    joined_fields d (fields l p ps) h = joined_both (joins_in p) (joins_of_fields ps) (outside p) (outside_fields ps) (memos_of p) (memos_of_fields ps) (joined d p h.0) (joined_fields d ps h.1)

    joined_branches : (d : ℕ) (bs : Branches) → PlacesBranches AnyScan AnyJoin joined_part d bs → sum_by w (joins_of_branches bs) ≡ joined_out (outside_branches bs) + joined_ins (memos_of_branches bs)
    joined_branches d no_branches h = refl
    joined_branches d (rest c) h = joined d c h
    joined_branches d (branch l b bs) h = joined_both (joins_in b) (joins_of_branches bs) (outside b) (outside_branches bs) (memos_of b) (memos_of_branches bs) (joined (suc d) b h.0) (joined_branches d bs h.1)

    joined_key : (d : ℕ) (q : JoinKey) → PlacesKey AnyScan AnyJoin joined_part d q → sum_by w (joins_of_key q) ≡ joined_out (outside_key q) + joined_ins (memos_of_key q)
    joined_key d no_key h = refl
    joined_key d (key l p) h = joined d p h

  joined_free : (d : ℕ) (q : Node) → MemoFree d q → sum_by w (joins_in q) ≡ joined_out (outside q)
  joined_free d q h =
      let all = joined d q (places_with AnyScan AnyScan AnyScan AnyJoin AnyJoin AnyJoin NoMemo NoMemo joined_part (λ c h g. tt) (λ n way i h g. tt) (λ d n frees q h g. absurd h) d q h h) in
      let none = no_memos AnyScan AnyJoin d q h in
      omega (arith, ap joined_ins none)

  pub joined_all : (p : Node) → Apart p → sum_by w (joins_in p) ≡ joined_out (outside p ++ inside p)
  joined_all p h =
      let all = joined 0 p (places_with AnyScan AnyScan AnyScan AnyJoin AnyJoin AnyJoin (λ d n frees q. MemoFree d q) (λ d n frees q. MemoFree d q) joined_part (λ c h g. tt) (λ n way i h g. tt) (λ d n frees q h g. (joined_free d q h, no_memos AnyScan AnyJoin d q h)) 0 p h h) in
      all ∙ sym (sum_by-append (join_weight w) (outside p) (inside p))
