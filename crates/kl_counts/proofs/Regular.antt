-- What holds where the scans, joins and memos_of of a plan stand, and the memos_of of a plan as a list.
use Rattle.std.proofs.Common.{◌≡◌, ◌⊎◌, inl, inr, ⊎_elim, ℕ, suc, false, List, [], ◌∷◌, ◌++◌, map, cond, nat_eq, length, refl, sym, ap, subst, ◌∙◌, arith}
use Rattle.std.specs.List.{AllByRecursion, IsDistinct, sum_by}
use Rattle.kl_value.specs.declared.Value.{Value}
use Rattle.kl_ask.specs.declared.settings.JoinHow.{JoinHow}
use Rattle.kl_plan.specs.declared.plan.Scan.{Scan}
use Rattle.kl_plan.specs.Nodes as node
use Rattle.kl_plan.specs.Nodes.{Node, Nodes, no_nodes, nodes, Fields, no_fields, fields, Branches, no_branches, rest, branch, Key as JoinKey, no_key, key}
use Rattle.kl_plan.specs.Meaning.{Readings}
use Rattle.kl_plan.specs.Subqueries.{values_at}
use Rattle.kl_counts.specs.Keys.{under}
use Rattle.kl_plan.specs.Prices.{Prices, executed, at_keys}
use Rattle.kl_counts.specs.Places.{Places, PlacesNodes, PlacesFields, PlacesBranches, PlacesKey, AnyScan, AnyJoin, NoMemo, MemoFree, Apart}
use Rattle.kl_counts.specs.Free.{AreFree}
use Rattle.kl_plan.specs.Reached.{reached}
use Rattle.kl_counts.specs.Visits.{keys}
use Rattle.kl_plan.specs.Parts.{memos_of, memos_of_nodes, memos_of_fields, memos_of_branches, memos_of_key}
use Rattle.kl_plan.specs.Subqueries.{Memo}
use Rattle.kl_counts.specs.Once.{costs}
use Rattle.kl_counts.proofs.Visiting.{keys_weigh}
use Rattle.kl_counts.proofs.Pricing.{reached_rel}
use Rattle.kl_counts.proofs.Same.{nat_itself, under_key_same}
use Rattle.kl_counts.proofs.Counting.{IsSame, keys_none}

-- ---- of two facts a third

module _ (S T U : Scan → Type 0) (J K L : ℕ → JoinHow → Scan → Type 0) (M N O : ℕ → ℕ → List ℕ → Node → Type 0)
    (scan : (c : Scan) → S c → T c → U c) (join : (n : ℕ) (way : JoinHow) (i : Scan) → J n way i → K n way i → L n way i)
    (memo : (d n : ℕ) (frees : List ℕ) (p : Node) → M d n frees p → N d n frees p → O d n frees p)
  where
    mutual
      pub places_with : (d : ℕ) (p : Node) → Places S J M d p → Places T K N d p → Places U L O d p
      places_with d (node.Plain t) h g = tt
      places_with d (node.Var x) h g = tt
      places_with d (node.Rec ps) h g = with_fields d ps h g
      places_with d (node.Proj l a) h g = places_with d a h g
      places_with d (node.Inj l a) h g = places_with d a h g
      places_with d (node.Case a bs) h g = (places_with d a h.0 g.0, with_branches d bs h.1 g.1)
      places_with d (node.Make k ps) h g = with_nodes d ps h g
      places_with d (node.Union a b) h g = (places_with d a h.0 g.0, places_with d b h.1 g.1)
      places_with d (node.Ext k b s) h g = (places_with (suc d) b h.0 g.0, places_with d s h.1 g.1)
      places_with d (node.If a b c) h g = (places_with d a h.0 g.0, places_with d b h.1 g.1, places_with d c h.2 g.2)
      places_with d (node.Let a b) h g = (places_with d a h.0 g.0, places_with (suc d) b h.1 g.1)
      places_with d (node.Prim c ps) h g = with_nodes d ps h g
      places_with d (node.Scan c) h g = scan c h g
      places_with d (node.Join n k way o cs i q b) h g =
          (places_with d o h.0 g.0, with_nodes (suc d) cs h.1 g.1, with_key (suc d) q h.2 g.2, join n way i h.3 g.3, places_with (suc (suc d)) b h.4 g.4)
      places_with d (node.Memo n frees p) h g = memo d n frees p h g

      with_nodes : (d : ℕ) (ps : Nodes) → PlacesNodes S J M d ps → PlacesNodes T K N d ps → PlacesNodes U L O d ps
      with_nodes d no_nodes h g = tt
      with_nodes d (nodes p ps) h g = (places_with d p h.0 g.0, with_nodes d ps h.1 g.1)

      with_fields : (d : ℕ) (ps : Fields) → PlacesFields S J M d ps → PlacesFields T K N d ps → PlacesFields U L O d ps
      with_fields d no_fields h g = tt
      with_fields d (fields l p ps) h g = (places_with d p h.0 g.0, with_fields d ps h.1 g.1)

      with_branches : (d : ℕ) (bs : Branches) → PlacesBranches S J M d bs → PlacesBranches T K N d bs → PlacesBranches U L O d bs
      with_branches d no_branches h g = tt
      with_branches d (rest c) h g = places_with d c h g
      with_branches d (branch l b bs) h g = (places_with (suc d) b h.0 g.0, with_branches d bs h.1 g.1)

      with_key : (d : ℕ) (q : JoinKey) → PlacesKey S J M d q → PlacesKey T K N d q → PlacesKey U L O d q
      with_key d no_key h g = tt
      with_key d (key l p) h g = places_with d p h g

-- ---- the memos_of of a plan are in its list

abbrev pub In : Memo → List Memo → Type 0
In m [] = ⊥
In m (x ∷ xs) = (m ≡ x) ⊎ In m xs

in_left : (m : Memo) (xs ys : List Memo) → In m xs → In m (xs ++ ys)
in_left m [] ys i = absurd i
in_left m (x ∷ xs) ys i = ⊎_elim (λ e. inl e) (λ j. inr (in_left m xs ys j)) i

in_right : (m : Memo) (xs ys : List Memo) → In m ys → In m (xs ++ ys)
in_right m [] ys i = i
in_right m (x ∷ xs) ys i = inr (in_right m xs ys i)

module _ (all : List Memo) where
  abbrev pub HasAll : List Memo → Type 0
  HasAll ms = (m : Memo) → In m ms → In m all

  left : (xs ys : List Memo) → HasAll (xs ++ ys) → HasAll xs
  left xs ys h m i = h m (in_left m xs ys i)

  right : (xs ys : List Memo) → HasAll (xs ++ ys) → HasAll ys
  right xs ys h m i = h m (in_right m xs ys i)

  abbrev pub Listed : ℕ → ℕ → List ℕ → Node → Type 0
  Listed d n frees p = In ((n, (frees, p))) all

  mutual
    pub listed : (d : ℕ) (p : Node) → HasAll (memos_of p) → Places AnyScan AnyJoin Listed d p
    listed d (node.Plain t) h = tt
    listed d (node.Var x) h = tt
    listed d (node.Rec ps) h = listed_fields d ps h
    listed d (node.Proj l a) h = listed d a h
    listed d (node.Inj l a) h = listed d a h
    listed d (node.Case a bs) h = (listed d a (left (memos_of a) (memos_of_branches bs) h), listed_branches d bs (right (memos_of a) (memos_of_branches bs) h))
    listed d (node.Make k ps) h = listed_nodes d ps h
    listed d (node.Union a b) h = (listed d a (left (memos_of a) (memos_of b) h), listed d b (right (memos_of a) (memos_of b) h))
    listed d (node.Ext k b s) h = (listed (suc d) b (right (memos_of s) (memos_of b) h), listed d s (left (memos_of s) (memos_of b) h))
    listed d (node.If a b c) h =
        let g = right (memos_of a) (memos_of b ++ memos_of c) h in
        (listed d a (left (memos_of a) (memos_of b ++ memos_of c) h), listed d b (left (memos_of b) (memos_of c) g), listed d c (right (memos_of b) (memos_of c) g))
    listed d (node.Let a b) h = (listed d a (left (memos_of a) (memos_of b) h), listed (suc d) b (right (memos_of a) (memos_of b) h))
    listed d (node.Prim c ps) h = listed_nodes d ps h
    listed d (node.Scan c) h = tt
    listed d (node.Join n k way o cs i q b) h =
        let g = right (memos_of o) (memos_of_nodes cs ++ (memos_of_key q ++ memos_of b)) h in
        let f = right (memos_of_nodes cs) (memos_of_key q ++ memos_of b) g in (
          listed d o (left (memos_of o) (memos_of_nodes cs ++ (memos_of_key q ++ memos_of b)) h),
          listed_nodes (suc d) cs (left (memos_of_nodes cs) (memos_of_key q ++ memos_of b) g),
          listed_key (suc d) q (left (memos_of_key q) (memos_of b) f),
          tt,
          listed (suc (suc d)) b (right (memos_of_key q) (memos_of b) f),
        )
    listed d (node.Memo n frees p) h = h ((n, (frees, p))) (inl refl)

    listed_nodes : (d : ℕ) (ps : Nodes) → HasAll (memos_of_nodes ps) → PlacesNodes AnyScan AnyJoin Listed d ps
    listed_nodes d no_nodes h = tt
    listed_nodes d (nodes p ps) h = (listed d p (left (memos_of p) (memos_of_nodes ps) h), listed_nodes d ps (right (memos_of p) (memos_of_nodes ps) h))

    listed_fields : (d : ℕ) (ps : Fields) → HasAll (memos_of_fields ps) → PlacesFields AnyScan AnyJoin Listed d ps
    listed_fields d no_fields h = tt
    listed_fields d (fields l p ps) h = (listed d p (left (memos_of p) (memos_of_fields ps) h), listed_fields d ps (right (memos_of p) (memos_of_fields ps) h))

    listed_branches : (d : ℕ) (bs : Branches) → HasAll (memos_of_branches bs) → PlacesBranches AnyScan AnyJoin Listed d bs
    listed_branches d no_branches h = tt
    listed_branches d (rest c) h = listed d c h
    listed_branches d (branch l b bs) h = (listed (suc d) b (left (memos_of b) (memos_of_branches bs) h), listed_branches d bs (right (memos_of b) (memos_of_branches bs) h))

    listed_key : (d : ℕ) (q : JoinKey) → HasAll (memos_of_key q) → PlacesKey AnyScan AnyJoin Listed d q
    listed_key d no_key h = tt
    listed_key d (key l p) h = listed d p h

-- what holds of memos_of where they stand holds of those in the list
module _ (S : Scan → Type 0) (J : ℕ → JoinHow → Scan → Type 0) (M : ℕ → ℕ → List ℕ → Node → Type 0) where
  abbrev pub Somewhere : Memo → Type 0
  Somewhere m = (d : ℕ) × M d m.0 m.1.0 m.1.1

  both : (xs ys : List Memo) → AllByRecursion Somewhere xs → AllByRecursion Somewhere ys → AllByRecursion Somewhere (xs ++ ys)
  both [] ys h g = g
  both (x ∷ xs) ys h g = (h.0, both xs ys h.1 g)

  -- where none stands inside another
  module _ (apart : (d n : ℕ) (frees : List ℕ) (p : Node) → M d n frees p → memos_of p ≡ []) where
    mutual
      pub each_memo : (d : ℕ) (p : Node) → Places S J M d p → AllByRecursion Somewhere (memos_of p)
      each_memo d (node.Plain t) h = tt
      each_memo d (node.Var x) h = tt
      each_memo d (node.Rec ps) h = each_fields d ps h
      each_memo d (node.Proj l a) h = each_memo d a h
      each_memo d (node.Inj l a) h = each_memo d a h
      each_memo d (node.Case a bs) h = both (memos_of a) (memos_of_branches bs) (each_memo d a h.0) (each_branches d bs h.1)
      each_memo d (node.Make k ps) h = each_nodes d ps h
      each_memo d (node.Union a b) h = both (memos_of a) (memos_of b) (each_memo d a h.0) (each_memo d b h.1)
      each_memo d (node.Ext k b s) h = both (memos_of s) (memos_of b) (each_memo d s h.1) (each_memo (suc d) b h.0)
      each_memo d (node.If a b c) h = both (memos_of a) (memos_of b ++ memos_of c) (each_memo d a h.0) (both (memos_of b) (memos_of c) (each_memo d b h.1) (each_memo d c h.2))
      each_memo d (node.Let a b) h = both (memos_of a) (memos_of b) (each_memo d a h.0) (each_memo (suc d) b h.1)
      each_memo d (node.Prim c ps) h = each_nodes d ps h
      each_memo d (node.Scan c) h = tt
      each_memo d (node.Join n k way o cs i q b) h =
          both (memos_of o) (memos_of_nodes cs ++ (memos_of_key q ++ memos_of b)) (each_memo d o h.0)
          (both (memos_of_nodes cs) (memos_of_key q ++ memos_of b) (each_nodes (suc d) cs h.1) (both (memos_of_key q) (memos_of b) (each_key (suc d) q h.2) (each_memo (suc (suc d)) b h.4)))
      each_memo d (node.Memo n frees p) h = ((d, h), subst (AllByRecursion Somewhere) (sym (apart d n frees p h)) tt)

      each_nodes : (d : ℕ) (ps : Nodes) → PlacesNodes S J M d ps → AllByRecursion Somewhere (memos_of_nodes ps)
      each_nodes d no_nodes h = tt
      each_nodes d (nodes p ps) h = both (memos_of p) (memos_of_nodes ps) (each_memo d p h.0) (each_nodes d ps h.1)

      each_fields : (d : ℕ) (ps : Fields) → PlacesFields S J M d ps → AllByRecursion Somewhere (memos_of_fields ps)
      each_fields d no_fields h = tt
      each_fields d (fields l p ps) h = both (memos_of p) (memos_of_fields ps) (each_memo d p h.0) (each_fields d ps h.1)

      each_branches : (d : ℕ) (bs : Branches) → PlacesBranches S J M d bs → AllByRecursion Somewhere (memos_of_branches bs)
      each_branches d no_branches h = tt
      each_branches d (rest c) h = each_memo d c h
      each_branches d (branch l b bs) h = both (memos_of b) (memos_of_branches bs) (each_memo (suc d) b h.0) (each_branches d bs h.1)

      each_key : (d : ℕ) (q : JoinKey) → PlacesKey S J M d q → AllByRecursion Somewhere (memos_of_key q)
      each_key d no_key h = tt
      each_key d (key l p) h = each_memo d p h

no_somewhere : (ms : List Memo) → AllByRecursion (λ m. (d : ℕ) × NoMemo d m.0 m.1.0 m.1.1) ms → ms ≡ []
no_somewhere [] h = refl
no_somewhere (m ∷ ms) h = absurd h.0.1

-- without memos there are none
pub no_memos : (S : Scan → Type 0) (J : ℕ → JoinHow → Scan → Type 0) (d : ℕ) (p : Node) → Places S J NoMemo d p → memos_of p ≡ []
no_memos S J d p h = no_somewhere (memos_of p) (each_memo S J NoMemo (λ d n frees p h. absurd h) d p h)

-- ---- a memo is found by its number

abbrev pub numbers : List Memo → List ℕ
numbers ms = map (λ m. m.0) ms

apart_in : (n : ℕ) (m : Memo) (ms : List Memo) → AllByRecursion (λ y. nat_eq n y ≡ false) (numbers ms) → In m ms → nat_eq n m.0 ≡ false
apart_in n m [] a i = absurd i
apart_in n m (x ∷ xs) a i = ⊎_elim (λ e. ap (λ y. nat_eq n y.0) e ∙ a.0) (apart_in n m xs a.1) i

module _ (R : Readings) (block : ℕ) where
  pub found : (P : Prices) (ms : List Memo) (m : Memo) (vs : List Value) → IsDistinct nat_eq (numbers ms) → In m ms → costs R block P ms (m.0, vs) ≡ reached R block P m.1.1 (under 0 m.1.0 vs)
  unfolding IsDistinct
  found P [] m vs d i = absurd i
  found P (x ∷ xs) m vs d i = ⊎_elim here (later (found P xs m vs d.1)) i
    where
      here : m ≡ x → cond (nat_eq x.0 m.0) (reached R block P x.1.1 (under 0 x.1.0 vs)) (costs R block P xs (m.0, vs)) ≡ reached R block P m.1.1 (under 0 m.1.0 vs)
      here e = subst (λ y. cond (nat_eq y.0 m.0) (reached R block P y.1.1 (under 0 y.1.0 vs)) (costs R block P xs (m.0, vs)) ≡ reached R block P m.1.1 (under 0 m.1.0 vs)) e
          (ap (λ b. cond b (reached R block P m.1.1 (under 0 m.1.0 vs)) (costs R block P xs (m.0, vs))) (nat_itself m.0))

      later : (In m xs → costs R block P xs (m.0, vs) ≡ reached R block P m.1.1 (under 0 m.1.0 vs)) → In m xs → cond (nat_eq x.0 m.0) (reached R block P x.1.1 (under 0 x.1.0 vs)) (costs R block P xs (m.0, vs)) ≡ reached R block P m.1.1 (under 0 m.1.0 vs)
      later r j = ap (λ b. cond b (reached R block P x.1.1 (under 0 x.1.0 vs)) (costs R block P xs (m.0, vs))) (apart_in x.0 m xs d.0 j) ∙ r j

  -- what a memo's part comes to is what its number and key cost
  pub record Costed (p : Node) (d n : ℕ) (frees : List ℕ) (q : Node) : Type 0 where
    pub free : MemoFree d q
    pub costs : (P : Prices) (env : List Value) → length env ≡ d → reached R block P q env ≡ costs R block P (memos_of p) (n, values_at env frees)

  pub costed : (p : Node) → Apart p → Places AnyScan AnyJoin (λ d n frees q. AreFree d frees q) 0 p → IsDistinct nat_eq (numbers (memos_of p)) → Places AnyScan AnyJoin (Costed p) 0 p
  costed p apart frees differ =
      places_with AnyScan AnyScan AnyScan AnyJoin AnyJoin AnyJoin (λ d n frees q. MemoFree d q) (λ d n fs q. AreFree d fs q × Listed (memos_of p) d n fs q) (Costed p)
      (λ c h g. tt) (λ n way i h g. tt)
      (λ d n fs q m g. record {
        free = m;
        costs = λ P env z. under_key_same R block P d fs q env g.0 m z ∙ sym (found P (memos_of p) ((n, (fs, q))) (values_at env fs) differ g.1);
      })
      0 p apart
      (places_with AnyScan AnyScan AnyScan AnyJoin AnyJoin AnyJoin (λ d n frees q. AreFree d frees q) (Listed (memos_of p)) (λ d n fs q. AreFree d fs q × Listed (memos_of p) d n fs q)
      (λ c h g. tt) (λ n way i h g. tt) (λ d n fs q h g. (h, g)) 0 p frees (listed (memos_of p) 0 p (λ m i. i)))

  -- What has a price in memos_of alone comes to what its keys cost.
  pub inside_all : (P : Prices) (p : Node) → ((n : ℕ) (vs : List Value) → P.memo n vs ≡ 0) → Places AnyScan AnyJoin (Costed p) 0 p
      → Places (λ c. P.scan c ≡ 0) (λ n way i. (outer : ℕ) → executed block P n way i outer ≡ 0) (λ d n frees q. Unit {0}) 0 p
      → reached R block P p [] ≡ sum_by (costs R block P (memos_of p)) (keys R p [])
  inside_all P p free known none =
      reached_rel R block P (at_keys (costs R block P (memos_of p))) IsSame refl (λ a b c d p q. omega arith)
      (λ c. P.scan c ≡ 0) (λ n way i. (outer : ℕ) → executed block P n way i outer ≡ 0) (Costed p) (λ d env. length env ≡ d) (λ d env v z. ap suc z)
      (λ c h. h) (λ n way i h outer. let e = h outer in omega arith)
      (λ d n frees q h env z. omega (arith, free n (values_at env frees), h.costs P env z, keys_none R block (costs R block P (memos_of p)) d q env h.free))
      0 p [] refl
      (places_with AnyScan (λ c. P.scan c ≡ 0) (λ c. P.scan c ≡ 0) AnyJoin (λ n way i. (outer : ℕ) → executed block P n way i outer ≡ 0) (λ n way i. (outer : ℕ) → executed block P n way i outer ≡ 0)
      (Costed p) (λ d n frees q. Unit {0}) (Costed p) (λ c h g. g) (λ n way i h g. g) (λ d n frees q h g. h) 0 p known none)
      ∙ keys_weigh block (costs R block P (memos_of p)) R p []
