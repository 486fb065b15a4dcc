-- How many scans, joins and memos stand in a plan of which joins and memos were made.
use Rattle.std.proofs.Common.{◌≡◌, ⊎_elim, ℕ, zero, suc, ◌+◌, ◌≤◌, List, [], ◌∷◌, ◌++◌, length, length-append, refl, sym, ap, ◌∙◌, arith}
use mathlib.Core.Path.{ap₂}
use Rattle.kl_value.specs.declared.Kind.{Kind}
use Rattle.kl_ask.specs.declared.settings.JoinHow.{JoinHow}
use Rattle.kl_ask.specs.declared.settings.JoinHow.TheVariants as way
use Rattle.kl_outcome.specs.Outcome.{Name}
use Rattle.kl_plan.specs.declared.plan.Scan.{Scan}
use Rattle.kl_plan.specs.Keys.{above, nodes_above, fields_above, branches_above, key_above, IsColumn, IsEquality, IsKey}
use Rattle.kl_plan.specs.Loops.{around}
use Rattle.kl_plan.specs.Nodes as node
use Rattle.kl_plan.specs.Nodes.{Node, Nodes, no_nodes, nodes, Fields, no_fields, fields, Branches, no_branches, rest, branch, Key, no_key, key}
use Rattle.kl_plan.specs.Numbers.{scans_in, scans_of_nodes, scans_of_fields, scans_of_branches, scans_of_key}
use Rattle.kl_plan.specs.Numbers.{joins_in, joins_of_nodes, joins_of_fields, joins_of_branches, joins_of_key}
use Rattle.kl_plan.specs.Numbers.{memos_in, memos_of_nodes, memos_of_fields, memos_of_branches, memos_of_key}
use Rattle.kl_plan.proofs.Empty.{none_first, none_behind}
use Rattle.kl_joins.specs.declared.keeping.Place.{Place}
use Rattle.kl_joins.specs.declared.keeping.Place.TheVariants as place
use Rattle.kl_joins.specs.Finished.{AreKept, Finishes}
use Rattle.kl_joins.specs.JoinsMade.{JoinsMade, KeyMade, EachMade, FieldsMade, BranchesMade}
use Rattle.kl_joins.specs.MemosMade.{aside, at_source, MemosMade, EachKept, FieldsKept, BranchesKept, KeyKept}
use Rattle.kl_joins.specs.Numbered.{SamePlan, SameNodes, SameFields, SameBranches, SameKey}

-- ---- what a plan weighs, where a scan and a memo weigh this

module _ (scan memo : ℕ) where
  abbrev mutual
    pub amount : Node → ℕ
    amount (node.Plain t) = 0
    amount (node.Var x) = 0
    amount (node.Rec ps) = amount_fields ps
    amount (node.Proj l a) = amount a
    amount (node.Inj l a) = amount a
    amount (node.Case a bs) = amount a + amount_branches bs
    amount (node.Make k ps) = amount_nodes ps
    amount (node.Union a b) = amount a + amount b
    amount (node.Ext k b s) = amount s + amount b
    amount (node.If a b c) = amount a + (amount b + amount c)
    amount (node.Let a b) = amount a + amount b
    amount (node.Prim c ps) = amount_nodes ps
    amount (node.Scan c) = scan
    amount (node.Join n k how o cs i q b) = amount o + (amount_nodes cs + (amount_key q + (scan + amount b)))
    amount (node.Memo n frees p) = memo + amount p

    pub amount_nodes : Nodes → ℕ
    amount_nodes no_nodes = 0
    amount_nodes (nodes p ps) = amount p + amount_nodes ps

    pub amount_fields : Fields → ℕ
    amount_fields no_fields = 0
    amount_fields (fields l p ps) = amount p + amount_fields ps

    pub amount_branches : Branches → ℕ
    amount_branches no_branches = 0
    amount_branches (rest c) = amount c
    amount_branches (branch l b bs) = amount b + amount_branches bs

    pub amount_key : Key → ℕ
    amount_key no_key = 0
    amount_key (key l p) = amount p

  -- of a raised plan

  mutual
    raised_amount : (p : Node) (n : ℕ) → amount (above p n) ≡ amount p
    raised_amount (node.Plain t) n = refl
    raised_amount (node.Var x) n = refl
    raised_amount (node.Rec ps) n = raised_fields ps n
    raised_amount (node.Proj l a) n = raised_amount a n
    raised_amount (node.Inj l a) n = raised_amount a n
    raised_amount (node.Case a bs) n = ap₂ (λ x y. x + y) (raised_amount a n) (raised_branches bs n)
    raised_amount (node.Make k ps) n = raised_nodes ps n
    raised_amount (node.Union a b) n = ap₂ (λ x y. x + y) (raised_amount a n) (raised_amount b n)
    raised_amount (node.Ext k b s) n = ap₂ (λ x y. x + y) (raised_amount s n) (raised_amount b (n + 1))
    raised_amount (node.If a b c) n = ap₂ (λ x y. x + y) (raised_amount a n) (ap₂ (λ x y. x + y) (raised_amount b n) (raised_amount c n))
    raised_amount (node.Let a b) n = ap₂ (λ x y. x + y) (raised_amount a n) (raised_amount b (n + 1))
    raised_amount (node.Prim c ps) n = raised_nodes ps n
    raised_amount (node.Scan c) n = refl
    raised_amount (node.Join m k how o cs i q b) n =
        ap₂ (λ x y. x + y) (raised_amount o n) (ap₂ (λ x y. x + y) (raised_nodes cs (n + 1))
        (ap₂ (λ x y. x + (scan + y)) (raised_key q (n + 1)) (raised_amount b (n + 1 + 1))))
    raised_amount (node.Memo m frees p) n = ap (λ x. memo + x) (raised_amount p n)

    raised_nodes : (ps : Nodes) (n : ℕ) → amount_nodes (nodes_above ps n) ≡ amount_nodes ps
    raised_nodes no_nodes n = refl
    raised_nodes (nodes p ps) n = ap₂ (λ x y. x + y) (raised_amount p n) (raised_nodes ps n)

    raised_fields : (ps : Fields) (n : ℕ) → amount_fields (fields_above ps n) ≡ amount_fields ps
    raised_fields no_fields n = refl
    raised_fields (fields l p ps) n = ap₂ (λ x y. x + y) (raised_amount p n) (raised_fields ps n)

    raised_branches : (bs : Branches) (n : ℕ) → amount_branches (branches_above bs n) ≡ amount_branches bs
    raised_branches no_branches n = refl
    raised_branches (rest c) n = raised_amount c n
    raised_branches (branch l b bs) n = ap₂ (λ x y. x + y) (raised_amount b (n + 1)) (raised_branches bs n)

    raised_key : (q : Key) (n : ℕ) → amount_key (key_above q n) ≡ amount_key q
    raised_key no_key n = refl
    raised_key (key l p) n = raised_amount p n

  -- of the loops for which a join stands

  around_amount : (k : Kind) (ds : Nodes) (p : Node) → amount (around k ds p) ≡ amount_nodes ds + amount p
  around_amount k no_nodes p = omega arith
  around_amount k (nodes d ds) p = let h = around_amount k ds p in omega (arith, h)

  column_amount : (l : Name) (c : Node) → IsColumn l c → amount c ≡ 0
  column_amount l c h = ⊎_elim (λ e. ap amount e) (λ g. ⊎_elim (λ e. ap amount e) (λ e. ap amount e) g) h

  -- an equality has the amount of its sides
  sides : (c a b : Node) → IsEquality c a b → amount c ≡ amount a + amount b
  sides c a b h =
      ⊎_elim (λ e. let f : amount c ≡ amount a + (amount b + 0) = ap amount e in omega (arith, f))
      (λ w. let e = ap amount w.2 in let f = ap amount w.3 in let g = ap amount w.4 in omega (arith, e, f, g)) h

  key_amount : (l : Name) (u c : Node) → IsKey l u c → amount c ≡ amount u
  key_amount l u c h =
      let none = column_amount l h.column h.is_column in
      let same = raised_amount u 0 in
      ⊎_elim (λ e. let f = sides c h.column (above u 0) e in omega (arith, f, none, same))
      (λ e. let f = sides c (above u 0) h.column e in omega (arith, f, none, same)) h.equal

  module _ (how : JoinHow) where
    mutual
      joined_amount : (r p : Node) → JoinsMade how p r → amount r ≡ amount p
      joined_amount (node.Plain t) p m = ap amount (sym m)
      joined_amount (node.Var x) p m = ap amount (sym m)
      joined_amount (node.Rec ps) p m = joined_fields ps m.0 m.2 ∙ ap amount (sym m.1)
      joined_amount (node.Proj l a) p m = joined_amount a m.0 m.2 ∙ ap amount (sym m.1)
      joined_amount (node.Inj l a) p m = joined_amount a m.0 m.2 ∙ ap amount (sym m.1)
      joined_amount (node.Case a bs) p m = ap₂ (λ x y. x + y) (joined_amount a m.0 m.3) (joined_branches bs m.1 m.4) ∙ ap amount (sym m.2)
      joined_amount (node.Make k ps) p m = joined_nodes ps m.0 m.2 ∙ ap amount (sym m.1)
      joined_amount (node.Union a b) p m = ap₂ (λ x y. x + y) (joined_amount a m.0 m.3) (joined_amount b m.1 m.4) ∙ ap amount (sym m.2)
      joined_amount (node.Ext k b s) p m = ap₂ (λ x y. x + y) (joined_amount s m.1 m.4) (joined_amount b m.0 m.3) ∙ ap amount (sym m.2)
      joined_amount (node.If a b c) p m =
          ap₂ (λ x y. x + y) (joined_amount a m.0 m.4) (ap₂ (λ x y. x + y) (joined_amount b m.1 m.5) (joined_amount c m.2 m.6))
          ∙ ap amount (sym m.3)
      joined_amount (node.Let a b) p m = ap₂ (λ x y. x + y) (joined_amount a m.0 m.3) (joined_amount b m.1 m.4) ∙ ap amount (sym m.2)
      joined_amount (node.Prim c ps) p m = joined_nodes ps m.0 m.2 ∙ ap amount (sym m.1)
      joined_amount (node.Scan c) p m = ap amount (sym m)
      joined_amount (node.Join n k w o cs i q b) p m =
          let is = ap amount m.4 in
          let wide = around_amount k m.1 (node.Ext k m.2 (node.Scan i)) in
          let outer = joined_amount o m.0 m.6 in
          let tests = joined_nodes cs m.1 m.7 in
          let body = joined_amount b m.3 m.8 in
          let keyed = joined_key q k w m.2 m.3 m.9 in
          omega (arith, is, wide, outer, tests, body, keyed)
      joined_amount (node.Memo n frees a) p m = absurd m

      joined_key : (q : Key) (k : Kind) (w : JoinHow) (y z : Node) → KeyMade how k w y z q → amount y ≡ amount_key q + amount z
      joined_key no_key k way.Block y z m = let e = ap amount m.0 in omega (arith, e)
      joined_key no_key k way.Index y z m = absurd m
      joined_key (key l v) k way.Block y z m = absurd m
      joined_key (key l v) k way.Index y z m =
          let nothing = node.Make k no_nodes in
          let is = ap amount m.5.body in
          let wide = around_amount k m.1 (node.If m.2 m.3 nothing) in
          let left = ap amount m.6 in
          let narrow = around_amount k m.1 m.3 in
          let tested = key_amount l m.4 m.2 m.7 in
          let made = joined_amount v m.4 m.8 in
          omega (arith, is, wide, left, narrow, tested, made)

      joined_nodes : (ps qs : Nodes) → EachMade how qs ps → amount_nodes ps ≡ amount_nodes qs
      joined_nodes no_nodes qs m = ap amount_nodes (sym m)
      joined_nodes (nodes p ps) qs m = ap₂ (λ x y. x + y) (joined_amount p m.0 m.3) (joined_nodes ps m.1 m.4) ∙ ap amount_nodes (sym m.2)

      joined_fields : (ps qs : Fields) → FieldsMade how qs ps → amount_fields ps ≡ amount_fields qs
      joined_fields no_fields qs m = ap amount_fields (sym m)
      joined_fields (fields l p ps) qs m = ap₂ (λ x y. x + y) (joined_amount p m.0 m.3) (joined_fields ps m.1 m.4) ∙ ap amount_fields (sym m.2)

      joined_branches : (bs cs : Branches) → BranchesMade how cs bs → amount_branches bs ≡ amount_branches cs
      joined_branches no_branches cs m = ap amount_branches (sym m)
      joined_branches (rest c) cs m = joined_amount c m.0 m.2 ∙ ap amount_branches (sym m.1)
      joined_branches (branch l b bs) cs m =
          ap₂ (λ x y. x + y) (joined_amount b m.0 m.3) (joined_branches bs m.1 m.4) ∙ ap amount_branches (sym m.2)

  -- plans that differ in their numbers alone

  mutual
    same_amount : (p r : Node) → SamePlan p r → amount r ≡ amount p
    same_amount p (node.Plain t) h = ap amount (sym h)
    same_amount p (node.Var x) h = ap amount (sym h)
    same_amount p (node.Rec ps) h = same_fields h.0 ps h.2 ∙ ap amount (sym h.1)
    same_amount p (node.Proj l a) h = same_amount h.0 a h.2 ∙ ap amount (sym h.1)
    same_amount p (node.Inj l a) h = same_amount h.0 a h.2 ∙ ap amount (sym h.1)
    same_amount p (node.Case a bs) h = ap₂ (λ x y. x + y) (same_amount h.0 a h.3) (same_branches h.1 bs h.4) ∙ ap amount (sym h.2)
    same_amount p (node.Make k ps) h = same_nodes h.0 ps h.2 ∙ ap amount (sym h.1)
    same_amount p (node.Union a b) h = ap₂ (λ x y. x + y) (same_amount h.0 a h.3) (same_amount h.1 b h.4) ∙ ap amount (sym h.2)
    same_amount p (node.Ext k b s) h = ap₂ (λ x y. x + y) (same_amount h.1 s h.4) (same_amount h.0 b h.3) ∙ ap amount (sym h.2)
    same_amount p (node.If a b c) h =
        ap₂ (λ x y. x + y) (same_amount h.0 a h.4) (ap₂ (λ x y. x + y) (same_amount h.1 b h.5) (same_amount h.2 c h.6)) ∙ ap amount (sym h.3)
    same_amount p (node.Let a b) h = ap₂ (λ x y. x + y) (same_amount h.0 a h.3) (same_amount h.1 b h.4) ∙ ap amount (sym h.2)
    same_amount p (node.Prim c ps) h = same_nodes h.0 ps h.2 ∙ ap amount (sym h.1)
    same_amount p (node.Scan c) h = ap amount (sym h.1)
    same_amount p (node.Join n k how o cs i q b) h =
        ap₂ (λ x y. x + y) (same_amount h.1 o h.7)
        (ap₂ (λ x y. x + y) (same_nodes h.2 cs h.8) (ap₂ (λ x y. x + (scan + y)) (same_key h.4 q h.10) (same_amount h.5 b h.11)))
        ∙ ap amount (sym h.6)
    same_amount p (node.Memo n frees a) h = ap (λ x. memo + x) (same_amount h.1 a h.3) ∙ ap amount (sym h.2)

    same_nodes : (qs ps : Nodes) → SameNodes qs ps → amount_nodes ps ≡ amount_nodes qs
    same_nodes qs no_nodes h = ap amount_nodes (sym h)
    same_nodes qs (nodes p ps) h = ap₂ (λ x y. x + y) (same_amount h.0 p h.3) (same_nodes h.1 ps h.4) ∙ ap amount_nodes (sym h.2)

    same_fields : (qs ps : Fields) → SameFields qs ps → amount_fields ps ≡ amount_fields qs
    same_fields qs no_fields h = ap amount_fields (sym h)
    same_fields qs (fields l p ps) h = ap₂ (λ x y. x + y) (same_amount h.0 p h.3) (same_fields h.1 ps h.4) ∙ ap amount_fields (sym h.2)

    same_branches : (cs bs : Branches) → SameBranches cs bs → amount_branches bs ≡ amount_branches cs
    same_branches cs no_branches h = ap amount_branches (sym h)
    same_branches cs (rest b) h = same_amount h.0 b h.2 ∙ ap amount_branches (sym h.1)
    same_branches cs (branch l b bs) h =
        ap₂ (λ x y. x + y) (same_amount h.0 b h.3) (same_branches h.1 bs h.4) ∙ ap amount_branches (sym h.2)

    same_key : (e q : Key) → SameKey e q → amount_key q ≡ amount_key e
    same_key e no_key h = ap amount_key (sym h)
    same_key e (key l p) h = same_amount h.0 p h.2 ∙ ap amount_key (sym h.1)

-- ---- how many scans, and how many memos

abbrev scans : Node → ℕ
scans = amount 1 0

abbrev memos : Node → ℕ
memos = amount 0 1

many : {X : Type 0} (xs ys : List X) (m n : ℕ) → length xs ≡ m → length ys ≡ n → length (xs ++ ys) ≡ m + n
many xs ys m n e f = length-append xs ys ∙ ap₂ (λ a b. a + b) e f

next : {m n : ℕ} → m ≡ n → suc m ≡ 1 + n
next e = omega (arith, e)

mutual
  pub counted : (p : Node) → length (scans_in p) ≡ scans p
  counted (node.Plain t) = refl
  counted (node.Var x) = refl
  counted (node.Rec ps) = counted_fields ps
  counted (node.Proj l a) = counted a
  counted (node.Inj l a) = counted a
  counted (node.Case a bs) = many (scans_in a) (scans_of_branches bs) _ _ (counted a) (counted_branches bs)
  counted (node.Make k ps) = counted_nodes ps
  counted (node.Union a b) = many (scans_in a) (scans_in b) _ _ (counted a) (counted b)
  counted (node.Ext k b s) = many (scans_in s) (scans_in b) _ _ (counted s) (counted b)
  counted (node.If a b c) =
      many (scans_in a) (scans_in b ++ scans_in c) _ _ (counted a) (many (scans_in b) (scans_in c) _ _ (counted b) (counted c))
  counted (node.Let a b) = many (scans_in a) (scans_in b) _ _ (counted a) (counted b)
  counted (node.Prim c ps) = counted_nodes ps
  counted (node.Scan c) = refl
  counted (node.Join n k how o cs i q b) =
      many (scans_in o) (scans_of_nodes cs ++ (scans_of_key q ++ (i ∷ scans_in b))) _ _ (counted o)
      (many (scans_of_nodes cs) (scans_of_key q ++ (i ∷ scans_in b)) _ _ (counted_nodes cs)
      (many (scans_of_key q) (i ∷ scans_in b) _ _ (counted_key q) (next (counted b))))
  counted (node.Memo n frees p) = let h = counted p in omega (arith, h)

  counted_nodes : (ps : Nodes) → length (scans_of_nodes ps) ≡ amount_nodes 1 0 ps
  counted_nodes no_nodes = refl
  counted_nodes (nodes p ps) = many (scans_in p) (scans_of_nodes ps) _ _ (counted p) (counted_nodes ps)

  counted_fields : (ps : Fields) → length (scans_of_fields ps) ≡ amount_fields 1 0 ps
  counted_fields no_fields = refl
  counted_fields (fields l p ps) = many (scans_in p) (scans_of_fields ps) _ _ (counted p) (counted_fields ps)

  counted_branches : (bs : Branches) → length (scans_of_branches bs) ≡ amount_branches 1 0 bs
  counted_branches no_branches = refl
  counted_branches (rest c) = counted c
  counted_branches (branch l b bs) = many (scans_in b) (scans_of_branches bs) _ _ (counted b) (counted_branches bs)

  counted_key : (q : Key) → length (scans_of_key q) ≡ amount_key 1 0 q
  counted_key no_key = refl
  counted_key (key l p) = counted p

mutual
  pub counted_memos : (p : Node) → length (memos_in p) ≡ memos p
  counted_memos (node.Plain t) = refl
  counted_memos (node.Var x) = refl
  counted_memos (node.Rec ps) = memos_counted_fields ps
  counted_memos (node.Proj l a) = counted_memos a
  counted_memos (node.Inj l a) = counted_memos a
  counted_memos (node.Case a bs) = many (memos_in a) (memos_of_branches bs) _ _ (counted_memos a) (memos_counted_branches bs)
  counted_memos (node.Make k ps) = memos_counted_nodes ps
  counted_memos (node.Union a b) = many (memos_in a) (memos_in b) _ _ (counted_memos a) (counted_memos b)
  counted_memos (node.Ext k b s) = many (memos_in s) (memos_in b) _ _ (counted_memos s) (counted_memos b)
  counted_memos (node.If a b c) =
      many (memos_in a) (memos_in b ++ memos_in c) _ _ (counted_memos a) (many (memos_in b) (memos_in c) _ _ (counted_memos b) (counted_memos c))
  counted_memos (node.Let a b) = many (memos_in a) (memos_in b) _ _ (counted_memos a) (counted_memos b)
  counted_memos (node.Prim c ps) = memos_counted_nodes ps
  counted_memos (node.Scan c) = refl
  counted_memos (node.Join n k how o cs i q b) =
      many (memos_in o) (memos_of_nodes cs ++ (memos_of_key q ++ memos_in b)) _ _ (counted_memos o)
      (many (memos_of_nodes cs) (memos_of_key q ++ memos_in b) _ _ (memos_counted_nodes cs)
      (many (memos_of_key q) (memos_in b) _ _ (memos_counted_key q) (let h = counted_memos b in omega (arith, h))))
  counted_memos (node.Memo n frees p) = next (counted_memos p)

  memos_counted_nodes : (ps : Nodes) → length (memos_of_nodes ps) ≡ amount_nodes 0 1 ps
  memos_counted_nodes no_nodes = refl
  memos_counted_nodes (nodes p ps) = many (memos_in p) (memos_of_nodes ps) _ _ (counted_memos p) (memos_counted_nodes ps)

  memos_counted_fields : (ps : Fields) → length (memos_of_fields ps) ≡ amount_fields 0 1 ps
  memos_counted_fields no_fields = refl
  memos_counted_fields (fields l p ps) = many (memos_in p) (memos_of_fields ps) _ _ (counted_memos p) (memos_counted_fields ps)

  memos_counted_branches : (bs : Branches) → length (memos_of_branches bs) ≡ amount_branches 0 1 bs
  memos_counted_branches no_branches = refl
  memos_counted_branches (rest c) = counted_memos c
  memos_counted_branches (branch l b bs) = many (memos_in b) (memos_of_branches bs) _ _ (counted_memos b) (memos_counted_branches bs)

  memos_counted_key : (q : Key) → length (memos_of_key q) ≡ amount_key 0 1 q
  memos_counted_key no_key = refl
  memos_counted_key (key l p) = counted_memos p

-- ---- of a plan whose values are kept: it has the same scans, and no more memos than scans

-- what reads a source has a scan
reads : (p : Node) → (scans_in p ≡ [] → ⊥) → 1 ≤ scans p
reads p h = some (scans_in p) h (counted p)
  where
    some : (cs : List Scan) → (cs ≡ [] → ⊥) → length cs ≡ scans p → 1 ≤ scans p
    some [] h e = absurd (h refl)
    some (c ∷ cs) h e = omega (arith, e)

few : {X : Type 0} (xs ys : List X) (m n : ℕ) → length xs ≤ m → length ys ≤ n → length (xs ++ ys) ≤ m + n
few xs ys m n h g = let e = length-append xs ys in omega (arith, e, h, g)

mutual
  kept_scans : (r : Node) (l : Place) (d : ℕ) (p : Node) → MemosMade l d p r → scans r ≡ scans p
  kept_scans (node.Plain t) l d p w = ap scans (sym w)
  kept_scans (node.Var x) l d p w = ap scans (sym w)
  kept_scans (node.Rec ps) l d p w = kept_fields ps (aside l) d w.0 w.2 ∙ ap scans (sym w.1)
  kept_scans (node.Proj m a) l d p w = kept_scans a (aside l) d w.0 w.2 ∙ ap scans (sym w.1)
  kept_scans (node.Inj m a) l d p w = kept_scans a (aside l) d w.0 w.2 ∙ ap scans (sym w.1)
  kept_scans (node.Case a bs) l d p w =
      ap₂ (λ x y. x + y) (kept_scans a (aside l) d w.0 w.3) (kept_branches bs l d w.1 w.4) ∙ ap scans (sym w.2)
  kept_scans (node.Make k ps) l d p w = kept_nodes ps (aside l) d w.0 w.2 ∙ ap scans (sym w.1)
  kept_scans (node.Union a b) l d p w = ap₂ (λ x y. x + y) (kept_scans a l d w.0 w.3) (kept_scans b l d w.1 w.4) ∙ ap scans (sym w.2)
  kept_scans (node.Ext k b s) l d p w =
      ap₂ (λ x y. x + y) (kept_scans s (at_source l w.1) d w.1 w.5) (kept_scans b place.Spine (d + 1) w.0 w.4) ∙ ap scans (sym w.2)
  kept_scans (node.If a b c) l d p w =
      ap₂ (λ x y. x + y) (kept_scans a (aside l) d w.0 w.4) (ap₂ (λ x y. x + y) (kept_scans b l d w.1 w.5) (kept_scans c l d w.2 w.6))
      ∙ ap scans (sym w.3)
  kept_scans (node.Let a b) l d p w =
      ap₂ (λ x y. x + y) (kept_scans a (aside l) d w.0 w.3) (kept_scans b l (d + 1) w.1 w.4) ∙ ap scans (sym w.2)
  kept_scans (node.Prim c ps) l d p w = kept_nodes ps (aside l) d w.0 w.2 ∙ ap scans (sym w.1)
  kept_scans (node.Scan c) l d p w = ap scans (sym w.0)
  kept_scans (node.Join n k how o cs i q b) l d p w =
      ap₂ (λ x y. x + y) (kept_scans o (aside l) d w.0 w.6)
      (ap₂ (λ x y. x + y) (kept_nodes cs place.Aside (d + 1) w.1 w.7)
      (ap₂ (λ x y. x + (1 + y)) (kept_key q (d + 1) w.2 w.8) (kept_scans b place.Spine (d + 2) w.3 w.9)))
      ∙ ap scans (sym w.4)
  kept_scans (node.Memo n frees a) l d p w = let e = ap scans w.3 in omega (arith, e)

  kept_nodes : (ps : Nodes) (l : Place) (d : ℕ) (qs : Nodes) → EachKept l d qs ps → amount_nodes 1 0 ps ≡ amount_nodes 1 0 qs
  kept_nodes no_nodes l d qs w = ap (amount_nodes 1 0) (sym w)
  kept_nodes (nodes p ps) l d qs w =
      ap₂ (λ x y. x + y) (kept_scans p l d w.0 w.3) (kept_nodes ps l d w.1 w.4) ∙ ap (amount_nodes 1 0) (sym w.2)

  kept_fields : (ps : Fields) (l : Place) (d : ℕ) (qs : Fields) → FieldsKept l d qs ps → amount_fields 1 0 ps ≡ amount_fields 1 0 qs
  kept_fields no_fields l d qs w = ap (amount_fields 1 0) (sym w)
  kept_fields (fields m p ps) l d qs w =
      ap₂ (λ x y. x + y) (kept_scans p l d w.0 w.3) (kept_fields ps l d w.1 w.4) ∙ ap (amount_fields 1 0) (sym w.2)

  kept_branches : (bs : Branches) (l : Place) (d : ℕ) (cs : Branches) → BranchesKept l d cs bs → amount_branches 1 0 bs ≡ amount_branches 1 0 cs
  kept_branches no_branches l d cs w = ap (amount_branches 1 0) (sym w)
  kept_branches (rest b) l d cs w = kept_scans b l d w.0 w.2 ∙ ap (amount_branches 1 0) (sym w.1)
  kept_branches (branch m b bs) l d cs w =
      ap₂ (λ x y. x + y) (kept_scans b l (d + 1) w.0 w.3) (kept_branches bs l d w.1 w.4) ∙ ap (amount_branches 1 0) (sym w.2)

  kept_key : (q : Key) (d : ℕ) (e : Key) → KeyKept d e q → amount_key 1 0 q ≡ amount_key 1 0 e
  kept_key no_key d e w = ap (amount_key 1 0) (sym w)
  kept_key (key m p) d e w = kept_scans p place.Aside d w.0 w.2 ∙ ap (amount_key 1 0) (sym w.1)

mutual
  few_memos : (r : Node) (l : Place) (d : ℕ) (p : Node) → MemosMade l d p r → memos_in p ≡ [] → length (memos_in r) ≤ scans r
  few_memos (node.Plain t) l d p w e = omega arith
  few_memos (node.Var x) l d p w e = omega arith
  few_memos (node.Rec ps) l d p w e = few_in_fields ps (aside l) d w.0 w.2 (ap memos_in (sym w.1) ∙ e)
  few_memos (node.Proj m a) l d p w e = few_memos a (aside l) d w.0 w.2 (ap memos_in (sym w.1) ∙ e)
  few_memos (node.Inj m a) l d p w e = few_memos a (aside l) d w.0 w.2 (ap memos_in (sym w.1) ∙ e)
  few_memos (node.Case a bs) l d p w e =
      let f : (memos_in w.0 ++ memos_of_branches w.1) ≡ [] = ap memos_in (sym w.2) ∙ e in
      few (memos_in a) (memos_of_branches bs) _ _ (few_memos a (aside l) d w.0 w.3 (none_first (memos_in w.0) (memos_of_branches w.1) f))
      (few_in_branches bs l d w.1 w.4 (none_behind (memos_in w.0) (memos_of_branches w.1) f))
  few_memos (node.Make k ps) l d p w e = few_in_nodes ps (aside l) d w.0 w.2 (ap memos_in (sym w.1) ∙ e)
  few_memos (node.Union a b) l d p w e =
      let f : (memos_in w.0 ++ memos_in w.1) ≡ [] = ap memos_in (sym w.2) ∙ e in
      few (memos_in a) (memos_in b) _ _ (few_memos a l d w.0 w.3 (none_first (memos_in w.0) (memos_in w.1) f))
      (few_memos b l d w.1 w.4 (none_behind (memos_in w.0) (memos_in w.1) f))
  few_memos (node.Ext k b s) l d p w e =
      let f : (memos_in w.1 ++ memos_in w.0) ≡ [] = ap memos_in (sym w.2) ∙ e in
      few (memos_in s) (memos_in b) _ _ (few_memos s (at_source l w.1) d w.1 w.5 (none_first (memos_in w.1) (memos_in w.0) f))
      (few_memos b place.Spine (d + 1) w.0 w.4 (none_behind (memos_in w.1) (memos_in w.0) f))
  few_memos (node.If a b c) l d p w e =
      let f : (memos_in w.0 ++ (memos_in w.1 ++ memos_in w.2)) ≡ [] = ap memos_in (sym w.3) ∙ e in
      let g = none_behind (memos_in w.0) (memos_in w.1 ++ memos_in w.2) f in
      few (memos_in a) (memos_in b ++ memos_in c) _ _
      (few_memos a (aside l) d w.0 w.4 (none_first (memos_in w.0) (memos_in w.1 ++ memos_in w.2) f))
      (few (memos_in b) (memos_in c) _ _ (few_memos b l d w.1 w.5 (none_first (memos_in w.1) (memos_in w.2) g))
      (few_memos c l d w.2 w.6 (none_behind (memos_in w.1) (memos_in w.2) g)))
  few_memos (node.Let a b) l d p w e =
      let f : (memos_in w.0 ++ memos_in w.1) ≡ [] = ap memos_in (sym w.2) ∙ e in
      few (memos_in a) (memos_in b) _ _ (few_memos a (aside l) d w.0 w.3 (none_first (memos_in w.0) (memos_in w.1) f))
      (few_memos b l (d + 1) w.1 w.4 (none_behind (memos_in w.0) (memos_in w.1) f))
  few_memos (node.Prim c ps) l d p w e = few_in_nodes ps (aside l) d w.0 w.2 (ap memos_in (sym w.1) ∙ e)
  few_memos (node.Scan c) l d p w e = omega arith
  few_memos (node.Join n k how o cs i q b) l d p w e =
      let f : (memos_in w.0 ++ (memos_of_nodes w.1 ++ (memos_of_key w.2 ++ memos_in w.3))) ≡ [] = ap memos_in (sym w.4) ∙ e in
      let g = none_behind (memos_in w.0) (memos_of_nodes w.1 ++ (memos_of_key w.2 ++ memos_in w.3)) f in
      let h = none_behind (memos_of_nodes w.1) (memos_of_key w.2 ++ memos_in w.3) g in
      let body = few_memos b place.Spine (d + 2) w.3 w.9 (none_behind (memos_of_key w.2) (memos_in w.3) h) in
      few (memos_in o) (memos_of_nodes cs ++ (memos_of_key q ++ memos_in b)) _ _
      (few_memos o (aside l) d w.0 w.6 (none_first (memos_in w.0) (memos_of_nodes w.1 ++ (memos_of_key w.2 ++ memos_in w.3)) f))
      (few (memos_of_nodes cs) (memos_of_key q ++ memos_in b) _ _
      (few_in_nodes cs place.Aside (d + 1) w.1 w.7 (none_first (memos_of_nodes w.1) (memos_of_key w.2 ++ memos_in w.3) g))
      (few (memos_of_key q) (memos_in b) _ _ (few_in_key q (d + 1) w.2 w.8 (none_first (memos_of_key w.2) (memos_in w.3) h))
      (omega (arith, body))))
  few_memos (node.Memo n frees a) l d p w e =
      let none : length (memos_in a) ≡ 0 = ap (λ x. length (memos_in x)) w.3 ∙ ap length e in
      let some = reads p w.0.2 in
      let same = ap scans w.3 in
      omega (arith, none, some, same)

  few_in_nodes : (ps : Nodes) (l : Place) (d : ℕ) (qs : Nodes) → EachKept l d qs ps → memos_of_nodes qs ≡ []
      → length (memos_of_nodes ps) ≤ amount_nodes 1 0 ps
  few_in_nodes no_nodes l d qs w e = omega arith
  few_in_nodes (nodes p ps) l d qs w e =
      let f : (memos_in w.0 ++ memos_of_nodes w.1) ≡ [] = ap memos_of_nodes (sym w.2) ∙ e in
      few (memos_in p) (memos_of_nodes ps) _ _ (few_memos p l d w.0 w.3 (none_first (memos_in w.0) (memos_of_nodes w.1) f))
      (few_in_nodes ps l d w.1 w.4 (none_behind (memos_in w.0) (memos_of_nodes w.1) f))

  few_in_fields : (ps : Fields) (l : Place) (d : ℕ) (qs : Fields) → FieldsKept l d qs ps → memos_of_fields qs ≡ []
      → length (memos_of_fields ps) ≤ amount_fields 1 0 ps
  few_in_fields no_fields l d qs w e = omega arith
  few_in_fields (fields m p ps) l d qs w e =
      let f : (memos_in w.0 ++ memos_of_fields w.1) ≡ [] = ap memos_of_fields (sym w.2) ∙ e in
      few (memos_in p) (memos_of_fields ps) _ _ (few_memos p l d w.0 w.3 (none_first (memos_in w.0) (memos_of_fields w.1) f))
      (few_in_fields ps l d w.1 w.4 (none_behind (memos_in w.0) (memos_of_fields w.1) f))

  few_in_branches : (bs : Branches) (l : Place) (d : ℕ) (cs : Branches) → BranchesKept l d cs bs → memos_of_branches cs ≡ []
      → length (memos_of_branches bs) ≤ amount_branches 1 0 bs
  few_in_branches no_branches l d cs w e = omega arith
  few_in_branches (rest b) l d cs w e = few_memos b l d w.0 w.2 (ap memos_of_branches (sym w.1) ∙ e)
  few_in_branches (branch m b bs) l d cs w e =
      let f : (memos_in w.0 ++ memos_of_branches w.1) ≡ [] = ap memos_of_branches (sym w.2) ∙ e in
      few (memos_in b) (memos_of_branches bs) _ _ (few_memos b l (d + 1) w.0 w.3 (none_first (memos_in w.0) (memos_of_branches w.1) f))
      (few_in_branches bs l d w.1 w.4 (none_behind (memos_in w.0) (memos_of_branches w.1) f))

  few_in_key : (q : Key) (d : ℕ) (e : Key) → KeyKept d e q → memos_of_key e ≡ [] → length (memos_of_key q) ≤ amount_key 1 0 q
  few_in_key no_key d e w h = omega arith
  few_in_key (key m p) d e w h = few_memos p place.Aside d w.0 w.2 (ap memos_of_key (sym w.1) ∙ h)

-- ---- no more joins than scans

mutual
  few_joins : (p : Node) → length (joins_in p) ≤ scans p
  few_joins (node.Plain t) = omega arith
  few_joins (node.Var x) = omega arith
  few_joins (node.Rec ps) = few_joins_fields ps
  few_joins (node.Proj l a) = few_joins a
  few_joins (node.Inj l a) = few_joins a
  few_joins (node.Case a bs) = few (joins_in a) (joins_of_branches bs) _ _ (few_joins a) (few_joins_branches bs)
  few_joins (node.Make k ps) = few_joins_nodes ps
  few_joins (node.Union a b) = few (joins_in a) (joins_in b) _ _ (few_joins a) (few_joins b)
  few_joins (node.Ext k b s) = few (joins_in s) (joins_in b) _ _ (few_joins s) (few_joins b)
  few_joins (node.If a b c) =
      few (joins_in a) (joins_in b ++ joins_in c) _ _ (few_joins a) (few (joins_in b) (joins_in c) _ _ (few_joins b) (few_joins c))
  few_joins (node.Let a b) = few (joins_in a) (joins_in b) _ _ (few_joins a) (few_joins b)
  few_joins (node.Prim c ps) = few_joins_nodes ps
  few_joins (node.Scan c) = omega arith
  few_joins (node.Join n k how o cs i q b) =
      let h = few (joins_in o) (joins_of_nodes cs ++ (joins_of_key q ++ joins_in b)) _ _ (few_joins o)
      (few (joins_of_nodes cs) (joins_of_key q ++ joins_in b) _ _ (few_joins_nodes cs)
      (few (joins_of_key q) (joins_in b) _ _ (few_joins_key q) (few_joins b))) in
      omega (arith, h)
  few_joins (node.Memo n frees p) = let h = few_joins p in omega (arith, h)

  few_joins_nodes : (ps : Nodes) → length (joins_of_nodes ps) ≤ amount_nodes 1 0 ps
  few_joins_nodes no_nodes = omega arith
  few_joins_nodes (nodes p ps) = few (joins_in p) (joins_of_nodes ps) _ _ (few_joins p) (few_joins_nodes ps)

  few_joins_fields : (ps : Fields) → length (joins_of_fields ps) ≤ amount_fields 1 0 ps
  few_joins_fields no_fields = omega arith
  few_joins_fields (fields l p ps) = few (joins_in p) (joins_of_fields ps) _ _ (few_joins p) (few_joins_fields ps)

  few_joins_branches : (bs : Branches) → length (joins_of_branches bs) ≤ amount_branches 1 0 bs
  few_joins_branches no_branches = omega arith
  few_joins_branches (rest c) = few_joins c
  few_joins_branches (branch l b bs) = few (joins_in b) (joins_of_branches bs) _ _ (few_joins b) (few_joins_branches bs)

  few_joins_key : (q : Key) → length (joins_of_key q) ≤ amount_key 1 0 q
  few_joins_key no_key = omega arith
  few_joins_key (key l p) = few_joins p

-- ---- a finished plan

pub joined_scans : (how : JoinHow) (p r : Node) → JoinsMade how p r → length (scans_in r) ≡ length (scans_in p)
joined_scans how p r m = counted r ∙ joined_amount 1 0 how r p m ∙ sym (counted p)

kept_same : (n : ℕ) (p r : Node) → AreKept n p r → scans r ≡ scans p
kept_same zero p r w = ap scans w
kept_same (suc n) p r w = kept_scans r place.Outside 0 p w

pub scans_kept : (n : ℕ) (p r : Node) → AreKept n p r → length (scans_in r) ≡ length (scans_in p)
scans_kept n p r w = counted r ∙ kept_same n p r w ∙ sym (counted p)

pub joins_amount : (p : Node) → length (joins_in p) ≤ length (scans_in p)
joins_amount p = let h = few_joins p in let e = counted p in omega (arith, h, e)

pub memos_amount : (n : ℕ) (p r : Node) → AreKept n p r → memos_in p ≡ [] → length (memos_in r) ≤ length (scans_in r)
memos_amount zero p r w e = let none : length (memos_in r) ≡ 0 = ap (λ x. length (memos_in x)) w ∙ ap length e in omega (arith, none)
memos_amount (suc n) p r w e = let h = few_memos r place.Outside 0 p w e in let f = counted r in omega (arith, h, f)

-- it has as many scans as the plan of scans
pub finished_scans : (how : JoinHow) (cache : ℕ) (sent p : Node) → Finishes how cache sent p → length (scans_in p) ≡ length (scans_in sent)
finished_scans how cache sent p w =
    counted p ∙ same_amount 1 0 w.kept p w.same ∙ sym (counted w.kept) ∙ scans_kept cache w.joined w.kept w.memos
    ∙ joined_scans how sent w.joined w.joins

-- ---- where no memo stood

no_more : (ns : List ℕ) → length ns ≡ 0 → ns ≡ []
no_more [] e = refl
no_more (n ∷ ns) e = cc

-- joins make none
pub joined_bare : (how : JoinHow) (p r : Node) → JoinsMade how p r → memos_in p ≡ [] → memos_in r ≡ []
joined_bare how p r m e =
    no_more (memos_in r) (counted_memos r ∙ joined_amount 0 1 how r p m ∙ sym (counted_memos p) ∙ ap length e)

-- nor do numbers
pub none_stands : (p r : Node) → SamePlan p r → memos_in p ≡ [] → memos_in r ≡ []
none_stands p r h e = no_more (memos_in r) (counted_memos r ∙ same_amount 0 1 p r h ∙ sym (counted_memos p) ∙ ap length e)
