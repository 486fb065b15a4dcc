-- The scans, joins and memos of a plan are all in the list of its parts, and in any that has these.
use Rattle.std.proofs.Common.{◌≡◌, ℕ, List, [], ◌∷◌, ◌++◌, map, refl, ap, subst, ◌∙◌}
use Rattle.std.specs.List.{Contains}
use Rattle.std.proofs.lemmas.List.Elements.{Contains-append_left, Contains-append_right, Contains-push}
use Rattle.std.proofs.lemmas.List.{map-append}
use mathlib.Core.Path.{ap₂}
use Rattle.kl_ask.specs.declared.settings.JoinHow.{JoinHow}
use Rattle.kl_plan.specs.declared.plan.Scan.{Scan}
use Rattle.kl_plan.specs.Nodes as node
use Rattle.kl_plan.specs.Nodes.{Node, Nodes, no_nodes, nodes, Fields, no_fields, fields, Branches, no_branches, rest, branch, Key, no_key, key}
use Rattle.kl_plan.specs.Numbers.{scans_in, scans_of_nodes, scans_of_fields, scans_of_branches, scans_of_key}
use Rattle.kl_plan.specs.Numbers.{joins_in, joins_of_nodes, joins_of_fields, joins_of_branches, joins_of_key}
use Rattle.kl_plan.specs.Numbers.{memos_in, memos_of_nodes as numbers_of_nodes, memos_of_fields as numbers_of_fields}
use Rattle.kl_plan.specs.Numbers.{memos_of_branches as numbers_of_branches, memos_of_key as numbers_of_key}
use Rattle.kl_plan.specs.Holding.{Listing, PartsIn, PartsInNodes, PartsInFields, PartsInBranches, PartsInKey}
use Rattle.kl_plan.specs.Parts.{memos_of, memos_of_nodes, memos_of_fields, memos_of_branches, memos_of_key, parts_of}
use Rattle.kl_plan.specs.Parts.{joins_of, joins_of_each, joins_of_each_field, joins_of_each_branch, joins_of_value}
use Rattle.kl_plan.specs.Subqueries.{Memo}

-- ---- parts of parts

abbrev pub parts_of_nodes : Nodes → Listing
parts_of_nodes ps = record { scans = scans_of_nodes ps; joins = joins_of_each ps; memos = memos_of_nodes ps }

abbrev pub parts_of_fields : Fields → Listing
parts_of_fields ps = record { scans = scans_of_fields ps; joins = joins_of_each_field ps; memos = memos_of_fields ps }

abbrev pub parts_of_branches : Branches → Listing
parts_of_branches bs = record { scans = scans_of_branches bs; joins = joins_of_each_branch bs; memos = memos_of_branches bs }

abbrev pub parts_of_key : Key → Listing
parts_of_key q = record { scans = scans_of_key q; joins = joins_of_value q; memos = memos_of_key q }

abbrev both : Listing → Listing → Listing
both a b = record { scans = a.scans ++ b.scans; joins = a.joins ++ b.joins; memos = a.memos ++ b.memos }

abbrev of_scan : Scan → Listing
of_scan c = record { scans = c ∷ []; joins = []; memos = [] }

abbrev of_join : ℕ → JoinHow → Listing
of_join n how = record { scans = []; joins = (n, how) ∷ []; memos = [] }

abbrev of_memo : Memo → Listing
of_memo m = record { scans = []; joins = []; memos = m ∷ [] }

module _ (all : Listing) where
  pub record HasAll (these : Listing) : Type 0 where
    pub scans : (c : Scan) → Contains these.scans c → Contains all.scans c
    pub joins : (j : ℕ × JoinHow) → Contains these.joins j → Contains all.joins j
    pub memos : (m : Memo) → Contains these.memos m → Contains all.memos m

  left : (a b : Listing) → HasAll (both a b) → HasAll a
  left a b h = record {
    scans = λ c i. h.scans c (Contains-append_left a.scans b.scans c i);
    joins = λ j i. h.joins j (Contains-append_left a.joins b.joins j i);
    memos = λ m i. h.memos m (Contains-append_left a.memos b.memos m i);
  }

  right : (a b : Listing) → HasAll (both a b) → HasAll b
  right a b h = record {
    scans = λ c i. h.scans c (Contains-append_right a.scans b.scans c i);
    joins = λ j i. h.joins j (Contains-append_right a.joins b.joins j i);
    memos = λ m i. h.memos m (Contains-append_right a.memos b.memos m i);
  }

  mutual
    pub holds : (p : Node) → HasAll (parts_of p) → PartsIn all p
    holds (node.Plain t) h = tt
    holds (node.Var x) h = tt
    holds (node.Rec ps) h = holds_fields ps h
    holds (node.Proj l a) h = holds a h
    holds (node.Inj l a) h = holds a h
    holds (node.Case a bs) h = (holds a (left (parts_of a) (parts_of_branches bs) h), holds_branches bs (right (parts_of a) (parts_of_branches bs) h))
    holds (node.Make k ps) h = holds_nodes ps h
    holds (node.Union a b) h = (holds a (left (parts_of a) (parts_of b) h), holds b (right (parts_of a) (parts_of b) h))
    holds (node.Ext k b s) h = (holds b (right (parts_of s) (parts_of b) h), holds s (left (parts_of s) (parts_of b) h))
    holds (node.If a b c) h =
        let g = right (parts_of a) (both (parts_of b) (parts_of c)) h in
        (holds a (left (parts_of a) (both (parts_of b) (parts_of c)) h), holds b (left (parts_of b) (parts_of c) g), holds c (right (parts_of b) (parts_of c) g))
    holds (node.Let a b) h = (holds a (left (parts_of a) (parts_of b) h), holds b (right (parts_of a) (parts_of b) h))
    holds (node.Prim c ps) h = holds_nodes ps h
    holds (node.Scan c) h = h.scans c (Contains-push [] c)
    holds (node.Join n k how o cs i q b) h =
        let inside = both (of_scan i) (parts_of b) in
        let keyed = both (parts_of_key q) inside in
        let behind = both (parts_of_nodes cs) keyed in
        let g = right (of_join n how) (both (parts_of o) behind) h in
        let f = right (parts_of o) behind g in
        let e = right (parts_of_nodes cs) keyed f in
        let d = right (parts_of_key q) inside e in (
          (left (of_join n how) (both (parts_of o) behind) h).joins (n, how) (Contains-push [] (n, how)),
          holds o (left (parts_of o) behind g),
          holds_nodes cs (left (parts_of_nodes cs) keyed f),
          holds_key q (left (parts_of_key q) inside e),
          (left (of_scan i) (parts_of b) d).scans i (Contains-push [] i),
          holds b (right (of_scan i) (parts_of b) d),
        )
    holds (node.Memo n frees p) h = (
      (left (of_memo (n, (frees, p))) (parts_of p) h).memos (n, (frees, p)) (Contains-push [] (n, (frees, p))),
      holds p (right (of_memo (n, (frees, p))) (parts_of p) h),
    )

    holds_nodes : (ps : Nodes) → HasAll (parts_of_nodes ps) → PartsInNodes all ps
    holds_nodes no_nodes h = tt
    holds_nodes (nodes p ps) h = (holds p (left (parts_of p) (parts_of_nodes ps) h), holds_nodes ps (right (parts_of p) (parts_of_nodes ps) h))

    holds_fields : (ps : Fields) → HasAll (parts_of_fields ps) → PartsInFields all ps
    holds_fields no_fields h = tt
    holds_fields (fields l p ps) h = (holds p (left (parts_of p) (parts_of_fields ps) h), holds_fields ps (right (parts_of p) (parts_of_fields ps) h))

    holds_branches : (bs : Branches) → HasAll (parts_of_branches bs) → PartsInBranches all bs
    holds_branches no_branches h = tt
    holds_branches (rest c) h = holds c h
    holds_branches (branch l b bs) h = (holds b (left (parts_of b) (parts_of_branches bs) h), holds_branches bs (right (parts_of b) (parts_of_branches bs) h))

    holds_key : (q : Key) → HasAll (parts_of_key q) → PartsInKey all q
    holds_key no_key h = tt
    holds_key (key l p) h = holds p h

pub holds_itself : (all : Listing) → HasAll all all
holds_itself all = record { scans = λ c i. i; joins = λ j i. i; memos = λ m i. i }

pub parts_in_all : (p : Node) → PartsIn (parts_of p) p
parts_in_all p = holds (parts_of p) p (holds_itself (parts_of p))

-- ---- the numbers of joins and memos

abbrev number_of : Memo → ℕ
number_of m = m.0

abbrev join_number : ℕ × JoinHow → ℕ
join_number j = j.0

module _ {X : Type 0} (number : X → ℕ) where
  joined : (xs ys : List X) (ns ms : List ℕ) → map number xs ≡ ns → map number ys ≡ ms → map number (xs ++ ys) ≡ ns ++ ms
  joined xs ys ns ms e f = map-append number xs ys ∙ ap₂ (λ a b. a ++ b) e f

mutual
  pub memo_numbers : (p : Node) → map number_of (memos_of p) ≡ memos_in p
  memo_numbers (node.Plain t) = refl
  memo_numbers (node.Var x) = refl
  memo_numbers (node.Rec ps) = memo_numbers_fields ps
  memo_numbers (node.Proj l a) = memo_numbers a
  memo_numbers (node.Inj l a) = memo_numbers a
  memo_numbers (node.Case a bs) = joined number_of _ _ _ _ (memo_numbers a) (memo_numbers_branches bs)
  memo_numbers (node.Make k ps) = memo_numbers_nodes ps
  memo_numbers (node.Union a b) = joined number_of _ _ _ _ (memo_numbers a) (memo_numbers b)
  memo_numbers (node.Ext k b s) = joined number_of _ _ _ _ (memo_numbers s) (memo_numbers b)
  memo_numbers (node.If a b c) = joined number_of _ _ _ _ (memo_numbers a) (joined number_of _ _ _ _ (memo_numbers b) (memo_numbers c))
  memo_numbers (node.Let a b) = joined number_of _ _ _ _ (memo_numbers a) (memo_numbers b)
  memo_numbers (node.Prim c ps) = memo_numbers_nodes ps
  memo_numbers (node.Scan c) = refl
  memo_numbers (node.Join n k how o cs i q b) =
      joined number_of _ _ _ _ (memo_numbers o)
      (joined number_of _ _ _ _ (memo_numbers_nodes cs) (joined number_of _ _ _ _ (memo_numbers_key q) (memo_numbers b)))
  memo_numbers (node.Memo n frees p) = ap (λ ns. n ∷ ns) (memo_numbers p)

  pub memo_numbers_nodes : (ps : Nodes) → map number_of (memos_of_nodes ps) ≡ numbers_of_nodes ps
  memo_numbers_nodes no_nodes = refl
  memo_numbers_nodes (nodes p ps) = joined number_of _ _ _ _ (memo_numbers p) (memo_numbers_nodes ps)

  pub memo_numbers_fields : (ps : Fields) → map number_of (memos_of_fields ps) ≡ numbers_of_fields ps
  memo_numbers_fields no_fields = refl
  memo_numbers_fields (fields l p ps) = joined number_of _ _ _ _ (memo_numbers p) (memo_numbers_fields ps)

  pub memo_numbers_branches : (bs : Branches) → map number_of (memos_of_branches bs) ≡ numbers_of_branches bs
  memo_numbers_branches no_branches = refl
  memo_numbers_branches (rest c) = memo_numbers c
  memo_numbers_branches (branch l b bs) = joined number_of _ _ _ _ (memo_numbers b) (memo_numbers_branches bs)

  pub memo_numbers_key : (q : Key) → map number_of (memos_of_key q) ≡ numbers_of_key q
  memo_numbers_key no_key = refl
  memo_numbers_key (key l p) = memo_numbers p

mutual
  pub join_numbers : (p : Node) → map join_number (joins_of p) ≡ joins_in p
  join_numbers (node.Plain t) = refl
  join_numbers (node.Var x) = refl
  join_numbers (node.Rec ps) = join_numbers_fields ps
  join_numbers (node.Proj l a) = join_numbers a
  join_numbers (node.Inj l a) = join_numbers a
  join_numbers (node.Case a bs) = joined join_number _ _ _ _ (join_numbers a) (join_numbers_branches bs)
  join_numbers (node.Make k ps) = join_numbers_nodes ps
  join_numbers (node.Union a b) = joined join_number _ _ _ _ (join_numbers a) (join_numbers b)
  join_numbers (node.Ext k b s) = joined join_number _ _ _ _ (join_numbers s) (join_numbers b)
  join_numbers (node.If a b c) = joined join_number _ _ _ _ (join_numbers a) (joined join_number _ _ _ _ (join_numbers b) (join_numbers c))
  join_numbers (node.Let a b) = joined join_number _ _ _ _ (join_numbers a) (join_numbers b)
  join_numbers (node.Prim c ps) = join_numbers_nodes ps
  join_numbers (node.Scan c) = refl
  join_numbers (node.Join n k how o cs i q b) =
      ap (λ ns. n ∷ ns) (joined join_number _ _ _ _ (join_numbers o)
      (joined join_number _ _ _ _ (join_numbers_nodes cs) (joined join_number _ _ _ _ (join_numbers_key q) (join_numbers b))))
  join_numbers (node.Memo n frees p) = join_numbers p

  pub join_numbers_nodes : (ps : Nodes) → map join_number (joins_of_each ps) ≡ joins_of_nodes ps
  join_numbers_nodes no_nodes = refl
  join_numbers_nodes (nodes p ps) = joined join_number _ _ _ _ (join_numbers p) (join_numbers_nodes ps)

  pub join_numbers_fields : (ps : Fields) → map join_number (joins_of_each_field ps) ≡ joins_of_fields ps
  join_numbers_fields no_fields = refl
  join_numbers_fields (fields l p ps) = joined join_number _ _ _ _ (join_numbers p) (join_numbers_fields ps)

  pub join_numbers_branches : (bs : Branches) → map join_number (joins_of_each_branch bs) ≡ joins_of_branches bs
  join_numbers_branches no_branches = refl
  join_numbers_branches (rest c) = join_numbers c
  join_numbers_branches (branch l b bs) = joined join_number _ _ _ _ (join_numbers b) (join_numbers_branches bs)

  pub join_numbers_key : (q : Key) → map join_number (joins_of_value q) ≡ joins_of_key q
  join_numbers_key no_key = refl
  join_numbers_key (key l p) = join_numbers p

-- where no memo stands, none is listed

unmapped : (ms : List Memo) → map number_of ms ≡ [] → ms ≡ []
unmapped [] e = refl
unmapped (m ∷ ms) e = cc

pub no_memos : (p : Node) → memos_in p ≡ [] → memos_of p ≡ []
no_memos p e = unmapped (memos_of p) (memo_numbers p ∙ e)

pub parts_without_memos : (p : Node) → memos_in p ≡ [] → PartsIn (record { scans = scans_in p; joins = joins_of p; memos = [] }) p
parts_without_memos p e =
    subst (λ ms. PartsIn (record { scans = scans_in p; joins = joins_of p; memos = ms }) p) (no_memos p e) (parts_in_all p)
