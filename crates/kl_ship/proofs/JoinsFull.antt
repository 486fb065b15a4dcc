-- No work is left in a plan of which joins were made, if none was in the first one.
use Rattle.std.proofs.Common.{◌≡◌, ⊎_elim, ℕ, ◌+◌, inl, List, [], ◌∷◌, ◌++◌, refl, sym, ap, subst, ◌∙◌, arith}
use Rattle.kl_value.specs.declared.Kind.{Kind}
use Rattle.kl_outcome.specs.Outcome.{Name}
use Rattle.kl_core.specs.Trees.{Source, Ext}
use Rattle.kl_ask.specs.declared.settings.JoinHow.{JoinHow}
use Rattle.kl_ask.specs.declared.settings.JoinHow.TheVariants as way
use Rattle.kl_plan.specs.declared.plan.Scan.{Scan}
use Rattle.kl_plan.specs.Erased.{erased, erased_around, erased_keyed}
use Rattle.kl_plan.specs.Keys.{above, nodes_above, fields_above, branches_above, IsEquality, IsKey}
use Rattle.kl_plan.specs.Loops.{around, keyed}
use Rattle.kl_plan.specs.Nodes as node
use Rattle.kl_plan.specs.Nodes.{Node, Nodes, no_nodes, nodes, Fields, no_fields, fields, Branches, no_branches, rest, branch, Key}
use Rattle.kl_plan.specs.Nodes.{no_key, key}
use Rattle.kl_plan.specs.Numbers.{joins_in, joins_of_nodes, joins_of_branches, joins_of_fields, memos_in, memos_of_branches}
use Rattle.kl_plan.specs.Numbers.{memos_of_fields}
use Rattle.kl_joins.specs.Bare.{Bare, BareNodes, BareFields, BareBranches}
use Rattle.kl_joins.specs.JoinsMade.{JoinsMade, KeyMade, EachMade, FieldsMade, BranchesMade}
use Rattle.kl_joins.proofs.KeyTypes.{key_bare}
use Rattle.kl_joins.proofs.JoinsTyped.{both_first, both_behind, bare_source, bare_body, bare_item}
use Rattle.kl_joins.proofs.JoinsTyped.{bare_items}
use Rattle.kl_joins.proofs.JoinsTyped.{bare_test, bare_yes, bare_no, bare_conds, bare_within}
use Rattle.kl_joins.proofs.Raised.{erased_above}
use Rattle.kl_plan.proofs.Empty.{none_first, none_behind}
use Rattle.kl_ship.specs.declared.source.ShipSource.{ShipSource}
use Rattle.kl_ship.specs.Delegation.{whole_use, column_use, taken}
use Rattle.kl_ship.specs.Full.{IsReading, IsLoopOver, FullyShipped, FullNodes, FullFields, FullBranches, FullKey}
use Rattle.kl_ship.proofs.Fully.{itself}
use Rattle.kl_ship.proofs.RaisedUses.{held, taken_raised}
use Rattle.kl_ship.proofs.Sight.{SameSight, see_ext, around_erased, keyed_erased, see_around}
use Rattle.kl_ship.proofs.Moved.{same_scan, HasLike, Moves, moves_by, scan_moved, source_moved}
use Rattle.kl_ship.proofs.JoinsSight.{without_bare, joins_seen, key_seen, nodes_seen}

-- ---- the scan that a plan is, and the loop

joins_reading : (how : JoinHow) (r p : Node) (d : Scan) → JoinsMade how p r → IsReading d r → IsReading d p
joins_reading how (node.Scan c) p d m h = subst (IsReading d) (sym m) h
joins_reading how (node.Memo n frees a) p d m h = absurd m
joins_reading how r p d m h = absurd h

joins_loop : (how : JoinHow) (k : Kind) (r p : Node) (d : Scan) → JoinsMade how p r → IsLoopOver k d r → IsLoopOver k d p
joins_loop how k (node.Ext j b s) p d m h = subst (IsLoopOver k d) (sym m.2) (h.0, joins_reading how s m.1 d m.4 h.1)
joins_loop how k (node.Join n j w o cs i q b) p d m h = subst (IsLoopOver k d) (sym m.4) (h.0, joins_reading how o m.0 d m.6 h.1)
joins_loop how k (node.Memo n frees a) p d m h = absurd m
joins_loop how k r p d m h = absurd h

-- ---- a plan whose positions are raised

above_reading : (p : Node) (n : ℕ) (d : Scan) → IsReading d p → IsReading d (above p n)
above_reading (node.Scan c) n d h = h
above_reading (node.Memo m frees p) n d h = above_reading p n d h
above_reading p n d h = absurd h

above_loop : (k : Kind) (p : Node) (n : ℕ) (d : Scan) → IsLoopOver k d p → IsLoopOver k d (above p n)
above_loop k (node.Ext j b s) n d h = (h.0, above_reading s n d h.1)
above_loop k (node.Join m j w o cs i q b) n d h = (h.0, above_reading o n d h.1)
above_loop k (node.Memo m frees p) n d h = above_loop k p n d h
above_loop k p n d h = absurd h

moves_above : (k : Kind) (b : Node) (n : ℕ) → joins_in b ≡ [] → Moves k (above b (n + 1)) b
moves_above k b n j =
    let e = erased_above b (n + 1) j in
    let u = held (erased b) (n + 1) 0 0 (inl (omega arith, refl)) in
    record {
      whole = sym u.whole ∙ sym (ap (whole_use 0) e);
      column = λ l. sym (u.column l) ∙ sym (ap (column_use 0 l) e);
      tests = λ h. sym (taken_raised k (erased b) 1 (n + 1) (omega arith)) ∙ sym (ap (taken k 1) e) ∙ h;
      loops = λ d h. (d, above_loop k b (n + 1) d h, same_scan d);
    }

module _ (ss : List ShipSource) where
  mutual
    full_above : (p : Node) (n : ℕ) → joins_in p ≡ [] → FullyShipped ss (above p n) → FullyShipped ss p
    full_above (node.Plain t) n j h = tt
    full_above (node.Var x) n j h = tt
    full_above (node.Rec ps) n j h = full_above_fields ps n j h
    full_above (node.Proj l a) n j h = full_above a n j h
    full_above (node.Inj l a) n j h = full_above a n j h
    full_above (node.Case a bs) n j h = (
      full_above a n (none_first (joins_in a) (joins_of_branches bs) j) h.0,
      full_above_branches bs n
          (none_behind (joins_in a) (joins_of_branches bs) j) h.1,
    )
    full_above (node.Make k ps) n j h = full_above_nodes ps n j h
    full_above (node.Union a b) n j h =
        (full_above a n (none_first (joins_in a) (joins_in b) j) h.0, full_above b n (none_behind (joins_in a) (joins_in b) j) h.1)
    full_above (node.Ext k b s) n j h =
        let inside = none_behind (joins_in s) (joins_in b) j in (
          full_above s n (none_first (joins_in s) (joins_in b) j) h.0,
          full_above b (n + 1) inside h.1,
          source_moved k (above b (n + 1)) b (moves_above k b n inside) ss (above s n) s
              (λ d r. (d, above_reading s n d r, same_scan d)) h.2,
        )
    full_above (node.If a b c) n j h =
        let i = none_behind (joins_in a) (joins_in b ++ joins_in c) j in (
          full_above a n (none_first (joins_in a) (joins_in b ++ joins_in c) j) h.0,
          full_above b n (none_first (joins_in b) (joins_in c) i) h.1,
          full_above c n (none_behind (joins_in b) (joins_in c) i) h.2,
        )
    full_above (node.Let a b) n j h =
        (full_above a n (none_first (joins_in a) (joins_in b) j) h.0, full_above b (n + 1) (none_behind (joins_in a) (joins_in b) j) h.1)
    full_above (node.Prim c ps) n j h = full_above_nodes ps n j h
    full_above (node.Scan c) n j h = tt
    full_above (node.Join m k w o cs i q b) n j h = absurd (none j)
      where
        none : {A : Type 0} {x : A} {xs : List A} → x ∷ xs ≡ [] → ⊥
        none e = cc
    full_above (node.Memo m frees p) n j h = full_above p n j h

    full_above_nodes : (ps : Nodes) (n : ℕ) → joins_of_nodes ps ≡ [] → FullNodes ss (nodes_above ps n) → FullNodes ss ps
    full_above_nodes no_nodes n j h = tt
    full_above_nodes (nodes p ps) n j h = (
      full_above p n (none_first (joins_in p) (joins_of_nodes ps) j) h.0,
      full_above_nodes ps n
          (none_behind (joins_in p) (joins_of_nodes ps) j) h.1,
    )

    full_above_fields : (ps : Fields) (n : ℕ) → joins_of_fields ps ≡ [] → FullFields ss (fields_above ps n) → FullFields ss ps
    full_above_fields no_fields n j h = tt
    full_above_fields (fields l p ps) n j h = (
      full_above p n (none_first (joins_in p) (joins_of_fields ps) j) h.0,
      full_above_fields ps n
          (none_behind (joins_in p) (joins_of_fields ps) j) h.1,
    )

    full_above_branches : (bs : Branches) (n : ℕ) → joins_of_branches bs ≡ [] → FullBranches ss (branches_above bs n) → FullBranches ss bs
    full_above_branches no_branches n j h = tt
    full_above_branches (rest c) n j h = full_above c n j h
    full_above_branches (branch l b bs) n j h = (
      full_above b (n + 1) (none_first (joins_in b) (joins_of_branches bs) j) h.0,
      full_above_branches bs n
          (none_behind (joins_in b) (joins_of_branches bs) j) h.1,
    )

  full_side : (c a b : Node) → IsEquality c a b → FullyShipped ss c → FullyShipped ss a × FullyShipped ss b
  full_side c a b h g =
      ⊎_elim (λ e. let f = subst (FullyShipped ss) e g in (f.0, f.1.0))
      (λ w. (subst (FullyShipped ss) (sym w.2) tt, subst (FullyShipped ss) (sym w.3) tt)) h

  -- of a condition that is a key, its value
  full_key_value : (l : Name) (u c : Node) → IsKey l u c → joins_in u ≡ [] → FullyShipped ss c → FullyShipped ss u
  full_key_value l u c h j g =
      full_above u 0 j (⊎_elim (λ e. (full_side c h.column (above u 0) e g).1) (λ e. (full_side c (above u 0) h.column e g).0) h.equal)

  -- ---- conditions around

  full_conds : (k : Kind) (ds : Nodes) (p : Node) → FullyShipped ss (around k ds p) → FullNodes ss ds
  full_conds k no_nodes p h = tt
  full_conds k (nodes d ds) p h = (h.0, full_conds k ds p h.1)

  full_within : (k : Kind) (ds : Nodes) (p : Node) → FullyShipped ss (around k ds p) → FullyShipped ss p
  full_within k no_nodes p h = h
  full_within k (nodes d ds) p h = full_within k ds p h.1

  full_around : (k : Kind) (ds : Nodes) (p : Node) → FullNodes ss ds → FullyShipped ss p → FullyShipped ss (around k ds p)
  full_around k no_nodes p h g = g
  full_around k (nodes d ds) p h g = (h.0, full_around k ds p h.1 g, tt)

  -- ---- plans of which joins were made

  module _ (how : JoinHow) where
    joined_body : (k : Kind) (b c : Node) → JoinsMade how b c → Bare b → Moves k b c
    joined_body k b c m bare = moves_by k b c (joins_seen how c b m bare) (λ d h. (d, joins_loop how k c b d m h, same_scan d))

    -- the body of an inner loop
    inner_moves : (q : Key) (k : Kind) (w : JoinHow) (y z c : Node) → KeyMade how k w y z q → Bare y → JoinsMade how z c
        → Moves k y (keyed k q c)
    inner_moves no_key k way.Block y z c m b j = joined_body k y c (subst (λ x. JoinsMade how x c) m.0 j) b
    inner_moves no_key k way.Index y z c m b j = absurd m
    inner_moves (key l v) k way.Block y z c m b j = absurd m
    inner_moves (key l v) k way.Index y z c m b j =
        let f = key_seen how (key l v) k way.Index y z (erased c) m b
        (joins_seen how c z j (without_bare how (key l v) k way.Index y z m b)) in
        record { whole = f.tree.whole 0; column = λ n. f.tree.column 0 n; tests = f.tests; loops = λ d h. absurd h }

    -- the body of an outer loop
    outer_moves : (k : Kind) (w : JoinHow) (ds cs : Nodes) (i : Scan) (y z c : Node) (q : Key) → EachMade how ds cs → BareNodes ds
        → KeyMade how k w y z q → Bare y
        → JoinsMade how z c → Moves k (around k ds (node.Ext k y (node.Scan i))) (around k cs (node.Ext k (keyed k q c) (node.Scan i)))
    outer_moves k w ds cs i y z c q conds bare m b j =
        let f = key_seen how q k w y z (erased c) m b (joins_seen how c z j (without_bare how q k w y z m b)) in
        let t = erased_keyed k q (erased c) in
        let s = see_around k ds cs (erased (node.Ext k y (node.Scan i))) (Ext k t (Source i.number)) (nodes_seen how cs ds conds bare)
        (see_ext k (erased y) t (Source i.number) (Source i.number) f.tree (itself (Source i.number))) in
        let e = around_erased k ds (node.Ext k y (node.Scan i)) in
        let g = around_erased k cs (node.Ext k (keyed k q c) (node.Scan i))
        ∙ ap (λ x. erased_around k cs (Ext k x (Source i.number))) (keyed_erased q k c) in
        moves_by k _ _ (subst (λ x. SameSight x (erased (around k cs (node.Ext k (keyed k q c) (node.Scan i))))) (sym e)
        (subst (λ x. SameSight (erased_around k ds (erased (node.Ext k y (node.Scan i)))) x) (sym g) s))
        (shape ds cs conds)
      where
        shape : (ds cs : Nodes) → EachMade how ds cs → (d : Scan) → IsLoopOver k d (around k cs (node.Ext k (keyed k q c) (node.Scan i)))
            → HasLike (λ e. IsLoopOver k e (around k ds (node.Ext k y (node.Scan i)))) d
        shape ds no_nodes n d h = (d, subst (λ x. IsLoopOver k d (around k x (node.Ext k y (node.Scan i)))) (sym n) h, same_scan d)
        shape ds (nodes a more) n d h = absurd h

    mutual
      pub joins_full : (r p : Node) → JoinsMade how p r → Bare p → FullyShipped ss p → FullyShipped ss r
      joins_full (node.Plain t) p m b h = tt
      joins_full (node.Var x) p m b h = tt
      joins_full (node.Rec ps) p m b h = fields_full ps m.0 m.2 (subst Bare m.1 b) (subst (FullyShipped ss) m.1 h)
      joins_full (node.Proj l a) p m b h = joins_full a m.0 m.2 (subst Bare m.1 b) (subst (FullyShipped ss) m.1 h)
      joins_full (node.Inj l a) p m b h = joins_full a m.0 m.2 (subst Bare m.1 b) (subst (FullyShipped ss) m.1 h)
      joins_full (node.Case a bs) p m b h =
          let d = subst Bare m.2 b in
          let f = subst (FullyShipped ss) m.2 h in (
            joins_full a m.0 m.3 (both_first (joins_in m.0) (joins_of_branches m.1) (memos_in m.0) (memos_of_branches m.1) d) f.0,
            branches_full bs m.1 m.4 (both_behind (joins_in m.0) (joins_of_branches m.1) (memos_in m.0) (memos_of_branches m.1) d) f.1,
          )
      joins_full (node.Make k ps) p m b h = nodes_full ps m.0 m.2 (subst Bare m.1 b) (subst (FullyShipped ss) m.1 h)
      joins_full (node.Union a c) p m b h =
          let d = subst Bare m.2 b in
          let f = subst (FullyShipped ss) m.2 h in (
            joins_full a m.0 m.3 (both_first (joins_in m.0) (joins_in m.1) (memos_in m.0) (memos_in m.1) d) f.0,
            joins_full c m.1 m.4 (both_behind (joins_in m.0) (joins_in m.1) (memos_in m.0) (memos_in m.1) d) f.1,
          )
      joins_full (node.Ext k c a) p m b h =
          let d = subst Bare m.2 b in
          let f = subst (FullyShipped ss) m.2 h in
          let own = bare_body k m.0 m.1 d in (
            joins_full a m.1 m.4 (bare_source k m.0 m.1 d) f.0,
            joins_full c m.0 m.3 own f.1,
            source_moved k m.0 c (joined_body k m.0 c m.3 own) ss m.1 a (λ e r. (e, joins_reading how a m.1 e m.4 r, same_scan e)) f.2,
          )
      joins_full (node.If a c e) p m b h =
          let d = subst Bare m.3 b in
          let f = subst (FullyShipped ss) m.3 h in (
            joins_full a m.0 m.4 (bare_test m.0 m.1 m.2 d) f.0,
            joins_full c m.1 m.5 (bare_yes m.0 m.1 m.2 d) f.1,
            joins_full e m.2 m.6 (bare_no m.0 m.1 m.2 d) f.2,
          )
      joins_full (node.Let a c) p m b h =
          let d = subst Bare m.2 b in
          let f = subst (FullyShipped ss) m.2 h in (
            joins_full a m.0 m.3 (both_first (joins_in m.0) (joins_in m.1) (memos_in m.0) (memos_in m.1) d) f.0,
            joins_full c m.1 m.4 (both_behind (joins_in m.0) (joins_in m.1) (memos_in m.0) (memos_in m.1) d) f.1,
          )
      joins_full (node.Prim c ps) p m b h = nodes_full ps m.0 m.2 (subst Bare m.1 b) (subst (FullyShipped ss) m.1 h)
      joins_full (node.Scan c) p m b h = tt
      joins_full (node.Join n k w o cs i q c) p m b h =
          let d = subst Bare m.4 b in
          let f = subst (FullyShipped ss) m.4 h in
          let inside = node.Ext k m.2 (node.Scan i) in
          let bare = bare_body k (around k m.1 inside) m.0 d in
          let conds = bare_conds k m.1 inside bare in
          let own = bare_body k m.2 (node.Scan i) (bare_within k m.1 inside bare) in
          let inner = full_within k m.1 inside f.1 in
          let g = key_full q k w m.2 m.3 m.9 own inner.1 in (
            joins_full o m.0 m.6 (bare_source k (around k m.1 inside) m.0 d) f.0,
            nodes_full cs m.1 m.7 conds (full_conds k m.1 inside f.1),
            g.0,
            joins_full c m.3 m.8 (without_bare how q k w m.2 m.3 m.9 own) g.1,
            scan_moved k m.2 (keyed k q c) (inner_moves q k w m.2 m.3 c m.9 own m.8) ss i i (same_scan i) inner.2,
            source_moved k (around k m.1 inside) (around k cs (node.Ext k (keyed k q c) (node.Scan i)))
                (outer_moves k w m.1 cs i m.2 m.3 c q m.7 conds m.9 own m.8) ss m.0 o
                (λ e r. (e, joins_reading how o m.0 e m.6 r, same_scan e)) f.2,
          )
      joins_full (node.Memo n frees a) p m b h = absurd m

      key_full : (q : Key) (k : Kind) (w : JoinHow) (y z : Node) → KeyMade how k w y z q → Bare y → FullyShipped ss y → FullKey ss q
          × FullyShipped ss z
      key_full no_key k way.Block y z m b h = (tt, subst (FullyShipped ss) (sym m.0) h)
      key_full no_key k way.Index y z m b h = absurd m
      key_full (key l v) k way.Block y z m b h = absurd m
      key_full (key l v) k way.Index y z m b h =
          let nothing = node.Make k no_nodes in
          let inner = node.If m.2 m.3 nothing in
          let d = subst Bare m.5.body b in
          let f = subst (FullyShipped ss) m.5.body h in
          let g = full_within k m.1 inner f in
          let u = key_bare l m.4 m.2 m.7 (bare_test m.2 m.3 nothing (bare_within k m.1 inner d)) in (
            joins_full v m.4 m.8 u (full_key_value l m.4 m.2 m.7 u.0 g.0),
            subst (FullyShipped ss) (sym m.6) (full_around k m.1 m.3 (full_conds k m.1 inner f) g.1),
          )

      nodes_full : (ps qs : Nodes) → EachMade how qs ps → BareNodes qs → FullNodes ss qs → FullNodes ss ps
      nodes_full no_nodes qs m b h = tt
      nodes_full (nodes p ps) qs m b h =
          let d = subst BareNodes m.2 b in
          let f = subst (FullNodes ss) m.2 h in
          (joins_full p m.0 m.3 (bare_item m.0 m.1 d) f.0, nodes_full ps m.1 m.4 (bare_items m.0 m.1 d) f.1)

      fields_full : (ps qs : Fields) → FieldsMade how qs ps → BareFields qs → FullFields ss qs → FullFields ss ps
      fields_full no_fields qs m b h = tt
      fields_full (fields l p ps) qs m b h =
          let d = subst BareFields m.2 b in
          let f = subst (FullFields ss) m.2 h in (
            joins_full p m.0 m.3 (both_first (joins_in m.0) (joins_of_fields m.1) (memos_in m.0) (memos_of_fields m.1) d) f.0,
            fields_full ps m.1 m.4 (both_behind (joins_in m.0) (joins_of_fields m.1) (memos_in m.0) (memos_of_fields m.1) d) f.1,
          )

      branches_full : (bs cs : Branches) → BranchesMade how cs bs → BareBranches cs → FullBranches ss cs → FullBranches ss bs
      branches_full no_branches cs m b h = tt
      branches_full (rest c) cs m b h = joins_full c m.0 m.2 (subst BareBranches m.1 b) (subst (FullBranches ss) m.1 h)
      branches_full (branch l c bs) cs m b h =
          let d = subst BareBranches m.2 b in
          let f = subst (FullBranches ss) m.2 h in (
            joins_full c m.0 m.3 (both_first (joins_in m.0) (joins_of_branches m.1) (memos_in m.0) (memos_of_branches m.1) d) f.0,
            branches_full bs m.1 m.4 (both_behind (joins_in m.0) (joins_of_branches m.1) (memos_in m.0) (memos_of_branches m.1) d) f.1,
          )
