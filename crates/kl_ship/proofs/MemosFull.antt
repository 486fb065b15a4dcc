-- No work is left in a plan with memos, if none is in the plan without.
use Rattle.std.proofs.Common.{◌≡◌, ℕ, ◌+◌, List, refl, sym, ap, subst, ◌∙◌}
use mathlib.Core.Path.{ap₂}
use Rattle.kl_value.specs.declared.Kind.{Kind}
use Rattle.kl_core.specs.Trees as term
use Rattle.kl_core.specs.Trees.{Tree, trees, parts, arm}
use Rattle.kl_core.proofs.Lowering.{choice_is}
use Rattle.kl_plan.specs.declared.plan.Scan.{Scan}
use Rattle.kl_plan.specs.Erased.{key_test, erased, erased_nodes, erased_fields, erased_branches, erased_around, erased_keyed}
use Rattle.kl_plan.specs.Loops.{around, keyed}
use Rattle.kl_plan.specs.Nodes as node
use Rattle.kl_plan.specs.Nodes.{Node, Nodes, no_nodes, nodes, Fields, no_fields, fields, Branches, no_branches, rest, branch, Key}
use Rattle.kl_plan.specs.Nodes.{no_key, key}
use Rattle.kl_joins.specs.declared.keeping.Place.{Place}
use Rattle.kl_joins.specs.declared.keeping.Place.TheVariants as place
use Rattle.kl_joins.specs.MemosMade.{aside, at_source, MemosMade, EachKept, FieldsKept, BranchesKept, KeyKept}
use Rattle.kl_ship.specs.declared.source.ShipSource.{ShipSource}
use Rattle.kl_ship.specs.Full.{IsReading, IsLoopOver, FullyShipped, FullNodes, FullFields, FullBranches, FullKey}
use Rattle.kl_ship.proofs.Sight.{SameSight, see_itself, around_erased, keyed_erased}
use Rattle.kl_ship.proofs.Moved.{same_scan, Moves, moves_by, scan_moved, source_moved}

-- ---- the same term

-- conditions around
conds_are : (k : Kind) (ds cs : Nodes) (t u : Tree) → erased_nodes cs ≡ erased_nodes ds → t ≡ u
    → erased_around k cs t ≡ erased_around k ds u
conds_are k no_nodes no_nodes t u e f = f
conds_are k (nodes d ds) (nodes c cs) t u e f =
    let a : erased c ≡ erased d = cc in
    let b : erased_nodes cs ≡ erased_nodes ds = cc in
    choice_is a (conds_are k ds cs t u b f) refl
conds_are k no_nodes (nodes c cs) t u e f = cc
conds_are k (nodes d ds) no_nodes t u e f = cc

mutual
  memos_erased : (r p : Node) (l : Place) (d : ℕ) → MemosMade l d p r → erased r ≡ erased p
  memos_erased (node.Plain t) p l d m = ap erased (sym m)
  memos_erased (node.Var x) p l d m = ap erased (sym m)
  memos_erased (node.Rec ps) p l d m = ap term.Rec (memos_erased_fields ps m.0 (aside l) d m.2) ∙ ap erased (sym m.1)
  memos_erased (node.Proj n a) p l d m = ap (term.Proj n) (memos_erased a m.0 (aside l) d m.2) ∙ ap erased (sym m.1)
  memos_erased (node.Inj n a) p l d m = ap (term.Inj n) (memos_erased a m.0 (aside l) d m.2) ∙ ap erased (sym m.1)
  memos_erased (node.Case a bs) p l d m =
      ap₂ term.Case (memos_erased a m.0 (aside l) d m.3) (memos_erased_branches bs m.1 l d m.4) ∙ ap erased (sym m.2)
  memos_erased (node.Make k ps) p l d m = ap (term.Make k) (memos_erased_nodes ps m.0 (aside l) d m.2) ∙ ap erased (sym m.1)
  memos_erased (node.Union a b) p l d m = ap₂ term.Union (memos_erased a m.0 l d m.3) (memos_erased b m.1 l d m.4) ∙ ap erased (sym m.2)
  memos_erased (node.Ext k b s) p l d m =
      ap₂ (term.Ext k) (memos_erased b m.0 place.Spine (d + 1) m.4) (memos_erased s m.1 (at_source l m.1) d m.5) ∙ ap erased (sym m.2)
  memos_erased (node.If a b c) p l d m =
      choice_is (memos_erased a m.0 (aside l) d m.4) (memos_erased b m.1 l d m.5) (memos_erased c m.2 l d m.6) ∙ ap erased (sym m.3)
  memos_erased (node.Let a b) p l d m = ap₂ term.Let (memos_erased a m.0 (aside l) d m.3) (memos_erased b m.1 l (d + 1) m.4)
      ∙ ap erased (sym m.2)
  memos_erased (node.Prim c ps) p l d m = ap (term.Prim c) (memos_erased_nodes ps m.0 (aside l) d m.2) ∙ ap erased (sym m.1)
  memos_erased (node.Scan c) p l d m = ap erased (sym m.0)
  memos_erased (node.Join n k w o cs i q b) p l d m =
      ap₂ (term.Ext k)
      (conds_are k m.1 cs _ _ (memos_erased_nodes cs m.1 place.Aside (d + 1) m.7)
      (ap (λ x. term.Ext k x (term.Source i.number))
      (memos_erased_key k q m.2 (d + 1) m.8 (erased b) (erased m.3) (memos_erased b m.3 place.Spine (d + 2) m.9))))
      (memos_erased o m.0 (aside l) d m.6)
      ∙ ap erased (sym m.4)
  memos_erased (node.Memo n frees a) p l d m = ap erased m.3

  memos_erased_nodes : (ps qs : Nodes) (l : Place) (d : ℕ) → EachKept l d qs ps → erased_nodes ps ≡ erased_nodes qs
  memos_erased_nodes no_nodes qs l d m = ap erased_nodes (sym m)
  memos_erased_nodes (nodes p ps) qs l d m = ap₂ trees (memos_erased p m.0 l d m.3) (memos_erased_nodes ps m.1 l d m.4)
      ∙ ap erased_nodes (sym m.2)

  memos_erased_fields : (ps qs : Fields) (l : Place) (d : ℕ) → FieldsKept l d qs ps → erased_fields ps ≡ erased_fields qs
  memos_erased_fields no_fields qs l d m = ap erased_fields (sym m)
  memos_erased_fields (fields n p ps) qs l d m = ap₂ (parts n) (memos_erased p m.0 l d m.3) (memos_erased_fields ps m.1 l d m.4)
      ∙ ap erased_fields (sym m.2)

  memos_erased_branches : (bs cs : Branches) (l : Place) (d : ℕ) → BranchesKept l d cs bs → erased_branches bs ≡ erased_branches cs
  memos_erased_branches no_branches cs l d m = ap erased_branches (sym m)
  memos_erased_branches (rest b) cs l d m = ap term.rest (memos_erased b m.0 l d m.2) ∙ ap erased_branches (sym m.1)
  memos_erased_branches (branch n b bs) cs l d m =
      ap₂ (arm n) (memos_erased b m.0 l (d + 1) m.3) (memos_erased_branches bs m.1 l d m.4) ∙ ap erased_branches (sym m.2)

  memos_erased_key : (k : Kind) (q e : Key) (d : ℕ) → KeyKept d e q → (t u : Tree) → t ≡ u → erased_keyed k q t ≡ erased_keyed k e u
  memos_erased_key k no_key e d m t u f = f ∙ ap (λ x. erased_keyed k x u) (sym m)
  memos_erased_key k (key l p) e d m t u f =
      choice_is (ap (key_test l) (memos_erased p m.0 place.Aside d m.2)) f refl ∙ ap (λ x. erased_keyed k x u) (sym m.1)

-- ---- the scan that a plan is, and the loop

memos_reading : (r p : Node) (l : Place) (d : ℕ) (c : Scan) → MemosMade l d p r → IsReading c r → IsReading c p
memos_reading (node.Scan e) p l d c m h = subst (IsReading c) (sym m.0) h
memos_reading (node.Memo n frees a) p l d c m h = subst (IsReading c) m.3 h
memos_reading r p l d c m h = absurd h

memos_loop : (k : Kind) (r p : Node) (l : Place) (d : ℕ) (c : Scan) → MemosMade l d p r → IsLoopOver k c r → IsLoopOver k c p
memos_loop k (node.Ext j b s) p l d c m h = subst (IsLoopOver k c) (sym m.2) (h.0, memos_reading s m.1 (at_source l m.1) d c m.5 h.1)
memos_loop k (node.Join n j w o cs i q b) p l d c m h = subst (IsLoopOver k c) (sym m.4) (h.0, memos_reading o m.0 (aside l) d c m.6 h.1)
memos_loop k (node.Memo n frees a) p l d c m h = subst (IsLoopOver k c) m.3 h
memos_loop k r p l d c m h = absurd h

same_moves : (k : Kind) (b c : Node) → erased c ≡ erased b → ((d : Scan) → IsLoopOver k d c → IsLoopOver k d b) → Moves k b c
same_moves k b c e loops =
    moves_by k b c (subst (λ x. SameSight x (erased c)) e (see_itself (erased c))) (λ d h. (d, loops d h, same_scan d))

key_loop : (k : Kind) (q e : Key) (d n : ℕ) (b y : Node) (c : Scan) → KeyKept d e q → MemosMade place.Spine n y b
    → IsLoopOver k c (keyed k q b) → IsLoopOver k c (keyed k e y)
key_loop k no_key e d n b y c m g h = subst (λ x. IsLoopOver k c (keyed k x y)) (sym m) (memos_loop k b y place.Spine n c g h)
key_loop k (key l v) e d n b y c m g h = absurd h

conds_loop : (k : Kind) (cs ds : Nodes) (d : ℕ) (b y : Node) (i c : Scan) → EachKept place.Aside d ds cs
    → IsLoopOver k c (around k cs (node.Ext k b (node.Scan i))) → IsLoopOver k c (around k ds (node.Ext k y (node.Scan i)))
conds_loop k no_nodes ds d b y i c m h = subst (λ x. IsLoopOver k c (around k x (node.Ext k y (node.Scan i)))) (sym m) h
conds_loop k (nodes a more) ds d b y i c m h = absurd h

module _ (ss : List ShipSource) where
  mutual
    pub memos_full : (r p : Node) (l : Place) (d : ℕ) → MemosMade l d p r → FullyShipped ss p → FullyShipped ss r
    memos_full (node.Plain t) p l d m h = tt
    memos_full (node.Var x) p l d m h = tt
    memos_full (node.Rec ps) p l d m h = fields_full ps m.0 (aside l) d m.2 (subst (FullyShipped ss) m.1 h)
    memos_full (node.Proj n a) p l d m h = memos_full a m.0 (aside l) d m.2 (subst (FullyShipped ss) m.1 h)
    memos_full (node.Inj n a) p l d m h = memos_full a m.0 (aside l) d m.2 (subst (FullyShipped ss) m.1 h)
    memos_full (node.Case a bs) p l d m h =
        let f = subst (FullyShipped ss) m.2 h in
        (memos_full a m.0 (aside l) d m.3 f.0, branches_full bs m.1 l d m.4 f.1)
    memos_full (node.Make k ps) p l d m h = nodes_full ps m.0 (aside l) d m.2 (subst (FullyShipped ss) m.1 h)
    memos_full (node.Union a b) p l d m h =
        let f = subst (FullyShipped ss) m.2 h in
        (memos_full a m.0 l d m.3 f.0, memos_full b m.1 l d m.4 f.1)
    memos_full (node.Ext k b s) p l d m h =
        let f = subst (FullyShipped ss) m.2 h in (
          memos_full s m.1 (at_source l m.1) d m.5 f.0,
          memos_full b m.0 place.Spine (d + 1) m.4 f.1,
          source_moved k m.0 b
              (same_moves k m.0 b (memos_erased b m.0 place.Spine (d + 1) m.4) (λ c g. memos_loop k b m.0 place.Spine (d + 1) c m.4 g)) ss
              m.1 s
              (λ c g. (c, memos_reading s m.1 (at_source l m.1) d c m.5 g, same_scan c)) f.2,
        )
    memos_full (node.If a b c) p l d m h =
        let f = subst (FullyShipped ss) m.3 h in
        (memos_full a m.0 (aside l) d m.4 f.0, memos_full b m.1 l d m.5 f.1, memos_full c m.2 l d m.6 f.2)
    memos_full (node.Let a b) p l d m h =
        let f = subst (FullyShipped ss) m.2 h in
        (memos_full a m.0 (aside l) d m.3 f.0, memos_full b m.1 l (d + 1) m.4 f.1)
    memos_full (node.Prim c ps) p l d m h = nodes_full ps m.0 (aside l) d m.2 (subst (FullyShipped ss) m.1 h)
    memos_full (node.Scan c) p l d m h = tt
    memos_full (node.Join n k w o cs i q b) p l d m h =
        let f = subst (FullyShipped ss) m.4 h in
        let y = keyed k m.2 m.3 in
        let z = keyed k q b in
        let inner = keyed_erased q k b ∙ memos_erased_key k q m.2 (d + 1) m.8 (erased b) (erased m.3)
        (memos_erased b m.3 place.Spine (d + 2) m.9) ∙ sym (keyed_erased m.2 k m.3) in
        let outer = around_erased k cs (node.Ext k z (node.Scan i))
        ∙ conds_are k m.1 cs _ _ (memos_erased_nodes cs m.1 place.Aside (d + 1) m.7) (ap (λ x. term.Ext k x (term.Source i.number)) inner)
        ∙ sym (around_erased k m.1 (node.Ext k y (node.Scan i))) in (
          memos_full o m.0 (aside l) d m.6 f.0,
          nodes_full cs m.1 place.Aside (d + 1) m.7 f.1,
          key_full q m.2 (d + 1) m.8 f.2,
          memos_full b m.3 place.Spine (d + 2) m.9 f.3,
          scan_moved k y z (same_moves k y z inner (λ c g. key_loop k q m.2 (d + 1) (d + 2) b m.3 c m.8 m.9 g)) ss i i (same_scan i) f.4,
          source_moved k (around k m.1 (node.Ext k y (node.Scan i))) (around k cs (node.Ext k z (node.Scan i)))
              (same_moves k _ _ outer (λ c g. conds_loop k cs m.1 (d + 1) z y i c m.7 g)) ss m.0 o
              (λ c g. (c, memos_reading o m.0 (aside l) d c m.6 g, same_scan c)) f.5,
        )
    memos_full (node.Memo n frees a) p l d m h = subst (FullyShipped ss) (sym m.3) h

    nodes_full : (ps qs : Nodes) (l : Place) (d : ℕ) → EachKept l d qs ps → FullNodes ss qs → FullNodes ss ps
    nodes_full no_nodes qs l d m h = tt
    nodes_full (nodes p ps) qs l d m h = let f = subst (FullNodes ss) m.2 h in (memos_full p m.0 l d m.3 f.0, nodes_full ps m.1 l d m.4 f.1)

    fields_full : (ps qs : Fields) (l : Place) (d : ℕ) → FieldsKept l d qs ps → FullFields ss qs → FullFields ss ps
    fields_full no_fields qs l d m h = tt
    fields_full (fields n p ps) qs l d m h = let f = subst (FullFields ss) m.2 h in
        (memos_full p m.0 l d m.3 f.0, fields_full ps m.1 l d m.4 f.1)

    branches_full : (bs cs : Branches) (l : Place) (d : ℕ) → BranchesKept l d cs bs → FullBranches ss cs → FullBranches ss bs
    branches_full no_branches cs l d m h = tt
    branches_full (rest b) cs l d m h = memos_full b m.0 l d m.2 (subst (FullBranches ss) m.1 h)
    branches_full (branch n b bs) cs l d m h =
        let f = subst (FullBranches ss) m.2 h in
        (memos_full b m.0 l (d + 1) m.3 f.0, branches_full bs m.1 l d m.4 f.1)

    key_full : (q e : Key) (d : ℕ) → KeyKept d e q → FullKey ss e → FullKey ss q
    key_full no_key e d m h = tt
    key_full (key l p) e d m h = memos_full p m.0 place.Aside d m.2 (subst (FullKey ss) m.1 h)
