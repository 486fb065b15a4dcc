-- Whether work is left in a plan does not rest on its numbers.
use Rattle.std.proofs.Common.{List, refl, sym, subst}
use Rattle.kl_value.specs.declared.Kind.{Kind}
use Rattle.kl_core.specs.Trees.{Tree, Var, Source, Make, Ext, no_trees}
use Rattle.kl_plan.specs.declared.plan.Scan.{Scan}
use Rattle.kl_plan.specs.Erased.{key_test, erased, erased_nodes, erased_fields, erased_branches, erased_around, erased_keyed}
use Rattle.kl_plan.specs.Loops.{around, keyed}
use Rattle.kl_plan.specs.Nodes as node
use Rattle.kl_plan.specs.Nodes.{Node, Nodes, no_nodes, nodes, Fields, no_fields, fields, Branches, no_branches, rest, branch, Key}
use Rattle.kl_plan.specs.Nodes.{no_key, key}
use Rattle.kl_joins.specs.Numbered.{SameScan, SamePlan, SameNodes, SameFields, SameBranches, SameKey}
use Rattle.kl_ship.specs.declared.source.ShipSource.{ShipSource}
use Rattle.kl_ship.specs.Full.{IsReading, IsLoopOver, FullyShipped, FullNodes, FullFields, FullBranches, FullKey}
use Rattle.kl_ship.proofs.Sight.{SameSight, see_itself, seen_from, EachSight, SameParts, SameArms, see_rec, see_proj, see_inj, see_case, see_make}
use Rattle.kl_ship.proofs.Sight.{see_union}
use Rattle.kl_ship.proofs.Sight.{see_ext, see_if, see_let, see_prim, see_source, see_no_parts, see_parts, see_no_arms, see_rest, see_arm}
use Rattle.kl_ship.proofs.Sight.{see_key}
use Rattle.kl_ship.proofs.Sight.{around_erased, keyed_erased, see_around}
use Rattle.kl_ship.proofs.Moved.{HasLike, Moves, moves_by, scan_moved, source_moved}

-- the inner loop of a join
abbrev inner_tree : Kind → Scan → Key → Node → Tree
inner_tree k i q b = Ext k (erased_keyed k q (erased b)) (Source i.number)

abbrev inner_loop : Kind → Scan → Key → Node → Node
inner_loop k i q b = node.Ext k (keyed k q b) (node.Scan i)

-- ---- the same is seen

mutual
  same_seen : (r p : Node) → SamePlan p r → SameSight (erased p) (erased r)
  same_seen (node.Plain t) p m = seen_from p (node.Plain t) t m (see_itself t)
  same_seen (node.Var x) p m = seen_from p (node.Var x) (Var x) m (see_itself (Var x))
  same_seen (node.Rec ps) p m =
      seen_from p (node.Rec m.0) (erased (node.Rec ps)) m.1 (see_rec (erased_fields m.0) (erased_fields ps) (fields_seen ps m.0 m.2))
  same_seen (node.Proj l a) p m =
      seen_from p (node.Proj l m.0) (erased (node.Proj l a)) m.1 (see_proj l (erased m.0) (erased a) (same_seen a m.0 m.2))
  same_seen (node.Inj l a) p m =
      seen_from p (node.Inj l m.0) (erased (node.Inj l a)) m.1 (see_inj l (erased m.0) (erased a) (same_seen a m.0 m.2))
  same_seen (node.Case a bs) p m = seen_from p (node.Case m.0 m.1) (erased (node.Case a bs)) m.2
      (see_case (erased m.0) (erased a) (erased_branches m.1) (erased_branches bs) (same_seen a m.0 m.3) (branches_seen bs m.1 m.4))
  same_seen (node.Make k ps) p m =
      seen_from p (node.Make k m.0) (erased (node.Make k ps)) m.1 (see_make k (erased_nodes m.0) (erased_nodes ps) (nodes_seen ps m.0 m.2))
  same_seen (node.Union a b) p m = seen_from p (node.Union m.0 m.1) (erased (node.Union a b)) m.2
      (see_union (erased m.0) (erased a) (erased m.1) (erased b) (same_seen a m.0 m.3) (same_seen b m.1 m.4))
  same_seen (node.Ext k b s) p m = seen_from p (node.Ext k m.0 m.1) (erased (node.Ext k b s)) m.2
      (see_ext k (erased m.0) (erased b) (erased m.1) (erased s) (same_seen b m.0 m.3).tree (same_seen s m.1 m.4).tree)
  same_seen (node.If a b c) p m = seen_from p (node.If m.0 m.1 m.2) (erased (node.If a b c)) m.3
      (see_if (erased m.0) (erased a) (erased m.1) (erased b) (erased m.2) (erased c) (same_seen a m.0 m.4) (same_seen b m.1 m.5)
      (same_seen c m.2 m.6))
  same_seen (node.Let a b) p m = seen_from p (node.Let m.0 m.1) (erased (node.Let a b)) m.2
      (see_let (erased m.0) (erased a) (erased m.1) (erased b) (same_seen a m.0 m.3) (same_seen b m.1 m.4))
  same_seen (node.Prim c ps) p m =
      seen_from p (node.Prim c m.0) (erased (node.Prim c ps)) m.1 (see_prim c (erased_nodes m.0) (erased_nodes ps) (nodes_seen ps m.0 m.2))
  same_seen (node.Scan c) p m = seen_from p (node.Scan m.0) (Source c.number) m.1 (see_source m.0.number c.number)
  same_seen (node.Join n k w o cs i q b) p m =
      seen_from p (node.Join m.0 k w m.1 m.2 m.3 m.4 m.5) (erased (node.Join n k w o cs i q b)) m.6
      (see_ext k (erased_around k m.2 (inner_tree k m.3 m.4 m.5)) (erased_around k cs (inner_tree k i q b)) (erased m.1) (erased o)
      (see_around k m.2 cs (inner_tree k m.3 m.4 m.5) (inner_tree k i q b) (nodes_seen cs m.2 m.8)
      (see_ext k (erased_keyed k m.4 (erased m.5)) (erased_keyed k q (erased b)) (Source m.3.number) (Source i.number)
      (key_seen q m.4 k (erased m.5) (erased b) m.10 (same_seen b m.5 m.11)).tree (see_source m.3.number i.number).tree)).tree
      (same_seen o m.1 m.7).tree)
  same_seen (node.Memo n frees a) p m = seen_from p (node.Memo m.0 frees m.1) (erased a) m.2 (same_seen a m.1 m.3)

  nodes_seen : (ps qs : Nodes) → SameNodes qs ps → EachSight (erased_nodes qs) (erased_nodes ps)
  nodes_seen no_nodes qs m = subst (λ x. EachSight (erased_nodes x) no_trees) (sym m) tt
  nodes_seen (nodes p ps) qs m =
      subst (λ x. EachSight (erased_nodes x) (erased_nodes (nodes p ps))) (sym m.2) (same_seen p m.0 m.3, nodes_seen ps m.1 m.4)

  fields_seen : (ps qs : Fields) → SameFields qs ps → SameParts (erased_fields qs) (erased_fields ps)
  fields_seen no_fields qs m = subst (λ x. SameParts (erased_fields x) (erased_fields no_fields)) (sym m) see_no_parts
  fields_seen (fields l p ps) qs m =
      subst (λ x. SameParts (erased_fields x) (erased_fields (fields l p ps))) (sym m.2)
      (see_parts l (erased m.0) (erased p) (erased_fields m.1) (erased_fields ps) (same_seen p m.0 m.3) (fields_seen ps m.1 m.4))

  branches_seen : (bs cs : Branches) → SameBranches cs bs → SameArms (erased_branches cs) (erased_branches bs)
  branches_seen no_branches cs m = subst (λ x. SameArms (erased_branches x) (erased_branches no_branches)) (sym m) see_no_arms
  branches_seen (rest c) cs m =
      subst (λ x. SameArms (erased_branches x) (erased_branches (rest c))) (sym m.1)
      (see_rest (erased m.0) (erased c) (same_seen c m.0 m.2))
  branches_seen (branch l c bs) cs m =
      subst (λ x. SameArms (erased_branches x) (erased_branches (branch l c bs))) (sym m.2)
      (see_arm l (erased m.0) (erased c) (erased_branches m.1) (erased_branches bs) (same_seen c m.0 m.3) (branches_seen bs m.1 m.4))

  key_seen : (q e : Key) (k : Kind) (t u : Tree) → SameKey e q → SameSight t u → SameSight (erased_keyed k e t) (erased_keyed k q u)
  key_seen no_key e k t u m s = subst (λ x. SameSight (erased_keyed k x t) u) (sym m) s
  key_seen (key l v) e k t u m s =
      subst (λ x. SameSight (erased_keyed k x t) (erased_keyed k (key l v) u)) (sym m.1)
      (see_if (key_test l (erased m.0)) (key_test l (erased v)) t u (Make k no_trees) (Make k no_trees)
      (see_key l (erased m.0) (erased v) (same_seen v m.0 m.2))
      s (see_itself (Make k no_trees)))

-- ---- the scan that a plan is, and the loop

same_reading : (r p : Node) (d : Scan) → SamePlan p r → IsReading d r → HasLike (λ e. IsReading e p) d
same_reading (node.Scan c) p d m h = (m.0, subst (IsReading m.0) (sym m.1) refl, subst (SameScan m.0) h m.2)
same_reading (node.Memo n frees a) p d m h = let f = same_reading a m.1 d m.3 h in (f.0, subst (IsReading f.0) (sym m.2) f.1, f.2)
same_reading r p d m h = absurd h

same_loop : (k : Kind) (r p : Node) (d : Scan) → SamePlan p r → IsLoopOver k d r → HasLike (λ e. IsLoopOver k e p) d
same_loop k (node.Ext j b s) p d m h =
    let f = same_reading s m.1 d m.4 h.1 in
    (f.0, subst (IsLoopOver k f.0) (sym m.2) (h.0, f.1), f.2)
same_loop k (node.Join n j w o cs i q b) p d m h =
    let f = same_reading o m.1 d m.7 h.1 in
    (f.0, subst (IsLoopOver k f.0) (sym m.6) (h.0, f.1), f.2)
same_loop k (node.Memo n frees a) p d m h = let f = same_loop k a m.1 d m.3 h in (f.0, subst (IsLoopOver k f.0) (sym m.2) f.1, f.2)
same_loop k r p d m h = absurd h

same_moves : (k : Kind) (b c : Node) → SamePlan b c → Moves k b c
same_moves k b c m = moves_by k b c (same_seen c b m) (λ d h. same_loop k c b d m h)

key_moves : (k : Kind) (q e : Key) (b y : Node) → SameKey e q → SamePlan y b → Moves k (keyed k e y) (keyed k q b)
key_moves k no_key e b y m n = subst (λ x. Moves k (keyed k x y) b) (sym m) (same_moves k y b n)
key_moves k (key l v) e b y m n =
    moves_by k (keyed k e y) (keyed k (key l v) b)
    (subst (λ x. SameSight x (erased (keyed k (key l v) b))) (sym (keyed_erased e k y))
    (key_seen (key l v) e k (erased y) (erased b) m (same_seen b y n)))
    (λ d h. absurd h)

conds_moves : (k : Kind) (cs ds : Nodes) (q e : Key) (b y : Node) (i j : Scan) → SameNodes ds cs → SameKey e q → SamePlan y b → SameScan j i
    → Moves k (around k ds (inner_loop k j e y)) (around k cs (inner_loop k i q b))
conds_moves k cs ds q e b y i j m f g same =
    moves_by k (around k ds (inner_loop k j e y)) (around k cs (inner_loop k i q b))
    (subst (λ x. SameSight x (erased (around k cs (inner_loop k i q b)))) (sym (around_erased k ds (inner_loop k j e y)))
    (subst (λ x. SameSight (erased_around k ds (erased (inner_loop k j e y))) x) (sym (around_erased k cs (inner_loop k i q b)))
    (see_around k ds cs (erased (inner_loop k j e y)) (erased (inner_loop k i q b)) (nodes_seen cs ds m)
    (see_ext k (erased (keyed k e y)) (erased (keyed k q b)) (Source j.number) (Source i.number) keys.tree
    (see_source j.number i.number).tree))))
    (shape cs ds m)
  where
    keys : SameSight (erased (keyed k e y)) (erased (keyed k q b))
    keys =
        subst (λ x. SameSight x (erased (keyed k q b))) (sym (keyed_erased e k y))
        (subst (λ x. SameSight (erased_keyed k e (erased y)) x) (sym (keyed_erased q k b))
        (key_seen q e k (erased y) (erased b) f (same_seen b y g)))

    shape : (cs ds : Nodes) → SameNodes ds cs → (d : Scan) → IsLoopOver k d (around k cs (inner_loop k i q b))
        → HasLike (λ x. IsLoopOver k x (around k ds (inner_loop k j e y))) d
    shape no_nodes ds n d h =
        (j, subst (λ x. IsLoopOver k j (around k x (inner_loop k j e y))) (sym n) (refl, refl), subst (SameScan j) h.1 same)
    shape (nodes a more) ds n d h = absurd h

-- ---- plans that differ in their numbers

module _ (ss : List ShipSource) where
  mutual
    pub same_full : (r p : Node) → SamePlan p r → FullyShipped ss p → FullyShipped ss r
    same_full (node.Plain t) p m h = tt
    same_full (node.Var x) p m h = tt
    same_full (node.Rec ps) p m h = fields_full ps m.0 m.2 (subst (FullyShipped ss) m.1 h)
    same_full (node.Proj l a) p m h = same_full a m.0 m.2 (subst (FullyShipped ss) m.1 h)
    same_full (node.Inj l a) p m h = same_full a m.0 m.2 (subst (FullyShipped ss) m.1 h)
    same_full (node.Case a bs) p m h =
        let f = subst (FullyShipped ss) m.2 h in
        (same_full a m.0 m.3 f.0, branches_full bs m.1 m.4 f.1)
    same_full (node.Make k ps) p m h = nodes_full ps m.0 m.2 (subst (FullyShipped ss) m.1 h)
    same_full (node.Union a b) p m h =
        let f = subst (FullyShipped ss) m.2 h in
        (same_full a m.0 m.3 f.0, same_full b m.1 m.4 f.1)
    same_full (node.Ext k b s) p m h =
        let f = subst (FullyShipped ss) m.2 h in (
          same_full s m.1 m.4 f.0,
          same_full b m.0 m.3 f.1,
          source_moved k m.0 b (same_moves k m.0 b m.3) ss m.1 s (λ d r. same_reading s m.1 d m.4 r) f.2,
        )
    same_full (node.If a b c) p m h =
        let f = subst (FullyShipped ss) m.3 h in
        (same_full a m.0 m.4 f.0, same_full b m.1 m.5 f.1, same_full c m.2 m.6 f.2)
    same_full (node.Let a b) p m h =
        let f = subst (FullyShipped ss) m.2 h in
        (same_full a m.0 m.3 f.0, same_full b m.1 m.4 f.1)
    same_full (node.Prim c ps) p m h = nodes_full ps m.0 m.2 (subst (FullyShipped ss) m.1 h)
    same_full (node.Scan c) p m h = tt
    same_full (node.Join n k w o cs i q b) p m h =
        let f = subst (FullyShipped ss) m.6 h in (
          same_full o m.1 m.7 f.0,
          nodes_full cs m.2 m.8 f.1,
          key_full q m.4 m.10 f.2,
          same_full b m.5 m.11 f.3,
          scan_moved k (keyed k m.4 m.5) (keyed k q b) (key_moves k q m.4 b m.5 m.10 m.11) ss m.3 i m.9 f.4,
          source_moved k (around k m.2 (inner_loop k m.3 m.4 m.5)) (around k cs (inner_loop k i q b))
              (conds_moves k cs m.2 q m.4 b m.5 i m.3 m.8 m.10 m.11 m.9) ss m.1 o (λ d r. same_reading o m.1 d m.7 r) f.5,
        )
    same_full (node.Memo n frees a) p m h = same_full a m.1 m.3 (subst (FullyShipped ss) m.2 h)

    nodes_full : (ps qs : Nodes) → SameNodes qs ps → FullNodes ss qs → FullNodes ss ps
    nodes_full no_nodes qs m h = tt
    nodes_full (nodes p ps) qs m h = let f = subst (FullNodes ss) m.2 h in (same_full p m.0 m.3 f.0, nodes_full ps m.1 m.4 f.1)

    fields_full : (ps qs : Fields) → SameFields qs ps → FullFields ss qs → FullFields ss ps
    fields_full no_fields qs m h = tt
    fields_full (fields l p ps) qs m h = let f = subst (FullFields ss) m.2 h in (same_full p m.0 m.3 f.0, fields_full ps m.1 m.4 f.1)

    branches_full : (bs cs : Branches) → SameBranches cs bs → FullBranches ss cs → FullBranches ss bs
    branches_full no_branches cs m h = tt
    branches_full (rest c) cs m h = same_full c m.0 m.2 (subst (FullBranches ss) m.1 h)
    branches_full (branch l c bs) cs m h = let f = subst (FullBranches ss) m.2 h in (same_full c m.0 m.3 f.0, branches_full bs m.1 m.4 f.1)

    key_full : (q e : Key) → SameKey e q → FullKey ss e → FullKey ss q
    key_full no_key e m h = tt
    key_full (key l p) e m h = same_full p m.0 m.2 (subst (FullKey ss) m.1 h)
