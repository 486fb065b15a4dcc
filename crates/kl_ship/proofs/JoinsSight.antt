-- Of a plan of which joins were made the same is seen as of the first one.
use Rattle.std.proofs.Common.{◌≡◌, ◌⊎◌, ⊎_elim, inl, inr, Bool, true, false, ◌&&◌, ◌||◌, cond, List, [], Option, Some, None, refl, sym, ap}
use Rattle.std.proofs.Common.{subst, ◌∙◌}
use mathlib.Core.Path.{ap₂}
use Rattle.kl_value.specs.declared.Kind.{Kind}
use Rattle.kl_value.specs.declared.Value.{Value}
use Rattle.kl_outcome.specs.Outcome.{Name}
use Rattle.kl_core.specs.Counts.{total_in, total_code}
use Rattle.kl_core.specs.Positions.{shift_of}
use Rattle.kl_core.specs.Trees.{Tree, Var, Source, Proj, Make, Ext, If, Prim, trees, no_trees}
use Rattle.kl_sqltext.specs.declared.ast.SqlOp.TheVariants as op
use Rattle.kl_sqltext.specs.declared.ast.SqlTest.{SqlTest}
use Rattle.kl_ask.specs.declared.settings.JoinHow.{JoinHow}
use Rattle.kl_ask.specs.declared.settings.JoinHow.TheVariants as way
use Rattle.kl_plan.specs.Erased.{key_test, erased, erased_nodes, erased_fields, erased_branches, erased_around, erased_keyed}
use Rattle.kl_plan.specs.Keys.{above, IsColumn, IsEquality, IsKey}
use Rattle.kl_plan.specs.Loops.{around, loops}
use Rattle.kl_plan.specs.Nodes as node
use Rattle.kl_plan.specs.Nodes.{Node, Nodes, no_nodes, nodes, Fields, no_fields, fields, Branches, no_branches, rest, branch, Key}
use Rattle.kl_plan.specs.Nodes.{no_key, key}
use Rattle.kl_plan.specs.Numbers.{joins_in, joins_of_branches, joins_of_fields, memos_in, memos_of_branches, memos_of_fields}
use Rattle.kl_joins.specs.Bare.{Bare, BareNodes, BareFields, BareBranches}
use Rattle.kl_joins.specs.JoinsMade.{AreBefore, JoinsMade, KeyMade, EachMade, FieldsMade, BranchesMade}
use Rattle.kl_joins.proofs.KeyTypes.{key_bare}
use Rattle.kl_joins.proofs.JoinsTyped.{both_first, both_behind, bare_source, bare_body, bare_item}
use Rattle.kl_joins.proofs.JoinsTyped.{bare_items}
use Rattle.kl_joins.proofs.JoinsTyped.{bare_test, bare_yes, bare_no, bare_conds, bare_within, bare_around}
use Rattle.kl_joins.proofs.Raised.{erased_above}
use Rattle.kl_ship.specs.Delegation.{constant, test_between, test_of, taken_before, taken}
use Rattle.kl_ship.specs.Delegation.{whole_use, column_use}
use Rattle.kl_ship.proofs.Deciding.{kind_is}
use Rattle.kl_ship.proofs.Fully.{SameTree, itself}
use Rattle.kl_ship.proofs.RaisedUses.{constant_raised, no_column_raised, none_behind_none}
use Rattle.kl_ship.proofs.Sight.{SameSight, see_itself, seen_from, EachSight, SameParts, SameArms, see_rec, see_proj, see_inj, see_case, see_make}
use Rattle.kl_ship.proofs.Sight.{see_union}
use Rattle.kl_ship.proofs.Sight.{see_ext, see_if, see_let, see_prim, see_no_parts, see_parts, see_no_arms, see_rest, see_arm, see_key}
use Rattle.kl_ship.proofs.Sight.{around_erased, see_around}

-- ---- a condition that is a key

abbrev mirrored_key : Name → Tree → Tree
mirrored_key l v = Prim 1 (trees (shift_of v 0 1) (trees (Proj l (Var 0)) no_trees))

equality_erased : (c a b : Node) → IsEquality c a b → erased c ≡ Prim 1 (trees (erased a) (trees (erased b) no_trees))
equality_erased c a b h =
    ⊎_elim (λ e. ap erased e) (λ w. ap erased w.4 ∙ sym (ap₂ (λ x y. Prim 1 (trees x (trees y no_trees))) (ap erased w.2) (ap erased w.3)))
    h

column_erased : (l : Name) (c : Node) → IsColumn l c → erased c ≡ Proj l (Var 0)
column_erased l c h = ⊎_elim (λ e. ap erased e) (⊎_elim (λ e. ap erased e) (λ e. ap erased e)) h

key_erased : (l : Name) (u c : Node) → IsKey l u c → joins_in u ≡ []
    → (erased c ≡ key_test l (erased u)) ⊎ (erased c ≡ mirrored_key l (erased u))
key_erased l u c h j =
    let col = column_erased l h.column h.is_column in
    let val = erased_above u 0 j in
    ⊎_elim
    (λ e. inl (equality_erased c h.column (above u 0) e ∙ ap₂ (λ x y. Prim 1 (trees x (trees y no_trees))) col val))
    (λ e. inr (equality_erased c (above u 0) h.column e ∙ ap₂ (λ x y. Prim 1 (trees x (trees y no_trees))) val col))
    h.equal

turned_or : (a b : Bool) → (a || (b || false)) ≡ (b || (a || false))
turned_or true true = refl
turned_or true false = refl
turned_or false true = refl
turned_or false false = refl

turned_and : (a b : Bool) → (a && (b && true)) ≡ (b && (a && true))
turned_and true true = refl
turned_and true false = refl
turned_and false true = refl
turned_and false false = refl

pub test_of_key : (l : Name) (v : Tree) → test_of 1 (key_test l v) ≡ test_between op.Eq (Some (0, l)) None None (constant v)
test_of_key l v = ap₂ (λ x y. test_between op.Eq (Some (0, l)) x None y) (no_column_raised v) (constant_raised v 0)

test_of_mirrored : (l : Name) (v : Tree) → test_of 1 (mirrored_key l v) ≡ test_between op.Eq None (Some (0, l)) (constant v) None
test_of_mirrored l v = ap₂ (λ x y. test_between op.Eq x (Some (0, l)) y None) (no_column_raised v) (constant_raised v 0)

either_side : (l : Name) (o : Option Value) → test_between op.Eq (Some (0, l)) None None o ≡ test_between op.Eq None (Some (0, l)) o None
either_side l (Some v) = refl
either_side l None = refl

-- which side the column stands on is not seen
see_mirrored : (l : Name) (v : Tree) → SameSight (mirrored_key l v) (key_test l v)
see_mirrored l v = record {
  tree = record {
    whole = λ i. turned_or (whole_use i (Proj l (Var 0))) (whole_use i (shift_of v 0 1));
    column = λ i m. turned_or (column_use i m (Proj l (Var 0))) (column_use i m (shift_of v 0 1));
    total = ap (λ x. total_code 1 && x) (turned_and (total_in (Proj l (Var 0))) (total_in (shift_of v 0 1)));
  };
  position = refl;
  value = refl;
  column = refl;
  test = test_of_key l v ∙ either_side l (constant v) ∙ sym (test_of_mirrored l v);
  empty = λ k. refl;
  front = λ k. refl;
}

pub see_taken : (l : Name) (u c : Node) (v : Tree) → IsKey l u c → joins_in u ≡ [] → SameSight (erased u) v
    → SameSight (erased c) (key_test l v)
see_taken l u c v h j s =
    ⊎_elim
    (λ e. subst (λ x. SameSight x (key_test l v)) (sym e) (see_key l (erased u) v s))
    (λ e. subst (λ x. SameSight x (key_test l v)) (sym e)
    (then (mirrored_key l (erased u)) (key_test l (erased u)) (key_test l v) (see_mirrored l (erased u)) (see_key l (erased u) v s)))
    (key_erased l u c h j)
  where
    then : (t u w : Tree) → SameSight t u → SameSight u w → SameSight t w
    then t u w h g = record {
      tree = record {
        whole = λ i. g.tree.whole i ∙ h.tree.whole i;
        column = λ i m. g.tree.column i m ∙ h.tree.column i m;
        total = g.tree.total ∙ h.tree.total;
      };
      position = g.position ∙ h.position;
      value = g.value ∙ h.value;
      column = g.column ∙ h.column;
      test = g.test ∙ h.test;
      empty = λ k. g.empty k ∙ h.empty k;
      front = λ k. g.front k ∙ h.front k;
    }

-- ---- a condition in a front, moved to its beginning

abbrev with_first : Kind → Tree → Tree → Tree
with_first k c a = If c a (Make k no_trees)

turn_or : (d c a : Bool) → (d || ((c || (a || false)) || false)) ≡ (c || ((d || (a || false)) || false))
turn_or true true a = refl
turn_or true false a = refl
turn_or false true a = refl
turn_or false false a = refl

turn_and : (d c a : Bool) → (d && ((c && (a && true)) && true)) ≡ (c && ((d && (a && true)) && true))
turn_and true true a = refl
turn_and true false a = refl
turn_and false true a = refl
turn_and false false a = refl

-- two conditions exchanged
turned : (k : Kind) (d c a : Tree) → SameTree (with_first k d (with_first k c a)) (with_first k c (with_first k d a))
turned k d c a = record {
  whole = λ i. sym (turn_or (whole_use i d) (whole_use i c) (whole_use i a));
  column = λ i l. sym (turn_or (column_use i l d) (column_use i l c) (column_use i l a));
  total = sym (turn_and (total_in d) (total_in c) (total_in a));
}

same_then : (t u w : Tree) → SameTree t u → SameTree u w → SameTree t w
same_then t u w h g = record { whole = λ i. g.whole i ∙ h.whole i; column = λ i l. g.column i l ∙ h.column i l; total = g.total ∙ h.total }

within_first : (k : Kind) (c d a b : Tree) → SameTree c d → SameTree a b → SameTree (with_first k c a) (with_first k d b)
within_first k c d a b h g = record {
  whole = λ i. ap₂ (λ x y. x || (y || false)) (h.whole i) (g.whole i);
  column = λ i l. ap₂ (λ x y. x || (y || false)) (h.column i l) (g.column i l);
  total = ap₂ (λ x y. x && (y && true)) h.total g.total;
}

to_front : (k : Kind) (ds : Nodes) (c a : Tree) → SameTree (erased_around k ds (with_first k c a)) (with_first k c (erased_around k ds a))
to_front k no_nodes c a = itself (with_first k c a)
to_front k (nodes d ds) c a =
    same_then (with_first k (erased d) (erased_around k ds (with_first k c a)))
    (with_first k (erased d) (with_first k c (erased_around k ds a)))
    (with_first k c (with_first k (erased d) (erased_around k ds a)))
    (within_first k (erased d) (erased d) (erased_around k ds (with_first k c a)) (with_first k c (erased_around k ds a))
    (itself (erased d)) (to_front k ds c a))
    (turned k (erased d) c (erased_around k ds a))

taken_none : (o : Option SqlTest) (qs : List SqlTest) → taken_before o qs ≡ [] → (o ≡ None) × (qs ≡ [])
taken_none (Some q) qs h = cc
taken_none None qs h = (refl, h)

none_first : (k : Kind) (c d : Tree) → total_in c ≡ true → taken k 1 (with_first k c d) ≡ [] → (test_of 1 c ≡ None) × (taken k 1 d ≡ [])
none_first k c d total h =
    taken_none (test_of 1 c) (taken k 1 d) (sym (ap₂ (λ x y. cond (x && y) (taken_before (test_of 1 c) (taken k 1 d)) []) total (kind_is k))
    ∙ h)

-- where no test stands in a front, none does without one of its conditions, which is none
taken_out : (k : Kind) (ds : Nodes) (c a : Tree) → AreBefore ds → total_in c ≡ true → taken k 1 (erased_around k ds (with_first k c a)) ≡ []
    → (test_of 1 c ≡ None) × (taken k 1 (erased_around k ds a) ≡ [])
taken_out k no_nodes c a before total h = none_first k c a total h
taken_out k (nodes d ds) c a before total h =
    let f = none_first k (erased d) (erased_around k ds (with_first k c a)) before.0 h in
    let g = taken_out k ds c a before.2 total f.1 in
    (g.0, none_behind_none k (erased d) (erased_around k ds a) (Make k no_trees) f.0 g.1)

-- ---- plans of which joins were made

pub without_bare : (how : JoinHow) (q : Key) (k : Kind) (w : JoinHow) (y z : Node) → KeyMade how k w y z q → Bare y → Bare z
without_bare how no_key k way.Block y z m b = subst Bare (sym m.0) b
without_bare how no_key k way.Index y z m b = absurd m
without_bare how (key l v) k way.Block y z m b = absurd m
without_bare how (key l v) k way.Index y z m b =
    let d = subst Bare m.5.body b in
    let inner = node.If m.2 m.3 (node.Make k no_nodes) in
    subst Bare (sym m.6)
    (bare_around k m.1 m.3 (bare_conds k m.1 inner d) (bare_yes m.2 m.3 (node.Make k no_nodes) (bare_within k m.1 inner d)))

-- a key taken out of the front: the same uses, and no test where there was none
pub record Fronted (k : Kind) (y : Node) (t : Tree) : Type 0 where
  pub tree : SameTree (erased y) t
  pub tests : taken k 1 (erased y) ≡ [] → taken k 1 t ≡ []

module _ (how : JoinHow) where
  mutual
    pub joins_seen : (r p : Node) → JoinsMade how p r → Bare p → SameSight (erased p) (erased r)
    joins_seen (node.Plain t) p m b = seen_from p (node.Plain t) t m (see_itself t)
    joins_seen (node.Var x) p m b = seen_from p (node.Var x) (Var x) m (see_itself (Var x))
    joins_seen (node.Rec ps) p m b = seen_from p (node.Rec m.0) (erased (node.Rec ps)) m.1
        (see_rec (erased_fields m.0) (erased_fields ps) (fields_seen ps m.0 m.2 (subst Bare m.1 b)))
    joins_seen (node.Proj l a) p m b = seen_from p (node.Proj l m.0) (erased (node.Proj l a)) m.1
        (see_proj l (erased m.0) (erased a) (joins_seen a m.0 m.2 (subst Bare m.1 b)))
    joins_seen (node.Inj l a) p m b = seen_from p (node.Inj l m.0) (erased (node.Inj l a)) m.1
        (see_inj l (erased m.0) (erased a) (joins_seen a m.0 m.2 (subst Bare m.1 b)))
    joins_seen (node.Case a bs) p m b =
        let d = subst Bare m.2 b in
        seen_from p (node.Case m.0 m.1) (erased (node.Case a bs)) m.2
        (see_case (erased m.0) (erased a) (erased_branches m.1) (erased_branches bs)
        (joins_seen a m.0 m.3 (both_first (joins_in m.0) (joins_of_branches m.1) (memos_in m.0) (memos_of_branches m.1) d))
        (branches_seen bs m.1 m.4 (both_behind (joins_in m.0) (joins_of_branches m.1) (memos_in m.0) (memos_of_branches m.1) d)))
    joins_seen (node.Make k ps) p m b = seen_from p (node.Make k m.0) (erased (node.Make k ps)) m.1
        (see_make k (erased_nodes m.0) (erased_nodes ps) (nodes_seen ps m.0 m.2 (subst Bare m.1 b)))
    joins_seen (node.Union a c) p m b =
        let d = subst Bare m.2 b in
        seen_from p (node.Union m.0 m.1) (erased (node.Union a c)) m.2
        (see_union (erased m.0) (erased a) (erased m.1) (erased c)
        (joins_seen a m.0 m.3 (both_first (joins_in m.0) (joins_in m.1) (memos_in m.0) (memos_in m.1) d))
        (joins_seen c m.1 m.4 (both_behind (joins_in m.0) (joins_in m.1) (memos_in m.0) (memos_in m.1) d)))
    joins_seen (node.Ext k c a) p m b =
        let d = subst Bare m.2 b in
        seen_from p (node.Ext k m.0 m.1) (erased (node.Ext k c a)) m.2
        (see_ext k (erased m.0) (erased c) (erased m.1) (erased a) (joins_seen c m.0 m.3 (bare_body k m.0 m.1 d)).tree
        (joins_seen a m.1 m.4 (bare_source k m.0 m.1 d)).tree)
    joins_seen (node.If a c e) p m b =
        let d = subst Bare m.3 b in
        seen_from p (node.If m.0 m.1 m.2) (erased (node.If a c e)) m.3
        (see_if (erased m.0) (erased a) (erased m.1) (erased c) (erased m.2) (erased e) (joins_seen a m.0 m.4 (bare_test m.0 m.1 m.2 d))
        (joins_seen c m.1 m.5 (bare_yes m.0 m.1 m.2 d)) (joins_seen e m.2 m.6 (bare_no m.0 m.1 m.2 d)))
    joins_seen (node.Let a c) p m b =
        let d = subst Bare m.2 b in
        seen_from p (node.Let m.0 m.1) (erased (node.Let a c)) m.2
        (see_let (erased m.0) (erased a) (erased m.1) (erased c)
        (joins_seen a m.0 m.3 (both_first (joins_in m.0) (joins_in m.1) (memos_in m.0) (memos_in m.1) d))
        (joins_seen c m.1 m.4 (both_behind (joins_in m.0) (joins_in m.1) (memos_in m.0) (memos_in m.1) d)))
    joins_seen (node.Prim c ps) p m b = seen_from p (node.Prim c m.0) (erased (node.Prim c ps)) m.1
        (see_prim c (erased_nodes m.0) (erased_nodes ps) (nodes_seen ps m.0 m.2 (subst Bare m.1 b)))
    joins_seen (node.Scan c) p m b = seen_from p (node.Scan c) (Source c.number) m (see_itself (Source c.number))
    joins_seen (node.Join n k w o cs i q c) p m b =
        let d = subst Bare m.4 b in
        let inside = node.Ext k m.2 (node.Scan i) in
        let bare = bare_body k (around k m.1 inside) m.0 d in
        let own = bare_body k m.2 (node.Scan i) (bare_within k m.1 inside bare) in
        let t = erased_keyed k q (erased c) in
        let inner = key_seen q k w m.2 m.3 (erased c) m.9 own (joins_seen c m.3 m.8 (without_bare how q k w m.2 m.3 m.9 own)) in
        let body = see_around k m.1 cs (erased inside) (Ext k t (Source i.number)) (nodes_seen cs m.1 m.7 (bare_conds k m.1 inside bare))
        (see_ext k (erased m.2) t (Source i.number) (Source i.number) inner.tree (itself (Source i.number))) in
        seen_from p (loops k m.0 m.1 i m.2) (erased (node.Join n k w o cs i q c)) m.4
        (see_ext k (erased (around k m.1 inside)) (erased_around k cs (Ext k t (Source i.number))) (erased m.0) (erased o)
        (subst (λ x. SameTree x (erased_around k cs (Ext k t (Source i.number)))) (sym (around_erased k m.1 inside)) body.tree)
        (joins_seen o m.0 m.6 (bare_source k (around k m.1 inside) m.0 d)).tree)
    joins_seen (node.Memo n frees a) p m b = absurd m

    pub key_seen : (q : Key) (k : Kind) (w : JoinHow) (y z : Node) (t : Tree) → KeyMade how k w y z q → Bare y → SameSight (erased z) t
        → Fronted k y (erased_keyed k q t)
    key_seen no_key k way.Block y z t m b s =
        let f : SameSight (erased y) t = subst (λ x. SameSight (erased x) t) m.0 s in
        record { tree = f.tree; tests = λ h. f.front k ∙ h }
    key_seen no_key k way.Index y z t m b s = absurd m
    key_seen (key l v) k way.Block y z t m b s = absurd m
    key_seen (key l v) k way.Index y z t m b s =
        let nothing = node.Make k no_nodes in
        let inner = node.If m.2 m.3 nothing in
        let d = subst Bare m.5.body b in
        let u = key_bare l m.4 m.2 m.7 (bare_test m.2 m.3 nothing (bare_within k m.1 inner d)) in
        let test = see_taken l m.4 m.2 (erased v) m.7 u.0 (joins_seen v m.4 m.8 u) in
        let is : erased y ≡ erased_around k m.1 (with_first k (erased m.2) (erased m.3)) = ap erased m.5.body ∙ around_erased k m.1 inner in
        let less : erased z ≡ erased_around k m.1 (erased m.3) = ap erased m.6 ∙ around_erased k m.1 m.3 in
        let rest : SameSight (erased_around k m.1 (erased m.3)) t = subst (λ x. SameSight x t) less s in
        record {
          tree = subst (λ x. SameTree x (with_first k (key_test l (erased v)) t)) (sym is)
              (same_then (erased_around k m.1 (with_first k (erased m.2) (erased m.3)))
              (with_first k (erased m.2) (erased_around k m.1 (erased m.3)))
              (with_first k (key_test l (erased v)) t) (to_front k m.1 (erased m.2) (erased m.3))
              (within_first k (erased m.2) (key_test l (erased v)) (erased_around k m.1 (erased m.3)) t test.tree rest.tree));
          tests = λ h.
              let g = taken_out k m.1 (erased m.2) (erased m.3) m.5.before m.5.total (sym (ap (taken k 1) is) ∙ h) in
              none_behind_none k (key_test l (erased v)) t (Make k no_trees) (test.test ∙ g.0) (rest.front k ∙ g.1);
        }

    pub nodes_seen : (ps qs : Nodes) → EachMade how qs ps → BareNodes qs → EachSight (erased_nodes qs) (erased_nodes ps)
    nodes_seen no_nodes qs m b = subst (λ x. EachSight (erased_nodes x) no_trees) (sym m) tt
    nodes_seen (nodes p ps) qs m b =
        let d = subst BareNodes m.2 b in
        subst (λ x. EachSight (erased_nodes x) (erased_nodes (nodes p ps))) (sym m.2)
        (joins_seen p m.0 m.3 (bare_item m.0 m.1 d), nodes_seen ps m.1 m.4 (bare_items m.0 m.1 d))

    fields_seen : (ps qs : Fields) → FieldsMade how qs ps → BareFields qs → SameParts (erased_fields qs) (erased_fields ps)
    fields_seen no_fields qs m b = subst (λ x. SameParts (erased_fields x) (erased_fields no_fields)) (sym m) see_no_parts
    fields_seen (fields l p ps) qs m b =
        let d = subst BareFields m.2 b in
        subst (λ x. SameParts (erased_fields x) (erased_fields (fields l p ps))) (sym m.2)
        (see_parts l (erased m.0) (erased p) (erased_fields m.1) (erased_fields ps)
        (joins_seen p m.0 m.3 (both_first (joins_in m.0) (joins_of_fields m.1) (memos_in m.0) (memos_of_fields m.1) d))
        (fields_seen ps m.1 m.4 (both_behind (joins_in m.0) (joins_of_fields m.1) (memos_in m.0) (memos_of_fields m.1) d)))

    branches_seen : (bs cs : Branches) → BranchesMade how cs bs → BareBranches cs → SameArms (erased_branches cs) (erased_branches bs)
    branches_seen no_branches cs m b = subst (λ x. SameArms (erased_branches x) (erased_branches no_branches)) (sym m) see_no_arms
    branches_seen (rest c) cs m b =
        subst (λ x. SameArms (erased_branches x) (erased_branches (rest c))) (sym m.1)
        (see_rest (erased m.0) (erased c) (joins_seen c m.0 m.2 (subst BareBranches m.1 b)))
    branches_seen (branch l c bs) cs m b =
        let d = subst BareBranches m.2 b in
        subst (λ x. SameArms (erased_branches x) (erased_branches (branch l c bs))) (sym m.2)
        (see_arm l (erased m.0) (erased c) (erased_branches m.1) (erased_branches bs)
        (joins_seen c m.0 m.3 (both_first (joins_in m.0) (joins_of_branches m.1) (memos_in m.0) (memos_of_branches m.1) d))
        (branches_seen bs m.1 m.4 (both_behind (joins_in m.0) (joins_of_branches m.1) (memos_in m.0) (memos_of_branches m.1) d)))
