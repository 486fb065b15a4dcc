-- Tests, columns and loops of the bodies of joins, as the code looks at them.
use Rattle.std.proofs.Common.{◌≡◌, ◌==◌, ℕ, suc, ◌+◌, ◌<◌, ◌≤◌, Bool, true, false, ◌&&◌, ◌||◌, cond, nat_eq, List, [], ◌∷◌, drop, get_or}
use Rattle.std.proofs.Common.{length}
use Rattle.std.proofs.Common.{Option, Some, None, is_some, refl, sym, ap, ◌∙◌, arith, add-one, drop-cons}
use Rattle.std.specs.Cmp.Lexicographic.{pointwise}
use Rattle.std.proofs.lemmas.List.{drop_all}
use mathlib.Core.Path.{ap₂}
use Rattle.kl_value.specs.declared.Kind.{Kind}
use Rattle.kl_value.specs.declared.Value.{Value}
use Rattle.kl_type.specs.Parts.{same_kind}
use Rattle.kl_outcome.specs.Outcome.{Name}
use Rattle.kl_core.specs.Counts.{total_in}
use Rattle.kl_core.specs.Trees.{Tree, Make, Ext, If, no_trees}
use Rattle.kl_sqltext.specs.declared.ast.SqlOp.TheVariants as op
use Rattle.kl_sqltext.specs.declared.ast.SqlTest.{SqlTest}
use Rattle.kl_plan.specs.declared.plan.Join.{Join, out-Join}
use Rattle.kl_plan.specs.declared.plan.JoinKey.{JoinKey, out-JoinKey}
use Rattle.kl_plan.specs.declared.plan.Plan.{Plan}
use Rattle.kl_plan.specs.Erased.{key_test, erased, erased_around, erased_keyed}
use Rattle.kl_plan.specs.Joins.{join_view, keys_view}
use Rattle.kl_plan.specs.Loops.{around, keyed}
use Rattle.kl_plan.specs.Nodes as node
use Rattle.kl_plan.specs.Nodes.{Nodes, no_nodes, nodes, Key, key, view, nodes_view}
use Rattle.kl_plan.proofs.TotalJoins.{total_key_test}
use Rattle.kl_plan.proofs.Views.{view_join, view_key}
use Rattle.kl_ship.specs.Bodies.{outer_body, inner_body}
use Rattle.kl_ship.specs.Delegation.{constant, test_between, test_of, taken_before, taken, whole_use, column_use}
use Rattle.kl_ship.specs.Whether.{is_loop_by}
use Rattle.kl_ship.proofs.Deciding.{kinds_are, kind_is}
use Rattle.kl_ship.proofs.Finding.{none_of}
use Rattle.kl_ship.proofs.JoinBodies.{outer_erased, whole_inner, column_inner}
use Rattle.kl_ship.proofs.JoinsSight.{test_of_key}

abbrev pub IsNone : Kind → Tree → Bool
IsNone k t = length (taken k 1 t) == 0

-- ---- a condition in front

none_is : (k : Kind) (t : Tree) → taken k 1 t ≡ [] → true ≡ IsNone k t
none_is k t h = sym (ap (λ qs. length {A = SqlTest} qs == 0) h)

front_by : (k j : Kind) (c t : Tree) (x y : Bool) → total_in c ≡ x → same_kind j k ≡ y
    → taken k 1 (If c t (Make j no_trees)) ≡ cond (x && y) (taken_before (test_of 1 c) (taken k 1 t)) []
front_by k j c t x y e f = ap₂ (λ a b. cond (a && b) (taken_before (test_of 1 c) (taken k 1 t)) []) e f

other_kind : (k j : Kind) (c t : Tree) → same_kind j k ≡ false → taken k 1 (If c t (Make j no_trees)) ≡ []
other_kind k j c t h = front_by k j c t (total_in c) false refl h ∙ by (total_in c)
  where
    by : (x : Bool) → cond (x && false) (taken_before (test_of 1 c) (taken k 1 t)) [] ≡ []
    by true = refl
    by false = refl

not_total : (k j : Kind) (c t : Tree) → total_in c ≡ false → taken k 1 (If c t (Make j no_trees)) ≡ []
not_total k j c t h = front_by k j c t false (same_kind j k) h refl

no_test : (k : Kind) (c t : Tree) → total_in c ≡ true → is_some (test_of 1 c) ≡ false → taken k 1 (If c t (Make k no_trees)) ≡ taken k 1 t
no_test k c t e h = front_by k k c t true true e (kind_is k) ∙ ap (λ o. taken_before o (taken k 1 t)) (none_of (test_of 1 c) h)

one_test : (k : Kind) (c t : Tree) → total_in c ≡ true → is_some (test_of 1 c) ≡ true → false ≡ IsNone k (If c t (Make k no_trees))
one_test k c t e h = sym (ap (λ qs. length {A = SqlTest} qs == 0) (front_by k k c t true true e (kind_is k)) ∙ by (test_of 1 c) h)
  where
    by : (o : Option SqlTest) → is_some o ≡ true → (length (taken_before o (taken k 1 t)) == 0) ≡ false
    by (Some q) h = grind arith
    by None h = cc

-- ---- the conditions of a join

module _ (k : Kind) (b s : Tree) where
  abbrev pub Fronted : List Plan → Tree
  Fronted cs = erased_around k (nodes_view cs) (Ext k b s)

  at_place : (i : ℕ) (c : Plan) (cs : List Plan) → i < length cs → c ≡ get_or cs i c
      → Fronted (drop i cs) ≡ If (erased (view c)) (Fronted (drop (i + 1) cs)) (Make k no_trees)
  at_place i c cs lt is = ap Fronted here
    where
      here : drop i cs ≡ c ∷ drop (i + 1) cs
      here = rw add-one (drop-cons cs i c lt ∙ ap (λ z. z ∷ drop (suc i) cs) (sym is))

  module _ (i : ℕ) (c : Plan) (cs : List Plan) (t : Bool) (lt : i < length cs) (is : c ≡ get_or cs i c)
      (total : t ≡ total_in (erased (view c)))
      (so_far : taken k 1 (Fronted (drop i cs)) ≡ taken k 1 (Fronted cs)) where
    pub goes_on : (r : Bool) → t ≡ true → r ≡ is_some (test_of 1 (erased (view c))) → r ≡ false
        → taken k 1 (Fronted (drop (i + 1) cs)) ≡ taken k 1 (Fronted cs)
    goes_on r e f g =
        sym (ap (taken k 1) (at_place i c cs lt is) ∙ no_test k (erased (view c)) (Fronted (drop (i + 1) cs)) (sym total ∙ e) (sym f ∙ g))
        ∙ so_far

    pub stops_there : t ≡ false → true ≡ IsNone k (Fronted cs)
    stops_there e =
        none_is k (Fronted cs) (sym so_far ∙ ap (taken k 1) (at_place i c cs lt is)
        ∙ not_total k k (erased (view c)) (Fronted (drop (i + 1) cs)) (sym total ∙ e))

    pub test_there : (r : Bool) → t ≡ true → r ≡ is_some (test_of 1 (erased (view c))) → r ≡ true → false ≡ IsNone k (Fronted cs)
    test_there r e f g =
        one_test k (erased (view c)) (Fronted (drop (i + 1) cs)) (sym total ∙ e) (sym f ∙ g)
        ∙ ap (λ qs. length {A = SqlTest} qs == 0) (sym (ap (taken k 1) (at_place i c cs lt is)) ∙ so_far)

  pub none_there : (i : ℕ) (cs : List Plan) → length cs ≤ i → taken k 1 (Fronted (drop i cs)) ≡ taken k 1 (Fronted cs)
      → true ≡ IsNone k (Fronted cs)
  none_there i cs le so_far = none_is k (Fronted cs) (sym so_far ∙ ap (λ z. taken k 1 (Fronted z)) (drop_all i cs le))

-- ---- the body of an outer loop

module _ (j : Join) where
  abbrev own : Kind
  own = (out-Join j).kind

  abbrev inner : Tree
  inner = erased_keyed own (keys_view (out-Join j).key) (erased (view (out-Join j).body))

  abbrev term_of_outer : Tree
  term_of_outer = erased_around own (nodes_view (out-Join j).conds) (Ext own inner (erased (node.Scan (out-Join j).inner)))

  outer_is : erased (outer_body (join_view j)) ≡ term_of_outer
  outer_is =
      ap (λ x. erased (outer_body x)) (view_join j)
      ∙ outer_erased own (nodes_view (out-Join j).conds) (out-Join j).inner (keys_view (out-Join j).key) (view (out-Join j).body)

  pub outer_other : (k : Kind) (m : Bool) → m ≡ same_kind own k → m ≡ false → true ≡ IsNone k (erased (outer_body (join_view j)))
  outer_other k m e f = none_is k (erased (outer_body (join_view j))) (ap (taken k 1) outer_is ∙ by (nodes_view (out-Join j).conds))
    where
      by : (cs : Nodes) → taken k 1 (erased_around own cs (Ext own inner (erased (node.Scan (out-Join j).inner)))) ≡ []
      by no_nodes = refl
      by (nodes c cs) = other_kind k own (erased c) (erased_around own cs (Ext own inner (erased (node.Scan (out-Join j).inner))))
          (sym e ∙ f)

  pub outer_same : (k : Kind) (m : Bool) (cs : List Plan) (x : Bool) → m ≡ same_kind own k → m ≡ true → cs ≡ (out-Join j).conds
      → ((b s : Tree) → x ≡ IsNone k (erased_around k (nodes_view cs) (Ext k b s))) → x ≡ IsNone k (erased (outer_body (join_view j)))
  outer_same k m cs x e f conds h =
      let same : own ≡ k = kinds_are own k (sym e ∙ f) in
      h inner (erased (node.Scan (out-Join j).inner))
      ∙ ap₂ (λ z ps. IsNone k (erased_around z (nodes_view ps) (Ext z inner (erased (node.Scan (out-Join j).inner))))) (sym same) conds
      ∙ ap (IsNone k) (sym outer_is)

  -- ---- the body of an inner loop

  key_is : (q : JoinKey) → (out-Join j).key ≡ Some q → keys_view (out-Join j).key ≡ key (out-JoinKey q).label (view (out-JoinKey q).value)
  key_is q is = ap keys_view is ∙ view_key q

  inner_with : (q : Key) → keys_view (out-Join j).key ≡ q → inner_body (join_view j) ≡ keyed own q (view (out-Join j).body)
  inner_with q is = ap inner_body (view_join j) ∙ ap (λ z. keyed own z (view (out-Join j).body)) is

  module _ (q : JoinKey) (has : (out-Join j).key ≡ Some q) where
    abbrev label : Name
    label = (out-JoinKey q).label

    abbrev value : Tree
    value = erased (view (out-JoinKey q).value)

    abbrev body : Tree
    body = erased (view (out-Join j).body)

    abbrev term_of_inner : Tree
    term_of_inner = If (key_test label value) body (Make own no_trees)

    with_key : inner_body (join_view j) ≡ keyed own (key label (view (out-JoinKey q).value)) (view (out-Join j).body)
    with_key = inner_with (key label (view (out-JoinKey q).value)) (key_is q has)

    inner_is : erased (inner_body (join_view j)) ≡ term_of_inner
    inner_is = ap erased with_key

    key_tests : is_some (test_of 1 (key_test label value)) ≡ is_some (constant value)
    key_tests = ap is_some (test_of_key label value) ∙ by (constant value)
      where
        by : (o : Option Value) → is_some (test_between op.Eq (Some (0, label)) None None o) ≡ is_some o
        by (Some v) = refl
        by None = refl

    pub inner_not_total : (k : Kind) (t : Bool) → t ≡ total_in value → t ≡ false → true ≡ IsNone k (erased (inner_body (join_view j)))
    inner_not_total k t e f =
        none_is k (erased (inner_body (join_view j)))
        (ap (taken k 1) inner_is ∙ not_total k own (key_test label value) body (total_key_test label value ∙ sym e ∙ f))

    same_term : (k : Kind) (m : Bool) → m ≡ same_kind own k → m ≡ true
        → erased (inner_body (join_view j)) ≡ If (key_test label value) body (Make k no_trees)
    same_term k m e f = inner_is ∙ ap (λ z. If (key_test label value) body (Make z no_trees)) (kinds_are own k (sym e ∙ f))

    pub inner_tests : (k : Kind) (m t r : Bool) → m ≡ same_kind own k → m ≡ true → t ≡ total_in value → t ≡ true
        → r ≡ is_some (constant value) → r ≡ true
        → false ≡ IsNone k (erased (inner_body (join_view j)))
    inner_tests k m t r e f g h i l =
        one_test k (key_test label value) body (total_key_test label value ∙ sym g ∙ h) (key_tests ∙ sym i ∙ l)
        ∙ ap (IsNone k) (sym (same_term k m e f))

    pub inner_goes : (k : Kind) (m t r x : Bool) → m ≡ same_kind own k → m ≡ true → t ≡ total_in value → t ≡ true
        → r ≡ is_some (constant value) → r ≡ false
        → x ≡ IsNone k body → x ≡ IsNone k (erased (inner_body (join_view j)))
    inner_goes k m t r x e f g h i l n =
        n ∙ ap (λ qs. length {A = SqlTest} qs == 0)
        (sym (ap (taken k 1) (same_term k m e f) ∙ no_test k (key_test label value) body (total_key_test label value ∙ sym g ∙ h)
        (key_tests ∙ sym i ∙ l)))

    pub inner_column : (m : Name) (x y : Bool) → x ≡ pointwise nat_eq label m → x ≡ false → y ≡ column_use 0 m body
        → y ≡ column_use 0 m (erased (inner_body (join_view j)))
    inner_column m x y e f g =
        g ∙ sym (ap (λ z. column_use 0 m (erased z)) with_key
        ∙ column_inner m own label (view (out-JoinKey q).value) (view (out-Join j).body)
        ∙ ap (λ z. z || column_use 0 m body) (sym e ∙ f))

  pub inner_whole : (x : Bool) → x ≡ whole_use 0 (erased (view (out-Join j).body)) → x ≡ whole_use 0 (erased (inner_body (join_view j)))
  inner_whole x h =
      h ∙ sym (ap (λ z. whole_use 0 (erased z)) (inner_with (keys_view (out-Join j).key) refl)
      ∙ whole_inner own (keys_view (out-Join j).key) (view (out-Join j).body))

  -- ---- loops directly inside

  pub outer_no_loop : (driver : ℕ) (k : Kind) (cs : List Plan) → cs ≡ (out-Join j).conds → 1 ≤ length cs
      → false ≡ is_loop_by driver k (outer_body (join_view j))
  outer_no_loop driver k cs e some =
      sym (ap (λ z. is_loop_by driver k (outer_body z)) (view_join j)
      ∙ ap (λ z. is_loop_by driver k
      (around own (nodes_view z)
      (node.Ext own (keyed own (keys_view (out-Join j).key) (view (out-Join j).body)) (node.Scan (out-Join j).inner))))
      (sym e) ∙ by cs some)
    where
      by : (cs : List Plan) → 1 ≤ length cs
          → is_loop_by driver k
          (around own (nodes_view cs)
          (node.Ext own (keyed own (keys_view (out-Join j).key) (view (out-Join j).body)) (node.Scan (out-Join j).inner))) ≡ false
      by [] h = absurd (omega (arith, h))
      by (c ∷ cs) h = refl
