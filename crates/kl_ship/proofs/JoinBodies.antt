-- The bodies of joins: what they use, and the tests in their fronts.
use Rattle.std.proofs.Common.{◌≡◌, inr, ℕ, ◌+◌, Bool, true, false, ◌&&◌, ◌||◌, nat_eq, List}
use Rattle.std.proofs.Common.{refl, sym, ap, ◌∙◌, arith}
use Rattle.std.specs.Cmp.Lexicographic.{pointwise}
use Rattle.std.proofs.lemmas.Bool.{ne_eqb}
use mathlib.Core.Path.{ap₂}
use Rattle.kl_value.specs.declared.Kind.{Kind}
use Rattle.kl_outcome.specs.Outcome.{Name}
use Rattle.kl_core.specs.Trees.{Tree, Source, Ext}
use Rattle.kl_plan.specs.declared.plan.Join.{Join, out-Join}
use Rattle.kl_plan.specs.declared.plan.Plan.{Plan}
use Rattle.kl_plan.specs.declared.plan.Plan.TheVariants as plan
use Rattle.kl_plan.specs.declared.plan.Scan.{Scan}
use Rattle.kl_plan.specs.Erased.{erased, erased_nodes, erased_around, erased_keyed}
use Rattle.kl_plan.specs.Joins.{join_view, keys_view}
use Rattle.kl_plan.specs.Loops.{around, keyed}
use Rattle.kl_plan.specs.Nodes as node
use Rattle.kl_plan.specs.Nodes.{Node, Nodes, no_nodes, nodes, Key, no_key, key, view, nodes_view}
use Rattle.kl_plan.proofs.Views.{view_Join, view_join}
use Rattle.kl_ship.specs.Bodies.{outer_body, whole_key, column_key}
use Rattle.kl_ship.specs.Delegation.{whole_use, whole_use_trees, column_use, column_use_trees}
use Rattle.kl_ship.proofs.RaisedUses.{held, gone}
use Rattle.kl_ship.proofs.Sight.{around_erased, keyed_erased}

-- ---- uses

or_grouped : (a b c : Bool) → (a || ((b || c) || false)) ≡ ((a || b) || c)
or_grouped true b c = refl
or_grouped false true c = refl
or_grouped false false true = refl
or_grouped false false false = refl

whole_around : (n : ℕ) (k : Kind) (cs : Nodes) (t : Tree)
    → whole_use n (erased_around k cs t) ≡ (whole_use_trees n (erased_nodes cs) || whole_use n t)
whole_around n k no_nodes t = refl
whole_around n k (nodes c cs) t =
    ap (λ x. whole_use n (erased c) || (x || false)) (whole_around n k cs t)
    ∙ or_grouped (whole_use n (erased c)) (whole_use_trees n (erased_nodes cs)) (whole_use n t)

column_around : (n : ℕ) (m : Name) (k : Kind) (cs : Nodes) (t : Tree)
    → column_use n m (erased_around k cs t) ≡ (column_use_trees n m (erased_nodes cs) || column_use n m t)
column_around n m k no_nodes t = refl
column_around n m k (nodes c cs) t =
    ap (λ x. column_use n m (erased c) || (x || false)) (column_around n m k cs t)
    ∙ or_grouped (column_use n m (erased c)) (column_use_trees n m (erased_nodes cs)) (column_use n m t)

or_none : (a b : Bool) → ((a || false) || (b || false)) ≡ (a || b)
or_none true b = refl
or_none false true = refl
or_none false false = refl

or_last : (a : Bool) → (a || false) ≡ a
or_last true = refl
or_last false = refl

whole_keyed : (n : ℕ) (k : Kind) (q : Key) (t : Tree) → whole_use (n + 1) (erased_keyed k q t) ≡ (whole_key n q || whole_use (n + 1) t)
whole_keyed n k no_key t = refl
whole_keyed n k (key l v) t =
    ap (λ x. (x || false) || (whole_use (n + 1) t || false)) (held (erased v) 0 (n + 1) n (inr (omega arith, refl))).whole
    ∙ or_none (whole_use n (erased v)) (whole_use (n + 1) t)

column_keyed : (n : ℕ) (m : Name) (k : Kind) (q : Key) (t : Tree)
    → column_use (n + 1) m (erased_keyed k q t) ≡ (column_key n m q || column_use (n + 1) m t)
column_keyed n m k no_key t = refl
column_keyed n m k (key l v) t =
    ap₂ (λ x y. (((x && pointwise nat_eq l m) || false) || (y || false)) || (column_use (n + 1) m t || false))
    (ne_eqb 0 (n + 1) (λ e. omega (arith, e)))
    ((held (erased v) 0 (n + 1) n (inr (omega arith, refl))).column m)
    ∙ or_none (column_use n m (erased v)) (column_use (n + 1) m t)

module _ (k : Kind) (cs : Nodes) (i : Scan) (q : Key) (b : Node) where
  abbrev inner : Tree
  inner = erased_keyed k q (erased b)

  abbrev outer : Node
  outer = around k cs (node.Ext k (keyed k q b) (node.Scan i))

  pub outer_erased : erased outer ≡ erased_around k cs (Ext k inner (Source i.number))
  outer_erased = around_erased k cs (node.Ext k (keyed k q b) (node.Scan i))
      ∙ ap (λ x. erased_around k cs (Ext k x (Source i.number))) (keyed_erased q k b)

  whole_outer : (n : ℕ) → whole_use n (erased outer)
      ≡ (whole_use_trees n (erased_nodes cs) || (whole_key n q || whole_use (n + 1) (erased b)))
  whole_outer n =
      ap (whole_use n) outer_erased ∙ whole_around n k cs (Ext k inner (Source i.number))
      ∙ ap (λ x. whole_use_trees n (erased_nodes cs) || x) (or_last (whole_use (n + 1) inner) ∙ whole_keyed n k q (erased b))

  column_outer : (n : ℕ) (m : Name)
      → column_use n m (erased outer) ≡ (column_use_trees n m (erased_nodes cs) || (column_key n m q || column_use (n + 1) m (erased b)))
  column_outer n m =
      ap (column_use n m) outer_erased ∙ column_around n m k cs (Ext k inner (Source i.number))
      ∙ ap (λ x. column_use_trees n m (erased_nodes cs) || x) (or_last (column_use (n + 1) m inner) ∙ column_keyed n m k q (erased b))

-- ---- inside

pub whole_inner : (k : Kind) (q : Key) (b : Node) → whole_use 0 (erased (keyed k q b)) ≡ whole_use 0 (erased b)
whole_inner k q b = ap (whole_use 0) (keyed_erased q k b) ∙ by q
  where
    by : (q : Key) → whole_use 0 (erased_keyed k q (erased b)) ≡ whole_use 0 (erased b)
    by no_key = refl
    by (key l v) = ap (λ x. (x || false) || (whole_use 0 (erased b) || false)) (gone (erased v) 0).whole ∙ or_last (whole_use 0 (erased b))

pub column_inner : (m : Name) (k : Kind) (l : Name) (v b : Node)
    → column_use 0 m (erased (keyed k (key l v) b)) ≡ (pointwise nat_eq l m || column_use 0 m (erased b))
column_inner m k l v b =
    ap (λ y. ((pointwise nat_eq l m || false) || (y || false)) || (column_use 0 m (erased b) || false)) ((gone (erased v) 0).column m)
    ∙ by (pointwise nat_eq l m) (column_use 0 m (erased b))
  where
    by : (x y : Bool) → (((x || false) || false) || (y || false)) ≡ (x || y)
    by true y = refl
    by false y = or_last y

-- ---- of joins

pub whole_of_outer : (n : ℕ) (j : Join) → whole_use n (erased (outer_body (join_view j)))
    ≡ (whole_use_trees n (erased_nodes (nodes_view (out-Join j).conds))
    || (whole_key n (keys_view (out-Join j).key) || whole_use (n + 1) (erased (view (out-Join j).body))))
whole_of_outer n j =
    ap (λ x. whole_use n (erased (outer_body x))) (view_join j)
    ∙ whole_outer (out-Join j).kind (nodes_view (out-Join j).conds) (out-Join j).inner (keys_view (out-Join j).key)
    (view (out-Join j).body) n

pub column_of_outer : (n : ℕ) (m : Name) (j : Join) → column_use n m (erased (outer_body (join_view j)))
    ≡ (column_use_trees n m (erased_nodes (nodes_view (out-Join j).conds))
    || (column_key n m (keys_view (out-Join j).key) || column_use (n + 1) m (erased (view (out-Join j).body))))
column_of_outer n m j =
    ap (λ x. column_use n m (erased (outer_body x))) (view_join j)
    ∙ column_outer (out-Join j).kind (nodes_view (out-Join j).conds) (out-Join j).inner (keys_view (out-Join j).key)
    (view (out-Join j).body) n m

-- a join is its outer loop
join_erased : (p : Plan) (j : Join) → p ≡ plan.Join j
    → erased (view p) ≡ Ext (out-Join j).kind (erased (outer_body (join_view j))) (erased (view (out-Join j).outer))
join_erased p j is =
    ap (λ x. erased (view x)) is ∙ ap erased (view_Join j ∙ view_join j)
    ∙ ap (λ x. Ext (out-Join j).kind x (erased (view (out-Join j).outer)))
    (sym (outer_erased (out-Join j).kind (nodes_view (out-Join j).conds) (out-Join j).inner (keys_view (out-Join j).key)
    (view (out-Join j).body))
    ∙ sym (ap (λ x. erased (outer_body x)) (view_join j)))

pub whole_of_join : (n : ℕ) (p : Plan) (j : Join) → p ≡ plan.Join j
    → whole_use n (erased (view p))
    ≡ (whole_use (n + 1) (erased (outer_body (join_view j))) || whole_use n (erased (view (out-Join j).outer)))
whole_of_join n p j is = ap (whole_use n) (join_erased p j is)

pub column_of_join : (n : ℕ) (m : Name) (p : Plan) (j : Join) → p ≡ plan.Join j
    → column_use n m (erased (view p))
    ≡ (column_use (n + 1) m (erased (outer_body (join_view j))) || column_use n m (erased (view (out-Join j).outer)))
column_of_join n m p j is = ap (column_use n m) (join_erased p j is)

-- ---- what is found first

found_first : (r a b x : Bool) → r ≡ (a || b) → x ≡ a → x ≡ true → true ≡ r
found_first r a b x e f g = sym (e ∙ ap (λ y. y || b) (sym f ∙ g))

found_behind : (r a b x : Bool) → r ≡ (a || b) → x ≡ a → x ≡ false → r ≡ b
found_behind r a b x e f g = e ∙ ap (λ y. y || b) (sym f ∙ g)

module _ (n : ℕ) (j : Join) (cs : List Plan) (x : Bool) (conds : cs ≡ (out-Join j).conds)
    (first : x ≡ whole_use_trees n (erased_nodes (nodes_view cs))) where
  abbrev of_conds : Bool
  of_conds = whole_use_trees n (erased_nodes (nodes_view (out-Join j).conds))

  abbrev of_key : Bool
  of_key = whole_key n (keys_view (out-Join j).key)

  abbrev of_body : Bool
  of_body = whole_use (n + 1) (erased (view (out-Join j).body))

  there : x ≡ of_conds
  there = first ∙ ap (λ ps. whole_use_trees n (erased_nodes (nodes_view ps))) conds

  pub whole_first : x ≡ true → true ≡ whole_use n (erased (outer_body (join_view j)))
  whole_first h = found_first (whole_use n (erased (outer_body (join_view j)))) of_conds (of_key || of_body) x (whole_of_outer n j) there h

  behind_conds : x ≡ false → whole_use n (erased (outer_body (join_view j))) ≡ (of_key || of_body)
  behind_conds h = found_behind (whole_use n (erased (outer_body (join_view j)))) of_conds (of_key || of_body) x
      (whole_of_outer n j) there h

  pub whole_second : (y : Bool) → x ≡ false → y ≡ of_key → y ≡ true → true ≡ whole_use n (erased (outer_body (join_view j)))
  whole_second y h e g = found_first (whole_use n (erased (outer_body (join_view j)))) of_key of_body y (behind_conds h) e g

  pub whole_third : (y z : Bool) → x ≡ false → y ≡ of_key → y ≡ false → z ≡ of_body → z ≡ whole_use n (erased (outer_body (join_view j)))
  whole_third y z h e g f = f ∙ sym (found_behind (whole_use n (erased (outer_body (join_view j)))) of_key of_body y (behind_conds h) e g)

module _ (n : ℕ) (m : Name) (j : Join) (cs : List Plan) (x : Bool) (conds : cs ≡ (out-Join j).conds)
    (first : x ≡ column_use_trees n m (erased_nodes (nodes_view cs))) where
  abbrev column_conds : Bool
  column_conds = column_use_trees n m (erased_nodes (nodes_view (out-Join j).conds))

  abbrev column_by_key : Bool
  column_by_key = column_key n m (keys_view (out-Join j).key)

  abbrev column_body : Bool
  column_body = column_use (n + 1) m (erased (view (out-Join j).body))

  column_there : x ≡ column_conds
  column_there = first ∙ ap (λ ps. column_use_trees n m (erased_nodes (nodes_view ps))) conds

  pub column_first : x ≡ true → true ≡ column_use n m (erased (outer_body (join_view j)))
  column_first h = found_first (column_use n m (erased (outer_body (join_view j)))) column_conds (column_by_key || column_body) x
      (column_of_outer n m j) column_there h

  column_behind : x ≡ false → column_use n m (erased (outer_body (join_view j))) ≡ (column_by_key || column_body)
  column_behind h = found_behind (column_use n m (erased (outer_body (join_view j)))) column_conds (column_by_key || column_body) x
      (column_of_outer n m j) column_there h

  pub column_second : (y : Bool) → x ≡ false → y ≡ column_by_key → y ≡ true → true ≡ column_use n m (erased (outer_body (join_view j)))
  column_second y h e g = found_first (column_use n m (erased (outer_body (join_view j)))) column_by_key column_body y (column_behind h) e g

  pub column_third : (y z : Bool) → x ≡ false → y ≡ column_by_key → y ≡ false → z ≡ column_body
      → z ≡ column_use n m (erased (outer_body (join_view j)))
  column_third y z h e g f = f
      ∙ sym (found_behind (column_use n m (erased (outer_body (join_view j)))) column_by_key column_body y (column_behind h) e g)

module _ (n : ℕ) (p : Plan) (j g : Join) (x : Bool) (is : p ≡ plan.Join j) (same : g ≡ j) where
  pub whole_join_first : x ≡ whole_use (n + 1) (erased (outer_body (join_view g))) → x ≡ true → true ≡ whole_use n (erased (view p))
  whole_join_first e h =
      found_first (whole_use n (erased (view p))) (whole_use (n + 1) (erased (outer_body (join_view j))))
      (whole_use n (erased (view (out-Join j).outer))) x
      (whole_of_join n p j is) (e ∙ ap (λ z. whole_use (n + 1) (erased (outer_body (join_view z)))) same) h

  pub whole_join_last : (y : Bool) (d : Join) → x ≡ whole_use (n + 1) (erased (outer_body (join_view g))) → x ≡ false → d ≡ j
      → y ≡ whole_use n (erased (view (out-Join d).outer)) → y ≡ whole_use n (erased (view p))
  whole_join_last y d e h i f = f ∙ ap (λ z. whole_use n (erased (view (out-Join z).outer))) i ∙ sym
      (found_behind (whole_use n (erased (view p))) (whole_use (n + 1) (erased (outer_body (join_view j))))
      (whole_use n (erased (view (out-Join j).outer))) x
      (whole_of_join n p j is) (e ∙ ap (λ z. whole_use (n + 1) (erased (outer_body (join_view z)))) same) h)

  pub column_join_first : (m : Name) → x ≡ column_use (n + 1) m (erased (outer_body (join_view g))) → x ≡ true
      → true ≡ column_use n m (erased (view p))
  column_join_first m e h =
      found_first (column_use n m (erased (view p))) (column_use (n + 1) m (erased (outer_body (join_view j))))
      (column_use n m (erased (view (out-Join j).outer)))
      x (column_of_join n m p j is) (e ∙ ap (λ z. column_use (n + 1) m (erased (outer_body (join_view z)))) same) h

  pub column_join_last : (m : Name) (y : Bool) (d : Join) → x ≡ column_use (n + 1) m (erased (outer_body (join_view g))) → x ≡ false → d ≡ j
      → y ≡ column_use n m (erased (view (out-Join d).outer)) → y ≡ column_use n m (erased (view p))
  column_join_last m y d e h i f = f ∙ ap (λ z. column_use n m (erased (view (out-Join z).outer))) i ∙ sym
      (found_behind (column_use n m (erased (view p))) (column_use (n + 1) m (erased (outer_body (join_view j))))
      (column_use n m (erased (view (out-Join j).outer)))
      x (column_of_join n m p j is) (e ∙ ap (λ z. column_use (n + 1) m (erased (outer_body (join_view z)))) same) h)
