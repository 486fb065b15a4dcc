-- No primitive of a join may overflow where none of its parts has one that may.
use Rattle.std.proofs.Common.{◌≡◌, Bool, true, false, ◌&&◌, List, refl, sym, ap, ◌∙◌}
use mathlib.Core.Path.{ap₂}
use Rattle.kl_value.specs.declared.Kind.{Kind}
use Rattle.kl_outcome.specs.Outcome.{Name}
use Rattle.kl_prim.specs.Table.{rows, row_at}
use Rattle.kl_core.specs.Counts.{total_in, total_trees, total_code}
use Rattle.kl_core.specs.Trees.{Tree, Ext, Source}
use Rattle.kl_core.proofs.Totals.{total_shift}
use Rattle.kl_plan.specs.declared.plan.Join.{Join, out-Join}
use Rattle.kl_plan.specs.declared.plan.Plan.{Plan}
use Rattle.kl_plan.specs.declared.plan.Scan.{Scan}
use Rattle.kl_plan.specs.Erased.{key_test, erased, erased_nodes, erased_around, erased_keyed}
use Rattle.kl_plan.specs.Joins.{join_view, keys_view}
use Rattle.kl_plan.specs.Nodes.{Node, Nodes, no_nodes, nodes, Key, no_key, key, view, nodes_view}
use Rattle.kl_plan.specs.Totals.{total_key}
use Rattle.kl_plan.proofs.Views.{view_join}

and_grouped : (a b c : Bool) → (a && ((b && c) && true)) ≡ ((a && b) && c)
and_grouped false b c = refl
and_grouped true false c = refl
and_grouped true true true = refl
and_grouped true true false = refl

total_around : (k : Kind) (cs : Nodes) (t : Tree) → total_in (erased_around k cs t) ≡ (total_trees (erased_nodes cs) && total_in t)
total_around k no_nodes t = refl
total_around k (nodes c cs) t =
    ap (λ x. total_in (erased c) && (x && true)) (total_around k cs t)
    ∙ and_grouped (total_in (erased c)) (total_trees (erased_nodes cs)) (total_in t)

and_none : (a b : Bool) → ((a && true) && (b && true)) ≡ (a && b)
and_none false b = refl
and_none true true = refl
and_none true false = refl

and_last : (a : Bool) → (a && true) ≡ a
and_last true = refl
and_last false = refl

equality_total : total_code 1 ≡ true
unfolding total_code row_at rows
equality_total = refl

pub total_key_test : (l : Name) (v : Tree) → total_in (key_test l v) ≡ total_in v
total_key_test l v = ap₂ (λ x y. x && (y && true)) equality_total (total_shift v 0 1) ∙ and_last (total_in v)

total_keyed : (k : Kind) (q : Key) (t : Tree) → total_in (erased_keyed k q t) ≡ (total_key q && total_in t)
total_keyed k no_key t = refl
total_keyed k (key l v) t =
    ap₂ (λ x y. (x && (y && true)) && (total_in t && true)) equality_total (total_shift (erased v) 0 1)
    ∙ and_none (total_in (erased v)) (total_in t)

module _ (k : Kind) (cs : Nodes) (i : Scan) (q : Key) (b : Node) where
  abbrev inner : Tree
  inner = erased_keyed k q (erased b)

  and_three : (a b c d : Bool) → ((a && (b && c)) && d) ≡ (a && (b && (c && d)))
  and_three false b c d = refl
  and_three true false c d = refl
  and_three true true c d = refl

  total_loops : (o : Node) → (total_in (erased_around k cs (Ext k inner (Source i.number))) && total_in (erased o))
      ≡ (total_trees (erased_nodes cs) && (total_key q && (total_in (erased b) && total_in (erased o))))
  total_loops o =
      ap (λ x. x && total_in (erased o))
      (total_around k cs (Ext k inner (Source i.number))
      ∙ ap (λ x. total_trees (erased_nodes cs) && x) (and_last (total_in inner) ∙ total_keyed k q (erased b)))
      ∙ and_three (total_trees (erased_nodes cs)) (total_key q) (total_in (erased b)) (total_in (erased o))

pub total_of_join : (j : Join) → total_in (erased (join_view j)) ≡ (total_trees (erased_nodes (nodes_view (out-Join j).conds))
    && (total_key (keys_view (out-Join j).key)
    && (total_in (erased (view (out-Join j).body)) && total_in (erased (view (out-Join j).outer)))))
total_of_join j =
    ap (λ x. total_in (erased x)) (view_join j)
    ∙ total_loops (out-Join j).kind (nodes_view (out-Join j).conds) (out-Join j).inner (keys_view (out-Join j).key) (view (out-Join j).body)
    (view (out-Join j).outer)

missed_first : (r a b x : Bool) → r ≡ (a && b) → x ≡ a → x ≡ false → false ≡ r
missed_first r a b x e f g = sym (e ∙ ap (λ y. y && b) (sym f ∙ g))

met_behind : (r a b x : Bool) → r ≡ (a && b) → x ≡ a → x ≡ true → r ≡ b
met_behind r a b x e f g = e ∙ ap (λ y. y && b) (sym f ∙ g)

module _ (j : Join) (cs : List Plan) (x : Bool) (conds : cs ≡ (out-Join j).conds)
    (first : x ≡ total_trees (erased_nodes (nodes_view cs))) where
  abbrev total_conds : Bool
  total_conds = total_trees (erased_nodes (nodes_view (out-Join j).conds))

  abbrev total_by_key : Bool
  total_by_key = total_key (keys_view (out-Join j).key)

  abbrev total_body : Bool
  total_body = total_in (erased (view (out-Join j).body))

  abbrev total_outer : Bool
  total_outer = total_in (erased (view (out-Join j).outer))

  total_there : x ≡ total_conds
  total_there = first ∙ ap (λ ps. total_trees (erased_nodes (nodes_view ps))) conds

  pub total_first : x ≡ false → false ≡ total_in (erased (join_view j))
  total_first h = missed_first (total_in (erased (join_view j))) total_conds (total_by_key && (total_body && total_outer)) x
      (total_of_join j) total_there h

  total_behind : x ≡ true → total_in (erased (join_view j)) ≡ (total_by_key && (total_body && total_outer))
  total_behind h = met_behind (total_in (erased (join_view j))) total_conds (total_by_key && (total_body && total_outer)) x
      (total_of_join j) total_there h

  pub total_second : (y : Bool) → x ≡ true → y ≡ total_by_key → y ≡ false → false ≡ total_in (erased (join_view j))
  total_second y h e g = missed_first (total_in (erased (join_view j))) total_by_key (total_body && total_outer) y (total_behind h) e g

  total_behind_key : (y : Bool) → x ≡ true → y ≡ total_by_key → y ≡ true → total_in (erased (join_view j)) ≡ (total_body && total_outer)
  total_behind_key y h e g = met_behind (total_in (erased (join_view j))) total_by_key (total_body && total_outer) y (total_behind h) e g

  pub total_third : (y z : Bool) → x ≡ true → y ≡ total_by_key → y ≡ true → z ≡ total_body → z ≡ false
      → false ≡ total_in (erased (join_view j))
  total_third y z h e g f i = missed_first (total_in (erased (join_view j))) total_body total_outer z (total_behind_key y h e g) f i

  pub total_last : (y z w : Bool) → x ≡ true → y ≡ total_by_key → y ≡ true → z ≡ total_body → z ≡ true → w ≡ total_outer
      → w ≡ total_in (erased (join_view j))
  total_last y z w h e g f i k = k
      ∙ sym (met_behind (total_in (erased (join_view j))) total_body total_outer z (total_behind_key y h e g) f i)
