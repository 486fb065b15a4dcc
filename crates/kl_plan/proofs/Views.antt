-- The nodes of plans.
use Rattle.std.proofs.Common.{◌≡◌, ℕ, List, map, Option, rules}
use Rattle.kl_value.specs.declared.Kind.{Kind}
use Rattle.kl_outcome.specs.Outcome.{Name}
use Rattle.kl_plan.specs.declared.plan.Join.{Join, out-Join}
use Rattle.kl_plan.specs.declared.plan.Scan.{Scan}
use Rattle.kl_plan.specs.declared.plan.JoinKey.{JoinKey, out-JoinKey}
use Rattle.kl_plan.specs.declared.plan.Plan.{Plan, the_lemmas}
use Rattle.kl_plan.specs.declared.plan.Plan.TheVariants as plan
use Rattle.kl_plan.specs.Nodes as node
use Rattle.kl_plan.specs.Nodes.{Branches, branches_of, view, view_branch, nodes_view, fields_view}
use Rattle.kl_plan.specs.Joins.{other_node, join_view, key_view, keys_view}

pub view_Var : (x : ℕ) → view (plan.Var x) ≡ node.Var x
view_Var x = search (rules, the_lemmas)

pub view_Rec : (fs : List (Name × Plan)) → view (plan.Rec fs) ≡ node.Rec (fields_view fs)
view_Rec fs = search (rules, the_lemmas)

pub view_Proj : (l : Name) (a : Plan) → view (plan.Proj l a) ≡ node.Proj l (view a)
view_Proj l a = search (rules, the_lemmas)

pub view_Inj : (l : Name) (a : Plan) → view (plan.Inj l a) ≡ node.Inj l (view a)
view_Inj l a = search (rules, the_lemmas)

pub view_Case : (a : Plan) (bs : List (Name × Plan)) (c : Option Plan) → view (plan.Case a bs c) ≡ node.Case (view a) (branches_of (map view_branch bs) (other_node c))
view_Case a bs c = search (rules, the_lemmas)

pub view_Make : (k : Kind) (ps : List Plan) → view (plan.Make k ps) ≡ node.Make k (nodes_view ps)
view_Make k ps = search (rules, the_lemmas)

pub view_Union : (a b : Plan) → view (plan.Union a b) ≡ node.Union (view a) (view b)
view_Union a b = search (rules, the_lemmas)

pub view_Ext : (k : Kind) (b s : Plan) → view (plan.Ext k b s) ≡ node.Ext k (view b) (view s)
view_Ext k b s = search (rules, the_lemmas)

pub view_If : (a b c : Plan) → view (plan.If a b c) ≡ node.If (view a) (view b) (view c)
view_If a b c = search (rules, the_lemmas)

pub view_Let : (a b : Plan) → view (plan.Let a b) ≡ node.Let (view a) (view b)
view_Let a b = search (rules, the_lemmas)

pub view_Prim : (c : ℕ) (ps : List Plan) → view (plan.Prim c ps) ≡ node.Prim c (nodes_view ps)
view_Prim c ps = search (rules, the_lemmas)

pub view_Scan : (c : Scan) → view (plan.Scan c) ≡ node.Scan c
view_Scan c = search (rules, the_lemmas)

pub view_Join : (j : Join) → view (plan.Join j) ≡ join_view j
view_Join j = search (rules, the_lemmas)

pub view_join : (j : Join) → join_view j ≡ node.Join (out-Join j).number (out-Join j).kind (out-Join j).how (view (out-Join j).outer)
    (nodes_view (out-Join j).conds) (out-Join j).inner (keys_view (out-Join j).key) (view (out-Join j).body)
view_join j = search (rules, the_lemmas)

pub view_key : (k : JoinKey) → key_view k ≡ node.key (out-JoinKey k).label (view (out-JoinKey k).value)
view_key k = search (rules, the_lemmas)

pub view_Memo : (n : ℕ) (frees : List ℕ) (a : Plan) → view (plan.Memo n frees a) ≡ node.Memo n frees (view a)
view_Memo n frees a = search (rules, the_lemmas)
