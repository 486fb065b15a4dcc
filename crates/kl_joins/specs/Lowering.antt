-- The free positions above one lowered by one, in terms and in plans without joins and memos. No public contract cites this.
use Rattle.std.specs.Prelude.{ℕ, ◌+◌, ◌-◌, cond, nat_lt}
use Rattle.kl_core.specs.Trees as term
use Rattle.kl_core.specs.Trees.{Tree, Trees, no_trees, trees, Parts, no_parts, parts, Arms, no_arms, arm}
use Rattle.kl_plan.specs.Nodes as node
use Rattle.kl_plan.specs.Nodes.{Node, Nodes, no_nodes, nodes, Fields, no_fields, fields, Branches, no_branches, rest, branch}

abbrev pub lowered_at : ℕ → ℕ → ℕ
lowered_at n x = cond (nat_lt n x) (x - 1) x

abbrev mutual
  pub lowered_tree : ℕ → Tree → Tree
  lowered_tree n (term.Var x) = term.Var (lowered_at n x)
  lowered_tree n (term.Const v) = term.Const v
  lowered_tree n (term.Source i) = term.Source i
  lowered_tree n (term.Rec ps) = term.Rec (lowered_parts n ps)
  lowered_tree n (term.Proj l a) = term.Proj l (lowered_tree n a)
  lowered_tree n (term.Inj l a) = term.Inj l (lowered_tree n a)
  lowered_tree n (term.Case a bs) = term.Case (lowered_tree n a) (lowered_arms n bs)
  lowered_tree n (term.Make k ts) = term.Make k (lowered_trees n ts)
  lowered_tree n (term.Union a b) = term.Union (lowered_tree n a) (lowered_tree n b)
  lowered_tree n (term.Ext k b s) = term.Ext k (lowered_tree (n + 1) b) (lowered_tree n s)
  lowered_tree n (term.If a b c) = term.If (lowered_tree n a) (lowered_tree n b) (lowered_tree n c)
  lowered_tree n (term.Let a b) = term.Let (lowered_tree n a) (lowered_tree (n + 1) b)
  lowered_tree n (term.Prim c ts) = term.Prim c (lowered_trees n ts)

  pub lowered_trees : ℕ → Trees → Trees
  lowered_trees n no_trees = no_trees
  lowered_trees n (trees t ts) = trees (lowered_tree n t) (lowered_trees n ts)

  pub lowered_parts : ℕ → Parts → Parts
  lowered_parts n no_parts = no_parts
  lowered_parts n (parts l t ps) = parts l (lowered_tree n t) (lowered_parts n ps)

  pub lowered_arms : ℕ → Arms → Arms
  lowered_arms n no_arms = no_arms
  lowered_arms n (term.rest c) = term.rest (lowered_tree n c)
  lowered_arms n (arm l b bs) = arm l (lowered_tree (n + 1) b) (lowered_arms n bs)

-- joins and memos stay as they are
abbrev mutual
  pub lowered : ℕ → Node → Node
  lowered n (node.Plain t) = node.Plain (lowered_tree n t)
  lowered n (node.Var x) = node.Var (lowered_at n x)
  lowered n (node.Rec ps) = node.Rec (lowered_fields n ps)
  lowered n (node.Proj l a) = node.Proj l (lowered n a)
  lowered n (node.Inj l a) = node.Inj l (lowered n a)
  lowered n (node.Case a bs) = node.Case (lowered n a) (lowered_branches n bs)
  lowered n (node.Make k ps) = node.Make k (lowered_nodes n ps)
  lowered n (node.Union a b) = node.Union (lowered n a) (lowered n b)
  lowered n (node.Ext k b s) = node.Ext k (lowered (n + 1) b) (lowered n s)
  lowered n (node.If a b c) = node.If (lowered n a) (lowered n b) (lowered n c)
  lowered n (node.Let a b) = node.Let (lowered n a) (lowered (n + 1) b)
  lowered n (node.Prim c ps) = node.Prim c (lowered_nodes n ps)
  lowered n (node.Scan c) = node.Scan c
  lowered n (node.Join m k how o cs i q b) = node.Join m k how o cs i q b
  lowered n (node.Memo m frees p) = node.Memo m frees p

  pub lowered_nodes : ℕ → Nodes → Nodes
  lowered_nodes n no_nodes = no_nodes
  lowered_nodes n (nodes p ps) = nodes (lowered n p) (lowered_nodes n ps)

  pub lowered_fields : ℕ → Fields → Fields
  lowered_fields n no_fields = no_fields
  lowered_fields n (fields l p ps) = fields l (lowered n p) (lowered_fields n ps)

  pub lowered_branches : ℕ → Branches → Branches
  lowered_branches n no_branches = no_branches
  lowered_branches n (rest c) = rest (lowered n c)
  lowered_branches n (branch l b bs) = branch l (lowered (n + 1) b) (lowered_branches n bs)
