-- Plans as terms.
use Rattle.kl_value.specs.declared.Kind.{Kind}
use Rattle.kl_outcome.specs.Outcome.{Name}
use Rattle.kl_core.specs.Positions.{shift_of}
use Rattle.kl_core.specs.Trees as term
use Rattle.kl_core.specs.Trees.{Tree, Trees, no_trees, trees, Parts, no_parts, parts, Arms, no_arms, arm}
use Rattle.kl_plan.specs.Nodes as node
use Rattle.kl_plan.specs.Nodes.{Node, Nodes, no_nodes, nodes, Fields, no_fields, fields, Branches, no_branches, rest, branch, Key}
use Rattle.kl_plan.specs.Nodes.{no_key, key}

-- an equality of a column of the nearest row with a value, which is raised above that row
abbrev pub key_test : Name → Tree → Tree
key_test l v = term.Prim 1 (trees (term.Proj l (term.Var 0)) (trees (shift_of v 0 1) no_trees))

-- A plan as a term, where a scan is a source of its number: so what is said of the bodies of terms is said of those of plans. A join
-- is the loops for which it stands, its key a condition around the inner body; and a memo is its part.
abbrev mutual
  pub erased : Node → Tree
  erased (node.Plain t) = t
  erased (node.Var x) = term.Var x
  erased (node.Rec ps) = term.Rec (erased_fields ps)
  erased (node.Proj l a) = term.Proj l (erased a)
  erased (node.Inj l a) = term.Inj l (erased a)
  erased (node.Case a bs) = term.Case (erased a) (erased_branches bs)
  erased (node.Make k ps) = term.Make k (erased_nodes ps)
  erased (node.Union a b) = term.Union (erased a) (erased b)
  erased (node.Ext k b s) = term.Ext k (erased b) (erased s)
  erased (node.If a b c) = term.If (erased a) (erased b) (erased c)
  erased (node.Let a b) = term.Let (erased a) (erased b)
  erased (node.Prim c ps) = term.Prim c (erased_nodes ps)
  erased (node.Scan c) = term.Source c.number
  erased (node.Join n k how o cs i q b) =
      term.Ext k (erased_around k cs (term.Ext k (erased_keyed k q (erased b)) (term.Source i.number))) (erased o)
  erased (node.Memo n frees p) = erased p

  pub erased_nodes : Nodes → Trees
  erased_nodes no_nodes = no_trees
  erased_nodes (nodes p ps) = trees (erased p) (erased_nodes ps)

  pub erased_fields : Fields → Parts
  erased_fields no_fields = no_parts
  erased_fields (fields l p ps) = parts l (erased p) (erased_fields ps)

  pub erased_branches : Branches → Arms
  erased_branches no_branches = no_arms
  erased_branches (rest c) = term.rest (erased c)
  erased_branches (branch l b bs) = arm l (erased b) (erased_branches bs)

  -- conditions around a body, where one is false there is nothing
  pub erased_around : Kind → Nodes → Tree → Tree
  erased_around k no_nodes t = t
  erased_around k (nodes c cs) t = term.If (erased c) (erased_around k cs t) (term.Make k no_trees)

  pub erased_keyed : Kind → Key → Tree → Tree
  erased_keyed k no_key t = t
  erased_keyed k (key l v) t = term.If (key_test l (erased v)) t (term.Make k no_trees)
