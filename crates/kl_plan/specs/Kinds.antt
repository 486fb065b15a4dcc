-- What the form of a plan tells of the kind of its collection.
use Rattle.std.specs.Prelude.{Option, Some, None}
use Rattle.kl_value.specs.declared.Kind.{Kind}
use Rattle.kl_plan.specs.Nodes as node
use Rattle.kl_plan.specs.Nodes.{Node, Branches, no_branches, rest, branch}

abbrev pub first_kind : Option Kind → Option Kind → Option Kind
first_kind (Some k) other = Some k
first_kind None other = other

-- The kind of a plan of a collection, where its form tells it: of a literal, a loop and a scan it does, of a union and a choice
-- where one of their parts does. Else the value alone has it.
abbrev mutual
  pub kind_of_items : Node → Option Kind
  kind_of_items (node.Plain t) = None
  kind_of_items (node.Var x) = None
  kind_of_items (node.Rec ps) = None
  kind_of_items (node.Proj l a) = None
  kind_of_items (node.Inj l a) = None
  kind_of_items (node.Case a bs) = kind_of_branches bs
  kind_of_items (node.Make k ps) = Some k
  kind_of_items (node.Union a b) = first_kind (kind_of_items a) (kind_of_items b)
  kind_of_items (node.Ext k b s) = Some k
  kind_of_items (node.If a b c) = first_kind (kind_of_items b) (kind_of_items c)
  kind_of_items (node.Let a b) = kind_of_items b
  kind_of_items (node.Prim c ps) = None
  kind_of_items (node.Scan c) = Some c.kind
  kind_of_items (node.Join n k how o cs i q b) = Some k
  kind_of_items (node.Memo n frees p) = kind_of_items p

  pub kind_of_branches : Branches → Option Kind
  kind_of_branches no_branches = None
  kind_of_branches (rest c) = kind_of_items c
  kind_of_branches (branch l b bs) = first_kind (kind_of_items b) (kind_of_branches bs)
