-- The joins of a plan with their ways, and its memos with their parts, in the order of the walk that numbers them.
use Rattle.std.specs.Prelude.{ℕ, List, [], ◌∷◌, ◌++◌}
use Rattle.kl_ask.specs.declared.settings.JoinHow.{JoinHow}
use Rattle.kl_plan.specs.Nodes as node
use Rattle.kl_plan.specs.Nodes.{Node, Nodes, no_nodes, nodes, Fields, no_fields, fields, Branches, no_branches, rest, branch, Key}
use Rattle.kl_plan.specs.Nodes.{no_key, key}
use Rattle.kl_plan.specs.Holding.{Listing}
use Rattle.kl_plan.specs.Numbers.{scans_in}
use Rattle.kl_plan.specs.Subqueries.{Memo}

abbrev mutual
  pub memos_of : Node → List Memo
  memos_of (node.Plain t) = []
  memos_of (node.Var x) = []
  memos_of (node.Rec ps) = memos_of_fields ps
  memos_of (node.Proj l a) = memos_of a
  memos_of (node.Inj l a) = memos_of a
  memos_of (node.Case a bs) = memos_of a ++ memos_of_branches bs
  memos_of (node.Make k ps) = memos_of_nodes ps
  memos_of (node.Union a b) = memos_of a ++ memos_of b
  memos_of (node.Ext k b s) = memos_of s ++ memos_of b
  memos_of (node.If a b c) = memos_of a ++ (memos_of b ++ memos_of c)
  memos_of (node.Let a b) = memos_of a ++ memos_of b
  memos_of (node.Prim c ps) = memos_of_nodes ps
  memos_of (node.Scan c) = []
  memos_of (node.Join n k how o cs i q b) = memos_of o ++ (memos_of_nodes cs ++ (memos_of_key q ++ memos_of b))
  memos_of (node.Memo n frees p) = (n, (frees, p)) ∷ memos_of p

  pub memos_of_nodes : Nodes → List Memo
  memos_of_nodes no_nodes = []
  memos_of_nodes (nodes p ps) = memos_of p ++ memos_of_nodes ps

  pub memos_of_fields : Fields → List Memo
  memos_of_fields no_fields = []
  memos_of_fields (fields l p ps) = memos_of p ++ memos_of_fields ps

  pub memos_of_branches : Branches → List Memo
  memos_of_branches no_branches = []
  memos_of_branches (rest c) = memos_of c
  memos_of_branches (branch l b bs) = memos_of b ++ memos_of_branches bs

  pub memos_of_key : Key → List Memo
  memos_of_key no_key = []
  memos_of_key (key l p) = memos_of p

abbrev mutual
  pub joins_of : Node → List (ℕ × JoinHow)
  joins_of (node.Plain t) = []
  joins_of (node.Var x) = []
  joins_of (node.Rec ps) = joins_of_each_field ps
  joins_of (node.Proj l a) = joins_of a
  joins_of (node.Inj l a) = joins_of a
  joins_of (node.Case a bs) = joins_of a ++ joins_of_each_branch bs
  joins_of (node.Make k ps) = joins_of_each ps
  joins_of (node.Union a b) = joins_of a ++ joins_of b
  joins_of (node.Ext k b s) = joins_of s ++ joins_of b
  joins_of (node.If a b c) = joins_of a ++ (joins_of b ++ joins_of c)
  joins_of (node.Let a b) = joins_of a ++ joins_of b
  joins_of (node.Prim c ps) = joins_of_each ps
  joins_of (node.Scan c) = []
  joins_of (node.Join n k how o cs i q b) = (n, how) ∷ (joins_of o ++ (joins_of_each cs ++ (joins_of_value q ++ joins_of b)))
  joins_of (node.Memo n frees p) = joins_of p

  pub joins_of_each : Nodes → List (ℕ × JoinHow)
  joins_of_each no_nodes = []
  joins_of_each (nodes p ps) = joins_of p ++ joins_of_each ps

  pub joins_of_each_field : Fields → List (ℕ × JoinHow)
  joins_of_each_field no_fields = []
  joins_of_each_field (fields l p ps) = joins_of p ++ joins_of_each_field ps

  pub joins_of_each_branch : Branches → List (ℕ × JoinHow)
  joins_of_each_branch no_branches = []
  joins_of_each_branch (rest c) = joins_of c
  joins_of_each_branch (branch l b bs) = joins_of b ++ joins_of_each_branch bs

  pub joins_of_value : Key → List (ℕ × JoinHow)
  joins_of_value no_key = []
  joins_of_value (key l p) = joins_of p

-- all that is counted of a plan
abbrev pub parts_of : Node → Listing
parts_of p = record { scans = scans_in p; joins = joins_of p; memos = memos_of p }
