-- The scans, the joins and the memos of a plan, in the order of a walk that visits the source of a loop, or the outer part of
-- a join, before what stands inside it, and other parts from left to right.
use Rattle.std.specs.Prelude.{ℕ, List, [], ◌∷◌, ◌++◌, map, nat_eq}
use Rattle.std.specs.List.{IsDistinct}
use Rattle.kl_plan.specs.declared.plan.Scan.{Scan}
use Rattle.kl_plan.specs.Nodes as node
use Rattle.kl_plan.specs.Nodes.{Node, Nodes, no_nodes, nodes, Fields, no_fields, fields, Branches, no_branches, rest, branch, Key}
use Rattle.kl_plan.specs.Nodes.{no_key, key}

abbrev mutual
  pub scans_in : Node → List Scan
  scans_in (node.Plain t) = []
  scans_in (node.Var x) = []
  scans_in (node.Rec ps) = scans_of_fields ps
  scans_in (node.Proj l a) = scans_in a
  scans_in (node.Inj l a) = scans_in a
  scans_in (node.Case a bs) = scans_in a ++ scans_of_branches bs
  scans_in (node.Make k ps) = scans_of_nodes ps
  scans_in (node.Union a b) = scans_in a ++ scans_in b
  scans_in (node.Ext k b s) = scans_in s ++ scans_in b
  scans_in (node.If a b c) = scans_in a ++ (scans_in b ++ scans_in c)
  scans_in (node.Let a b) = scans_in a ++ scans_in b
  scans_in (node.Prim c ps) = scans_of_nodes ps
  scans_in (node.Scan c) = c ∷ []
  scans_in (node.Join n k how o cs i q b) = scans_in o ++ (scans_of_nodes cs ++ (scans_of_key q ++ (i ∷ scans_in b)))
  scans_in (node.Memo n frees p) = scans_in p

  pub scans_of_nodes : Nodes → List Scan
  scans_of_nodes no_nodes = []
  scans_of_nodes (nodes p ps) = scans_in p ++ scans_of_nodes ps

  pub scans_of_fields : Fields → List Scan
  scans_of_fields no_fields = []
  scans_of_fields (fields l p ps) = scans_in p ++ scans_of_fields ps

  pub scans_of_branches : Branches → List Scan
  scans_of_branches no_branches = []
  scans_of_branches (rest c) = scans_in c
  scans_of_branches (branch l b bs) = scans_in b ++ scans_of_branches bs

  pub scans_of_key : Key → List Scan
  scans_of_key no_key = []
  scans_of_key (key l p) = scans_in p

-- the numbers of the joins
abbrev mutual
  pub joins_in : Node → List ℕ
  joins_in (node.Plain t) = []
  joins_in (node.Var x) = []
  joins_in (node.Rec ps) = joins_of_fields ps
  joins_in (node.Proj l a) = joins_in a
  joins_in (node.Inj l a) = joins_in a
  joins_in (node.Case a bs) = joins_in a ++ joins_of_branches bs
  joins_in (node.Make k ps) = joins_of_nodes ps
  joins_in (node.Union a b) = joins_in a ++ joins_in b
  joins_in (node.Ext k b s) = joins_in s ++ joins_in b
  joins_in (node.If a b c) = joins_in a ++ (joins_in b ++ joins_in c)
  joins_in (node.Let a b) = joins_in a ++ joins_in b
  joins_in (node.Prim c ps) = joins_of_nodes ps
  joins_in (node.Scan c) = []
  joins_in (node.Join n k how o cs i q b) = n ∷ (joins_in o ++ (joins_of_nodes cs ++ (joins_of_key q ++ joins_in b)))
  joins_in (node.Memo n frees p) = joins_in p

  pub joins_of_nodes : Nodes → List ℕ
  joins_of_nodes no_nodes = []
  joins_of_nodes (nodes p ps) = joins_in p ++ joins_of_nodes ps

  pub joins_of_fields : Fields → List ℕ
  joins_of_fields no_fields = []
  joins_of_fields (fields l p ps) = joins_in p ++ joins_of_fields ps

  pub joins_of_branches : Branches → List ℕ
  joins_of_branches no_branches = []
  joins_of_branches (rest c) = joins_in c
  joins_of_branches (branch l b bs) = joins_in b ++ joins_of_branches bs

  pub joins_of_key : Key → List ℕ
  joins_of_key no_key = []
  joins_of_key (key l p) = joins_in p

-- the numbers of the memos
abbrev mutual
  pub memos_in : Node → List ℕ
  memos_in (node.Plain t) = []
  memos_in (node.Var x) = []
  memos_in (node.Rec ps) = memos_of_fields ps
  memos_in (node.Proj l a) = memos_in a
  memos_in (node.Inj l a) = memos_in a
  memos_in (node.Case a bs) = memos_in a ++ memos_of_branches bs
  memos_in (node.Make k ps) = memos_of_nodes ps
  memos_in (node.Union a b) = memos_in a ++ memos_in b
  memos_in (node.Ext k b s) = memos_in s ++ memos_in b
  memos_in (node.If a b c) = memos_in a ++ (memos_in b ++ memos_in c)
  memos_in (node.Let a b) = memos_in a ++ memos_in b
  memos_in (node.Prim c ps) = memos_of_nodes ps
  memos_in (node.Scan c) = []
  memos_in (node.Join n k how o cs i q b) = memos_in o ++ (memos_of_nodes cs ++ (memos_of_key q ++ memos_in b))
  memos_in (node.Memo n frees p) = n ∷ memos_in p

  pub memos_of_nodes : Nodes → List ℕ
  memos_of_nodes no_nodes = []
  memos_of_nodes (nodes p ps) = memos_in p ++ memos_of_nodes ps

  pub memos_of_fields : Fields → List ℕ
  memos_of_fields no_fields = []
  memos_of_fields (fields l p ps) = memos_in p ++ memos_of_fields ps

  pub memos_of_branches : Branches → List ℕ
  memos_of_branches no_branches = []
  memos_of_branches (rest c) = memos_in c
  memos_of_branches (branch l b bs) = memos_in b ++ memos_of_branches bs

  pub memos_of_key : Key → List ℕ
  memos_of_key no_key = []
  memos_of_key (key l p) = memos_in p

-- no number stands twice among the scans, nor among the joins, nor among the memos
pub record NumbersDiffer (p : Node) : Type 0 where
  pub scans : IsDistinct nat_eq (map (λ c. c.number) (scans_in p))
  pub joins : IsDistinct nat_eq (joins_in p)
  pub memos : IsDistinct nat_eq (memos_in p)
