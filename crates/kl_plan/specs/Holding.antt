-- Plans whose scans, joins and memos are all listed.
use Rattle.std.specs.Prelude.{ℕ, List, ⊤}
use Rattle.std.specs.List.{Contains}
use Rattle.kl_ask.specs.declared.settings.JoinHow.{JoinHow}
use Rattle.kl_plan.specs.declared.plan.Scan.{Scan}
use Rattle.kl_plan.specs.Nodes as node
use Rattle.kl_plan.specs.Nodes.{Node, Nodes, no_nodes, nodes, Fields, no_fields, fields, Branches, no_branches, rest, branch, Key}
use Rattle.kl_plan.specs.Nodes.{no_key, key}
use Rattle.kl_plan.specs.Subqueries.{Memo}

-- scans, joins by their numbers and ways, and memos
pub record Listing : Type 0 where
  pub scans : List Scan
  pub joins : List (ℕ × JoinHow)
  pub memos : List Memo

module _ (all : Listing) where
  abbrev mutual
    pub PartsIn : Node → Type 0
    PartsIn (node.Plain t) = ⊤
    PartsIn (node.Var x) = ⊤
    PartsIn (node.Rec ps) = PartsInFields ps
    PartsIn (node.Proj l a) = PartsIn a
    PartsIn (node.Inj l a) = PartsIn a
    PartsIn (node.Case a bs) = PartsIn a × PartsInBranches bs
    PartsIn (node.Make k ps) = PartsInNodes ps
    PartsIn (node.Union a b) = PartsIn a × PartsIn b
    PartsIn (node.Ext k b s) = PartsIn b × PartsIn s
    PartsIn (node.If a b c) = PartsIn a × PartsIn b × PartsIn c
    PartsIn (node.Let a b) = PartsIn a × PartsIn b
    PartsIn (node.Prim c ps) = PartsInNodes ps
    PartsIn (node.Scan c) = Contains all.scans c
    PartsIn (node.Join n k how o cs i q b) = Contains all.joins (n, how) × PartsIn o × PartsInNodes cs × PartsInKey q
        × Contains all.scans i × PartsIn b
    PartsIn (node.Memo n frees p) = Contains all.memos (n, (frees, p)) × PartsIn p

    pub PartsInNodes : Nodes → Type 0
    PartsInNodes no_nodes = ⊤
    PartsInNodes (nodes p ps) = PartsIn p × PartsInNodes ps

    pub PartsInFields : Fields → Type 0
    PartsInFields no_fields = ⊤
    PartsInFields (fields l p ps) = PartsIn p × PartsInFields ps

    pub PartsInBranches : Branches → Type 0
    PartsInBranches no_branches = ⊤
    PartsInBranches (rest c) = PartsIn c
    PartsInBranches (branch l b bs) = PartsIn b × PartsInBranches bs

    pub PartsInKey : Key → Type 0
    PartsInKey no_key = ⊤
    PartsInKey (key l p) = PartsIn p
