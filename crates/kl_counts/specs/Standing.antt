-- Where the scans of a plan stand.
use Rattle.std.specs.Prelude.{ℕ, List, [], ◌∷◌, ◌++◌}
use Rattle.std.specs.List.{flat_map}
use Rattle.kl_ask.specs.declared.settings.JoinHow.{JoinHow}
use Rattle.kl_plan.specs.declared.plan.Scan.{Scan}
use Rattle.kl_plan.specs.Nodes as node
use Rattle.kl_plan.specs.Nodes.{Node, Nodes, no_nodes, nodes, Fields, no_fields, fields, Branches, no_branches, rest, branch, Key}
use Rattle.kl_plan.specs.Nodes.{no_key, key}
use Rattle.kl_plan.specs.Parts.{memos_of}

pub data Place : Type 0 where
  -- a scan by itself
  alone : Scan → Place
  -- the inner part of a join, with the join's number and way
  inner : ℕ → JoinHow → Scan → Place

abbrev pub scan_of : Place → Scan
scan_of (alone c) = c
scan_of (inner n way i) = i

-- those outside every memo
abbrev mutual
  pub outside : Node → List Place
  outside (node.Plain t) = []
  outside (node.Var x) = []
  outside (node.Rec ps) = outside_fields ps
  outside (node.Proj l a) = outside a
  outside (node.Inj l a) = outside a
  outside (node.Case a bs) = outside a ++ outside_branches bs
  outside (node.Make k ps) = outside_nodes ps
  outside (node.Union a b) = outside a ++ outside b
  outside (node.Ext k b s) = outside s ++ outside b
  outside (node.If a b c) = outside a ++ (outside b ++ outside c)
  outside (node.Let a b) = outside a ++ outside b
  outside (node.Prim c ps) = outside_nodes ps
  outside (node.Scan c) = alone c ∷ []
  outside (node.Join n k way o cs i q b) = outside o ++ (outside_nodes cs ++ (outside_key q ++ (inner n way i ∷ outside b)))
  outside (node.Memo n frees p) = []

  pub outside_nodes : Nodes → List Place
  outside_nodes no_nodes = []
  outside_nodes (nodes p ps) = outside p ++ outside_nodes ps

  pub outside_fields : Fields → List Place
  outside_fields no_fields = []
  outside_fields (fields l p ps) = outside p ++ outside_fields ps

  pub outside_branches : Branches → List Place
  outside_branches no_branches = []
  outside_branches (rest c) = outside c
  outside_branches (branch l b bs) = outside b ++ outside_branches bs

  pub outside_key : Key → List Place
  outside_key no_key = []
  outside_key (key l p) = outside p

-- those inside memos, of which none stands inside another
abbrev pub inside : Node → List Place
inside p = flat_map (λ m. outside m.1.1) (memos_of p)
