-- Which free positions stand in a plan.
use Rattle.std.specs.Prelude.{ℕ, zero, suc, ◌+◌, Bool, false, ◌||◌, List, [], ◌∷◌, cond, nat_eq}
use Rattle.kl_core.specs.Positions.{occurs_in}
use Rattle.kl_plan.specs.Nodes as node
use Rattle.kl_plan.specs.Nodes.{Node, Nodes, no_nodes, nodes, Fields, no_fields, fields, Branches, no_branches, rest, branch, Key}
use Rattle.kl_plan.specs.Nodes.{no_key, key}

abbrev mutual
  pub occurs : ℕ → Node → Bool
  occurs n (node.Plain t) = occurs_in n t
  occurs n (node.Var x) = nat_eq x n
  occurs n (node.Rec ps) = occurs_fields n ps
  occurs n (node.Proj l a) = occurs n a
  occurs n (node.Inj l a) = occurs n a
  occurs n (node.Case a bs) = occurs n a || occurs_branches n bs
  occurs n (node.Make k ps) = occurs_nodes n ps
  occurs n (node.Union a b) = occurs n a || occurs n b
  occurs n (node.Ext k b s) = occurs (n + 1) b || occurs n s
  occurs n (node.If a b c) = occurs n a || (occurs n b || occurs n c)
  occurs n (node.Let a b) = occurs n a || occurs (n + 1) b
  occurs n (node.Prim c ps) = occurs_nodes n ps
  occurs n (node.Scan c) = false
  occurs n (node.Join m k how o cs i q b) =
      occurs n o || (occurs_nodes (n + 1) cs || (occurs_key (n + 1) q || occurs (n + 2) b))
  occurs n (node.Memo m frees p) = occurs n p

  pub occurs_nodes : ℕ → Nodes → Bool
  occurs_nodes n no_nodes = false
  occurs_nodes n (nodes p ps) = occurs n p || occurs_nodes n ps

  pub occurs_fields : ℕ → Fields → Bool
  occurs_fields n no_fields = false
  occurs_fields n (fields l p ps) = occurs n p || occurs_fields n ps

  pub occurs_branches : ℕ → Branches → Bool
  occurs_branches n no_branches = false
  occurs_branches n (rest c) = occurs n c
  occurs_branches n (branch l b bs) = occurs (n + 1) b || occurs_branches n bs

  pub occurs_key : ℕ → Key → Bool
  occurs_key n no_key = false
  occurs_key n (key l p) = occurs n p

-- the free positions of a plan among so many from one on, in rising order
abbrev pub frees_from : ℕ → ℕ → Node → List ℕ
frees_from n zero p = []
frees_from n (suc k) p = cond (occurs n p) (n ∷ frees_from (suc n) k p) (frees_from (suc n) k p)

-- the free positions of a plan, where so many positions are bound around it
abbrev pub frees_in : ℕ → Node → List ℕ
frees_in depth p = frees_from 0 depth p
