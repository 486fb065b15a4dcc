-- The same positions stand in plans that differ in their numbers alone.
use Rattle.std.proofs.Common.{◌≡◌, ℕ, zero, suc, ◌+◌, ◌||◌, ◌∷◌, cond, refl, sym, ap, ◌∙◌}
use mathlib.Core.Path.{ap₂}
use Rattle.kl_plan.specs.Nodes as node
use Rattle.kl_plan.specs.Nodes.{Node, Nodes, no_nodes, nodes, Fields, no_fields, fields, Branches, no_branches, rest, branch, Key}
use Rattle.kl_plan.specs.Nodes.{no_key, key}
use Rattle.kl_plan.specs.Occurs.{occurs, occurs_nodes, occurs_fields, occurs_branches, occurs_key, frees_from, frees_in}
use Rattle.kl_joins.specs.Numbered.{SamePlan, SameNodes, SameFields, SameBranches, SameKey}

mutual
  pub same_occurs : (p r : Node) → SamePlan p r → (n : ℕ) → occurs n r ≡ occurs n p
  same_occurs p (node.Plain t) h n = ap (occurs n) (sym h)
  same_occurs p (node.Var x) h n = ap (occurs n) (sym h)
  same_occurs p (node.Rec ps) h n = fields_occur h.0 ps h.2 n ∙ ap (occurs n) (sym h.1)
  same_occurs p (node.Proj l a) h n = same_occurs h.0 a h.2 n ∙ ap (occurs n) (sym h.1)
  same_occurs p (node.Inj l a) h n = same_occurs h.0 a h.2 n ∙ ap (occurs n) (sym h.1)
  same_occurs p (node.Case a bs) h n =
      ap₂ (λ x y. x || y) (same_occurs h.0 a h.3 n) (branches_occur h.1 bs h.4 n) ∙ ap (occurs n) (sym h.2)
  same_occurs p (node.Make k ps) h n = nodes_occur h.0 ps h.2 n ∙ ap (occurs n) (sym h.1)
  same_occurs p (node.Union a b) h n =
      ap₂ (λ x y. x || y) (same_occurs h.0 a h.3 n) (same_occurs h.1 b h.4 n) ∙ ap (occurs n) (sym h.2)
  same_occurs p (node.Ext k b s) h n =
      ap₂ (λ x y. x || y) (same_occurs h.0 b h.3 (n + 1)) (same_occurs h.1 s h.4 n) ∙ ap (occurs n) (sym h.2)
  same_occurs p (node.If a b c) h n =
      ap₂ (λ x y. x || y) (same_occurs h.0 a h.4 n) (ap₂ (λ x y. x || y) (same_occurs h.1 b h.5 n) (same_occurs h.2 c h.6 n))
      ∙ ap (occurs n) (sym h.3)
  same_occurs p (node.Let a b) h n =
      ap₂ (λ x y. x || y) (same_occurs h.0 a h.3 n) (same_occurs h.1 b h.4 (n + 1)) ∙ ap (occurs n) (sym h.2)
  same_occurs p (node.Prim c ps) h n = nodes_occur h.0 ps h.2 n ∙ ap (occurs n) (sym h.1)
  same_occurs p (node.Scan c) h n = ap (occurs n) (sym h.1)
  same_occurs p (node.Join m k how o cs i q b) h n =
      ap₂ (λ x y. x || y) (same_occurs h.1 o h.7 n)
      (ap₂ (λ x y. x || y) (nodes_occur h.2 cs h.8 (n + 1))
      (ap₂ (λ x y. x || y) (key_occurs h.4 q h.10 (n + 1)) (same_occurs h.5 b h.11 (n + 2))))
      ∙ ap (occurs n) (sym h.6)
  same_occurs p (node.Memo m frees a) h n = same_occurs h.1 a h.3 n ∙ ap (occurs n) (sym h.2)

  pub nodes_occur : (qs ps : Nodes) → SameNodes qs ps → (n : ℕ) → occurs_nodes n ps ≡ occurs_nodes n qs
  nodes_occur qs no_nodes h n = ap (occurs_nodes n) (sym h)
  nodes_occur qs (nodes p ps) h n =
      ap₂ (λ x y. x || y) (same_occurs h.0 p h.3 n) (nodes_occur h.1 ps h.4 n) ∙ ap (occurs_nodes n) (sym h.2)

  pub fields_occur : (qs ps : Fields) → SameFields qs ps → (n : ℕ) → occurs_fields n ps ≡ occurs_fields n qs
  fields_occur qs no_fields h n = ap (occurs_fields n) (sym h)
  fields_occur qs (fields l p ps) h n =
      ap₂ (λ x y. x || y) (same_occurs h.0 p h.3 n) (fields_occur h.1 ps h.4 n) ∙ ap (occurs_fields n) (sym h.2)

  pub branches_occur : (cs bs : Branches) → SameBranches cs bs → (n : ℕ) → occurs_branches n bs ≡ occurs_branches n cs
  branches_occur cs no_branches h n = ap (occurs_branches n) (sym h)
  branches_occur cs (rest b) h n = same_occurs h.0 b h.2 n ∙ ap (occurs_branches n) (sym h.1)
  branches_occur cs (branch l b bs) h n =
      ap₂ (λ x y. x || y) (same_occurs h.0 b h.3 (n + 1)) (branches_occur h.1 bs h.4 n) ∙ ap (occurs_branches n) (sym h.2)

  pub key_occurs : (e q : Key) → SameKey e q → (n : ℕ) → occurs_key n q ≡ occurs_key n e
  key_occurs e no_key h n = ap (occurs_key n) (sym h)
  key_occurs e (key l p) h n = same_occurs h.0 p h.2 n ∙ ap (occurs_key n) (sym h.1)

from_same : (p r : Node) → SamePlan p r → (n k : ℕ) → frees_from n k r ≡ frees_from n k p
from_same p r h n zero = refl
from_same p r h n (suc k) = ap₂ (λ b ns. cond b (n ∷ ns) ns) (same_occurs p r h n) (from_same p r h (suc n) k)

pub same_frees : (p r : Node) → SamePlan p r → (depth : ℕ) → frees_in depth r ≡ frees_in depth p
same_frees p r h depth = from_same p r h 0 depth
