-- The kind that the form of a plan tells is that of its type.
use Rattle.std.proofs.Common.{◌≡◌, ℕ, Option, Some, None, List, ◌∷◌}
use Rattle.kl_value.specs.declared.Kind.{Kind}
use Rattle.kl_type.specs.Ground.{Ground, Row, coll}
use Rattle.kl_plan.specs.declared.plan.Scan.{Scan}
use Rattle.kl_plan.specs.Kinds.{first_kind, kind_of_items, kind_of_branches}
use Rattle.kl_plan.specs.Nodes as node
use Rattle.kl_plan.specs.Nodes.{Node, Branches, no_branches, rest, branch}
use Rattle.kl_plan.specs.Typing.{PlanTypes, BranchTypes}

one_kind : (i j k : Kind) (t u : Ground) → Some k ≡ Some i → coll j t ≡ coll k u → i ≡ j
one_kind i j k t u e f = cc

no_kind : (i j : Kind) → None ≡ Some i → i ≡ j
no_kind i j e = cc

pub by_first : (x y : Option Kind) (i j : Kind) → ((k : Kind) → x ≡ Some k → k ≡ j) → ((k : Kind) → y ≡ Some k → k ≡ j) → first_kind x y ≡ Some i → i ≡ j
by_first (Some k) y i j f g e = f i e
by_first None y i j f g e = g i e

-- ---- of a plan that makes sense

module _ (Of : Scan → Ground → Type 0) (Listed : ℕ → List ℕ → Node → Type 0) where
  mutual
    pub kinds_typed : (p : Node) (G : List Ground) (j : Kind) (u : Ground) (i : Kind) → PlanTypes Of Listed G p (coll j u) → kind_of_items p ≡ Some i → i ≡ j
    kinds_typed (node.Plain t) G j u i h e = no_kind i j e
    kinds_typed (node.Var x) G j u i h e = no_kind i j e
    kinds_typed (node.Rec ps) G j u i h e = no_kind i j e
    kinds_typed (node.Proj l a) G j u i h e = no_kind i j e
    kinds_typed (node.Inj l a) G j u i h e = no_kind i j e
    kinds_typed (node.Case a bs) G j u i h e = kinds_of_branches bs G h.0 j u i h.3 e
    kinds_typed (node.Make k ps) G j u i h e = one_kind i j k u h.0 e h.1
    kinds_typed (node.Union a b) G j u i h e = by_first (kind_of_items a) (kind_of_items b) i j (λ k is. kinds_typed a G j u k h.3 is) (λ k is. kinds_typed b G j u k h.4 is) e
    kinds_typed (node.Ext k b s) G j u i h e = one_kind i j k u h.0 e h.3
    kinds_typed (node.If a b c) G j u i h e = by_first (kind_of_items b) (kind_of_items c) i j (λ k is. kinds_typed b G j u k h.1 is) (λ k is. kinds_typed c G j u k h.2 is) e
    kinds_typed (node.Let a b) G j u i h e = kinds_typed b (h.0 ∷ G) j u i h.2 e
    kinds_typed (node.Prim c ps) G j u i h e = no_kind i j e
    kinds_typed (node.Scan c) G j u i h e = one_kind i j c.kind u h.0 e h.1
    kinds_typed (node.Join n k how o cs x q b) G j u i h e = one_kind i j k u h.0 e h.4
    kinds_typed (node.Memo n frees p) G j u i h e = kinds_typed p G j u i h.3 e

    kinds_of_branches : (bs : Branches) (G : List Ground) (r : Row) (j : Kind) (u : Ground) (i : Kind) → BranchTypes Of Listed G bs r (coll j u) → kind_of_branches bs ≡ Some i → i ≡ j
    kinds_of_branches no_branches G r j u i h e = no_kind i j e
    kinds_of_branches (rest c) G r j u i h e = kinds_typed c G j u i h e
    kinds_of_branches (branch l b bs) G r j u i h e = by_first (kind_of_items b) (kind_of_branches bs) i j (λ k is. kinds_typed b (h.0 ∷ G) j u k h.2 is) (λ k is. kinds_of_branches bs G r j u k h.3 is) e
