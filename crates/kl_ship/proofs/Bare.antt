-- No join and no memo stands in what is sent.
use Rattle.std.proofs.Common.{⊎_elim, ℕ, Bool, List, refl, sym, subst}
use Rattle.kl_core.specs.Trees.{Tree, Trees, Parts, Arms}
use Rattle.kl_plan.specs.Nodes as node
use Rattle.kl_plan.specs.Nodes.{Node, Nodes, no_nodes, nodes, Fields, no_fields, fields, Branches, no_branches, rest, branch}
use Rattle.kl_joins.specs.Bare.{Bare, BareNodes, BareFields, BareBranches}
use Rattle.kl_plan.proofs.Empty.{none_both}
use Rattle.kl_ship.specs.declared.needs.Need.{Need}
use Rattle.kl_ship.specs.declared.needs.Need.TheVariants as need
use Rattle.kl_ship.specs.declared.source.ShipSource.{ShipSource}
use Rattle.kl_ship.specs.Ships.{passed_on, Becomes, TreesBecome, PartsBecome, ArmsBecome}

module _ (on : Bool) (ss : List ShipSource) where
  mutual
    pub sent_bare : (p : Node) (u : Need) (t : Tree) (n m : ℕ) → Becomes on ss u t n p m → Bare p
    sent_bare (node.Plain x) u t n m w = (refl, refl)
    sent_bare (node.Var x) u t n m w = (refl, refl)
    sent_bare (node.Rec ps) u t n m w = fields_bare ps need.Whole w.0 n m w.2
    sent_bare (node.Proj l a) u t n m w = sent_bare a need.Whole w.0 n m w.2
    sent_bare (node.Inj l a) u t n m w = sent_bare a need.Whole w.0 n m w.2
    sent_bare (node.Case a bs) u t n m w =
        let f = sent_bare a need.Whole w.0 n w.2 w.4 in
        let g = branches_bare bs (passed_on u) w.1 w.2 m w.5 in
        (none_both _ _ f.0 g.0, none_both _ _ f.1 g.1)
    sent_bare (node.Make k ps) u t n m w = nodes_bare ps w.0 n m w.2
    sent_bare (node.Union a b) u t n m w =
        let f = sent_bare a (passed_on u) w.0 n w.2 w.4 in
        let g = sent_bare b (passed_on u) w.1 w.2 m w.5 in
        (none_both _ _ f.0 g.0, none_both _ _ f.1 g.1)
    sent_bare (node.Ext k b s) u t n m w =
        let f : Bare s = ⊎_elim (λ a. sent_bare s (need.Source k) w.1 n w.3 a.2) (λ a. subst Bare (sym a.1.plan) (refl, refl)) w.5 in
        let g = sent_bare b need.Items w.2 w.3 m w.6 in
        (none_both _ _ f.0 g.0, none_both _ _ f.1 g.1)
    sent_bare (node.If a b c) u t n m w =
        let f = sent_bare a need.Whole w.0 n w.3 w.6 in
        let g = sent_bare b (passed_on u) w.1 w.3 w.4 w.7 in
        let h = sent_bare c (passed_on u) w.2 w.4 m w.8 in
        (none_both _ _ f.0 (none_both _ _ g.0 h.0), none_both _ _ f.1 (none_both _ _ g.1 h.1))
    sent_bare (node.Let a b) u t n m w =
        let f = sent_bare a need.Whole w.0 n w.2 w.4 in
        let g = sent_bare b (passed_on u) w.1 w.2 m w.5 in
        (none_both _ _ f.0 g.0, none_both _ _ f.1 g.1)
    sent_bare (node.Prim c ps) u t n m w = nodes_bare ps w.0 n m w.2
    sent_bare (node.Scan c) u t n m w = (refl, refl)
    sent_bare (node.Join number k how o cs c q b) u t n m w = absurd w
    sent_bare (node.Memo number frees p) u t n m w = absurd w

    nodes_bare : (ps : Nodes) (ts : Trees) (n m : ℕ) → TreesBecome on ss ts n ps m → BareNodes ps
    nodes_bare no_nodes ts n m w = (refl, refl)
    nodes_bare (nodes p ps) ts n m w =
        let f = sent_bare p need.Whole w.0 n w.2 w.4 in
        let g = nodes_bare ps w.1 w.2 m w.5 in
        (none_both _ _ f.0 g.0, none_both _ _ f.1 g.1)

    fields_bare : (ps : Fields) (u : Need) (ts : Parts) (n m : ℕ) → PartsBecome on ss u ts n ps m → BareFields ps
    fields_bare no_fields u ts n m w = (refl, refl)
    fields_bare (fields l p ps) u ts n m w =
        let f = sent_bare p u w.0 n w.2 w.4 in
        let g = fields_bare ps u w.1 w.2 m w.5 in
        (none_both _ _ f.0 g.0, none_both _ _ f.1 g.1)

    branches_bare : (bs : Branches) (u : Need) (ts : Arms) (n m : ℕ) → ArmsBecome on ss u ts n bs m → BareBranches bs
    branches_bare no_branches u ts n m w = (refl, refl)
    branches_bare (rest c) u ts n m w = sent_bare c u w.0 n m w.2
    branches_bare (branch l b bs) u ts n m w =
        let f = sent_bare b u w.0 n w.2 w.4 in
        let g = branches_bare bs u w.1 w.2 m w.5 in
        (none_both _ _ f.0 g.0, none_both _ _ f.1 g.1)
