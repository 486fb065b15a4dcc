-- A term of many parts has low positions where each part has.
use Rattle.std.proofs.Common.{◌≡◌, List, [], ◌∷◌, ℕ, map, All, Option, Some, None, sym, subst, ap, ◌∙◌}
use Rattle.std.specs.Prelude.{IfSome}
use Rattle.std.specs.List.{AllByRecursion}
use Rattle.std.proofs.lemmas.List.Elements.{recursion_from_All}
use Rattle.kl_value.specs.declared.Kind.{Kind}
use Rattle.kl_core.specs.declared.term.Term.{Term}
use Rattle.kl_core.specs.declared.term.Term.TheVariants as term
use Rattle.kl_core.specs.Trees.{arms_of, rest_of, view, view_part, trees_view, parts_view}
use Rattle.kl_core.specs.Leaves.{Leaves, LeavesOfTrees, LeavesOfParts, LeavesOfArms}
use Rattle.kl_core.specs.Positions.{AnySource}
use Rattle.kl_core.proofs.Views.{view_Rec, view_Make, view_Prim, view_Case, view_option}
use Rattle.kl_rules.specs.Rewriting.{IsLowPosition}

low_trees : (ts : List Term) → AllByRecursion (λ t. Leaves IsLowPosition AnySource (view t)) ts → LeavesOfTrees IsLowPosition AnySource (trees_view ts)
low_trees [] h = tt
low_trees (t ∷ ts) h = (h.0, low_trees ts h.1)

low_parts : (ps : List (List ℕ × Term)) → AllByRecursion (λ p. Leaves IsLowPosition AnySource (view p.1)) ps → LeavesOfParts IsLowPosition AnySource (parts_view ps)
low_parts [] h = tt
low_parts (p ∷ ps) h = (h.0, low_parts ps h.1)

low_arms : (ps : List (List ℕ × Term)) (c : Option Term) → AllByRecursion (λ p. Leaves IsLowPosition AnySource (view p.1)) ps → IfSome c (λ t. Leaves IsLowPosition AnySource (view t))
    → LeavesOfArms IsLowPosition AnySource (arms_of (map view_part ps) (rest_of (view_option c)))
low_arms [] None h k = tt
low_arms [] (Some t) h k = k
low_arms (p ∷ ps) c h k = (h.0, low_arms ps c h.1 k)

pub low_Rec : (t : Term) (ps : List (List ℕ × Term)) → t ≡ term.Rec ps → All (λ p. Leaves IsLowPosition AnySource (view p.1)) ps → Leaves IsLowPosition AnySource (view t)
low_Rec t ps e h = subst (Leaves IsLowPosition AnySource) (sym (ap view e ∙ view_Rec ps)) (low_parts ps (recursion_from_All _ ps h))

pub low_Make : (t : Term) (k : Kind) (ts : List Term) → t ≡ term.Make k ts → All (λ t. Leaves IsLowPosition AnySource (view t)) ts → Leaves IsLowPosition AnySource (view t)
low_Make t k ts e h = subst (Leaves IsLowPosition AnySource) (sym (ap view e ∙ view_Make k ts)) (low_trees ts (recursion_from_All _ ts h))

pub low_Prim : (t : Term) (c : ℕ) (ts : List Term) → t ≡ term.Prim c ts → All (λ t. Leaves IsLowPosition AnySource (view t)) ts → Leaves IsLowPosition AnySource (view t)
low_Prim t c ts e h = subst (Leaves IsLowPosition AnySource) (sym (ap view e ∙ view_Prim c ts)) (low_trees ts (recursion_from_All _ ts h))

pub low_Case : (t a : Term) (ps : List (List ℕ × Term)) (c : Option Term) → t ≡ term.Case a ps c → Leaves IsLowPosition AnySource (view a)
    → All (λ p. Leaves IsLowPosition AnySource (view p.1)) ps → IfSome c (λ t. Leaves IsLowPosition AnySource (view t)) → Leaves IsLowPosition AnySource (view t)
low_Case t a ps c e h i k = subst (Leaves IsLowPosition AnySource) (sym (ap view e ∙ view_Case a ps c)) (h, low_arms ps c (recursion_from_All _ ps i) k)
