-- How deep a plan's positions are bound, by its form.
use Rattle.std.proofs.Common.{◌≡◌, ℕ, ◌+◌, ◌-◌, ◌^◌, List, [], ◌∷◌, map, max, min, Option, sym, ap, ◌∙◌, rules, arith}
use Rattle.kl_value.specs.declared.Kind.{Kind}
use Rattle.kl_outcome.specs.Outcome.{Name}
use Rattle.kl_plan.specs.declared.plan.Plan.{Plan, the_lemmas}
use Rattle.kl_plan.specs.declared.plan.Plan.TheVariants as plan
use Rattle.kl_plan.specs.Joins.{other_node}
use Rattle.kl_plan.specs.Nodes.{Branches, branches_of, view, view_branch, fields_view}
use Rattle.kl_plan.proofs.Views.{view_Case}
use Rattle.kl_joins.specs.Keeping.{binders, binders_of_fields, binders_of_branches}

abbrev pub depth : Plan → ℕ
depth p = binders (view p)

abbrev depth_fields : List (Name × Plan) → ℕ
depth_fields fs = binders_of_fields (fields_view fs)

abbrev depth_other : Option Plan → ℕ
depth_other c = binders_of_branches (other_node c)

pub depth_Union : (a b : Plan) → depth (plan.Union a b) ≡ max (depth a) (depth b)
depth_Union a b = search (rules, the_lemmas)

pub depth_Ext : (k : Kind) (b s : Plan) → depth (plan.Ext k b s) ≡ max (depth s) (depth b + 1)
depth_Ext k b s = search (rules, the_lemmas)

pub depth_Let : (a b : Plan) → depth (plan.Let a b) ≡ max (depth a) (depth b + 1)
depth_Let a b = search (rules, the_lemmas)

pub depth_If : (a b c : Plan) → depth (plan.If a b c) ≡ max (depth a) (max (depth b) (depth c))
depth_If a b c = search (rules, the_lemmas)

pub ruleset depth_rules = (depth_Union, depth_Ext, depth_Let, depth_If)

branches_deep : (bs : List (Name × Plan)) (last : Branches)
    → binders_of_branches (branches_of (map view_branch bs) last) ≡ max (depth_fields bs) (binders_of_branches last)
branches_deep [] last = omega arith
branches_deep (b ∷ bs) last = let h = branches_deep bs last in omega (arith, h)

depth_Case : (a : Plan) (bs : List (Name × Plan)) (c : Option Plan)
    → depth (plan.Case a bs c) ≡ max (depth a) (max (depth_fields bs) (depth_other c) + 1)
depth_Case a bs c =
    ap binders (view_Case a bs c) ∙ ap (λ n. max (depth a) (n + 1)) (branches_deep bs (other_node c))

three : (a b c m n k q r s : ℕ) → m ≡ min a (2 ^ 32 - 1) → n ≡ min b (2 ^ 32 - 1) → k ≡ min c (2 ^ 32 - 1) → q ≡ max n k
    → r ≡ min (q + 1) (2 ^ 32 - 1) → s ≡ max m r → s ≡ min (max a (max b c + 1)) (2 ^ 32 - 1)
three a b c m n k q r s e f g h i j = omega arith

pub case_deep : (p a b : Plan) (bs cs : List (Name × Plan)) (o : Option Plan) (m n k q r s : ℕ) → p ≡ plan.Case a bs o → b ≡ a
    → m ≡ min (depth b) (2 ^ 32 - 1) → cs ≡ bs → n ≡ min (depth_fields cs) (2 ^ 32 - 1) → k ≡ min (depth_other o) (2 ^ 32 - 1)
    → q ≡ max n k → r ≡ min (q + 1) (2 ^ 32 - 1) → s ≡ max m r → s ≡ min (depth p) (2 ^ 32 - 1)
case_deep p a b bs cs o m n k q r s is first e choices f g h i j =
    three (depth a) (depth_fields bs) (depth_other o) m n k q r s (e ∙ ap (λ x. min (depth x) (2 ^ 32 - 1)) first)
    (f ∙ ap (λ x. min (depth_fields x) (2 ^ 32 - 1)) choices) g h i j
    ∙ ap (λ x. min x (2 ^ 32 - 1)) (sym (ap depth is ∙ depth_Case a bs o))
