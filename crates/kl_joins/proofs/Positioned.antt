-- Where a free position stands in a plan, by its form, and the list of those that do.
use Rattle.std.proofs.Common.{◌≡◌, ℕ, suc, ◌+◌, ◌-◌, ◌<◌, Bool, true, false, ◌||◌, cond, List, [], ◌∷◌, ◌++◌, map, Option}
use Rattle.std.proofs.Common.{refl, sym, ap, ◌∙◌, arith, append_assoc}
use Rattle.kl_outcome.specs.Outcome.{Name}
use Rattle.kl_plan.specs.Joins.{other_node}
use Rattle.kl_plan.specs.Nodes.{Node, Branches, branches_of, fields_view, view, view_branch}
use Rattle.kl_plan.specs.Occurs.{occurs, occurs_fields, occurs_branches, frees_from}
use Rattle.kl_plan.specs.declared.plan.Plan.{Plan}
use Rattle.kl_plan.specs.declared.plan.Plan.TheVariants as plan
use Rattle.kl_plan.proofs.Views.{view_Case}
use Rattle.std.proofs.Math.Bool.{or_assoc}

branches_stand : (n : ℕ) (bs : List (Name × Plan)) (l : Branches)
    → occurs_branches n (branches_of (map view_branch bs) l) ≡ (occurs_fields (n + 1) (fields_view bs) || occurs_branches n l)
branches_stand n [] l = refl
branches_stand n (b ∷ bs) l =
    ap (λ y. occurs (n + 1) (view b.1) || y) (branches_stand n bs l)
    ∙ sym (or_assoc (occurs (n + 1) (view b.1)) (occurs_fields (n + 1) (fields_view bs)) (occurs_branches n l))

pub case_stands : (n : ℕ) (p a : Plan) (bs : List (Name × Plan)) (c : Option Plan) → p ≡ plan.Case a bs c
    → occurs n (view p) ≡ (occurs n (view a) || (occurs_fields (n + 1) (fields_view bs) || occurs_branches n (other_node c)))
case_stands n p a bs c e =
    ap (occurs n) (ap view e ∙ view_Case a bs c) ∙ ap (λ b. occurs n (view a) || b) (branches_stand n bs (other_node c))

-- ---- the list

-- from one position on, below a depth
abbrev pub frees_above : ℕ → ℕ → Node → List ℕ
frees_above n depth p = frees_from n (depth - n) p

frees_next : (n depth : ℕ) (p : Node) → n < depth → frees_above n depth p ≡ cond (occurs n p) (n ∷ frees_above (n + 1) depth p)
    (frees_above (n + 1) depth p)
frees_next n depth p l =
    let more : depth - n ≡ suc (depth - (n + 1)) = omega arith in
    let next : suc n ≡ n + 1 = omega arith in
    ap (λ k. frees_from n k p) more
    ∙ ap (λ m. cond (occurs n p) (n ∷ frees_from m (depth - (n + 1)) p) (frees_from m (depth - (n + 1)) p)) next

pub frees_push : (n depth : ℕ) (p : Node) (b : Bool) (fs gs all : List ℕ) → n < depth → b ≡ occurs n p → b ≡ true → gs ≡ fs ++ n ∷ []
    → fs ++ frees_above n depth p ≡ all → gs ++ frees_above (n + 1) depth p ≡ all
frees_push n depth p b fs gs all l e f g h =
    let on : occurs n p ≡ true = sym e ∙ f in
    let here : frees_above n depth p ≡ n ∷ frees_above (n + 1) depth p = frees_next n depth p l
    ∙ ap (λ x. cond x (n ∷ frees_above (n + 1) depth p) (frees_above (n + 1) depth p)) on in
    ap (λ x. x ++ frees_above (n + 1) depth p) g ∙ append_assoc fs (n ∷ []) (frees_above (n + 1) depth p) ∙ ap (λ x. fs ++ x) (sym here) ∙ h

pub frees_pass : (n depth : ℕ) (p : Node) (b : Bool) (fs all : List ℕ) → n < depth → b ≡ occurs n p → b ≡ false
    → fs ++ frees_above n depth p ≡ all → fs ++ frees_above (n + 1) depth p ≡ all
frees_pass n depth p b fs all l e f h =
    let off : occurs n p ≡ false = sym e ∙ f in
    let here : frees_above n depth p ≡ frees_above (n + 1) depth p = frees_next n depth p l
    ∙ ap (λ x. cond x (n ∷ frees_above (n + 1) depth p) (frees_above (n + 1) depth p)) off in
    ap (λ x. fs ++ x) (sym here) ∙ h
