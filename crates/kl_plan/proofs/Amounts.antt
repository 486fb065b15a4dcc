-- How many scans stand in a plan, by its form.
use Rattle.std.proofs.Common.{◌≡◌, ℕ, ◌+◌, ◌-◌, ◌^◌, List, [], ◌∷◌, length, map, min, Option, sym, ap, ◌∙◌, rules, length-append, arith}
use Rattle.kl_value.specs.declared.Kind.{Kind}
use Rattle.kl_outcome.specs.Outcome.{Name}
use Rattle.kl_plan.specs.declared.plan.Plan.{Plan, the_lemmas}
use Rattle.kl_plan.specs.declared.plan.Plan.TheVariants as plan
use Rattle.kl_plan.specs.Joins.{other_node}
use Rattle.kl_plan.specs.Nodes.{Branches, branches_of, view, view_branch, fields_view}
use Rattle.kl_plan.specs.Numbers.{scans_in, scans_of_fields, scans_of_branches}
use Rattle.kl_plan.proofs.Views.{view_Case}

abbrev pub count : Plan → ℕ
count p = length (scans_in (view p))

abbrev count_fields : List (Name × Plan) → ℕ
count_fields fs = length (scans_of_fields (fields_view fs))

abbrev count_other : Option Plan → ℕ
count_other c = length (scans_of_branches (other_node c))

pub count_Union : (a b : Plan) → count (plan.Union a b) ≡ count a + count b
count_Union a b = search (rules, the_lemmas, length-append)

pub count_Ext : (k : Kind) (b s : Plan) → count (plan.Ext k b s) ≡ count s + count b
count_Ext k b s = search (rules, the_lemmas, length-append)

pub count_Let : (a b : Plan) → count (plan.Let a b) ≡ count a + count b
count_Let a b = search (rules, the_lemmas, length-append)

pub count_If : (a b c : Plan) → count (plan.If a b c) ≡ count a + (count b + count c)
count_If a b c = search (rules, the_lemmas, length-append)

pub ruleset count_rules = (count_Union, count_Ext, count_Let, count_If)

branches_scans : (bs : List (Name × Plan)) (last : Branches) → length (scans_of_branches (branches_of (map view_branch bs) last)) ≡ count_fields bs + length (scans_of_branches last)
branches_scans [] last = omega arith
branches_scans (b ∷ bs) last =
    let h = branches_scans bs last in
    let e = length-append (scans_in (view b.1)) (scans_of_branches (branches_of (map view_branch bs) last)) in
    let f = length-append (scans_in (view b.1)) (scans_of_fields (fields_view bs)) in
    omega (arith, h, e, f)

count_Case : (a : Plan) (bs : List (Name × Plan)) (c : Option Plan) → count (plan.Case a bs c) ≡ count a + (count_fields bs + count_other c)
count_Case a bs c =
    ap (λ p. length (scans_in p)) (view_Case a bs c) ∙ length-append (scans_in (view a)) (scans_of_branches (branches_of (map view_branch bs) (other_node c)))
    ∙ ap (λ n. count a + n) (branches_scans bs (other_node c))

three : (a b c m n k r s : ℕ) → m ≡ min a (2 ^ 32 - 1) → n ≡ min b (2 ^ 32 - 1) → k ≡ min c (2 ^ 32 - 1) → r ≡ min (m + n) (2 ^ 32 - 1) → s ≡ min (r + k) (2 ^ 32 - 1) → s ≡ min (a + (b + c)) (2 ^ 32 - 1)
three a b c m n k r s e f g h i = omega arith

pub counted_case : (p a b : Plan) (bs cs : List (Name × Plan)) (o : Option Plan) (m n k r s : ℕ) → p ≡ plan.Case a bs o → b ≡ a → m ≡ min (count b) (2 ^ 32 - 1) → cs ≡ bs → n ≡ min (count_fields cs) (2 ^ 32 - 1)
    → k ≡ min (count_other o) (2 ^ 32 - 1) → r ≡ min (m + n) (2 ^ 32 - 1) → s ≡ min (r + k) (2 ^ 32 - 1) → s ≡ min (count p) (2 ^ 32 - 1)
counted_case p a b bs cs o m n k r s is first e choices f g h i =
    three (count a) (count_fields bs) (count_other o) m n k r s (e ∙ ap (λ x. min (count x) (2 ^ 32 - 1)) first) (f ∙ ap (λ x. min (count_fields x) (2 ^ 32 - 1)) choices) g h i
    ∙ ap (λ x. min x (2 ^ 32 - 1)) (sym (ap count is ∙ count_Case a bs o))
