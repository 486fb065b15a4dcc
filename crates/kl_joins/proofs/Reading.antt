-- Whether a scan stands in a plan, by its form.
use Rattle.std.proofs.Common.{◌≡◌, ◌||◌, ◌⊎◌, ⊎_elim, Bool, true, false, List, [], ◌∷◌, ◌++◌, map, Option, refl, sym, ap, ◌∙◌, rules}
use Rattle.kl_outcome.specs.Outcome.{Name}
use Rattle.kl_plan.specs.Joins.{join_view, other_node}
use Rattle.kl_plan.specs.Nodes.{Branches, branches_of, fields_view, view, view_branch}
use Rattle.kl_plan.specs.Numbers.{scans_in, scans_of_branches, scans_of_fields}
use Rattle.kl_plan.specs.declared.plan.Join.{Join}
use Rattle.kl_plan.specs.declared.plan.Plan.{Plan, the_lemmas}
use Rattle.kl_plan.specs.declared.plan.Plan.TheVariants as plan
use Rattle.kl_plan.specs.declared.plan.Scan.{Scan}
use Rattle.kl_plan.proofs.Views.{view_Case, view_Scan, view_Join}
use Rattle.std.proofs.Math.Bool.{or_assoc}
use Rattle.kl_joins.specs.Reading.{some}

pub some_then : {X : Type 0} (xs ys : List X) → some (xs ++ ys) ≡ (some xs || some ys)
some_then [] ys = refl
some_then (x ∷ xs) ys = refl

pub none_is : {X : Type 0} (b : Bool) (xs : List X) → b ≡ some xs → (b ≡ false → xs ≡ []) × (xs ≡ [] → b ≡ false)
none_is b [] e = (λ f. refl, λ f. e)
none_is b (x ∷ xs) e = (λ f. cc, λ f. cc)

branches_read : (bs : List (Name × Plan)) (l : Branches) → some
    (scans_of_branches (branches_of (map view_branch bs) l)) ≡ (some (scans_of_fields (fields_view bs)) || some (scans_of_branches l))
branches_read [] l = refl
branches_read (b ∷ bs) l =
    some_then (scans_in (view b.1)) (scans_of_branches (branches_of (map view_branch bs) l))
    ∙ ap (λ y. some (scans_in (view b.1)) || y) (branches_read bs l)
    ∙ sym (or_assoc (some (scans_in (view b.1))) (some (scans_of_fields (fields_view bs))) (some (scans_of_branches l)))
    ∙ ap (λ y. y || some (scans_of_branches l)) (sym (some_then (scans_in (view b.1)) (scans_of_fields (fields_view bs))))

pub case_reads : (t a b : Plan) (bs cs : List (Name × Plan)) (o : Option Plan) (r s v : Bool) → t ≡ plan.Case a bs o → b ≡ a
    → r ≡ some (scans_in (view b)) → cs ≡ bs
    → s ≡ (r || some (scans_of_fields (fields_view cs))) → v ≡ (s || some (scans_of_branches (other_node o))) → v ≡ some (scans_in (view t))
case_reads t a b bs cs o r s v is same e branches f g =
    let first : r ≡ some (scans_in (view a)) = e ∙ ap (λ x. some (scans_in (view x))) same in
    let second : s ≡ (some (scans_in (view a)) || some (scans_of_fields (fields_view bs))) = f
    ∙ ap (λ x. r || some (scans_of_fields (fields_view x))) branches ∙ ap (λ x. x || some (scans_of_fields (fields_view bs))) first in
    g ∙ ap (λ x. x || some (scans_of_branches (other_node o))) second
    ∙ or_assoc (some (scans_in (view a))) (some (scans_of_fields (fields_view bs))) (some (scans_of_branches (other_node o)))
    ∙ sym (ap (λ p. some (scans_in p)) (ap view is ∙ view_Case a bs o)
    ∙ some_then (scans_in (view a)) (scans_of_branches (branches_of (map view_branch bs) (other_node o)))
    ∙ ap (λ y. some (scans_in (view a)) || y) (branches_read bs (other_node o)))

-- a join reads its inner rows
any_parts : (xs ys zs : List Scan) (c : Scan) (ws : List Scan) → some (xs ++ (ys ++ (zs ++ (c ∷ ws)))) ≡ true
any_parts (x ∷ xs) ys zs c ws = refl
any_parts [] (y ∷ ys) zs c ws = refl
any_parts [] [] (z ∷ zs) c ws = refl
any_parts [] [] [] c ws = refl

join_reads : (j : Join) → some (scans_in (join_view j)) ≡ true
join_reads j = search (rules, the_lemmas, any_parts)

pub scan_found : (t : Plan) → ((c : Scan) × (t ≡ plan.Scan c)) ⊎ ((j : Join) × (t ≡ plan.Join j)) → true ≡ some (scans_in (view t))
scan_found t =
    ⊎_elim (λ h. sym (ap (λ p. some (scans_in p)) (ap view h.1 ∙ view_Scan h.0)))
    (λ h. sym (ap (λ p. some (scans_in p)) (ap view h.1 ∙ view_Join h.0) ∙ join_reads h.0))
