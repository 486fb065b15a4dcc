-- Whether a scan stands in a plan, from what the code has.
use Rattle.std.proofs.Common.{◌≡◌, ◌||◌, ◌⊎◌, ⊎_elim, Bool, true, false, ℕ, nat_lt, List, [], ◌∷◌, length, map, Option, Some, None, refl, sym, ap, ◌∙◌, arith, rules}
use Rattle.kl_value.specs.declared.Kind.{Kind}
use Rattle.kl_outcome.specs.Outcome.{Name}
use Rattle.kl_plan.specs.Nodes as node
use Rattle.kl_plan.specs.Joins.{join_view}
use Rattle.kl_plan.specs.Nodes.{Branches, branches_of, fields_view, nodes_view, view, view_branch}
use Rattle.kl_plan.specs.Joins.{other_node}
use Rattle.kl_plan.specs.declared.plan.Join.{Join}
use Rattle.kl_plan.specs.declared.plan.Plan.{Plan, the_lemmas}
use Rattle.kl_plan.specs.declared.plan.Plan.TheVariants as plans
use Rattle.kl_plan.specs.declared.plan.Scan.{Scan}
use Rattle.kl_plan.proofs.Views.{view_Case, view_Make, view_Memo, view_Scan, view_Join}
use Rattle.kl_cursor.specs.Pulling.{has_scan, has_scan_fields, has_scan_branches, gives}

or_again : (a b c : Bool) → (a || (b || c)) ≡ ((a || b) || c)
or_again true b c = refl
or_again false b c = refl

branches_then : (bs : List (Name × Plan)) (l : Branches) → has_scan_branches (branches_of (map view_branch bs) l) ≡ (has_scan_fields (fields_view bs) || has_scan_branches l)
branches_then [] l = refl
branches_then (b ∷ bs) l =
    ap (λ y. has_scan (view b.1) || y) (branches_then bs l) ∙ or_again (has_scan (view b.1)) (has_scan_fields (fields_view bs)) (has_scan_branches l)

case_scans : (t a : Plan) (ps : List (Name × Plan)) (c : Option Plan) → t ≡ plans.Case a ps c → has_scan (view t) ≡ (has_scan (view a) || (has_scan_fields (fields_view ps) || has_scan_branches (other_node c)))
case_scans t a ps c e =
    ap has_scan (ap view e ∙ view_Case a ps c) ∙ ap (λ y. has_scan (view a) || y) (branches_then ps (other_node c))

module _ (t a d : Plan) (ps qs : List (Name × Plan)) (c : Option Plan) (x y : Bool) (e : t ≡ plans.Case a ps c) (f : d ≡ a) (g : x ≡ has_scan (view d)) (off : x ≡ false) (h : qs ≡ ps) (k : y ≡ has_scan_fields (fields_view qs)) where
  case_is : has_scan (view t) ≡ (y || has_scan_branches (other_node c))
  case_is =
      case_scans t a ps c e
      ∙ ap (λ q. q || (has_scan_fields (fields_view ps) || has_scan_branches (other_node c))) (ap (λ q. has_scan (view q)) (sym f) ∙ sym g ∙ off)
      ∙ ap (λ q. q || has_scan_branches (other_node c)) (ap (λ q. has_scan_fields (fields_view q)) (sym h) ∙ sym k)

  pub case_found : y ≡ true → true ≡ has_scan (view t)
  case_found on = sym (case_is ∙ ap (λ q. q || has_scan_branches (other_node c)) on)

  pub case_other : (o i : Plan) (r : Bool) → y ≡ false → c ≡ Some o → i ≡ o → r ≡ has_scan (view i) → r ≡ has_scan (view t)
  case_other o i r none is at m = m ∙ ap (λ q. has_scan (view q)) at ∙ sym (case_is ∙ ap (λ q. q || has_scan_branches (other_node c)) none ∙ ap (λ q. has_scan_branches (other_node q)) is)

  pub case_none : y ≡ false → c ≡ None → false ≡ has_scan (view t)
  case_none none is = sym (case_is ∙ ap (λ q. q || has_scan_branches (other_node c)) none ∙ ap (λ q. has_scan_branches (other_node q)) is)

-- a literal gives an item where it has a part
pub make_gives : (t : Plan) (k : Kind) (ps : List Plan) (n : ℕ) → t ≡ plans.Make k ps → n ≡ length ps → nat_lt 0 n ≡ gives (view t)
make_gives t k ps n e f = ap (nat_lt 0) f ∙ by_parts ps ∙ sym (ap gives (ap view e ∙ view_Make k ps))
  where
    by_parts : (qs : List Plan) → nat_lt 0 (length qs) ≡ gives (node.Make k (nodes_view qs))
    by_parts [] = refl
    by_parts (q ∷ qs) = grind arith

join_scans : (j : Join) → has_scan (join_view j) ≡ true
join_scans j = search (rules, the_lemmas)

pub scan_found : (t : Plan) → ((c : Scan) × (t ≡ plans.Scan c)) ⊎ (((j : Join) × (t ≡ plans.Join j)) ⊎ ((n : ℕ) × (frees : List ℕ) × (p : Plan) × (t ≡ plans.Memo n frees p))) → true ≡ has_scan (view t)
scan_found t =
    ⊎_elim (λ h. sym (ap has_scan (ap view h.1 ∙ view_Scan h.0)))
    (⊎_elim (λ h. sym (ap has_scan (ap view h.1 ∙ view_Join h.0) ∙ join_scans h.0)) (λ h. sym (ap has_scan (ap view h.3 ∙ view_Memo h.0 h.1 h.2))))
