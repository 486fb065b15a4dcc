-- What is looked for in all parts of a case: in its branches, in the rest, or not at all.
use Rattle.std.proofs.Common.{◌≡◌, Bool, true, false, ◌&&◌, ◌||◌, List, [], ◌∷◌, map, Option, Some, None, refl, sym, ap, ◌∙◌}
use Rattle.std.proofs.Math.Bool.{and_assoc}
use Rattle.kl_outcome.specs.Outcome.{Name}
use Rattle.kl_core.specs.Trees.{Tree}
use Rattle.kl_core.specs.Counts.{total_in, total_parts, total_arms}
use Rattle.kl_plan.specs.declared.plan.Plan.{Plan}
use Rattle.kl_plan.specs.declared.plan.Plan.TheVariants as plan
use Rattle.kl_plan.specs.Erased.{erased, erased_fields, erased_branches}
use Rattle.kl_plan.specs.Joins.{other_node}
use Rattle.kl_plan.specs.Nodes.{Branches, branches_of, view, view_branch, fields_view}
use Rattle.kl_plan.proofs.Views.{view_Case}

module _ {P : Type 0} (here : P → Bool) (inside : List (Name × P) → Bool) (beyond : Option P → Bool) where
  -- a search of all parts, and a demand on all of them
  abbrev pub IsSearch : P → P → List (Name × P) → Option P → Type 0
  IsSearch t a ps c = here t ≡ (here a || (inside ps || beyond c))

  abbrev pub IsDemand : P → P → List (Name × P) → Option P → Type 0
  IsDemand t a ps c = here t ≡ (here a && (inside ps && beyond c))

  behind : (t a b : P) (ps qs : List (Name × P)) (c : Option P) (r s : Bool) → IsSearch t a ps c → b ≡ a → r ≡ here b → r ≡ false → qs ≡ ps → s ≡ inside qs → here t ≡ (s || beyond c)
  behind t a b ps qs c r s e f g h i j =
      let none : here a ≡ false = ap here (sym f) ∙ sym g ∙ h in
      e ∙ ap (λ x. x || (inside ps || beyond c)) none ∙ ap (λ x. x || beyond c) (sym (j ∙ ap inside i))

  pub found_inside : (t a b : P) (ps qs : List (Name × P)) (c : Option P) (r s : Bool) → IsSearch t a ps c → b ≡ a → r ≡ here b → r ≡ false → qs ≡ ps → s ≡ inside qs → s ≡ true → true ≡ here t
  found_inside t a b ps qs c r s e f g h i j k = sym (behind t a b ps qs c r s e f g h i j ∙ ap (λ x. x || beyond c) k)

  pub found_beyond : (t a b : P) (ps qs : List (Name × P)) (c d : Option P) (r s q : Bool) → IsSearch t a ps c → b ≡ a → r ≡ here b → r ≡ false → qs ≡ ps → s ≡ inside qs → s ≡ false
      → d ≡ c → q ≡ beyond d → q ≡ here t
  found_beyond t a b ps qs c d r s q e f g h i j k l m = m ∙ ap beyond l ∙ sym (behind t a b ps qs c r s e f g h i j ∙ ap (λ x. x || beyond c) k)

  pub found_other : (t a b o d : P) (ps qs : List (Name × P)) (c : Option P) (r s q : Bool) → IsSearch t a ps c → b ≡ a → r ≡ here b → r ≡ false → qs ≡ ps → s ≡ inside qs → s ≡ false
      → c ≡ Some o → d ≡ o → q ≡ beyond (Some d) → q ≡ here t
  found_other t a b o d ps qs c r s q e f g h i j k l m n =
      n ∙ ap (λ x. beyond (Some x)) m ∙ sym (behind t a b ps qs c r s e f g h i j ∙ ap (λ x. x || beyond c) k ∙ ap beyond l)

  pub found_nowhere : (t a b : P) (ps qs : List (Name × P)) (c : Option P) (r s : Bool) → IsSearch t a ps c → b ≡ a → r ≡ here b → r ≡ false → qs ≡ ps → s ≡ inside qs → s ≡ false
      → c ≡ None → false ≡ beyond None → false ≡ here t
  found_nowhere t a b ps qs c r s e f g h i j k l m = m ∙ sym (behind t a b ps qs c r s e f g h i j ∙ ap (λ x. x || beyond c) k ∙ ap beyond l)

  ahead : (t a b : P) (ps qs : List (Name × P)) (c : Option P) (r s : Bool) → IsDemand t a ps c → b ≡ a → r ≡ here b → r ≡ true → qs ≡ ps → s ≡ inside qs → here t ≡ (s && beyond c)
  ahead t a b ps qs c r s e f g h i j =
      let met : here a ≡ true = ap here (sym f) ∙ sym g ∙ h in
      e ∙ ap (λ x. x && (inside ps && beyond c)) met ∙ ap (λ x. x && beyond c) (sym (j ∙ ap inside i))

  pub missed_inside : (t a b : P) (ps qs : List (Name × P)) (c : Option P) (r s : Bool) → IsDemand t a ps c → b ≡ a → r ≡ here b → r ≡ true → qs ≡ ps → s ≡ inside qs → s ≡ false → false ≡ here t
  missed_inside t a b ps qs c r s e f g h i j k = sym (ahead t a b ps qs c r s e f g h i j ∙ ap (λ x. x && beyond c) k)

  pub met_other : (t a b o d : P) (ps qs : List (Name × P)) (c : Option P) (r s q : Bool) → IsDemand t a ps c → b ≡ a → r ≡ here b → r ≡ true → qs ≡ ps → s ≡ inside qs → s ≡ true
      → c ≡ Some o → d ≡ o → q ≡ beyond (Some d) → q ≡ here t
  met_other t a b o d ps qs c r s q e f g h i j k l m n =
      n ∙ ap (λ x. beyond (Some x)) m ∙ sym (ahead t a b ps qs c r s e f g h i j ∙ ap (λ x. x && beyond c) k ∙ ap beyond l)

  pub met_everywhere : (t a b : P) (ps qs : List (Name × P)) (c : Option P) (r s : Bool) → IsDemand t a ps c → b ≡ a → r ≡ here b → r ≡ true → qs ≡ ps → s ≡ inside qs → s ≡ true
      → c ≡ None → true ≡ beyond None → true ≡ here t
  met_everywhere t a b ps qs c r s e f g h i j k l m = m ∙ sym (ahead t a b ps qs c r s e f g h i j ∙ ap (λ x. x && beyond c) k ∙ ap beyond l)

abbrev pub as_term : Plan → Tree
as_term p = erased (view p)

total_choices : (bs : List (Name × Plan)) (last : Branches)
    → total_arms (erased_branches (branches_of (map view_branch bs) last)) ≡ (total_parts (erased_fields (fields_view bs)) && total_arms (erased_branches last))
total_choices [] last = refl
total_choices (b ∷ bs) last =
    ap (λ x. total_in (as_term b.1) && x) (total_choices bs last)
    ∙ sym (and_assoc (total_in (as_term b.1)) (total_parts (erased_fields (fields_view bs))) (total_arms (erased_branches last)))

pub plan_total_case : (p a : Plan) (bs : List (Name × Plan)) (c : Option Plan) → p ≡ plan.Case a bs c
    → total_in (as_term p) ≡ (total_in (as_term a) && (total_parts (erased_fields (fields_view bs)) && total_arms (erased_branches (other_node c))))
plan_total_case p a bs c e = ap (λ x. total_in (erased x)) (ap view e ∙ view_Case a bs c) ∙ ap (λ b. total_in (as_term a) && b) (total_choices bs (other_node c))
