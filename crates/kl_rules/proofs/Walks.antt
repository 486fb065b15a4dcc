-- What walks over terms find in a case.
use Rattle.std.proofs.Common.{◌≡◌, ℕ, ◌+◌, min, Bool, true, false, ◌&&◌, cond, nat_eq, List, [], ◌∷◌, map, Option, Some, None, refl, sym, ap, subst, ◌∙◌, arith}
use Rattle.std.specs.Cmp.Lexicographic.{pointwise}
use Rattle.std.proofs.Math.Bool.{and_assoc}
use Rattle.kl_base.specs.Fields.{field}
use Rattle.kl_outcome.specs.Outcome.{Name}
use Rattle.std.specs.Option.{option_map}
use Rattle.kl_core.specs.declared.term.Term.{Term}
use Rattle.kl_core.specs.declared.term.Term.TheVariants as term
use Rattle.kl_core.specs.Trees.{Arms, arms_of, rest_of, view, view_part, parts_view}
use Rattle.kl_core.specs.Leaves.{LeavesOfArms}
use Rattle.kl_core.specs.Positions.{AnySource, ArmsInRange, shift_of, shift_arms}
use Rattle.kl_core.proofs.Views.{view_Case, view_option}
use Rattle.kl_rules.specs.Guards.{uses_in, uses_parts, uses_arms, plain_in, plain_parts, plain_arms}
use Rattle.kl_rules.specs.Rules.{part_of, branch_of}
use Rattle.kl_rules.specs.Rewriting.{IsLowPosition, IsShiftable}
use Rattle.kl_rules.proofs.Lows.{low_raised_arms}

-- ---- uses

uses_branches : (n : ℕ) (ps : List (Name × Term)) (last : Arms) → uses_arms n (arms_of (map view_part ps) last) ≡ uses_parts (n + 1) (parts_view ps) + uses_arms n last
uses_branches n [] last = omega arith
uses_branches n (p ∷ ps) last = let e = uses_branches n ps last in omega (arith, e)

pub uses_case : (n : ℕ) (t a : Term) (ps : List (Name × Term)) (c : Option Term) → t ≡ term.Case a ps c
    → uses_in n (view t) ≡ uses_in n (view a) + (uses_parts (n + 1) (parts_view ps) + uses_arms n (rest_of (view_option c)))
uses_case n t a ps c e = ap (uses_in n) (ap view e ∙ view_Case a ps c) ∙ ap (λ m. uses_in n (view a) + m) (uses_branches n ps (rest_of (view_option c)))

-- ---- one type

plain_branches : (ps : List (Name × Term)) (last : Arms) → plain_arms (arms_of (map view_part ps) last) ≡ (plain_parts (parts_view ps) && plain_arms last)
plain_branches [] last = refl
plain_branches (p ∷ ps) last = ap (λ b. plain_in (view p.1) && b) (plain_branches ps last) ∙ sym (and_assoc (plain_in (view p.1)) (plain_parts (parts_view ps)) (plain_arms last))

pub plain_case : (t a : Term) (ps : List (Name × Term)) (c : Option Term) → t ≡ term.Case a ps c
    → plain_in (view t) ≡ (plain_in (view a) && (plain_parts (parts_view ps) && plain_arms (rest_of (view_option c))))
plain_case t a ps c e = ap plain_in (ap view e ∙ view_Case a ps c) ∙ ap (λ b. plain_in (view a) && b) (plain_branches ps (rest_of (view_option c)))

-- ---- what is chosen

last_low : (ps : List (Name × Term)) (last : Arms) → LeavesOfArms IsLowPosition AnySource (arms_of (map view_part ps) last) → LeavesOfArms IsLowPosition AnySource last
last_low [] last h = h
last_low (p ∷ ps) last h = last_low ps last h.1

pub other_raised : (t a : Term) (ps : List (Name × Term)) (c d : Option Term) → t ≡ term.Case a ps c → d ≡ c → IsShiftable (view t) → ArmsInRange (shift_arms (rest_of (view_option d)) 0 1)
other_raised t a ps c d e f h =
    let g = subst IsShiftable (ap view e ∙ view_Case a ps c) h in
    subst (λ o. ArmsInRange (shift_arms (rest_of (view_option o)) 0 1)) (sym f) (low_raised_arms (rest_of (view_option c)) 0 1 (omega arith) (last_low ps (rest_of (view_option c)) g.0.1))

pub part_found : (l : Name) (ps : List (Name × Term)) → part_of l (parts_view ps) ≡ option_map view (field l ps)
part_found l [] = refl
part_found l (p ∷ ps) = by_bit (pointwise nat_eq l p.0) (part_found l ps)
  where
    by_bit : (b : Bool) → part_of l (parts_view ps) ≡ option_map view (field l ps) → cond b (Some (view p.1)) (part_of l (parts_view ps)) ≡ option_map view (cond b (Some p.1) (field l ps))
    by_bit true next = refl
    by_bit false next = next

branch_found : (l : Name) (ps : List (Name × Term)) (last : Arms) (a : Term) → field l ps ≡ Some a → branch_of l (arms_of (map view_part ps) last) ≡ Some (view a)
branch_found l [] last a e = absurd cc
branch_found l (p ∷ ps) last a e = by_bit (pointwise nat_eq l p.0) e (branch_found l ps last a)
  where
    by_bit : (b : Bool) → cond b (Some p.1) (field l ps) ≡ Some a → (field l ps ≡ Some a → branch_of l (arms_of (map view_part ps) last) ≡ Some (view a))
        → cond b (Some (view p.1)) (branch_of l (arms_of (map view_part ps) last)) ≡ Some (view a)
    by_bit true e next = ap (option_map view) e
    by_bit false e next = next e

no_branch_found : (l : Name) (ps : List (Name × Term)) (last : Arms) → field l ps ≡ None → branch_of l (arms_of (map view_part ps) last) ≡ branch_of l last
no_branch_found l [] last e = refl
no_branch_found l (p ∷ ps) last e = by_bit (pointwise nat_eq l p.0) e (no_branch_found l ps last)
  where
    by_bit : (b : Bool) → cond b (Some p.1) (field l ps) ≡ None → (field l ps ≡ None → branch_of l (arms_of (map view_part ps) last) ≡ branch_of l last)
        → cond b (Some (view p.1)) (branch_of l (arms_of (map view_part ps) last)) ≡ branch_of l last
    by_bit true e next = absurd cc
    by_bit false e next = next e

pub branch_some : (l : Name) (ps : List (Name × Term)) (last : Arms) (f : Option Term) (x r : Term) → f ≡ field l ps → f ≡ Some x → r ≡ x → Some (view r) ≡ branch_of l (arms_of (map view_part ps) last)
branch_some l ps last f x r e g h = ap (λ y. Some (view y)) h ∙ sym (branch_found l ps last x (sym e ∙ g))

pub branch_other : (l : Name) (ps : List (Name × Term)) (c f : Option Term) (d b r : Term) → f ≡ field l ps → f ≡ None → c ≡ Some d → b ≡ d → view r ≡ shift_of (view b) 0 1
    → Some (view r) ≡ branch_of l (arms_of (map view_part ps) (rest_of (view_option c)))
branch_other l ps c f d b r e g h i j =
    ap (λ y. Some y) (j ∙ ap (λ x. shift_of (view x) 0 1) i)
    ∙ sym (no_branch_found l ps (rest_of (view_option c)) (sym e ∙ g) ∙ ap (λ o. branch_of l (rest_of (view_option o))) h)

pub branch_none : (l : Name) (ps : List (Name × Term)) (c f : Option Term) → f ≡ field l ps → f ≡ None → c ≡ None → None ≡ branch_of l (arms_of (map view_part ps) (rest_of (view_option c)))
branch_none l ps c f e g h = sym (no_branch_found l ps (rest_of (view_option c)) (sym e ∙ g) ∙ ap (λ o. branch_of l (rest_of (view_option o))) h)

-- a sum of three, each as far as two
pub sums_two : (x y z a b d s r w : ℕ) → w ≡ x + (y + z) → a ≡ min x 2 → b ≡ min y 2 → d ≡ min z 2 → s ≡ min (b + d) 2 → r ≡ min (a + s) 2 → r ≡ min w 2
sums_two x y z a b d s r w whole e f g h i = omega (arith, whole, e, f, g, h, i)
