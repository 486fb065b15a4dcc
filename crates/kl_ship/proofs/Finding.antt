-- What is asked of conditions and of uses of rows, over the parts of a term or of a plan.
use Rattle.std.proofs.Common.{◌≡◌, ◌==◌, ℕ, ◌+◌, ◌<◌, ◌≤◌, Bool, true, false, ◌||◌, List, [], ◌∷◌, map, cond, Option, Some, None, is_some, length, arith, refl, sym, ap, ◌∙◌}
use Rattle.std.proofs.Math.Bool.{or_assoc}
use Rattle.kl_value.specs.declared.Kind.{Kind}
use Rattle.kl_outcome.specs.Outcome.{Name}
use Rattle.kl_core.specs.declared.term.Term.{Term}
use Rattle.kl_core.specs.declared.term.Term.TheVariants as term
use Rattle.kl_core.specs.Trees.{Tree, If, Make, Arms, arms_of, view as term_view, view_part, trees_view, parts_view}
use Rattle.kl_core.proofs.Views.{view_Case as term_Case, view_Make as term_Make}
use Rattle.kl_sqltext.specs.declared.ast.SqlOp.{SqlOp}
use Rattle.kl_sqltext.specs.declared.ast.SqlTest.{SqlTest}
use Rattle.kl_plan.specs.declared.plan.Plan.{Plan}
use Rattle.kl_plan.specs.declared.plan.Plan.TheVariants as plan
use Rattle.kl_ship.specs.Delegation.{comparison, is_empty, is_front, test_by, test_of, taken, taken_before, whole_use, whole_use_parts}
use Rattle.kl_ship.specs.Delegation.{whole_use_arms, column_use, column_use_parts, column_use_arms}
use Rattle.kl_plan.specs.Erased.{erased, erased_nodes, erased_fields, erased_branches}
use Rattle.kl_plan.specs.Nodes.{Branches, branches_of, view, view_branch, nodes_view, fields_view}
use Rattle.kl_ship.specs.Shipping.{other_view}
use Rattle.kl_plan.specs.Joins.{other_node}
use Rattle.kl_plan.proofs.Finding.{as_term}
use Rattle.kl_plan.proofs.Views.{view_Case, view_Make, view_Prim}

-- ---- a comparison with fewer or more sides than two

pub too_few : (n : ℕ) (o : SqlOp) (ts : List Term) → length ts < 2 → false ≡ is_some (test_by n (Some o) (trees_view ts))
too_few n o [] h = refl
too_few n o (t ∷ []) h = refl
too_few n o (t ∷ u ∷ ts) h = absurd (omega (arith, h))

pub too_many : (n : ℕ) (o : SqlOp) (ts : List Term) → 3 ≤ length ts → false ≡ is_some (test_by n (Some o) (trees_view ts))
too_many n o [] h = refl
too_many n o (t ∷ []) h = refl
too_many n o (t ∷ u ∷ []) h = absurd (omega (arith, h))
too_many n o (t ∷ u ∷ w ∷ ts) h = refl

pub plans_too_few : (n : ℕ) (o : SqlOp) (ps : List Plan) → length ps < 2 → false ≡ is_some (test_by n (Some o) (erased_nodes (nodes_view ps)))
plans_too_few n o [] h = refl
plans_too_few n o (p ∷ []) h = refl
plans_too_few n o (p ∷ q ∷ ps) h = absurd (omega (arith, h))

pub plans_too_many : (n : ℕ) (o : SqlOp) (ps : List Plan) → 3 ≤ length ps → false ≡ is_some (test_by n (Some o) (erased_nodes (nodes_view ps)))
plans_too_many n o [] h = refl
plans_too_many n o (p ∷ []) h = refl
plans_too_many n o (p ∷ q ∷ []) h = absurd (omega (arith, h))
plans_too_many n o (p ∷ q ∷ r ∷ ps) h = refl

pub compared_is_test : (r : ℕ) (p : Plan) (k : ℕ) (ps qs : List Plan) (m : Option SqlOp) (o : SqlOp) (x : Bool) → p ≡ plan.Prim k ps
    → m ≡ comparison k → m ≡ Some o
    → qs ≡ ps → x ≡ is_some (test_by r (Some o) (erased_nodes (nodes_view qs))) → x ≡ is_some (test_of r (erased (view p)))
compared_is_test r p k ps qs m o x is from some same h =
    h ∙ ap (λ z. is_some (test_by r (Some o) (erased_nodes (nodes_view z)))) same
    ∙ sym (ap (λ z. is_some (test_of r (erased (view z)))) is ∙ ap (λ z. is_some (test_of r (erased z))) (view_Prim k ps)
    ∙ ap (λ z. is_some (test_by r z (erased_nodes (nodes_view ps)))) (sym from ∙ some))

-- ---- a collection with items

pub not_empty : (k j : Kind) (t : Term) (ts us : List Term) → t ≡ term.Make j ts → us ≡ ts → 1 ≤ length us → false ≡ is_empty k (term_view t)
not_empty k j t ts [] e f h = absurd (omega (arith, h))
not_empty k j t ts (u ∷ us) e f h = sym (ap (λ x. is_empty k (term_view x)) e ∙ ap (is_empty k) (term_Make j ts) ∙ ap (λ x. is_empty k (Make j (trees_view x))) (sym f))

pub plans_not_empty : (k j : Kind) (p : Plan) (ps qs : List Plan) → p ≡ plan.Make j ps → qs ≡ ps → 1 ≤ length qs → false ≡ is_empty k (erased (view p))
plans_not_empty k j p ps [] e f h = absurd (omega (arith, h))
plans_not_empty k j p ps (q ∷ qs) e f h =
    sym (ap (λ x. is_empty k (erased (view x))) e ∙ ap (λ x. is_empty k (erased x)) (view_Make j ps) ∙ ap (λ x. is_empty k (Make j (erased_nodes (nodes_view x)))) (sym f))

-- ---- a front

pub none_of : (o : Option SqlTest) → is_some o ≡ false → o ≡ None
none_of None h = refl
none_of (Some q) h = cc

-- behind a total condition that is no test
pub none_taken : {P : Type 0} (E : P → Tree) (k : Kind) (n : ℕ) (p c d e a b x y : P) (f g r : Bool) → E p ≡ If (E c) (E d) (E e) → a ≡ c → x ≡ e → f ≡ is_front k (E a) (E x) → f ≡ true
    → b ≡ c → g ≡ is_some (test_of n (E b)) → g ≡ false → y ≡ d → r ≡ (length (taken k n (E y)) == 0) → r ≡ (length (taken k n (E p)) == 0)
none_taken E k n p c d e a b x y f g r is ac xe hf tf bc hg ng yd hr =
    let front : is_front k (E c) (E e) ≡ true = sym (ap (λ z. is_front k (E z) (E e)) ac) ∙ sym (ap (λ z. is_front k (E a) (E z)) xe) ∙ sym hf ∙ tf in
    let none : test_of n (E c) ≡ None = none_of (test_of n (E c)) (sym (ap (λ z. is_some (test_of n (E z))) bc) ∙ sym hg ∙ ng) in
    let same : taken k n (E p) ≡ taken k n (E d) =
    ap (taken k n) is ∙ ap (λ z. cond z (taken_before (test_of n (E c)) (taken k n (E d))) []) front ∙ ap (λ o. taken_before o (taken k n (E d))) none in
    hr ∙ ap (λ z. length (taken k n (E z)) == 0) yd ∙ ap (λ z. length z == 0) (sym same)

-- ---- of terms

whole_branches : (n : ℕ) (ps : List (Name × Term)) (last : Arms) → whole_use_arms n (arms_of (map view_part ps) last) ≡ (whole_use_parts (n + 1) (parts_view ps) || whole_use_arms n last)
whole_branches n [] last = refl
whole_branches n (p ∷ ps) last =
    ap (λ b. whole_use (n + 1) (term_view p.1) || b) (whole_branches n ps last) ∙ sym (or_assoc (whole_use (n + 1) (term_view p.1)) (whole_use_parts (n + 1) (parts_view ps)) (whole_use_arms n last))

pub column_branches : (n : ℕ) (m : Name) (ps : List (Name × Term)) (last : Arms) → column_use_arms n m (arms_of (map view_part ps) last) ≡ (column_use_parts (n + 1) m (parts_view ps) || column_use_arms n m last)
column_branches n m [] last = refl
column_branches n m (p ∷ ps) last =
    ap (λ b. column_use (n + 1) m (term_view p.1) || b) (column_branches n m ps last)
    ∙ sym (or_assoc (column_use (n + 1) m (term_view p.1)) (column_use_parts (n + 1) m (parts_view ps)) (column_use_arms n m last))

pub whole_case : (n : ℕ) (t a : Term) (ps : List (Name × Term)) (c : Option Term) → t ≡ term.Case a ps c → whole_use n (term_view t) ≡ (whole_use n (term_view a) || (whole_use_parts (n + 1) (parts_view ps) || whole_use_arms n (other_view c)))
whole_case n t a ps c e = ap (whole_use n) (ap term_view e ∙ term_Case a ps c) ∙ ap (λ b. whole_use n (term_view a) || b) (whole_branches n ps (other_view c))

pub column_case : (n : ℕ) (m : Name) (t a : Term) (ps : List (Name × Term)) (c : Option Term) → t ≡ term.Case a ps c
    → column_use n m (term_view t) ≡ (column_use n m (term_view a) || (column_use_parts (n + 1) m (parts_view ps) || column_use_arms n m (other_view c)))
column_case n m t a ps c e = ap (column_use n m) (ap term_view e ∙ term_Case a ps c) ∙ ap (λ b. column_use n m (term_view a) || b) (column_branches n m ps (other_view c))

-- ---- of plans as terms

whole_choices : (n : ℕ) (bs : List (Name × Plan)) (last : Branches)
    → whole_use_arms n (erased_branches (branches_of (map view_branch bs) last)) ≡ (whole_use_parts (n + 1) (erased_fields (fields_view bs)) || whole_use_arms n (erased_branches last))
whole_choices n [] last = refl
whole_choices n (b ∷ bs) last =
    ap (λ x. whole_use (n + 1) (as_term b.1) || x) (whole_choices n bs last)
    ∙ sym (or_assoc (whole_use (n + 1) (as_term b.1)) (whole_use_parts (n + 1) (erased_fields (fields_view bs))) (whole_use_arms n (erased_branches last)))

column_choices : (n : ℕ) (m : Name) (bs : List (Name × Plan)) (last : Branches)
    → column_use_arms n m (erased_branches (branches_of (map view_branch bs) last)) ≡ (column_use_parts (n + 1) m (erased_fields (fields_view bs)) || column_use_arms n m (erased_branches last))
column_choices n m [] last = refl
column_choices n m (b ∷ bs) last =
    ap (λ x. column_use (n + 1) m (as_term b.1) || x) (column_choices n m bs last)
    ∙ sym (or_assoc (column_use (n + 1) m (as_term b.1)) (column_use_parts (n + 1) m (erased_fields (fields_view bs))) (column_use_arms n m (erased_branches last)))

pub plan_whole_case : (n : ℕ) (p a : Plan) (bs : List (Name × Plan)) (c : Option Plan)
    → p ≡ plan.Case a bs c → whole_use n (as_term p) ≡ (whole_use n (as_term a) || (whole_use_parts (n + 1) (erased_fields (fields_view bs)) || whole_use_arms n (erased_branches (other_node c))))
plan_whole_case n p a bs c e = ap (λ x. whole_use n (erased x)) (ap view e ∙ view_Case a bs c) ∙ ap (λ b. whole_use n (as_term a) || b) (whole_choices n bs (other_node c))

pub plan_column_case : (n : ℕ) (m : Name) (p a : Plan) (bs : List (Name × Plan)) (c : Option Plan) → p ≡ plan.Case a bs c
    → column_use n m (as_term p) ≡ (column_use n m (as_term a) || (column_use_parts (n + 1) m (erased_fields (fields_view bs)) || column_use_arms n m (erased_branches (other_node c))))
plan_column_case n m p a bs c e = ap (λ x. column_use n m (erased x)) (ap view e ∙ view_Case a bs c) ∙ ap (λ b. column_use n m (as_term a) || b) (column_choices n m bs (other_node c))
