-- Measures of values, from what the code has.
use Rattle.std.proofs.Common.{◌≡◌, ⊎_elim, ℕ, ◌+◌, ◌*◌, ◌<◌, ◌≤◌, max, Bool, true, false, cond, List, map, Option, Some, None, slice_get, refl, sym, ap, subst, ◌∙◌, arith}
use mathlib.Core.Logic.{◌⊎◌}
use Rattle.kl_value.specs.declared.Kind.{Kind}
use Rattle.kl_outcome.specs.Outcome.{Name}
use Rattle.kl_eval.specs.Steps.{place_of}
use Rattle.kl_plan.specs.declared.plan.Plan.{Plan}
use Rattle.kl_plan.specs.declared.plan.Plan.TheVariants as plans
use Rattle.kl_plan.specs.declared.plan.Scan.{Scan}
use Rattle.kl_plan.specs.Nodes as node
use Rattle.kl_plan.specs.Nodes.{Node, rest, branches_of, view, view_branch, nodes_view, fields_view}
use Rattle.kl_plan.specs.Joins.{other_node}
use Rattle.kl_core.specs.Trees.{view as term_view}
use Rattle.kl_core.specs.declared.term.Term.{Term}
use Rattle.kl_plan.specs.Kinds.{kind_of_items}
use Rattle.kl_cursor.proofs.ValueCode.{view_Plain}
use Rattle.kl_plan.proofs.Views.{view_Var, view_Rec, view_Proj, view_Inj, view_Case, view_Make, view_Union, view_Ext, view_If, view_Let, view_Prim, view_Scan}
use Rattle.kl_cursor.specs.Measure.{tall, tall_nodes, tall_fields}
use Rattle.kl_cursor.proofs.Whole.{ComesOne, spare, branch_tall, rest_tall}

over_first : (m n : ℕ) → 1 + m ≤ 1 + max m n
over_first m n = omega arith

over_second : (m n : ℕ) → 1 + n ≤ 1 + max m n
over_second m n = omega arith

over_behind : (m n k : ℕ) → m ≤ k → 1 + m ≤ 1 + max n k
over_behind m n k x = omega arith

at_node : (t : Plan) (p : Node) (n : ℕ) → view t ≡ p → n ≤ tall p → n ≤ tall (view t)
at_node t p n e x = let f : tall (view t) ≡ tall p = ap tall e in omega arith

pub rec_down : (t : Plan) (fs gs : List (Name × Plan)) → t ≡ plans.Rec fs → gs ≡ fs → 32 * tall_fields (fields_view gs) + 10 < 32 * tall (view t) + spare (view t)
rec_down t fs gs et eg =
    let e : view t ≡ node.Rec (fields_view gs) = ap view et ∙ view_Rec fs ∙ ap (λ q. node.Rec (fields_view q)) (sym eg) in
    let f : tall (view t) ≡ 1 + tall_fields (fields_view gs) = ap tall e in
    let g : spare (view t) ≡ 5 = ap spare e in
    omega arith

pub call_down : (t : Plan) (c : ℕ) (ps qs : List Plan) → t ≡ plans.Prim c ps → qs ≡ ps → 32 * tall_nodes (nodes_view qs) + 12 < 32 * tall (view t) + spare (view t)
call_down t c ps qs et eq =
    let e : view t ≡ node.Prim c (nodes_view qs) = ap view et ∙ view_Prim c ps ∙ ap (λ q. node.Prim c (nodes_view q)) (sym eq) in
    let f : tall (view t) ≡ 1 + tall_nodes (nodes_view qs) = ap tall e in
    let g : spare (view t) ≡ 5 = ap spare e in
    omega arith

-- ---- parts are lower

pub proj_low : (t : Plan) (l : Name) (a b : Plan) → t ≡ plans.Proj l a → b ≡ a → 1 + tall (view b) ≤ tall (view t)
proj_low t l a b et eb = at_node t (node.Proj l (view b)) _ (ap view et ∙ view_Proj l a ∙ ap (λ q. node.Proj l (view q)) (sym eb)) (omega arith)

pub inj_low : (t : Plan) (l : Name) (a b : Plan) → t ≡ plans.Inj l a → b ≡ a → 1 + tall (view b) ≤ tall (view t)
inj_low t l a b et eb = at_node t (node.Inj l (view b)) _ (ap view et ∙ view_Inj l a ∙ ap (λ q. node.Inj l (view q)) (sym eb)) (omega arith)

pub let_first_low : (t a b c : Plan) → t ≡ plans.Let a b → c ≡ a → 1 + tall (view c) ≤ tall (view t)
let_first_low t a b c et e = at_node t (node.Let (view c) (view b)) _ (ap view et ∙ view_Let a b ∙ ap (λ q. node.Let (view q) (view b)) (sym e)) (over_first (tall (view c)) (tall (view b)))

pub let_second_low : (t a b c : Plan) → t ≡ plans.Let a b → c ≡ b → 1 + tall (view c) ≤ tall (view t)
let_second_low t a b c et e = at_node t (node.Let (view a) (view c)) _ (ap view et ∙ view_Let a b ∙ ap (λ q. node.Let (view a) (view q)) (sym e)) (over_second (tall (view a)) (tall (view c)))

pub union_first_low : (t a b c : Plan) → t ≡ plans.Union a b → c ≡ a → 1 + tall (view c) ≤ tall (view t)
union_first_low t a b c et e = at_node t (node.Union (view c) (view b)) _ (ap view et ∙ view_Union a b ∙ ap (λ q. node.Union (view q) (view b)) (sym e)) (over_first (tall (view c)) (tall (view b)))

pub union_second_low : (t a b c : Plan) → t ≡ plans.Union a b → c ≡ b → 1 + tall (view c) ≤ tall (view t)
union_second_low t a b c et e = at_node t (node.Union (view a) (view c)) _ (ap view et ∙ view_Union a b ∙ ap (λ q. node.Union (view a) (view q)) (sym e)) (over_second (tall (view a)) (tall (view c)))

pub test_low : (t a b c d : Plan) → t ≡ plans.If a b c → d ≡ a → 1 + tall (view d) ≤ tall (view t)
test_low t a b c d et e = at_node t (node.If (view d) (view b) (view c)) _ (ap view et ∙ view_If a b c ∙ ap (λ q. node.If (view q) (view b) (view c)) (sym e)) (over_first (tall (view d)) (max (tall (view b)) (tall (view c))))

then_low : (t a b c d : Plan) → t ≡ plans.If a b c → d ≡ b → 1 + tall (view d) ≤ tall (view t)
then_low t a b c d et e = at_node t (node.If (view a) (view d) (view c)) _ (ap view et ∙ view_If a b c ∙ ap (λ q. node.If (view a) (view q) (view c)) (sym e)) (omega arith)

else_low : (t a b c d : Plan) → t ≡ plans.If a b c → d ≡ c → 1 + tall (view d) ≤ tall (view t)
else_low t a b c d et e = at_node t (node.If (view a) (view b) (view d)) _ (ap view et ∙ view_If a b c ∙ ap (λ q. node.If (view a) (view b) (view q)) (sym e)) (omega arith)

pub picked_low : (t a b c d : Plan) (z : Bool) → t ≡ plans.If a b c → d ≡ cond z b c → 1 + tall (view d) ≤ tall (view t)
picked_low t a b c d true et e = then_low t a b c d et e
picked_low t a b c d false et e = else_low t a b c d et e

module _ (t a : Plan) (ps : List (Name × Plan)) (c : Option Plan) (et : t ≡ plans.Case a ps c) where
  pub subject_low : (b : Plan) → b ≡ a → 1 + tall (view b) ≤ tall (view t)
  subject_low b e = at_node t (node.Case (view b) (branches_of (map view_branch ps) (other_node c))) _ (ap view et ∙ view_Case a ps c ∙ ap (λ q. node.Case (view q) (branches_of (map view_branch ps) (other_node c))) (sym e)) (over_first _ _)

  pub branch_low : (l : Name) (i : ℕ) (b : Name × Plan) → (place_of l ps ≡ Some i) × (slice_get ps i ≡ Some b) → 1 + tall (view b.1) ≤ tall (view t)
  branch_low l i b g = at_node t (node.Case (view a) (branches_of (map view_branch ps) (other_node c))) _ (ap view et ∙ view_Case a ps c) (over_behind _ _ _ (branch_tall l ps (other_node c) i b g.0 g.1))

  pub rest_low : (l : Name) (d d' : Plan) → place_of l ps ≡ None → c ≡ Some d → d' ≡ d → 1 + tall (view d') ≤ tall (view t)
  rest_low l d d' g ec ed = at_node t (node.Case (view a) (branches_of (map view_branch ps) (other_node c))) _ (ap view et ∙ view_Case a ps c)
      (over_behind _ _ _ (rest_tall l ps (other_node c) (view d') g (ap other_node ec ∙ ap (λ z. rest (view z)) (sym ed))))

-- ---- plans that are evaluated whole as they begin

abbrev pub Whole : Plan → Type 0
Whole t = (kind_of_items (view t) ≡ None) × (spare (view t) ≡ 5) × ComesOne (view t)

whole_node : (t : Plan) (p : Node) → view t ≡ p → kind_of_items p ≡ None → spare p ≡ 5 → ComesOne p → Whole t
whole_node t p e k s one = (ap kind_of_items e ∙ k, ap spare e ∙ s, subst ComesOne (sym e) one)

whole_Plain : (t : Plan) (m : Term) → t ≡ plans.Plain m → Whole t
whole_Plain t m e = whole_node t (node.Plain (term_view m)) (ap view e ∙ view_Plain m) refl refl (λ R env. refl)

whole_Var : (t : Plan) (x : ℕ) → t ≡ plans.Var x → Whole t
whole_Var t x e = whole_node t (node.Var x) (ap view e ∙ view_Var x) refl refl (λ R env. refl)

whole_Rec : (t : Plan) (fs : List (Name × Plan)) → t ≡ plans.Rec fs → Whole t
whole_Rec t fs e = whole_node t (node.Rec (fields_view fs)) (ap view e ∙ view_Rec fs) refl refl (λ R env. refl)

whole_Proj : (t : Plan) (l : Name) (a : Plan) → t ≡ plans.Proj l a → Whole t
whole_Proj t l a e = whole_node t (node.Proj l (view a)) (ap view e ∙ view_Proj l a) refl refl (λ R env. refl)

whole_Inj : (t : Plan) (l : Name) (a : Plan) → t ≡ plans.Inj l a → Whole t
whole_Inj t l a e = whole_node t (node.Inj l (view a)) (ap view e ∙ view_Inj l a) refl refl (λ R env. refl)

whole_Prim : (t : Plan) (c : ℕ) (ps : List Plan) → t ≡ plans.Prim c ps → Whole t
whole_Prim t c ps e = whole_node t (node.Prim c (nodes_view ps)) (ap view e ∙ view_Prim c ps) refl refl (λ R env. refl)

pub plain_whole_form : (p : Plan) → ((t : Term) × (p ≡ plans.Plain t)) ⊎ (((x : ℕ) × (p ≡ plans.Var x)) ⊎ ((fs : List (Name × Plan)) × (p ≡ plans.Rec fs))) → Whole p
plain_whole_form p = ⊎_elim (λ h. whole_Plain p h.0 h.1) (⊎_elim (λ h. whole_Var p h.0 h.1) (λ h. whole_Rec p h.0 h.1))

pub part_whole_form : (p : Plan) → ((l : Name) × (a : Plan) × (p ≡ plans.Proj l a)) ⊎ (((l : Name) × (a : Plan) × (p ≡ plans.Inj l a)) ⊎ ((c : ℕ) × (ps : List Plan) × (p ≡ plans.Prim c ps))) → Whole p
part_whole_form p = ⊎_elim (λ h. whole_Proj p h.0 h.1 h.2) (⊎_elim (λ h. whole_Inj p h.0 h.1 h.2) (λ h. whole_Prim p h.0 h.1 h.2))

-- plans that are drained where they are evaluated
pub make_spare : (t : Plan) (k : Kind) (ps : List Plan) → t ≡ plans.Make k ps → spare (view t) ≡ 9
make_spare t k ps e = ap spare (ap view e ∙ view_Make k ps)

pub loop_spare : (t : Plan) (k : Kind) (b s : Plan) → t ≡ plans.Ext k b s → spare (view t) ≡ 9
loop_spare t k b s e = ap spare (ap view e ∙ view_Ext k b s)

pub scan_spare : (t : Plan) (c : Scan) → t ≡ plans.Scan c → spare (view t) ≡ 9
scan_spare t c e = ap spare (ap view e ∙ view_Scan c)

-- ---- what is added to a list

pub parts_down : (t : Plan) (k : Kind) (ps qs : List Plan) → t ≡ plans.Make k ps → qs ≡ ps → 32 * tall_nodes (nodes_view qs) + 10 < 32 * tall (view t) + 7
parts_down t k ps qs et eq =
    let f : tall (view t) ≡ 1 + tall_nodes (nodes_view qs) = ap tall (ap view et ∙ view_Make k ps ∙ ap (λ q. node.Make k (nodes_view q)) (sym eq)) in
    omega arith

pub loop_same : (t : Plan) (k : Kind) (b s b' s' : Plan) → t ≡ plans.Ext k b s → b' ≡ b → s' ≡ s → tall (node.Ext k (view b') (view s')) ≡ tall (view t)
loop_same t k b s b' s' e eb es = sym (ap tall (ap view e ∙ view_Ext k b s ∙ ap (λ z. node.Ext k (view z) (view s)) (sym eb) ∙ ap (λ z. node.Ext k (view b') (view z)) (sym es)))

pub body_part : (k : Kind) (b s : Node) → 1 + tall b ≤ tall (node.Ext k b s)
body_part k b s = over_first (tall b) (tall s)

pub source_part : (k : Kind) (b s : Node) → 1 + tall s ≤ tall (node.Ext k b s)
source_part k b s = over_second (tall b) (tall s)
