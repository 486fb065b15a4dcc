-- Drains, literals, and what begins evaluated first, from what the code has.
use Rattle.std.proofs.Common.{◌≡◌, ℕ, ◌+◌, ◌*◌, ◌<◌, ◌≤◌, zero, suc, max, Bool, cond, List, [], ◌∷◌, drop, length, map, get_or, Option, Some, None, Result, Ok, Err, slice_get, sym, ap, subst, ◌∙◌, arith, Bor}
use Rattle.std.proofs.lemmas.Grind.{common_steps}
use Rattle.std.proofs.lemmas.List.{at_drop_more}
use Rattle.kl_value.specs.declared.Value.{Value}
use Rattle.kl_outcome.specs.Outcome.{Name, done, more, stop, fine, overflow, as_variant, item_then}
use Rattle.kl_scans.specs.Running.{Running}
use Rattle.kl_eval.specs.Steps.{inside_of, place_of, TellsTruth}
use Rattle.kl_eval.specs.declared.stop.EvalStop.{EvalStop}
use Rattle.kl_eval.specs.declared.stop.EvalStop.TheVariants as why
use Rattle.kl_eval.specs.declared.stop.Halt.{Halt}
use Rattle.kl_plan.specs.declared.plan.Plan.{Plan}
use Rattle.kl_plan.specs.declared.plan.Plan.TheVariants as plans
use Rattle.kl_plan.specs.Holding.{PartsIn}
use Rattle.kl_plan.specs.Meaning.{plan_items}
use Rattle.kl_plan.specs.Nodes as node
use Rattle.kl_plan.specs.Nodes.{Node, Nodes, no_nodes, nodes, rest, branches_of, view, view_branch, nodes_view, fields_view}
use Rattle.kl_plan.specs.Joins.{other_node}
use Rattle.kl_plan.specs.Typing.{EachPlan}
use Rattle.kl_scans.specs.Held.{nothing}
use Rattle.kl_scans.specs.Stage.{ScanOf, readings, MemoOf}
use Rattle.kl_scans.proofs.Moving.{moves_none, stage_stays}
use Rattle.kl_cursor.specs.declared.state.State.{State}
use Rattle.kl_cursor.specs.declared.state.State.TheVariants as state
use Rattle.kl_cursor.specs.Left.{Snap, fresh, bound, made, snap, reading, nodes_from, PartsLeft, cost_nodes}
use Rattle.kl_cursor.specs.Measure.{tall, tall_nodes, tall_fields, falling}
use Rattle.kl_cursor.specs.Steps.{Onward, Gives, Ends, Stops, ComesTo, Wholly, Partly}
use Rattle.kl_cursor.proofs.Likes.{same_itself, same_at}
use Rattle.kl_cursor.proofs.Snaps.{snap_Fresh, snap_Bound, snap_Make}
use Rattle.kl_cursor.proofs.Comings.{part_value, part_stop}
use Rattle.kl_cursor.proofs.ValueForms.{heads_let, heads_if, heads_case, binds_let, leads_if, binds_branch, leads_rest}
use Rattle.kl_cursor.proofs.ValueCode.{at_Let, at_If, at_Case, cond_view, tested_value, tested_stop}
use Rattle.kl_cursor.proofs.ValueFalls.{let_second_low, picked_low, branch_low, rest_low}
use Rattle.kl_cursor.proofs.Whole.{spare, leads_fresh, binds_bound, head_stops, part_lost, if_keeps, if_less, if_low, rest_keeps, branch_tall, branch_size, rest_tall, rest_size}
use Rattle.kl_cursor.proofs.Refusals.{halts_at}

-- ---- measures

pub spare_most : (p : Node) → spare p ≤ 9
spare_most (node.Plain t) = omega arith
spare_most (node.Var x) = omega arith
spare_most (node.Rec ps) = omega arith
spare_most (node.Proj l a) = omega arith
spare_most (node.Inj l a) = omega arith
spare_most (node.Case a bs) = omega arith
spare_most (node.Make k ps) = omega arith
spare_most (node.Union a b) = omega arith
spare_most (node.Ext k b s) = omega arith
spare_most (node.If a b c) = omega arith
spare_most (node.Let a b) = omega arith
spare_most (node.Prim c ps) = omega arith
spare_most (node.Scan c) = omega arith
spare_most (node.Join n k how o cs i q b) = omega arith
spare_most (node.Memo n frees p) = omega arith

pub spare_least : (p : Node) → 5 ≤ spare p
spare_least (node.Plain t) = omega arith
spare_least (node.Var x) = omega arith
spare_least (node.Rec ps) = omega arith
spare_least (node.Proj l a) = omega arith
spare_least (node.Inj l a) = omega arith
spare_least (node.Case a bs) = omega arith
spare_least (node.Make k ps) = omega arith
spare_least (node.Union a b) = omega arith
spare_least (node.Ext k b s) = omega arith
spare_least (node.If a b c) = omega arith
spare_least (node.Let a b) = omega arith
spare_least (node.Prim c ps) = omega arith
spare_least (node.Scan c) = omega arith
spare_least (node.Join n k how o cs i q b) = omega arith
spare_least (node.Memo n frees p) = omega arith

pub whole_falls : (p q : Node) → 1 + tall q ≤ tall p → 32 * tall q + spare q < 32 * tall p + spare p
whole_falls p q x = let y = spare_most q in let z = spare_least p in omega arith

fields_low : (ps : List (Name × Plan)) (i : ℕ) → tall_fields (fields_view (drop i ps)) ≤ tall_fields (fields_view ps)
fields_low [] zero = omega arith
fields_low [] (suc i) = omega arith
fields_low (p ∷ ps) zero = omega arith
fields_low (p ∷ ps) (suc i) = let x = fields_low ps i in omega arith

pub field_tall : (ps : List (Name × Plan)) (i : ℕ) (p : Name × Plan) → i < length ps → p ≡ get_or ps i p → 32 * tall (view p.1) + spare (view p.1) < 32 * tall_fields (fields_view ps) + 10
field_tall ps i p lt is =
    let e : fields_view (drop i ps) ≡ node.fields p.0 (view p.1) (fields_view (drop (i + 1) ps)) = at_drop_more fields_view ps i p lt ∙ ap (λ q. node.fields q.0 (view q.1) (fields_view (drop (i + 1) ps))) (sym is) in
    let f : tall_fields (fields_view (drop i ps)) ≡ max (tall (view p.1)) (tall_fields (fields_view (drop (i + 1) ps))) = ap tall_fields e in
    let x = fields_low ps i in
    let y = spare_most (view p.1) in
    omega arith

nodes_low : (ps : List Plan) (i : ℕ) → tall_nodes (nodes_view (drop i ps)) ≤ tall_nodes (nodes_view ps)
nodes_low [] zero = omega arith
nodes_low [] (suc i) = omega arith
nodes_low (p ∷ ps) zero = omega arith
nodes_low (p ∷ ps) (suc i) = let x = nodes_low ps i in omega arith

pub from_place : (ps : List Plan) (i : ℕ) (p : Plan) → i < length ps → p ≡ get_or ps i p → nodes_from i ps ≡ nodes (view p) (nodes_from (i + 1) ps)
from_place ps i p lt is = at_drop_more nodes_view ps i p lt ∙ ap (λ q. nodes (view q) (nodes_from (i + 1) ps)) (sym is)

pub node_tall : (ps : List Plan) (i : ℕ) (p : Plan) → i < length ps → p ≡ get_or ps i p → 32 * tall (view p) + spare (view p) < 32 * tall_nodes (nodes_view ps) + 10
node_tall ps i p lt is =
    let f : tall_nodes (nodes_from i ps) ≡ max (tall (view p)) (tall_nodes (nodes_from (i + 1) ps)) = ap tall_nodes (from_place ps i p lt is) in
    let x = nodes_low ps i in
    let y = spare_most (view p) in
    omega arith

pub cond_tall : (ps : List Plan) (i : ℕ) (p : Plan) → i < length ps → p ≡ get_or ps i p → 32 * tall (view p) + 11 < 32 * tall_nodes (nodes_view ps) + 12
cond_tall ps i p lt is =
    let f : tall_nodes (nodes_from i ps) ≡ max (tall (view p)) (tall_nodes (nodes_from (i + 1) ps)) = ap tall_nodes (from_place ps i p lt is) in
    let x = nodes_low ps i in
    omega arith

-- ---- the parts of a literal

pays_next : (e r z y : ℕ) → e ≡ r → z ≡ y → e + z ≡ r + y
pays_next e r z y x w = omega arith

pub made_gives : (env : List Value) (p : Node) (ps : Nodes) (v : Value) (a b : Running) → ComesTo env p (done v) a b → Gives env (made (nodes p ps)) a v (made ps) b
made_gives env p ps v a b h =
    let held = stage_stays nothing nothing a b h.moves in
    record {
      moves = h.moves;
      known = λ all i. (h.known all i.0, i.1);
      gave = λ G k u e f told. same_at k (plan_items (reading a) (nodes p ps) env) (more v (plan_items (reading b) ps env))
          (ap (λ o. item_then o (plan_items (reading a) ps env)) (h.comes G u e f.0 told) ∙ ap (λ t. more v (plan_items (readings t) ps env)) (sym held));
      counts = λ G k u e f told z P.
          pays_next _ _ _ _ (h.counts G u e f.0 told tt P) (ap (λ t. cost_nodes t P ps env) held);
      typed = λ G k u e f. (h.typed G u e f.0, subst (λ t. EachPlan (ScanOf t) (MemoOf t) G ps u) (sym held) f.1);
      lower = omega arith;
      fell = omega arith;
    }

pub made_stops : (env : List Value) (p : Node) (ps : Nodes) (e : EvalStop) (a b : Running) → Partly env p (Err e) a b → Stops env (made (nodes p ps)) e a b
made_stops env p ps why.Overflow a b k =
    let h = k.1 in
    record {
      moves = h.moves;
      known = λ all i. h.known all i.0;
      reason = λ G j u e f told. same_at j (plan_items (reading a) (nodes p ps) env) (stop overflow) (ap (λ o. item_then o (plan_items (reading a) ps env)) (h.comes G u e f.0 told));
    }
made_stops env p ps (why.Driver l x) a b k = halts_at nothing (λ all. PartsLeft all (made (nodes p ps))) (λ all. PartsIn all p) l x a b (λ all i. i.0) k
made_stops env p ps why.NoMemory a b k = record { moves = k.moves; known = λ all i. k.known all i.0; reason = tt }

pub made_ends : (env : List Value) (a : Running) → Ends env (made no_nodes) a a
made_ends env a = record {
  moves = moves_none nothing a;
  known = λ all i. tt;
  over = λ G k u e f told. same_itself k (stop fine);
  counts = λ G k u e f told z P. omega arith;
}

module _ (env : List Value) (ps : Bor (List Plan)) (i : ℕ) (a : Running) where
  pub made_gave : (p : Plan) (q : Result Value Halt) (r : Result Value EvalStop) (v : Value) (b : Running) → i < length ps.now → p ≡ get_or ps.now i p → Wholly env (view p) q a b → r ≡ inside_of q → r ≡ Ok v
      → Gives env (made (nodes_from i ps.now)) a v (snap (state.Make ps (i + 1))) b
  made_gave p q r v b lt is h e f =
      subst (λ z. Gives env (made z) a v (snap (state.Make ps (i + 1))) b) (sym (from_place ps.now i p lt is))
      (subst (λ z. Gives env (made (nodes (view p) (nodes_from (i + 1) ps.now))) a v z b) (sym (snap_Make ps (i + 1)))
      (made_gives env (view p) (nodes_from (i + 1) ps.now) v a b (part_value env (view p) a b q r v h e f)))

  pub made_stop : (p : Plan) (q : Result Value Halt) (r : Result Value EvalStop) (e : EvalStop) (b : Running) → i < length ps.now → p ≡ get_or ps.now i p → Wholly env (view p) q a b → r ≡ inside_of q → r ≡ Err e
      → Stops env (made (nodes_from i ps.now)) e a b
  made_stop p q r e b lt is h f g =
      subst (λ z. Stops env (made z) e a b) (sym (from_place ps.now i p lt is)) (made_stops env (view p) (nodes_from (i + 1) ps.now) e a b (part_stop env (view p) a b q r e h f g))

  pub made_over : length ps.now ≤ i → Ends env (made (nodes_from i ps.now)) a a
  made_over le = subst (λ z. Ends env (made z) a a) (sym (ap nodes_view (drop_none ps.now i le))) (made_ends env a)
    where
      drop_none : {X : Type 0} (xs : List X) (j : ℕ) → length xs ≤ j → drop j xs ≡ []
      drop_none xs j le = grind (arith, common_steps)

-- ---- what begins evaluated first

abbrev Goes : List Value → Node → Snap → Running → Running → Type 0
Goes env p s w x = Onward env (fresh p) w s x × (falling s < falling (fresh p))

goes_as : (env : List Value) (p : Node) (s t : Snap) (w x : Running) → s ≡ t → Goes env p t w x → Goes env p s w x
goes_as env p s t w x f h = subst (λ z. Goes env p z w x) (sym f) h

stops_at : (env : List Value) (p q : Node) (e : EvalStop) (w x : Running) → p ≡ q → Stops env (fresh q) e w x → Stops env (fresh p) e w x
stops_at env p q e w x is h = subst (λ z. Stops env (fresh z) e w x) (sym is) h

fresh_lower : (p q : Node) → 1 + tall q ≤ tall p → falling (fresh q) < falling (fresh p)
fresh_lower p q x = omega arith

bound_lower : (p q : Node) (v : Value) → 1 + tall q ≤ tall p → falling (bound v (fresh q)) < falling (fresh p)
bound_lower p q v x = omega arith

no_higher : (m n : ℕ) → 1 + m ≤ n → m ≤ n
no_higher m n x = omega arith

over_one : (m n k : ℕ) → m ≤ k → 1 + m ≤ 1 + max n k
over_one m n k x = omega arith

over_some : (m n k : ℕ) → m ≤ k → m ≤ n + k
over_some m n k x = omega arith

module _ (env : List Value) (t a b a' : Plan) (w : Running) (et : t ≡ plans.Let a b) (ea : a' ≡ a) (x : Running) where
  pub let_onward : (v : Value) (b' : Plan) → b' ≡ b → ComesTo env (view a') (done v) w x → Onward env (fresh (view t)) w (bound v (fresh (view b'))) x
  let_onward v b' eb h =
      subst (λ z. Onward env (fresh z) w (bound v (fresh (view b'))) x) (sym (at_Let env t a b a' w et ea))
      (subst (λ z. Onward env (fresh (node.Let (view a') (view b))) w (bound v (fresh (view z))) x) (sym eb)
      (binds_bound env (node.Let (view a') (view b)) (view a') v v (view b) w x (binds_let env (view a') (view b) v w) h (omega arith) (omega arith)))

  pub let_begun : (v : Value) (b' : Plan) (s : State) → b' ≡ b → snap s ≡ fresh (view b') → ComesTo env (view a') (done v) w x → Goes env (view t) (snap (state.Bound v s)) w x
  let_begun v b' s eb is h =
      goes_as env (view t) (snap (state.Bound v s)) (bound v (fresh (view b'))) w x (snap_Bound v s ∙ ap (bound v) is)
      (let_onward v b' eb h, bound_lower (view t) (view b') v (let_second_low t a b b' et eb))

  pub let_lost : (v : Value) → ComesTo env (view a') (done v) w x → Stops env (fresh (view t)) why.NoMemory w x
  let_lost v h = stops_at env (view t) (node.Let (view a') (view b)) why.NoMemory w x (at_Let env t a b a' w et ea) (part_lost env (node.Let (view a') (view b)) (view a') (done v) w x (λ all i. i.0) h)

  pub let_stopped : (z : EvalStop) → Partly env (view a') (Err z) w x → Stops env (fresh (view t)) z w x
  let_stopped z h = stops_at env (view t) (node.Let (view a') (view b)) z w x (at_Let env t a b a' w et ea) (head_stops env (node.Let (view a') (view b)) (view a') z w x (heads_let env (view a') (view b) w) h)

module _ (env : List Value) (t a b c a' : Plan) (w : Running) (et : t ≡ plans.If a b c) (ea : a' ≡ a) (q : Result Value EvalStop) (x : Running) (h : Partly env (view a') q w x) where
  pub if_onward : (d : Plan) (y z : Bool) → d ≡ cond z b c → y ≡ z → TellsTruth q (Ok y) → Onward env (fresh (view t)) w (fresh (view d)) x
  if_onward d y z ed ez told =
      subst (λ o. Onward env (fresh o) w (fresh (view d)) x) (sym (at_If env t a b c a' w et ea))
      (subst (λ o. Onward env (fresh (node.If (view a') (view b) (view c))) w (fresh o) x) (sym (ap view ed ∙ cond_view z b c))
      (leads_fresh env (node.If (view a') (view b) (view c)) (view a') told.0 (cond z (view b) (view c)) w x (leads_if env (view a') (view b) (view c) told.0 z w (told.2 ∙ ap Some ez)) (if_keeps env (view a') (view b) (view c) told.0 z w)
      (tested_value env (view a') q y w x h told) (if_less (view a') (view b) (view c) z) (no_higher _ _ (if_low (view a') (view b) (view c) z))))

  pub if_begun : (d : Bor Plan) (y z : Bool) → d.now ≡ cond z b c → y ≡ z → TellsTruth q (Ok y) → Goes env (view t) (snap (state.Fresh d)) w x
  if_begun d y z ed ez told =
      goes_as env (view t) (snap (state.Fresh d)) (fresh (view d.now)) w x (snap_Fresh d) (if_onward d.now y z ed ez told, fresh_lower (view t) (view d.now) (picked_low t a b c d.now z et ed))

  pub if_stopped : (z : EvalStop) → TellsTruth q (Err z) → Stops env (fresh (view t)) z w x
  if_stopped z told = stops_at env (view t) (node.If (view a') (view b) (view c)) z w x (at_If env t a b c a' w et ea)
      (head_stops env (node.If (view a') (view b) (view c)) (view a') z w x (heads_if env (view a') (view b) (view c) w) (tested_stop env (view a') q z w x h told))

module _ (env : List Value) (t a a' : Plan) (ps : List (Name × Plan)) (c : Option Plan) (w : Running) (et : t ≡ plans.Case a ps c) (ea : a' ≡ a) (x : Running) where
  abbrev All : Node
  All = node.Case (view a') (branches_of (map view_branch ps) (other_node c))

  pub case_stopped : (z : EvalStop) → Partly env (view a') (Err z) w x → Stops env (fresh (view t)) z w x
  case_stopped z h = stops_at env (view t) All z w x (at_Case env t a a' ps c w et ea) (head_stops env All (view a') z w x (heads_case env (view a') (branches_of (map view_branch ps) (other_node c)) w) h)

  pub case_lost : (v : Value) → ComesTo env (view a') (done v) w x → Stops env (fresh (view t)) why.NoMemory w x
  case_lost v h = stops_at env (view t) All why.NoMemory w x (at_Case env t a a' ps c w et ea) (part_lost env All (view a') (done v) w x (λ all i. i.0) h)

  module _ (v : Value) (l : Name) (u : Value) (h : ComesTo env (view a') (done v) w x) (ev : as_variant v ≡ Some (l, u)) where
    pub branch_onward : (i : ℕ) (b : Name × Plan) → (place_of l ps ≡ Some i) × (slice_get ps i ≡ Some b) → Onward env (fresh (view t)) w (bound u (fresh (view b.1))) x
    branch_onward i b g = subst (λ z. Onward env (fresh z) w (bound u (fresh (view b.1))) x) (sym (at_Case env t a a' ps c w et ea))
        (binds_bound env All (view a') v u (view b.1) w x (binds_branch env (view a') v l u ps (other_node c) w ev i b g.0 g.1) h
        (over_some _ _ _ (branch_size l ps (other_node c) i b g.0 g.1)) (over_one _ _ _ (branch_tall l ps (other_node c) i b g.0 g.1)))

    pub branch_begun : (i : ℕ) (b : Name × Plan) (s : State) → (place_of l ps ≡ Some i) × (slice_get ps i ≡ Some b) → snap s ≡ fresh (view b.1) → Goes env (view t) (snap (state.Bound u s)) w x
    branch_begun i b s g is =
        goes_as env (view t) (snap (state.Bound u s)) (bound u (fresh (view b.1))) w x (snap_Bound u s ∙ ap (bound u) is) (branch_onward i b g, bound_lower (view t) (view b.1) u (branch_low t a ps c et l i b g))

    pub rest_onward : (d d' : Plan) → place_of l ps ≡ None → c ≡ Some d → d' ≡ d → Onward env (fresh (view t)) w (fresh (view d')) x
    rest_onward d d' g ec ed =
        let el : other_node c ≡ rest (view d') = ap other_node ec ∙ ap (λ z. rest (view z)) (sym ed) in
        subst (λ z. Onward env (fresh z) w (fresh (view d')) x) (sym (at_Case env t a a' ps c w et ea))
        (leads_fresh env All (view a') v (view d') w x (leads_rest env (view a') v l u ps (other_node c) w ev (view d') g el) (rest_keeps env (view a') v l u ps (other_node c) w ev (view d') g el) h
        (over_some _ _ _ (rest_size l ps (other_node c) (view d') g el)) (no_higher _ _ (over_one _ _ _ (rest_tall l ps (other_node c) (view d') g el))))

    pub rest_begun : (d : Plan) (d' : Bor Plan) → place_of l ps ≡ None → c ≡ Some d → d'.now ≡ d → Goes env (view t) (snap (state.Fresh d')) w x
    rest_begun d d' g ec ed =
        goes_as env (view t) (snap (state.Fresh d')) (fresh (view d'.now)) w x (snap_Fresh d') (rest_onward d d'.now g ec ed, fresh_lower (view t) (view d'.now) (rest_low t a ps c et l d d'.now g ec ed))
