-- Items that are gathered, from what the code has.
use Rattle.std.proofs.Common.{◌≡◌, ℕ, ◌+◌, ◌<◌, ◌≤◌, Bool, true, false, List, [], ◌∷◌, ◌++◌, drop, length, get_or, Option, Some, None, Result, Vec, Ok, Err, slice_get, refl, sym, ap, subst, ◌∙◌, arith, IfOk, Bor}
use Rattle.std.specs.Prelude.{⊤, IfSome}
use Rattle.std.specs.declared.alloc.Global.{Global}
use Rattle.std.proofs.lemmas.List.{at_drop_more}
use Rattle.kl_value.specs.Views.{as_collection, collection, IsCollection}
use Rattle.kl_value.proofs.ViewLemmas.{collection_is}
use Rattle.kl_value.specs.declared.Kind.{Kind}
use Rattle.kl_value.specs.declared.Value.{Value}
use Rattle.kl_type.specs.Ground.{coll}
use Rattle.kl_outcome.specs.Outcome.{Outcome, done, End, fine, overflow, flow, items_of, items_at_all}
use Rattle.kl_core.specs.Core.{core}
use Rattle.kl_core.specs.Trees.{view as term_view}
use Rattle.kl_core.specs.declared.term.Term.{Term}
use Rattle.kl_scans.specs.Running.{Running}
use Rattle.kl_eval.specs.Evals.{no_tables}
use Rattle.kl_eval.specs.Steps.{AnswersOutcome}
use Rattle.kl_eval.specs.declared.stop.EvalStop.{EvalStop}
use Rattle.kl_eval.specs.declared.stop.EvalStop.TheVariants as why
use Rattle.kl_eval.specs.declared.stop.Halt.{Halt}
use Rattle.kl_eval.specs.declared.stop.Halt.TheVariants as halt
use Rattle.kl_plan.specs.declared.plan.Plan.{Plan}
use Rattle.kl_plan.specs.declared.plan.Plan.TheVariants as plans
use Rattle.kl_plan.specs.declared.plan.Scan.{Scan}
use Rattle.kl_plan.specs.Holding.{PartsIn}
use Rattle.kl_plan.specs.Nodes as node
use Rattle.kl_plan.specs.Nodes.{Node, nodes, no_nodes, view, nodes_view}
use Rattle.kl_plan.proofs.Views.{view_Make, view_Union, view_Ext, view_Scan}
use Rattle.kl_scans.specs.Held.{nothing, one_at, Owned, cursor_at}
use Rattle.kl_scans.specs.Moves.{Moves, Closes}
use Rattle.kl_scans.specs.Scans.{CanScan, IsOpen, Stopped, Started, NotStarted, PulledMore, PulledNone, NotPulled}
use Rattle.kl_scans.proofs.Moving.{owned_after}
use Rattle.kl_cursor.specs.Drawing.{draws}
use Rattle.kl_cursor.specs.Gathering.{Gathered, listed, IsListed, with_one, with_all}
use Rattle.kl_cursor.specs.Draining.{Draining, Adding}
use Rattle.kl_cursor.specs.Left.{Snap, fresh, have, pulling, both, outside, made, uses, PartsLeft, end_of}
use Rattle.kl_cursor.specs.Measure.{bound_in}
use Rattle.kl_cursor.specs.Sense.{HasWorth, Stands}
use Rattle.kl_cursor.specs.Steps.{Onward, Stops, Empties, Drains, Emits, EmitsDrawn, DrawnStand, ItemsIn, AddsWhole, ComesTo, Wholly, Partly}
use Rattle.kl_cursor.proofs.Beginning.{make_begins, union_begins, loop_begins}
use Rattle.kl_cursor.proofs.Calls.{owned_nothing, stands_onward, stands_source}
use Rattle.kl_cursor.proofs.Events.{of_none}
use Rattle.kl_cursor.proofs.Emitting.{halts_as, onward_drains, gives_drains, ends_empties, stops_emit, ends_emit, starts_emit, onward_emit, both_emit, both_stop, both_stands, outside_drains, Drawing, source_drawing, drawing_stands, drawing_emit, turn_stop, turn_stands, turn_adding, none_left, adding_from, adding_starts, adding_then, adding_emit, adding_stands}
use Rattle.kl_cursor.proofs.Gatherings.{with_listed}
use Rattle.kl_cursor.proofs.Forms.{body_over, loop_end, loop_stop}
use Rattle.kl_cursor.proofs.Rows.{scan_hands, rows_ahead, pull_falls, rows_still, rows_drawn, rows_stop}
use Rattle.kl_cursor.proofs.Scanning.{can_pull, open_there, scan_ends, scan_stops}
use Rattle.kl_cursor.proofs.Starting.{scan_begins, scan_refused}
use Rattle.kl_cursor.proofs.ValueCode.{view_Plain, at_Var}
use Rattle.kl_cursor.proofs.ValueDrain.{drains_stands}
use Rattle.kl_cursor.proofs.ValueForms.{plain_comes, var_comes}
use Rattle.kl_cursor.proofs.ValueParts.{drop_all}
use Rattle.kl_cursor.proofs.ValueSteps.{made_gives, made_stops, made_ends, from_place}
use Rattle.kl_cursor.proofs.Whole.{ComesOne, collection_of, done_shown, over_shown, shown_empties, shown_loop}
use Rattle.kl_cursor.proofs.Drawn.{not_drawn, standing_drawn}
use Rattle.kl_cursor.specs.Standing.{StandsSomewhere}
use Rattle.kl_cursor.proofs.Refusals.{halts_at}

-- ---- what is lent

comes_as : (env : List Value) (p q : Node) (o : Outcome) (a b : Running) → p ≡ q → ComesTo env q o a b → ComesTo env p o a b
comes_as env p q o a b e h = subst (λ z. ComesTo env z o a b) (sym e) h

-- what a term comes to, where something tells of it
pub tells_plain : {X : Type 0} (value : X → Value) (env : List Value) (t : Plan) (m : Term) (o : Option X) → t ≡ plans.Plain m → IfSome o (λ x. core no_tables (term_view m) env ≡ done (value x)) → IfSome o (λ x. (w : Running) → ComesTo env (view t) (done (value x)) w w)
tells_plain value env t m (Some x) e h = λ w. comes_as env (view t) (node.Plain (term_view m)) (done (value x)) w w (ap view e ∙ view_Plain m) (plain_comes env (term_view m) (done (value x)) w w refl h)
tells_plain value env t m None e h = tt

pub lends_var : (env : List Value) (t : Plan) (x : ℕ) (v : Value) → t ≡ plans.Var x → slice_get env x ≡ Some v → (w : Running) → ComesTo env (view t) (done v) w w
lends_var env t x v e h = λ w. comes_as env (view t) (node.Var x) (done v) w w (at_Var t x e) (var_comes env x v w h)

-- ---- all items in a list of their own

listed_is : (us vs : List Value) → listed us ≡ listed vs → us ≡ vs
listed_is us vs e = cc

-- what was gathered in a list of its own
all_listed : (old new : Gathered) (none vs ws : List Value) → old ≡ listed none → none ≡ [] → new ≡ listed ws → new ≡ with_all old vs → ws ≡ vs
all_listed old new none vs ws from empty to e =
    listed_is ws vs (sym to ∙ e ∙ ap (λ q. with_all q vs) (from ∙ ap listed empty) ∙ with_listed [] vs)

pub is_listed : (old new : Gathered) (none : List Value) → old ≡ listed none → (vs : List Value) → new ≡ with_all old vs → IsListed new
is_listed old new none from vs e = subst IsListed (sym (e ∙ ap (λ q. with_all q vs) from ∙ with_listed none vs)) tt

pub emits_drain : (env : List Value) (s : Snap) (z : Unit {0}) (old new : Gathered) (none : List Value) (ws : Vec Value Global) (a b : Running) → old ≡ listed none → none ≡ [] → new ≡ listed ws.items → Emits env s (Ok z) old new a b → Drains env s (Ok ws) a b
emits_drain env s z old new none ws a b from empty to h = subst (λ q. Empties env s q fine a b) (sym (all_listed old new none h.0 ws.items from empty to h.1)) h.2

-- what an overflow left
pub emits_past : (env : List Value) (s : Snap) (r : Result (Unit {0}) EvalStop) (e : EvalStop) (old new : Gathered) (a b : Running) → r ≡ Err e → e ≡ why.Overflow → Emits env s r old new a b → Emits env s (Err why.Overflow) old new a b
emits_past env s r e old new a b is past h = subst (λ q. Emits env s (Err q) old new a b) past (subst (λ q. Emits env s q old new a b) is h)

pub emits_over : (env : List Value) (s : Snap) (r : Result (Unit {0}) EvalStop) (e : EvalStop) (old new : Gathered) (none : List Value) (ws : Vec Value Global) (a b : Running) → old ≡ listed none → none ≡ [] → new ≡ listed ws.items → r ≡ Err e → e ≡ why.Overflow → Emits env s r old new a b → Drains env s (Err (halt.Over ws)) a b
emits_over env s r e old new none ws a b from empty to is past h =
    let g = emits_past env s r e old new a b is past h in
    subst (λ q. Empties env s q overflow a b) (sym (all_listed old new none g.0 ws.items from empty to g.1)) g.2

-- ---- each form of a plan

emits_as : (env : List Value) (p q : Node) (r : Result (Unit {0}) EvalStop) (old new : Gathered) (a b : Running) → p ≡ q → Emits env (fresh q) r old new a b → Emits env (fresh p) r old new a b
emits_as env p q r old new a b e h = subst (λ z. Emits env (fresh z) r old new a b) (sym e) h

stands_as : (env : List Value) (p q : Node) (a : Running) → p ≡ q → Stands a (fresh p) env → Stands a (fresh q) env
stands_as env p q a e h = subst (λ z. Stands a (fresh z) env) e h

module _ (env : List Value) (t : Plan) (k : Kind) (ps qs : List Plan) (w : Running) (e : t ≡ plans.Make k ps) (eq : qs ≡ ps) where
  at_Make : view t ≡ node.Make k (nodes_view qs)
  at_Make = ap view e ∙ view_Make k ps ∙ ap (λ z. node.Make k (nodes_view z)) (sym eq)

  pub emit_make_stands : Stands w (fresh (view t)) env → Stands w (made (nodes_view qs)) env
  emit_make_stands h = stands_onward env (fresh (node.Make k (nodes_view qs))) (made (nodes_view qs)) w w (make_begins env k (nodes_view qs) w) (stands_as env (view t) (node.Make k (nodes_view qs)) w at_Make h)

  pub emit_make : (r : Result (Unit {0}) EvalStop) (old new : Gathered) (x : Running) → Emits env (made (nodes_view qs)) r old new w x → Emits env (fresh (view t)) r old new w x
  emit_make r old new x h = emits_as env (view t) (node.Make k (nodes_view qs)) r old new w x at_Make (onward_emit env (fresh (node.Make k (nodes_view qs))) (made (nodes_view qs)) w w x r old new (make_begins env k (nodes_view qs) w) h)

module _ (env : List Value) (t : Plan) (k : Kind) (b s b' s' : Plan) (w : Running) (e : t ≡ plans.Ext k b s) (eb : b' ≡ b) (es : s' ≡ s) where
  at_Ext : view t ≡ node.Ext k (view b') (view s')
  at_Ext = ap view e ∙ view_Ext k b s ∙ ap (λ z. node.Ext k (view z) (view s)) (sym eb) ∙ ap (λ z. node.Ext k (view b') (view z)) (sym es)

  pub emit_ext_stands : Stands w (fresh (view t)) env → Stands w (fresh (node.Ext k (view b') (view s'))) env
  emit_ext_stands h = stands_as env (view t) (node.Ext k (view b') (view s')) w at_Ext h

  pub emit_ext : (r : Result (Unit {0}) EvalStop) (old new : Gathered) (x : Running) → Emits env (fresh (node.Ext k (view b') (view s'))) r old new w x → Emits env (fresh (view t)) r old new w x
  emit_ext r old new x h = emits_as env (view t) (node.Ext k (view b') (view s')) r old new w x at_Ext h

-- the rows of a scan are the same whatever stands at positions
scan_anywhere : (env : List Value) (c : Scan) (vs : List Value) (end : End) (a b : Running) → Empties [] (fresh (node.Scan c)) vs end a b → Empties env (fresh (node.Scan c)) vs end a b
scan_anywhere env c vs end a b g = record {
  moves = g.moves;
  known = g.known;
  gave = λ G k u e f told. g.gave [] k u tt f told;
  counts = λ G k u e f told z P. g.counts [] k u tt f told z P;
  typed = λ G k u e f. g.typed [] k u tt f;
}

module _ (env : List Value) (t : Plan) (c : Scan) (w : Running) (e : t ≡ plans.Scan c) where
  pub emit_scan_stands : Stands w (fresh (view t)) env → Stands w (fresh (node.Scan c)) []
  emit_scan_stands h = let i = stands_as env (view t) (node.Scan c) w (ap view e ∙ view_Scan c) h in ([], i.1, i.2, tt, i.4, i.5)

  emit_rows_anywhere : (r : Result (Unit {0}) EvalStop) (old new : Gathered) (x : Running) → Emits [] (fresh (node.Scan c)) r old new w x → Emits env (fresh (node.Scan c)) r old new w x
  emit_rows_anywhere (Ok z) old new x h = (h.0, h.1, scan_anywhere env c h.0 fine w x h.2)
  emit_rows_anywhere (Err why.Overflow) old new x h = (h.0, h.1, scan_anywhere env c h.0 overflow w x h.2)
  emit_rows_anywhere (Err (why.Driver l y)) old new x h = h
  emit_rows_anywhere (Err why.NoMemory) old new x h = h

  pub emit_scan : (r : Result (Unit {0}) EvalStop) (old new : Gathered) (x : Running) → Emits [] (fresh (node.Scan c)) r old new w x → Emits env (fresh (view t)) r old new w x
  emit_scan r old new x h = emits_as env (view t) (node.Scan c) r old new w x (ap view e ∙ view_Scan c) (emit_rows_anywhere r old new x h)

module _ (env : List Value) (t a b a' b' : Plan) (w : Running) (e : t ≡ plans.Union a b) (ea : a' ≡ a) (eb : b' ≡ b) where
  at_Both : view t ≡ node.Union (view a') (view b')
  at_Both = ap view e ∙ view_Union a b ∙ ap (λ z. node.Union (view z) (view b)) (sym ea) ∙ ap (λ z. node.Union (view a') (view z)) (sym eb)

  union_onward : Onward env (fresh (view t)) w (both (fresh (view a')) (view b')) w
  union_onward = subst (λ z. Onward env (fresh z) w (both (fresh (view a')) (view b')) w) (sym at_Both) (union_begins env (view a') (view b') w)

  pub emit_first_stands : Stands w (fresh (view t)) env → Stands w (fresh (view a')) env
  emit_first_stands h = let i = stands_onward env (fresh (view t)) (both (fresh (view a')) (view b')) w w union_onward h in (i.0, i.1, i.2, i.3, i.4.0, i.5)

  pub emit_second_stands : (z : Unit {0}) (old mid : Gathered) (x : Running) → Emits env (fresh (view a')) (Ok z) old mid w x → Stands w (fresh (view t)) env → Stands x (fresh (view b')) env
  emit_second_stands z old mid x h i = both_stands env (fresh (view a')) (view b') z old mid w x h (stands_onward env (fresh (view t)) (both (fresh (view a')) (view b')) w w union_onward i)

  pub emit_union : (z : Unit {0}) (r : Result (Unit {0}) EvalStop) (old mid new : Gathered) (x v : Running) → Emits env (fresh (view a')) (Ok z) old mid w x → Emits env (fresh (view b')) r mid new x v → Emits env (fresh (view t)) r old new w v
  emit_union z r old mid new x v h k = onward_emit env (fresh (view t)) (both (fresh (view a')) (view b')) w w v r old new union_onward (both_emit env (fresh (view a')) (view b') z r old mid new w x v h k)

  pub emit_union_stop : (s : EvalStop) (old new : Gathered) (x : Running) → Emits env (fresh (view a')) (Err s) old new w x → Emits env (fresh (view t)) (Err s) old new w x
  emit_union_stop s old new x h = onward_emit env (fresh (view t)) (both (fresh (view a')) (view b')) w w x (Err s) old new union_onward (both_stop env (fresh (view a')) (view b') s old new w x h)

-- ---- what was made whole

pub collection_shows : (v : Value) (k : Kind) (vs : List Value) → v ≡ collection k vs → items_of (done v) ≡ flow vs fine
collection_shows v k vs e = ap items_at_all (ap as_collection e ∙ collection_is k vs)

pub emit_whole : (env : List Value) (p : Node) (r : Result Value Halt) (z : Result (Unit {0}) EvalStop) (old new : Gathered) (a b : Running) → ComesOne p → Wholly env p r a b → AddsWhole r z old new → Emits env (fresh p) z old new a b
emit_whole env p (Ok v) (Ok z) old new a b none h k = (k.1, k.3, shown_empties env p k.1 fine a b (done_shown env p v k.1 a b h (collection_shows v k.0 k.1 k.2)) none)
emit_whole env p (Ok v) (Err why.Overflow) old new a b none h k = absurd k
emit_whole env p (Ok v) (Err (why.Driver l e)) old new a b none h k = absurd k
emit_whole env p (Ok v) (Err why.NoMemory) old new a b none h k = record { moves = h.moves; known = h.known; reason = tt }
emit_whole env p (Err (halt.Over vs)) (Ok z) old new a b none h k = absurd k
emit_whole env p (Err (halt.Over vs)) (Err why.Overflow) old new a b none h k = (vs.items, k, shown_empties env p vs.items overflow a b (over_shown env p vs.items a b h) none)
emit_whole env p (Err (halt.Over vs)) (Err (why.Driver l e)) old new a b none h k = absurd k
emit_whole env p (Err (halt.Over vs)) (Err why.NoMemory) old new a b none h k = record { moves = h.moves; known = h.known; reason = tt }
emit_whole env p (Err (halt.Driver l e)) z old new a b none h k = subst (λ q. Emits env (fresh p) q old new a b) (sym k) h
emit_whole env p (Err halt.NoMemory) (Ok z) old new a b none h k = absurd k
emit_whole env p (Err halt.NoMemory) (Err why.Overflow) old new a b none h k = absurd k
emit_whole env p (Err halt.NoMemory) (Err (why.Driver l e)) old new a b none h k = absurd k
emit_whole env p (Err halt.NoMemory) (Err why.NoMemory) old new a b none h k = h

-- a copy is added as what it was made of
pub copied_collection : (v : Value) (r : Result Value Halt) → AnswersOutcome (done v) r → IsCollection v → IfOk r IsCollection
copied_collection v (Ok u) e i = subst IsCollection (sym e) i
copied_collection v (Err h) e i = tt

pub copied_whole : (v : Value) (r : Result Value Halt) (z : Result (Unit {0}) EvalStop) (old new : Gathered) → AnswersOutcome (done v) r → AddsWhole r z old new → AddsWhole (Ok v) z old new
copied_whole v (Ok u) z old new e h = subst (λ q. AddsWhole (Ok q) z old new) e h
copied_whole v (Err halt.NoMemory) (Ok z) old new e h = absurd h
copied_whole v (Err halt.NoMemory) (Err why.NoMemory) old new e h = tt
copied_whole v (Err halt.NoMemory) (Err why.Overflow) old new e h = absurd h
copied_whole v (Err halt.NoMemory) (Err (why.Driver l f)) old new e h = absurd h
copied_whole v (Err (halt.Over vs)) z old new e h = absurd e
copied_whole v (Err (halt.Driver l f)) z old new e h = absurd e

-- ---- how a loop begins

module _ (env : List Value) (k : Kind) (b s : Node) (a : Running) where
  abbrev Loop : Snap
  Loop = fresh (node.Ext k b s)

  -- its source as it comes
  module _ (y : Bool) (is : y ≡ draws k s) (on : y ≡ true) where
    drawn_begins : Onward env Loop a (outside b (fresh s)) a
    drawn_begins = loop_begins env k b s a (sym is ∙ on)

    pub source_stands : Stands a Loop env → Stands a (fresh s) env
    source_stands h = stands_source env b (fresh s) a (stands_onward env Loop (outside b (fresh s)) a a drawn_begins h)

    pub drawn_stand : (d : Result (Vec Value Global) Halt) (x : Running) → Drains env (fresh s) d a x → Stands a Loop env → DrawnStand env b d x
    drawn_stand d x h i = drawing_stands env (outside b (fresh s)) b d a x (source_drawing env b (fresh s) d a x h) (stands_onward env Loop (outside b (fresh s)) a a drawn_begins i)

    pub drawn_emit : (d : Result (Vec Value Global) Halt) (r : Result (Unit {0}) EvalStop) (old new : Gathered) (x y : Running) → Drains env (fresh s) d a x → EmitsDrawn env b d r old new x y → Emits env Loop r old new a y
    drawn_emit d r old new x y h m = onward_emit env Loop (outside b (fresh s)) a a y r old new drawn_begins (drawing_emit env (outside b (fresh s)) b d r old new a x y (source_drawing env b (fresh s) d a x h) m)

    -- the rows of a scan
    module _ (t : Plan) (c : Scan) (e : view t ≡ s) (f : t ≡ plans.Scan c) where
      at_rows : s ≡ node.Scan c
      at_rows = sym e ∙ ap view f ∙ view_Scan c

      rows_begin : Onward env Loop a (outside b (fresh (node.Scan c))) a
      rows_begin = subst (λ z. Onward env Loop a (outside b (fresh z)) a) at_rows drawn_begins

      pub rows_stand : Stands a Loop env → Stands a (outside b (fresh (node.Scan c))) env
      rows_stand h = stands_onward env Loop (outside b (fresh (node.Scan c))) a a rows_begin h

      pub rows_emit : (r : Result (Unit {0}) EvalStop) (old new : Gathered) (x : Running) → Emits env (outside b (fresh (node.Scan c))) r old new a x → Emits env Loop r old new a x
      rows_emit r old new x h = onward_emit env Loop (outside b (fresh (node.Scan c))) a a x r old new rows_begin h

  pub loop_worth : Stands a Loop env → HasWorth a s env
  loop_worth h = let t = h.4 in (h.0, coll t.1 t.2, h.3, t.4, h.5)

  pub whole_source_there : (r : Result Value Halt) (x : Running) → Stands a Loop env → Wholly env s r a x → IfOk r IsCollection
  whole_source_there (Ok v) x i h = let t = i.4 in collection_of t.1 t.2 v (h.typed i.0 (coll t.1 t.2) i.3 t.4)
  whole_source_there (Err e) x i h = tt

  -- its source made whole
  module _ (y : Bool) (is : y ≡ draws k s) (off : y ≡ false) where
    pub whole_drawing : (r : Result Value Halt) (d : Result (Vec Value Global) Halt) (x : Running) → Wholly env s r a x → ItemsIn r d → Drawing env Loop b d a x
    whole_drawing (Ok v) (Ok vs) x h i = shown_loop env k b s vs.items fine a x (not_drawn env k s a (sym is ∙ off)) (done_shown env s v vs.items a x h (collection_shows v i.0 vs.items i.1))
    whole_drawing (Ok v) (Err e) x h i = absurd i
    whole_drawing (Err (halt.Over vs)) d x h i = subst (λ z. Drawing env Loop b z a x) (sym i) (shown_loop env k b s vs.items overflow a x (not_drawn env k s a (sym is ∙ off)) (over_shown env s vs.items a x h))
    whole_drawing (Err (halt.Driver l e)) d x h i = subst (λ z. Drawing env Loop b z a x) (sym i) (halts_at nothing (λ all. PartsLeft all Loop) (λ all. PartsIn all s) l e a x (λ all j. j.1) h)
    whole_drawing (Err halt.NoMemory) d x h i = subst (λ z. Drawing env Loop b z a x) (sym i) (halts_as nothing (λ all. PartsLeft all Loop) (λ all. PartsIn all s) ⊤ a x (λ all j. j.1) h)

    pub whole_stand : (r : Result Value Halt) (d : Result (Vec Value Global) Halt) (x : Running) → Wholly env s r a x → ItemsIn r d → Stands a Loop env → DrawnStand env b d x
    whole_stand r d x h i j = drawing_stands env Loop b d a x (whole_drawing r d x h i) j

    pub whole_emit : (r : Result Value Halt) (d : Result (Vec Value Global) Halt) (z : Result (Unit {0}) EvalStop) (old new : Gathered) (x v : Running) → Wholly env s r a x → ItemsIn r d → EmitsDrawn env b d z old new x v → Emits env Loop z old new a v
    whole_emit r d z old new x v h i m = drawing_emit env Loop b d z old new a x v (whole_drawing r d x h i) m

  -- its source where it stands
  module _ (stands : StandsSomewhere s) (v : Value) (h : ComesTo env s (done v) a a) where
    lent_drains : (vs : List Value) → items_of (done v) ≡ flow vs fine → Draining env Loop a [] (outside b (have vs fine)) a
    lent_drains vs e = shown_loop env k b s vs fine a a (standing_drawn env k s a stands) (done_shown env s v vs a a h e)

    pub lent_there : Stands a Loop env → IsCollection v
    lent_there i = let t = i.4 in collection_of t.1 t.2 v (h.typed i.0 (coll t.1 t.2) i.3 t.4)

    pub lent_stand : (j : Kind) (vs : List Value) → v ≡ collection j vs → Stands a Loop env → Stands a (outside b (have vs fine)) env
    lent_stand j vs e i = drains_stands env Loop a [] (outside b (have vs fine)) a (lent_drains vs (collection_shows v j vs e)) i

    pub lent_emit : (j : Kind) (vs : List Value) (z : Result (Unit {0}) EvalStop) (old new : Gathered) (x : Running) → v ≡ collection j vs → Emits env (outside b (have vs fine)) z old new a x → Emits env Loop z old new a x
    lent_emit j vs z old new x e m = starts_emit env Loop (outside b (have vs fine)) a a x z old new (lent_drains vs (collection_shows v j vs e)) m

-- ---- the parts of a literal

module _ (env : List Value) (s0 : Snap) (ps : List Plan) (i : ℕ) (p : Plan) (old now : Gathered) (a b : Running) (lt : i < length ps) (is : p ≡ get_or ps i p) (h : Adding env s0 a old now (made (nodes_view (drop i ps))) b) where
  abbrev Rest : Snap
  Rest = made (nodes_view (drop (i + 1) ps))

  at_part : Adding env s0 a old now (made (nodes (view p) (nodes_view (drop (i + 1) ps)))) b
  at_part = subst (λ z. Adding env s0 a old now (made z) b) (from_place ps i p lt is) h

  pub part_sense : Stands a s0 env → HasWorth b (view p) env
  part_sense j = let s = adding_stands env s0 (made (nodes (view p) (nodes_view (drop (i + 1) ps)))) old now a b at_part j in (s.0, s.2, s.3, s.4.0, s.5)

  pub part_goes : (v : Value) (new : Gathered) (c : Running) → ComesTo env (view p) (done v) b c → new ≡ with_one now v → Adding env s0 a old new Rest c
  part_goes v new c g e = adding_then env s0 (made (nodes (view p) (nodes_view (drop (i + 1) ps)))) Rest (v ∷ []) old now new a b c at_part
      (gives_drains env (made (nodes (view p) (nodes_view (drop (i + 1) ps)))) v Rest b c (made_gives env (view p) (nodes_view (drop (i + 1) ps)) v b c g)) e

  pub part_stops : (e : EvalStop) (c : Running) → Partly env (view p) (Err e) b c → Emits env s0 (Err e) old now a c
  part_stops e c g = adding_emit env s0 (made (nodes (view p) (nodes_view (drop (i + 1) ps)))) (Err e) old now now a b c at_part
      (stops_emit env (made (nodes (view p) (nodes_view (drop (i + 1) ps)))) e now b c (made_stops env (view p) (nodes_view (drop (i + 1) ps)) e b c g))

  pub literal_lost : (v : Value) (new : Gathered) (c : Running) → ComesTo env (view p) (done v) b c → Emits env s0 (Err why.NoMemory) old new a c
  literal_lost v new c g = adding_emit env s0 (made (nodes (view p) (nodes_view (drop (i + 1) ps)))) (Err why.NoMemory) old now new a b c at_part (record { moves = g.moves; known = λ all j. g.known all j.0; reason = tt })

pub parts_end : (env : List Value) (s0 : Snap) (ps : List Plan) (i : ℕ) (z : Unit {0}) (old now : Gathered) (a b : Running) → length ps ≤ i → Adding env s0 a old now (made (nodes_view (drop i ps))) b → Emits env s0 (Ok z) old now a b
parts_end env s0 ps i z old now a b le h =
    let g = subst (λ q. Adding env s0 a old now (made (nodes_view q)) b) (drop_all ps i le) h in
    adding_emit env s0 (made no_nodes) (Ok z) old now now a b b g (ends_emit env (made no_nodes) z now b b (made_ends env b))

-- a literal of no item
pub literal_none : (env : List Value) (ps : List Plan) (z : Unit {0}) (old : Gathered) (a : Running) → length ps ≡ 0 → Emits env (made (nodes_view ps)) (Ok z) old old a a
literal_none env ps z old a none = parts_end env (made (nodes_view ps)) ps 0 z old old a a (omega (arith, none)) (adding_starts env (made (nodes_view ps)) a old)

-- ---- the values that a body draws

module _ (env : List Value) (s0 : Snap) (p : Node) (vs : List Value) (i : ℕ) (v : Value) (end : End) (old now : Gathered) (a b : Running) (lt : i < length vs) (is : v ≡ get_or vs i v) (h : Adding env s0 a old now (outside p (have (drop i vs) end)) b) where
  at_value : Adding env s0 a old now (outside p (have (v ∷ drop (i + 1) vs) end)) b
  at_value = subst (λ z. Adding env s0 a old now (outside p (have z end)) b) (at_drop_more (λ z. z) vs i v lt ∙ ap (λ z. z ∷ drop (i + 1) vs) (sym is)) h

  pub value_stands : Stands a s0 env → Stands b (fresh p) (v ∷ env)
  value_stands j = turn_stands env p v (drop (i + 1) vs) end b b (adding_stands env s0 (outside p (have (v ∷ drop (i + 1) vs) end)) old now a b at_value j)

  pub value_goes : (z : Unit {0}) (new : Gathered) (c : Running) → Emits (v ∷ env) (fresh p) (Ok z) now new b c → Adding env s0 a old new (outside p (have (drop (i + 1) vs) end)) c
  value_goes z new c g = turn_adding env s0 p v (drop (i + 1) vs) end z old now new a b c at_value g

  pub value_stops : (e : EvalStop) (new : Gathered) (c : Running) → Emits (v ∷ env) (fresh p) (Err e) now new b c → Emits env s0 (Err e) old new a c
  value_stops e new c g = adding_emit env s0 (outside p (have (v ∷ drop (i + 1) vs) end)) (Err e) old now new a b c at_value (turn_stop env p v (drop (i + 1) vs) end b c e now new g)

module _ (env : List Value) (s0 : Snap) (p : Node) (vs : List Value) (i : ℕ) (past : Bool) (old now : Gathered) (a b : Running) (le : length vs ≤ i) (h : Adding env s0 a old now (outside p (have (drop i vs) (end_of past))) b) where
  at_none : (end : End) → end_of past ≡ end → Adding env s0 a old now (outside p (have [] end)) b
  at_none end e = subst (λ z. Adding env s0 a old now (outside p (have [] z)) b) e (subst (λ z. Adding env s0 a old now (outside p (have z (end_of past))) b) (drop_all vs i le) h)

  pub values_end : (z : Unit {0}) → past ≡ false → Emits env s0 (Ok z) old now a b
  values_end z e = adding_emit env s0 (outside p (have [] fine)) (Ok z) old now now a b b (at_none fine (ap end_of e)) ([], refl, none_left env p fine b)

  pub values_over : past ≡ true → Emits env s0 (Err why.Overflow) old now a b
  values_over e = adding_emit env s0 (outside p (have [] overflow)) (Err why.Overflow) old now now a b b (at_none overflow (ap end_of e)) ([], refl, none_left env p overflow b)

-- ---- the rows of a scan

-- a scan never stops by an overflow
pub never_over : (c : Scan) (e : EvalStop) (a b : Running) → Stopped c e a b → e ≡ why.Overflow → ⊥
never_over c e a b h is = subst (λ z. Stopped c z a b) is h

any_stop : (env : List Value) (s : Snap) (e : EvalStop) (old new : Gathered) (a b : Running) → (e ≡ why.Overflow → ⊥) → Stops env s e a b → Emits env s (Err e) old new a b
any_stop env s why.Overflow old new a b apart h = absurd (apart refl)
any_stop env s (why.Driver l x) old new a b apart h = h
any_stop env s why.NoMemory old new a b apart h = h

pub emits_moves : (env : List Value) (s : Snap) (r : Result (Unit {0}) EvalStop) (old new : Gathered) (a b : Running) → Emits env s r old new a b → Moves (uses s) nothing a b
emits_moves env s (Ok z) old new a b h = h.2.moves
emits_moves env s (Err why.Overflow) old new a b h = h.2.moves
emits_moves env s (Err (why.Driver l x)) old new a b h = h.moves
emits_moves env s (Err why.NoMemory) old new a b h = h.moves

pub scan_refuses : (env : List Value) (c : Scan) (e : EvalStop) (old new : Gathered) (a b : Running) → NotStarted c e a b → Emits env (fresh (node.Scan c)) (Err e) old new a b
scan_refuses env c e old new a b h = any_stop env (fresh (node.Scan c)) e old new a b (never_over c e a b h.cause) (scan_refused env c e a b h)

pub rows_refuse : (env : List Value) (p : Node) (c : Scan) (e : EvalStop) (old new : Gathered) (a b : Running) → NotStarted c e a b → Emits env (outside p (fresh (node.Scan c))) (Err e) old new a b
rows_refuse env p c e old new a b h = any_stop env (outside p (fresh (node.Scan c))) e old new a b (never_over c e a b h.cause) (loop_stop env p (fresh (node.Scan c)) e a b (scan_refused env c e a b h))

-- what can be asked of a cursor of a driver
abbrev pub CanPull : Scan → ℕ → Running → Type 0
CanPull q k w = CanScan w q × IsOpen w q k × (0 < w.settings.fetch)

pub can_pull_there : (env : List Value) (q : Scan) (k n : ℕ) (w : Running) → Owned (one_at q.driver k) w → Stands w (pulling q k [] n) env → CanPull q k w
can_pull_there env q k n w o h = (can_pull env q k n [] w h, open_there env q k n [] w o h, h.5.session.fetch)

pub all_begin : (env : List Value) (q : Scan) (k : ℕ) (old : Gathered) (w x : Running) → Stands w (fresh (node.Scan q)) env → Started q k w x
    → Adding env (fresh (node.Scan q)) w old old (pulling q k [] w.settings.fetch) x × Owned (one_at q.driver k) x
all_begin env q k old w x h s = (
  adding_from env (fresh (node.Scan q)) (pulling q k [] w.settings.fetch) w x old
      (onward_drains env (fresh (node.Scan q)) (pulling q k [] w.settings.fetch) w x (scan_begins env q k w.settings.fetch w x h refl s)),
  owned_after nothing (one_at q.driver k) w x (owned_nothing w) s.moves,
)

module _ (env : List Value) (s0 : Snap) (q : Scan) (k n : ℕ) (old now : Gathered) (a b : Running) (h : Adding env s0 a old now (pulling q k [] n) b × Owned (one_at q.driver k) b) where
  abbrev Left : Snap
  Left = pulling q k [] n

  pub all_ready : Stands a s0 env → CanPull q k b
  all_ready i = can_pull_there env q k n b h.1 (adding_stands env s0 Left old now a b h.0 i)

  -- these rows were handed
  all_more : (into into' : List Value) (new : Gathered) (c : Running) (p : PulledMore q k into into' b c) → new ≡ with_all now p.rows → Adding env s0 a old new Left c × Owned (one_at q.driver k) c
  all_more into into' new c p e = (adding_then env s0 Left Left p.rows old now new a b c h.0 (scan_hands env q k n into into' b c p) e, owned_after (one_at q.driver k) (one_at q.driver k) b c h.1 p.moves)

  -- to a list
  pub all_goes : (into into' : List Value) (c : Running) → now ≡ listed into → PulledMore q k into into' b c → Adding env s0 a old (listed into') Left c × Owned (one_at q.driver k) c
  all_goes into into' c e p = all_more into into' (listed into') c p (ap listed p.appended ∙ sym (with_listed into p.rows) ∙ ap (λ g. with_all g p.rows) (sym e))

  pub all_end : (z : Unit {0}) (into into' : List Value) (new : Gathered) (c d : Running) → new ≡ now → PulledNone q k into into' b c → Closes (one_at q.driver k) c d → Emits env s0 (Ok z) old new a d
  all_end z into into' new c d e p m = adding_emit env s0 Left (Ok z) old now new a b d h.0 ([], e, ends_empties env Left b d (scan_ends env q k n into into' b c d p m))

  pub all_stop : (e : EvalStop) (new : Gathered) (c : Running) → NotPulled q k e b c → Emits env s0 (Err e) old new a c
  all_stop e new c p = adding_emit env s0 Left (Err e) old now new a b c h.0 (any_stop env Left e now new b c (never_over q e b c p.cause) (scan_stops env q k n e b c p))

  -- to a tally
  module _ (into rows : List Value) (c : Running) (p : PulledMore q k into rows b c) (empty : into ≡ []) (shown : List Value) (same : shown ≡ rows) where
    shown_rows : shown ≡ p.rows
    shown_rows = same ∙ p.appended ∙ ap (λ z. z ++ p.rows) empty

    pub tally_goes : (new : Gathered) → new ≡ with_all now shown → Adding env s0 a old new Left c × Owned (one_at q.driver k) c
    tally_goes new e = all_more into rows new c p (e ∙ ap (with_all now) shown_rows)

    pub tally_owned : Owned (one_at q.driver k) c
    tally_owned = owned_after (one_at q.driver k) (one_at q.driver k) b c h.1 p.moves

    pub tally_lost : (new : Gathered) (d : Running) → Closes (one_at q.driver k) c d → Emits env s0 (Err why.NoMemory) old new a d
    tally_lost new d m =
        let g = all_more into rows (with_all now p.rows) c p refl in
        adding_emit env s0 Left (Err why.NoMemory) old (with_all now p.rows) new a c d g.0 (record { moves = m.moves; known = λ all i. of_none all m.moves.events m.none; reason = tt })

pub each_begin : (env : List Value) (p : Node) (q : Scan) (k : ℕ) (old : Gathered) (w x : Running) → Stands w (outside p (fresh (node.Scan q))) env → Started q k w x
    → Adding env (outside p (fresh (node.Scan q))) w old old (outside p (pulling q k [] w.settings.fetch)) x × Owned (one_at q.driver k) x
each_begin env p q k old w x h s = (
  adding_from env (outside p (fresh (node.Scan q))) (outside p (pulling q k [] w.settings.fetch)) w x old (outside_drains env p (fresh (node.Scan q)) (pulling q k [] w.settings.fetch) w x
      (onward_drains env (fresh (node.Scan q)) (pulling q k [] w.settings.fetch) w x (scan_begins env q k w.settings.fetch w x (stands_source env p (fresh (node.Scan q)) w h) refl s))),
  owned_after nothing (one_at q.driver k) w x (owned_nothing w) s.moves,
)

module _ (env : List Value) (s0 : Snap) (p : Node) (q : Scan) (k n : ℕ) (old now : Gathered) (a b : Running) (h : Adding env s0 a old now (outside p (pulling q k [] n)) b × Owned (one_at q.driver k) b) where
  abbrev Waiting : Snap
  Waiting = outside p (pulling q k [] n)

  pub each_ready : Stands a s0 env → CanPull q k b
  each_ready i = can_pull_there env q k n b h.1 (stands_source env p (pulling q k [] n) b (adding_stands env s0 Waiting old now a b h.0 i))

  pub each_end : (z : Unit {0}) (none none' : List Value) (c d : Running) → PulledNone q k none none' b c → Closes (one_at q.driver k) c d → Emits env s0 (Ok z) old now a d
  each_end z none none' c d m x = adding_emit env s0 Waiting (Ok z) old now now a b d h.0 (ends_emit env Waiting z now b d (loop_end env p (pulling q k [] n) b d (scan_ends env q k n none none' b c d m x)))

  pub each_stop : (e : EvalStop) (c : Running) → NotPulled q k e b c → Emits env s0 (Err e) old now a c
  each_stop e c m = adding_emit env s0 Waiting (Err e) old now now a b c h.0 (any_stop env Waiting e now now b c (never_over q e b c m.cause) (loop_stop env p (pulling q k [] n) e b c (scan_stops env q k n e b c m)))

  -- rows were pulled
  module _ (none rows : List Value) (c : Running) (m : PulledMore q k none rows b c) (empty : none ≡ []) (shown : List Value) (same : shown ≡ rows) where
    abbrev Filled : Snap
    Filled = outside p (pulling q k rows n)

    abbrev Shown : Snap
    Shown = outside p (have shown fine)

    handed : Draining env (pulling q k [] n) b rows (pulling q k [] n) c
    handed = subst (λ z. Draining env (pulling q k [] n) b z (pulling q k [] n) c) (sym (m.appended ∙ ap (λ z. z ++ m.rows) empty)) (scan_hands env q k n none rows b c m)

    filled : Adding env s0 a old now Filled c
    filled = adding_then env s0 Waiting Filled [] old now now a b c h.0 (outside_drains env p (pulling q k [] n) (pulling q k rows n) b c (rows_ahead env q k n (pulling q k [] n) rows b c handed)) (refl)

    owned_then : Owned (one_at q.driver k) c
    owned_then = owned_after (one_at q.driver k) (one_at q.driver k) b c h.1 m.moves

    as_pulled : (r : Result (Unit {0}) EvalStop) (new : Gathered) (d : Running) → Emits env Shown r now new c d → Emits env (outside p (have rows fine)) r now new c d
    as_pulled r new d g = subst (λ z. Emits env (outside p (have z fine)) r now new c d) same g

    pub each_draw_stands : Stands a s0 env → Stands c Shown env
    each_draw_stands i =
        let j = adding_stands env s0 Filled old now a c filled i in
        let f = j.4 in
        subst (λ z. Stands c (outside p (have z fine)) env) (sym same) (j.0, j.1, j.2, j.3, (f.0, f.1, f.2, f.3.0, f.4), j.5)

    pub each_owned : (r : Result (Unit {0}) EvalStop) (new : Gathered) (d : Running) → Emits env Shown r now new c d → Owned (one_at q.driver k) d
    each_owned r new d g = owned_after (one_at q.driver k) (one_at q.driver k) c d owned_then (body_over (pulling q k [] n) c d (emits_moves env Shown r now new c d g))

    pub each_goes : (z : Unit {0}) (new : Gathered) (d : Running) → Emits env Shown (Ok z) now new c d → Adding env s0 a old new Waiting d × Owned (one_at q.driver k) d
    each_goes z new d g =
        let e = as_pulled (Ok z) new d g in
        (adding_then env s0 Filled Waiting e.0 old now new a c d filled (rows_drawn env p q k n rows c d owned_then z now new e) e.1, each_owned (Ok z) new d g)

    pub each_falls : (z : Unit {0}) (new : Gathered) (d : Running) → Emits env Shown (Ok z) now new c d → bound_in (cursor_at d q.driver k) < bound_in (cursor_at b q.driver k)
    each_falls z new d g = let x = pull_falls q k none rows b c m in let y = rows_still env p q k n rows c d owned_then z now new (as_pulled (Ok z) new d g) in omega arith

    pub each_lost : (e : EvalStop) (new : Gathered) (d l : Running) → Emits env Shown (Err e) now new c d → Closes (one_at q.driver k) d l → Emits env s0 (Err e) old new a l
    each_lost e new d l g x = adding_emit env s0 Filled (Err e) old now new a c l filled (rows_stop env p q k n rows c d owned_then l x e now new (as_pulled (Err e) new d g))
