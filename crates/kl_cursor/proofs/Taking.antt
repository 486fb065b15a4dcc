-- A part that was taken out, stepped, and answered.
use Rattle.std.proofs.Common.{◌≡◌, ⊎_elim, Bool, ℕ, reverse, refl, ◌++◌, ◌+◌, ◌*◌, ◌<◌, ◌≤◌, List, ◌∷◌, Option, Some, None, Result, Ok, Err, sym, ap, ◌∙◌, subst, arith, Bor}
use mathlib.Core.Logic.{◌⊎◌}
use Rattle.kl_value.specs.declared.Value.{Value}
use Rattle.kl_scans.specs.Running.{Running}
use Rattle.kl_plan.specs.Nodes.{Node, view}
use Rattle.kl_plan.specs.declared.plan.Plan.{Plan}
use Rattle.kl_cursor.specs.declared.state.State.{State}
use Rattle.kl_cursor.specs.declared.state.State.TheVariants as state
use Rattle.kl_eval.specs.declared.stop.EvalStop.{EvalStop}
use Rattle.kl_scans.specs.Held.{nothing, beside, Owned}
use Rattle.kl_scans.specs.Moves.{Closes}
use Rattle.kl_cursor.specs.Left.{Snap, fresh, have, pulling, both, bound, outside, inside, made, ended, taking, reads, pairing, joining, matching, leading, snap, uses, end_of, nodes_from}
use Rattle.kl_cursor.specs.Measure.{falling, rank, most}
use Rattle.kl_cursor.specs.Sense.{Stands}
use Rattle.kl_cursor.specs.Steps.{Onward, Gives, Ends, Stops, Steps, Begins}
use Rattle.kl_scans.proofs.Moving.{moves_none, moves_then, moves_same, moves_beside, owned_after}
use Rattle.kl_outcome.specs.Outcome.{stop, fine}
use Rattle.kl_cursor.proofs.Likes.{same_itself}
use Rattle.kl_cursor.proofs.Snaps.{snap_Fresh, snap_Have, snap_Make, snap_Done, snap_Union, snap_Bound, snap_Inside, snap_inside}
use Rattle.kl_cursor.proofs.Forms.{steps_then, stops_then, union_some, union_none, union_stop, bound_some, bound_none, bound_stop, inside_some, inside_none, inside_stop, drew, loop_some, loop_none, loop_lost, loop_end, loop_stop, gives_then, ends_then, onward_then}
use Rattle.kl_cursor.proofs.Calls.{owned_nothing, stands_onward, stands_source, stands_body}

pub given : (env : List Value) (s1 s rest : State) (i : Option Value) (v : Value) (r : Result (Option Value × State) EvalStop) (a b : Running) → s1 ≡ s → r ≡ Ok (i, rest) → i ≡ Some v → Steps env (snap s1) r a b → Gives env (snap s) a v (snap rest) b
given env s1 s rest i v r a b e f g h =
    let x : Steps env (snap s1) (Ok (i, rest)) a b = subst (λ q. Steps env (snap s1) q a b) f h in
    let y : Steps env (snap s1) (Ok (Some v, rest)) a b = subst (λ q. Steps env (snap s1) (Ok (q, rest)) a b) g x in
    subst (λ q. Gives env (snap q) a v (snap rest) b) e y

pub finished : (env : List Value) (s1 s rest : State) (i : Option Value) (r : Result (Option Value × State) EvalStop) (a b : Running) → s1 ≡ s → r ≡ Ok (i, rest) → i ≡ None → Steps env (snap s1) r a b → Ends env (snap s) a b
finished env s1 s rest i r a b e f g h =
    let x : Steps env (snap s1) (Ok (i, rest)) a b = subst (λ q. Steps env (snap s1) q a b) f h in
    let y : Steps env (snap s1) (Ok (None, rest)) a b = subst (λ q. Steps env (snap s1) (Ok (q, rest)) a b) g x in
    subst (λ q. Ends env (snap q) a b) e y

pub stopped : (env : List Value) (s1 s : State) (w : EvalStop) (r : Result (Option Value × State) EvalStop) (a b : Running) → s1 ≡ s → r ≡ Err w → Steps env (snap s1) r a b → Stops env (snap s) w a b
stopped env s1 s w r a b e f h = subst (λ q. Stops env (snap q) w a b) e (subst (λ q. Steps env (snap s1) q a b) f h)

pub at_snap : (env : List Value) (x y : Snap) (r : Result (Option Value × State) EvalStop) (a b : Running) → x ≡ y → Steps env y r a b → Steps env x r a b
at_snap env x y r a b e h = subst (λ z. Steps env z r a b) (sym e) h

pub stops_from : (env : List Value) (x y : Snap) (e : EvalStop) (a b : Running) → x ≡ y → Stops env y e a b → Stops env x e a b
stops_from env x y e a b is h = subst (λ z. Stops env z e a b) (sym is) h

pub owned_at : (x y : Snap) (w : Running) → x ≡ y → Owned (uses x) w → Owned (uses y) w
owned_at x y w e h = subst (λ z. Owned (uses z) w) e h

pub stands_at : (env : List Value) (x y : Snap) (w : Running) → x ≡ y → Stands w x env → Stands w y env
stands_at env x y w e h = subst (λ z. Stands w z env) e h

-- ---- a plan that begins

pub begun_owned : (env : List Value) (p : Node) (t : State) (a b : Running) → Begins env (fresh p) (Ok t) a b → Owned (uses (snap t)) b
begun_owned env p t a b m = owned_after nothing (uses (snap t)) a b (owned_nothing a) m.0.moves

pub begun_stands : (env : List Value) (x : Snap) (p : Node) (t : State) (a b : Running) → x ≡ fresh p → Stands a x env → Begins env (fresh p) (Ok t) a b → Stands b (snap t) env
begun_stands env x p t a b e h m = stands_onward env (fresh p) (snap t) a b m.0 (stands_at env x (fresh p) a e h)

pub begun_steps : (env : List Value) (x : Snap) (p : Node) (t : State) (r : Result (Option Value × State) EvalStop) (a b c : Running) → x ≡ fresh p → Begins env (fresh p) (Ok t) a b → Steps env (snap t) r b c → Steps env x r a c
begun_steps env x p t r a b c e m h = at_snap env x (fresh p) r a c e (steps_then env (fresh p) (snap t) r a b c m.0 h)

pub nothing_left : (env : List Value) (x : Snap) (w : Running) (q : State) → x ≡ ended → Steps env x (Ok (None, q)) w w
nothing_left env x w q e =
    at_snap env x ended (Ok (None, q)) w w e
    (record { moves = moves_none nothing w; known = λ all h. tt; over = λ G k u h f told. same_itself k (stop fine); counts = λ G k u h f told z P. omega arith })

-- ---- after a loop's turns

pub turn_some : (env : List Value) (p : Node) (s0 s t i y : Snap) (v w : Value) (a b c d : Running) → Owned (uses s) b → Onward env (outside p s0) a (outside p s) b → Gives env s b v t c → Gives (v ∷ env) (fresh p) c w i d → y ≡ inside p t v i → Gives env (outside p s0) a w y d
turn_some env p s0 s t i y v w a b c d o m g h e =
    subst (λ z. Gives env (outside p s0) a w z d) (sym e)
    (gives_then env (outside p s0) (outside p s) (inside p t v i) w a b d m (loop_some env p s t i v w b c d (owned_after (uses s) (uses t) b c o g.moves) (drew env p s t v b c g) h))

pub turn_none : (env : List Value) (p : Node) (s0 s t z : Snap) (v : Value) (a b c d : Running) → Owned (uses s) b → Onward env (outside p s0) a (outside p s) b → Gives env s b v t c → Ends (v ∷ env) (fresh p) c d → z ≡ t → Onward env (outside p s0) a (outside p z) d × Owned (uses z) d
turn_none env p s0 s t z v a b c d o m g h e =
    let own = owned_after (uses s) (uses t) b c o g.moves in
    let l = loop_none env p s t v b c d own (drew env p s t v b c g) h in
    subst (λ q. Onward env (outside p s0) a (outside p q) d × Owned (uses q) d) (sym e) (onward_then env (outside p s0) (outside p s) (outside p t) a b d m l.0, owned_after (uses s) (uses t) b d o l.0.moves)

pub turn_falls : (env : List Value) (p : Node) (s t z : Snap) (v : Value) (b c d : Running) → Owned (uses s) b → Gives env s b v t c → Ends (v ∷ env) (fresh p) c d → z ≡ t → most d z < most b s
turn_falls env p s t z v b c d o g h e = subst (λ q. most d q < most b s) (sym e) (loop_none env p s t v b c d (owned_after (uses s) (uses t) b c o g.moves) (drew env p s t v b c g) h).1

pub turn_lost : (env : List Value) (p : Node) (s0 s t : Snap) (v : Value) (x : EvalStop) (a b c d l : Running) → Onward env (outside p s0) a (outside p s) b → Gives env s b v t c → Stops (v ∷ env) (fresh p) x c d → Closes (uses t) d l → Stops env (outside p s0) x a l
turn_lost env p s0 s t v x a b c d l m g h k = stops_then env (outside p s0) (outside p s) x a b l m (loop_lost env p s t v x b c d l (drew env p s t v b c g) h k)

pub turn_end : (env : List Value) (p : Node) (s0 s : Snap) (a b c : Running) → Onward env (outside p s0) a (outside p s) b → Ends env s b c → Ends env (outside p s0) a c
turn_end env p s0 s a b c m g = ends_then env (outside p s0) (outside p s) a b c m (loop_end env p s b c g)

pub turn_stop : (env : List Value) (p : Node) (s0 s : Snap) (x : EvalStop) (a b c : Running) → Onward env (outside p s0) a (outside p s) b → Stops env s x b c → Stops env (outside p s0) x a c
turn_stop env p s0 s x a b c m g = stops_then env (outside p s0) (outside p s) x a b c m (loop_stop env p s x b c g)

-- ---- each form, from what its code has

pub union_gave : (env : List Value) (s1 s rest n : State) (q : Bor Plan) (i : Option Value) (v : Value) (r : Result (Option Value × State) EvalStop) (a b : Running) → s1 ≡ s → r ≡ Ok (i, rest) → i ≡ Some v → n ≡ rest → Steps env (snap s1) r a b
    → Gives env (both (snap s) (view q.now)) a v (snap (state.Union n q)) b
union_gave env s1 s rest n q i v r a b e f g h k =
    subst (λ z. Gives env (both (snap s) (view q.now)) a v z b) (sym (snap_Union n q ∙ ap (λ z. both (snap z) (view q.now)) h))
    (union_some env (snap s) (snap rest) (view q.now) v a b (given env s1 s rest i v r a b e f g k))

pub union_over : (env : List Value) (s1 s rest : State) (q : Bor Plan) (i : Option Value) (r z : Result (Option Value × State) EvalStop) (a b c : Running) → s1 ≡ s → r ≡ Ok (i, rest) → i ≡ None → Steps env (snap s1) r a b → Steps env (snap (state.Fresh q)) z b c
    → Steps env (both (snap s) (view q.now)) z a c
union_over env s1 s rest q i r z a b c e f g h k =
    steps_then env (both (snap s) (view q.now)) (fresh (view q.now)) z a b c (union_none env (snap s) (view q.now) a b (finished env s1 s rest i r a b e f g h)) (at_snap env (fresh (view q.now)) (snap (state.Fresh q)) z b c (sym (snap_Fresh q)) k)

pub union_err : (env : List Value) (s1 s : State) (q : Bor Plan) (w : EvalStop) (r : Result (Option Value × State) EvalStop) (a b : Running) → s1 ≡ s → r ≡ Err w → Steps env (snap s1) r a b → Stops env (both (snap s) (view q.now)) w a b
union_err env s1 s q w r a b e f h = union_stop env (snap s) (view q.now) w a b (stopped env s1 s w r a b e f h)

-- the second part may begin
pub union_next : (env : List Value) (s1 s rest : State) (q : Bor Plan) (i : Option Value) (r : Result (Option Value × State) EvalStop) (a b : Running) → s1 ≡ s → r ≡ Ok (i, rest) → i ≡ None → Steps env (snap s1) r a b → Stands a (both (snap s) (view q.now)) env
    → Stands b (snap (state.Fresh q)) env
union_next env s1 s rest q i r a b e f g h k =
    stands_at env (fresh (view q.now)) (snap (state.Fresh q)) b (sym (snap_Fresh q)) (stands_onward env (both (snap s) (view q.now)) (fresh (view q.now)) a b (union_none env (snap s) (view q.now) a b (finished env s1 s rest i r a b e f g h)) k)

pub bound_gave : (env : List Value) (x : Value) (s1 s rest n : State) (i : Option Value) (v : Value) (r : Result (Option Value × State) EvalStop) (a b : Running) → s1 ≡ s → r ≡ Ok (i, rest) → i ≡ Some v → n ≡ rest → Steps (x ∷ env) (snap s1) r a b
    → Gives env (bound x (snap s)) a v (snap (state.Bound x n)) b
bound_gave env x s1 s rest n i v r a b e f g h k =
    subst (λ z. Gives env (bound x (snap s)) a v z b) (sym (snap_Bound x n ∙ ap (λ z. bound x (snap z)) h)) (bound_some env x (snap s) (snap rest) v a b (given (x ∷ env) s1 s rest i v r a b e f g k))

pub bound_over : (env : List Value) (x : Value) (s1 s rest : State) (i : Option Value) (r : Result (Option Value × State) EvalStop) (a b : Running) → s1 ≡ s → r ≡ Ok (i, rest) → i ≡ None → Steps (x ∷ env) (snap s1) r a b → Ends env (bound x (snap s)) a b
bound_over env x s1 s rest i r a b e f g h = bound_none env x (snap s) a b (finished (x ∷ env) s1 s rest i r a b e f g h)

pub bound_err : (env : List Value) (x : Value) (s1 s : State) (w : EvalStop) (r : Result (Option Value × State) EvalStop) (a b : Running) → s1 ≡ s → r ≡ Err w → Steps (x ∷ env) (snap s1) r a b → Stops env (bound x (snap s)) w a b
bound_err env x s1 s w r a b e f h = bound_stop env x (snap s) w a b (stopped (x ∷ env) s1 s w r a b e f h)

pub inside_gave : (env : List Value) (p : Bor Plan) (s : State) (x : Value) (j1 j rest n : State) (i : Option Value) (v : Value) (r : Result (Option Value × State) EvalStop) (a b : Running) → Owned (uses (inside (view p.now) (snap s) x (snap j))) a → j1 ≡ j → r ≡ Ok (i, rest) → i ≡ Some v → n ≡ rest → Steps (x ∷ env) (snap j1) r a b
    → Gives env (inside (view p.now) (snap s) x (snap j)) a v (snap (state.Inside p s x n)) b
inside_gave env p s x j1 j rest n i v r a b o e f g h k =
    subst (λ z. Gives env (inside (view p.now) (snap s) x (snap j)) a v z b) (sym (snap_Inside p s x n ∙ ap (λ z. inside (view p.now) (snap s) x (snap z)) h))
    (inside_some env (view p.now) (snap s) x (snap j) (snap rest) v a b o (given (x ∷ env) j1 j rest i v r a b e f g k))

pub inside_over' : (env : List Value) (p : Bor Plan) (s : State) (x : Value) (j1 j rest : State) (i : Option Value) (r z : Result (Option Value × State) EvalStop) (a b c : Running) → Owned (uses (inside (view p.now) (snap s) x (snap j))) a → j1 ≡ j → r ≡ Ok (i, rest) → i ≡ None → Steps (x ∷ env) (snap j1) r a b
    → Steps env (outside (view p.now) (snap s)) z b c → Steps env (inside (view p.now) (snap s) x (snap j)) z a c
inside_over' env p s x j1 j rest i r z a b c o e f g h k =
    steps_then env (inside (view p.now) (snap s) x (snap j)) (outside (view p.now) (snap s)) z a b c (inside_none env (view p.now) (snap s) x (snap j) a b o (finished (x ∷ env) j1 j rest i r a b e f g h)) k

pub inside_next : (env : List Value) (p : Bor Plan) (s : State) (x : Value) (j1 j rest : State) (i : Option Value) (r : Result (Option Value × State) EvalStop) (a b : Running) → Owned (uses (inside (view p.now) (snap s) x (snap j))) a → j1 ≡ j → r ≡ Ok (i, rest) → i ≡ None → Steps (x ∷ env) (snap j1) r a b
    → Stands a (inside (view p.now) (snap s) x (snap j)) env → Stands b (outside (view p.now) (snap s)) env × Owned (uses (snap s)) b
inside_next env p s x j1 j rest i r a b o e f g h k =
    let m = inside_none env (view p.now) (snap s) x (snap j) a b o (finished (x ∷ env) j1 j rest i r a b e f g h) in
    (stands_onward env (inside (view p.now) (snap s) x (snap j)) (outside (view p.now) (snap s)) a b m k, owned_after (uses (inside (view p.now) (snap s) x (snap j))) (uses (snap s)) a b o m.moves)

pub inside_err : (env : List Value) (p : Bor Plan) (s : State) (x : Value) (j1 j : State) (w : EvalStop) (r : Result (Option Value × State) EvalStop) (a b c : Running) → j1 ≡ j → r ≡ Err w → Steps (x ∷ env) (snap j1) r a b → Closes (uses (snap s)) b c
    → Stops env (inside (view p.now) (snap s) x (snap j)) w a c
inside_err env p s x j1 j w r a b c e f h m = inside_stop env (view p.now) (snap s) x (snap j) w a b c (stopped (x ∷ env) j1 j w r a b e f h) m

-- both parts of a cursor are closed
pub both_closed : (x s i : Snap) (a b c : Running) → uses x ≡ beside (uses s) (uses i) → Closes (uses s) a b → Closes (uses i) b c → Closes (uses x) a c
both_closed x s i a b c e m n =
    subst (λ z. Closes z a c) (sym e)
    (record {
      moves = moves_then (beside (uses s) (uses i)) (uses i) nothing a b c
          (moves_same (beside (uses i) (uses s)) (beside (uses s) (uses i)) (beside (uses i) nothing) (uses i) a b (λ d k. omega arith) (λ d k. omega arith) (moves_beside (uses i) (uses s) nothing a b m.moves)) n.moves;
      none = ap (λ es. es ++ n.moves.events) m.none ∙ n.none;
    })

-- ---- measures

pub begun_falls : (env : List Value) (x : Snap) (p : Node) (t : State) (a b : Running) → x ≡ fresh p → Begins env (fresh p) (Ok t) a b → 2 * falling (snap t) + 1 < 2 * falling x + 1
begun_falls env x p t a b e m = let h = m.1 in let g : falling x ≡ falling (fresh p) = ap falling e in omega arith

pub same_falls : (x y : Snap) → x ≡ y → 2 * falling y < 2 * falling x + 1
same_falls x y e = let g : falling x ≡ falling y = ap falling e in omega arith

pub rank_most : (s : Snap) → rank s ≤ 3
rank_most (fresh p) = omega arith
rank_most (have vs e) = omega arith
rank_most (pulling c k rows n) = omega arith
rank_most (both s p) = omega arith
rank_most (bound v s) = omega arith
rank_most (outside b s) = omega arith
rank_most (inside b s v i) = omega arith
rank_most (made ps) = omega arith
rank_most ended = omega arith
rank_most (taking vs s) = omega arith
rank_most (reads k p) = omega arith
rank_most (pairing k b xs s) = omega arith
rank_most (joining j s h n) = omega arith
rank_most (matching b ys x s) = omega arith
rank_most (leading v i s) = omega arith

pub outside_falls : (p : Node) (s : Snap) (v : Value) (i : Snap) → 2 * falling (outside p s) < 2 * falling (inside p s v i)
outside_falls p s v i = omega arith

pub second_falls : (s : Snap) (q : Bor Plan) → 2 * falling (snap (state.Fresh q)) + 1 < 2 * falling (both s (view q.now))
second_falls s q = let g : falling (snap (state.Fresh q)) ≡ falling (fresh (view q.now)) = ap falling (snap_Fresh q) in omega arith

pub source_falls : (env : List Value) (p : Node) (s0 : Snap) (x s : State) (a b : Running) → x ≡ s → Onward env (outside p s0) a (outside p (snap s)) b → 2 * falling (snap x) + 1 < 2 * falling (outside p s0)
source_falls env p s0 x s a b e m = let g : falling (snap x) ≡ falling (snap s) = ap (λ z. falling (snap z)) e in let h = m.lower in let r = rank_most (snap s) in omega arith

pub source_ready : (env : List Value) (p : Node) (s0 : Snap) (x s : State) (a b : Running) → x ≡ s → Onward env (outside p s0) a (outside p (snap s)) b → Stands a (outside p s0) env → Stands b (snap x) env
source_ready env p s0 x s a b e m h = subst (λ z. Stands b (snap z) env) (sym e) (stands_source env p (snap s) b (stands_onward env (outside p s0) (outside p (snap s)) a b m h))

pub source_owned : (x s : State) (b : Running) → x ≡ s → Owned (uses (snap s)) b → Owned (uses (snap x)) b
source_owned x s b e h = subst (λ z. Owned (uses (snap z)) b) (sym e) h

pub body_ready : (env : List Value) (q : Bor Plan) (s0 : Snap) (x s rest : State) (i : Option Value) (v : Value) (r : Result (Option Value × State) EvalStop) (a b c : Running) → x ≡ s → r ≡ Ok (i, rest) → i ≡ Some v → Onward env (outside (view q.now) s0) a (outside (view q.now) (snap s)) b → Steps env (snap x) r b c → Stands a (outside (view q.now) s0) env
    → Stands c (snap (state.Fresh q)) (v ∷ env)
body_ready env q s0 x s rest i v r a b c e f g m h k =
    let y = given env x s rest i v r b c e f g h in
    stands_at (v ∷ env) (fresh (view q.now)) (snap (state.Fresh q)) c (sym (snap_Fresh q))
    (stands_body env (view q.now) (snap s) (snap rest) v b c (drew env (view q.now) (snap s) (snap rest) v b c y) (stands_onward env (outside (view q.now) s0) (outside (view q.now) (snap s)) a b m k))

pub body_falls : (s0 : Snap) (q : Bor Plan) → 2 * falling (snap (state.Fresh q)) + 1 < 2 * falling (outside (view q.now) s0)
body_falls s0 q = let g : falling (snap (state.Fresh q)) ≡ falling (fresh (view q.now)) = ap falling (snap_Fresh q) in omega arith

pub fresh_owned : (q : Bor Plan) (w : Running) → Owned (uses (snap (state.Fresh q))) w
fresh_owned q w = subst (λ z. Owned (uses z) w) (sym (snap_Fresh q)) (owned_nothing w)

-- the answers of a loop
pub loop_over : (env : List Value) (p : Node) (s0 : Snap) (x s rest : State) (i : Option Value) (r : Result (Option Value × State) EvalStop) (a b c : Running) → x ≡ s → r ≡ Ok (i, rest) → i ≡ None → Onward env (outside p s0) a (outside p (snap s)) b → Steps env (snap x) r b c → Ends env (outside p s0) a c
loop_over env p s0 x s rest i r a b c e f g m h = turn_end env p s0 (snap s) a b c m (finished env x s rest i r b c e f g h)

pub loop_err : (env : List Value) (p : Node) (s0 : Snap) (x s : State) (w : EvalStop) (r : Result (Option Value × State) EvalStop) (a b c : Running) → x ≡ s → r ≡ Err w → Onward env (outside p s0) a (outside p (snap s)) b → Steps env (snap x) r b c → Stops env (outside p s0) w a c
loop_err env p s0 x s w r a b c e f m h = turn_stop env p s0 (snap s) w a b c m (stopped env x s w r b c e f h)

pub fresh_steps : (env : List Value) (q : Bor Plan) (z : Result (Option Value × State) EvalStop) (c d : Running) → Steps env (snap (state.Fresh q)) z c d → Steps env (fresh (view q.now)) z c d
fresh_steps env q z c d h = at_snap env (fresh (view q.now)) (snap (state.Fresh q)) z c d (sym (snap_Fresh q)) h

pub fresh_given : (env : List Value) (q : Bor Plan) (rest : State) (i : Option Value) (v : Value) (r : Result (Option Value × State) EvalStop) (a b : Running) → r ≡ Ok (i, rest) → i ≡ Some v → Steps env (fresh (view q.now)) r a b → Gives env (fresh (view q.now)) a v (snap rest) b
fresh_given env q rest i v r a b f g h = subst (λ x. Steps env (fresh (view q.now)) (Ok (x, rest)) a b) g (subst (λ x. Steps env (fresh (view q.now)) x a b) f h)

pub fresh_finished : (env : List Value) (q : Bor Plan) (rest : State) (i : Option Value) (r : Result (Option Value × State) EvalStop) (a b : Running) → r ≡ Ok (i, rest) → i ≡ None → Steps env (fresh (view q.now)) r a b → Ends env (fresh (view q.now)) a b
fresh_finished env q rest i r a b f g h = subst (λ x. Steps env (fresh (view q.now)) (Ok (x, rest)) a b) g (subst (λ x. Steps env (fresh (view q.now)) x a b) f h)

pub loop_gave : (env : List Value) (q : Bor Plan) (s0 : Snap) (x s rest inner n m : State) (i j : Option Value) (v w : Value) (r z : Result (Option Value × State) EvalStop) (a b c d : Running) → x ≡ s → r ≡ Ok (i, rest) → i ≡ Some v → z ≡ Ok (j, inner) → j ≡ Some w → n ≡ rest → m ≡ inner
    → Onward env (outside (view q.now) s0) a (outside (view q.now) (snap s)) b → Owned (uses (snap s)) b → Steps env (snap x) r b c → Steps (v ∷ env) (snap (state.Fresh q)) z c d → Gives env (outside (view q.now) s0) a w (snap (state.Inside q n v m)) d
loop_gave env q s0 x s rest inner n m i j v w r z a b c d e f g k l p o on own h t =
    turn_some env (view q.now) s0 (snap s) (snap rest) (snap inner) (snap (state.Inside q n v m)) v w a b c d own on (given env x s rest i v r b c e f g h)
    (fresh_given (v ∷ env) q inner j w z c d k l (fresh_steps (v ∷ env) q z c d t)) (snap_inside q n rest v m inner p o)

pub loop_again : (env : List Value) (q : Bor Plan) (s0 : Snap) (x s rest inner n : State) (i j : Option Value) (v : Value) (r z : Result (Option Value × State) EvalStop) (a b c d : Running) → x ≡ s → r ≡ Ok (i, rest) → i ≡ Some v → z ≡ Ok (j, inner) → j ≡ None → n ≡ rest
    → Onward env (outside (view q.now) s0) a (outside (view q.now) (snap s)) b → Owned (uses (snap s)) b → Steps env (snap x) r b c → Steps (v ∷ env) (snap (state.Fresh q)) z c d
    → Onward env (outside (view q.now) s0) a (outside (view q.now) (snap n)) d × Owned (uses (snap n)) d
loop_again env q s0 x s rest inner n i j v r z a b c d e f g k l p on own h t =
    turn_none env (view q.now) s0 (snap s) (snap rest) (snap n) v a b c d own on (given env x s rest i v r b c e f g h) (fresh_finished (v ∷ env) q inner j z c d k l (fresh_steps (v ∷ env) q z c d t)) (ap snap p)

pub loop_falls : (env : List Value) (q : Bor Plan) (x s rest inner n : State) (i j : Option Value) (v : Value) (r z : Result (Option Value × State) EvalStop) (b c d : Running) → x ≡ s → r ≡ Ok (i, rest) → i ≡ Some v → z ≡ Ok (j, inner) → j ≡ None → n ≡ rest
    → Owned (uses (snap s)) b → Steps env (snap x) r b c → Steps (v ∷ env) (snap (state.Fresh q)) z c d → most d (snap n) < most b (snap s)
loop_falls env q x s rest inner n i j v r z b c d e f g k l p own h t =
    turn_falls env (view q.now) (snap s) (snap rest) (snap n) v b c d own (given env x s rest i v r b c e f g h) (fresh_finished (v ∷ env) q inner j z c d k l (fresh_steps (v ∷ env) q z c d t)) (ap snap p)

pub loop_lose : (env : List Value) (q : Bor Plan) (s0 : Snap) (x s rest : State) (i : Option Value) (v : Value) (w : EvalStop) (r z : Result (Option Value × State) EvalStop) (a b c d l : Running) → x ≡ s → r ≡ Ok (i, rest) → i ≡ Some v → z ≡ Err w
    → Onward env (outside (view q.now) s0) a (outside (view q.now) (snap s)) b → Steps env (snap x) r b c → Steps (v ∷ env) (snap (state.Fresh q)) z c d → Closes (uses (snap rest)) d l → Stops env (outside (view q.now) s0) w a l
loop_lose env q s0 x s rest i v w r z a b c d l e f g k on h t m =
    turn_lost env (view q.now) s0 (snap s) (snap rest) v w a b c d l on (given env x s rest i v r b c e f g h) (subst (λ y. Steps (v ∷ env) (fresh (view q.now)) y c d) k (fresh_steps (v ∷ env) q z c d t)) m

pub closes_at : (x y : Snap) (a b : Running) → x ≡ y → Closes (uses y) a b → Closes (uses x) a b
closes_at x y a b e h = subst (λ z. Closes (uses z) a b) (sym e) h

-- nothing is open
pub closes_none : (w : Running) → Closes nothing w w
closes_none w = record { moves = moves_none nothing w; none = refl }

-- what holds no cursor
abbrev Rests : State → Type 0
Rests at = ((p : Bor Plan) × (at ≡ state.Fresh p)) ⊎ ((vs : List Value) × (past : Bool) × (at ≡ state.Have vs past)) ⊎ ((ps : Bor (List Plan)) × (i : ℕ) × (at ≡ state.Make ps i)) ⊎ (at ≡ state.Done)

pub closes_rest : (at : State) (w : Running) → Rests at → Closes (uses (snap at)) w w
closes_rest at w = ⊎_elim
    (λ h. closes_at (snap at) (fresh (view h.0.now)) w w (ap snap h.1 ∙ snap_Fresh h.0) (closes_none w))
    (⊎_elim (λ h. closes_at (snap at) (have (reverse h.0) (end_of h.1)) w w (ap snap h.2 ∙ snap_Have h.0 h.1) (closes_none w))
    (⊎_elim (λ h. closes_at (snap at) (made (nodes_from h.1 h.0.now)) w w (ap snap h.2 ∙ snap_Make h.0 h.1) (closes_none w))
    (λ h. closes_at (snap at) ended w w (ap snap h ∙ snap_Done) (closes_none w))))

pub closes_union : (s t : State) (x : Snap) (p : Node) (a b : Running) → s ≡ t → x ≡ both (snap t) p → Closes (uses (snap s)) a b → Closes (uses x) a b
closes_union s t x p a b e f h = closes_at x (both (snap t) p) a b f (subst (λ z. Closes (uses (snap z)) a b) e h)

pub closes_bound : (s t : State) (x : Snap) (v : Value) (a b : Running) → s ≡ t → x ≡ bound v (snap t) → Closes (uses (snap s)) a b → Closes (uses x) a b
closes_bound s t x v a b e f h = closes_at x (bound v (snap t)) a b f (subst (λ z. Closes (uses (snap z)) a b) e h)

pub closes_outside : (s t : State) (x : Snap) (p : Node) (a b : Running) → s ≡ t → x ≡ outside p (snap t) → Closes (uses (snap s)) a b → Closes (uses x) a b
closes_outside s t x p a b e f h = closes_at x (outside p (snap t)) a b f (subst (λ z. Closes (uses (snap z)) a b) e h)
