-- Steps that read on at no source.
use Rattle.std.proofs.Common.{◌≡◌, ◌==◌, ◌&&◌, ◌||◌, not, Bool, true, false, List, [], ◌∷◌, length, Option, Some, None, Result, Ok, Err, slice_get, refl, sym, ap, ◌∙◌, subst, Bor}
use Rattle.std.specs.Option.{option_map}
use Rattle.kl_value.specs.declared.Kind.TheVariants as kind
use Rattle.kl_value.specs.declared.Value.{Value}
use Rattle.kl_scans.specs.Running.{Running}
use Rattle.kl_eval.specs.declared.stop.EvalStop.{EvalStop}
use Rattle.kl_plan.specs.Holding.{PartsIn, PartsInNodes, PartsInFields, PartsInBranches}
use Rattle.kl_plan.specs.Nodes as node
use Rattle.kl_plan.specs.Nodes.{Node, Nodes, no_nodes, nodes, Fields, no_fields, fields, Branches, no_branches, rest, branch, view}
use Rattle.kl_plan.specs.declared.plan.Plan.{Plan}
use Rattle.kl_scans.specs.Held.{Uses, nothing}
use Rattle.kl_scans.specs.Log.{Logged, times_after, asked_after, handed_after}
use Rattle.kl_scans.specs.Moves.{Closes, Moves}
use Rattle.kl_scans.proofs.Moving.{logged_none, unmoved}
use Rattle.kl_cursor.specs.declared.state.State.{State}
use Rattle.kl_cursor.specs.declared.state.State.TheVariants as state
use Rattle.kl_cursor.specs.Left.{Snap, fresh, have, pulling, both, bound, outside, inside, made, ended, taking, reads, pairing, joining, matching, leading, snap, uses, PartsLeft}
use Rattle.kl_cursor.specs.Laziness.{empty_listing}
use Rattle.kl_cursor.specs.Pulling.{has_scan, has_scan_nodes, has_scan_fields, has_scan_branches, gives, reads_on, loop_reads_on, pulls, Silent, SilentUnlessPulls, is_sure, SureGives, BeginsSure, Calm}
use Rattle.kl_cursor.specs.Steps.{Ends, Gives, Steps, Stops}
use Rattle.kl_cursor.proofs.Handing.{no_events}
use Rattle.kl_cursor.proofs.Scanning.{none_rows}
use Rattle.kl_cursor.proofs.Snaps.{snap_Fresh}

-- ---- truth values

pub neither : (a b : Bool) → (a || b) ≡ false → (a ≡ false) × (b ≡ false)
neither false b h = (refl, h)
neither true b h = absurd cc

nor : (a b : Bool) → a ≡ false → b ≡ false → (a || b) ≡ false
nor a b e f = ap (λ z. z || b) e ∙ f

unsure : (a b : Bool) → (a && not b) ≡ false → a ≡ true → b ≡ true
unsure true true h e = refl
unsure true false h e = absurd cc
unsure false b h e = absurd cc

never : (a : Bool) → a ≡ true → a ≡ false → ⊥
never a e f = let x : true ≡ false = sym e ∙ f in cc

-- ---- nothing is done

pub silent_none : (w : Running) → Silent w w
silent_none w = logged_none w

again : {A : Type 0} (f : A → A) (x y z : Option A) → ((v : A) → f v ≡ v) → y ≡ option_map f x → z ≡ option_map f y → z ≡ option_map f x
again f x y z same e g = g ∙ sym (unmoved f same y) ∙ e

pub silent_then : (a b c : Running) → Silent a b → Silent b c → Silent a c
silent_then a b c m n = record {
  starts = λ i. again (times_after i []) _ _ _ (λ v. refl) (m.starts i) (n.starts i);
  asked = λ d. again (asked_after d []) _ _ _ (λ v. refl) (m.asked d) (n.asked d);
  handed = λ d. again (handed_after d []) _ _ _ (λ v. refl) (m.handed d) (n.handed d);
  numbers = n.numbers ∙ m.numbers;
  steps = n.steps ∙ m.steps;
  joins = n.joins ∙ m.joins;
  peak = n.peak ∙ m.peak;
  hits = n.hits ∙ m.hits;
  misses = n.misses ∙ m.misses;
  executed = tt;
  room = n.room ∙ m.room;
  kept = n.kept ∙ m.kept;
}

pub moved_silent : (u v : Uses) (a b : Running) (m : Moves u v a b) → m.events ≡ [] → Silent a b
moved_silent u v a b m e = subst (λ es. Logged es a b) e m.logged

pub closes_silent : (u : Uses) (a b : Running) → Closes u a b → Silent a b
closes_silent u a b h = moved_silent u nothing a b h.moves h.none

-- ---- where no scan stands

mutual
  pub no_scan : (p : Node) → has_scan p ≡ false → PartsIn empty_listing p
  no_scan (node.Plain t) h = tt
  no_scan (node.Var x) h = tt
  no_scan (node.Rec ps) h = no_scan_fields ps h
  no_scan (node.Proj l a) h = no_scan a h
  no_scan (node.Inj l a) h = no_scan a h
  no_scan (node.Case a bs) h = let x = neither (has_scan a) (has_scan_branches bs) h in (no_scan a x.0, no_scan_branches bs x.1)
  no_scan (node.Make k ps) h = no_scan_nodes ps h
  no_scan (node.Union a b) h = let x = neither (has_scan a) (has_scan b) h in (no_scan a x.0, no_scan b x.1)
  no_scan (node.Ext k b s) h = let x = neither (has_scan s) (has_scan b) h in (no_scan b x.1, no_scan s x.0)
  no_scan (node.If a b c) h =
      let x = neither (has_scan a) (has_scan b || has_scan c) h in
      let y = neither (has_scan b) (has_scan c) x.1 in (no_scan a x.0, no_scan b y.0, no_scan c y.1)
  no_scan (node.Let a b) h = let x = neither (has_scan a) (has_scan b) h in (no_scan a x.0, no_scan b x.1)
  no_scan (node.Prim c ps) h = no_scan_nodes ps h
  no_scan (node.Scan c) h = absurd cc
  no_scan (node.Join n k how o cs i q b) h = absurd cc
  no_scan (node.Memo n frees p) h = absurd cc

  pub no_scan_nodes : (ps : Nodes) → has_scan_nodes ps ≡ false → PartsInNodes empty_listing ps
  no_scan_nodes no_nodes h = tt
  no_scan_nodes (nodes p ps) h = let x = neither (has_scan p) (has_scan_nodes ps) h in (no_scan p x.0, no_scan_nodes ps x.1)

  no_scan_fields : (ps : Fields) → has_scan_fields ps ≡ false → PartsInFields empty_listing ps
  no_scan_fields no_fields h = tt
  no_scan_fields (fields l p ps) h = let x = neither (has_scan p) (has_scan_fields ps) h in (no_scan p x.0, no_scan_fields ps x.1)

  no_scan_branches : (bs : Branches) → has_scan_branches bs ≡ false → PartsInBranches empty_listing bs
  no_scan_branches no_branches h = tt
  no_scan_branches (rest c) h = no_scan c h
  no_scan_branches (branch l b bs) h = let x = neither (has_scan b) (has_scan_branches bs) h in (no_scan b x.0, no_scan_branches bs x.1)

reads_none : (s : Snap) → reads_on s ≡ false → PartsLeft empty_listing s
reads_none (fresh p) h = no_scan p h
reads_none (have vs e) h = tt
reads_none (pulling c k rows n) h = absurd cc
reads_none (both s p) h = let x = neither (reads_on s) (has_scan p) h in (reads_none s x.0, no_scan p x.1)
reads_none (bound v s) h = reads_none s h
reads_none (outside b s) h = let x = neither (has_scan b) (reads_on s) h in (no_scan b x.0, reads_none s x.1)
reads_none (inside b s v i) h =
    let x = neither (reads_on i || has_scan b) (reads_on s) h in
    let y = neither (reads_on i) (has_scan b) x.0 in (no_scan b y.1, reads_none s x.1, reads_none i y.0)
reads_none (made ps) h = no_scan (node.Make kind.List ps) h
reads_none ended h = tt
reads_none (taking vs s) h = absurd cc
reads_none (reads k p) h = absurd cc
reads_none (pairing k p xs s) h = absurd cc
reads_none (joining j s g n) h = absurd cc
reads_none (matching p ys x s) h = absurd cc
reads_none (leading x i s) h = absurd cc

-- a cursor in which no scan stands
gave_silent : (env : List Value) (s t : Snap) (v : Value) (a b : Running) → Gives env s a v t b → PartsLeft empty_listing s → Silent a b
gave_silent env s t v a b h l = moved_silent (uses s) (uses t) a b h.moves (no_events h.moves.events (h.known empty_listing l).0)

ends_silent : (env : List Value) (s : Snap) (a b : Running) → Ends env s a b → PartsLeft empty_listing s → Silent a b
ends_silent env s a b h l = moved_silent (uses s) nothing a b h.moves (no_events h.moves.events (h.known empty_listing l))

stops_silent : (env : List Value) (s : Snap) (e : EvalStop) (a b : Running) → Stops env s e a b → PartsLeft empty_listing s → Silent a b
stops_silent env s e a b h l = moved_silent (uses s) nothing a b h.moves (no_events h.moves.events (h.known empty_listing l))

steps_silent : (env : List Value) (s : Snap) (r : Result (Option Value × State) EvalStop) (a b : Running) → PartsLeft empty_listing s → Steps env s r a b → Silent a b
steps_silent env s (Ok (Some v, t)) a b l h = gave_silent env s (snap t) v a b h l
steps_silent env s (Ok (None, t)) a b l h = ends_silent env s a b h l
steps_silent env s (Err e) a b l h = stops_silent env s e a b h l

pub fresh_silent : (env : List Value) (q : Bor Plan) (r : Result (Option Value × State) EvalStop) (a b : Running) → has_scan (view q.now) ≡ false → Steps env (snap (state.Fresh q)) r a b → Silent a b
fresh_silent env q r a b h = steps_silent env (snap (state.Fresh q)) r a b (subst (PartsLeft empty_listing) (sym (snap_Fresh q)) (no_scan (view q.now) h))

-- ---- an item that is sure

not_sure : (s : Snap) (r : Result (Option Value × State) EvalStop) → is_sure s ≡ false → SureGives s r
not_sure s (Ok (Some v, t)) h = tt
not_sure s (Ok (None, t)) h = h
not_sure s (Err e) h = tt

sure_from : (s t : Snap) (r : Result (Option Value × State) EvalStop) → (is_sure s ≡ true → is_sure t ≡ true) → SureGives t r → SureGives s r
sure_from s t (Ok (Some v, u)) f h = tt
sure_from s t (Ok (None, u)) f h = by_case (is_sure s) refl
  where
    by_case : (y : Bool) → is_sure s ≡ y → is_sure s ≡ false
    by_case false e = e
    by_case true e = absurd (never (is_sure t) (f e) h)
sure_from s t (Err e) f h = tt

lacks : (s : State) (i : Option Value) (last : State) (r : Result (Option Value × State) EvalStop) → r ≡ Ok (i, last) → i ≡ None → SureGives (snap s) r → is_sure (snap s) ≡ false
lacks s i last r f g h = subst (λ q. SureGives (snap s) (Ok (q, last))) g (subst (SureGives (snap s)) f h)

-- ---- each form

pub calm_quiet : (x y : Snap) (r : Result (Option Value × State) EvalStop) (a b : Running) → x ≡ y → is_sure y ≡ false → SilentUnlessPulls y a b → Calm x r a b
calm_quiet x y r a b e n q = subst (λ z. Calm z r a b) (sym e) (record { quiet = q; sure = not_sure y r n })

pub calm_at : (x y : Snap) (r : Result (Option Value × State) EvalStop) (a b : Running) → x ≡ y → Calm y r a b → Calm x r a b
calm_at x y r a b e h = subst (λ z. Calm z r a b) (sym e) h

pub calm_still : (x y : Snap) (r : Result (Option Value × State) EvalStop) (w : Running) → x ≡ y → is_sure y ≡ false → Calm x r w w
calm_still x y r w e n = calm_quiet x y r w w e n (λ h. silent_none w)

-- what may always read on
pub calm_on : (x y : Snap) (r : Result (Option Value × State) EvalStop) (a b : Running) → x ≡ y → is_sure y ≡ false → pulls y ≡ true → Calm x r a b
calm_on x y r a b e n p = calm_quiet x y r a b e n (λ h. absurd (never (pulls y) p h))

pub calm_begun : (env : List Value) (x : Snap) (p : Node) (t : State) (r : Result (Option Value × State) EvalStop) (a b c : Running) → x ≡ fresh p → BeginsSure (fresh p) (Ok t) → Calm (snap t) r b c → Steps env x r a c → Calm x r a c
calm_begun env x p t r a b c e sure h steps = subst (λ z. Calm z r a c) (sym e) (record {
  quiet = λ n. steps_silent env (fresh p) r a c (no_scan p n) (subst (λ z. Steps env z r a c) e steps);
  sure = sure_from (fresh p) (snap t) r sure h.sure;
})

pub calm_stopped : (env : List Value) (x : Snap) (p : Node) (w : EvalStop) (a b : Running) → x ≡ fresh p → Steps env x (Err w) a b → Calm x (Err w) a b
calm_stopped env x p w a b e steps = subst (λ z. Calm z (Err w) a b) (sym e) (record {
  quiet = λ n. steps_silent env (fresh p) (Err w) a b (no_scan p n) (subst (λ z. Steps env z (Err w) a b) e steps);
  sure = tt;
})

pub calm_made : (env : List Value) (x : Snap) (ps : Nodes) (r : Result (Option Value × State) EvalStop) (a b : Running) → x ≡ made ps → Steps env (made ps) r a b → SureGives (made ps) r → Calm x r a b
calm_made env x ps r a b e steps sure = subst (λ z. Calm z r a b) (sym e) (record { quiet = λ n. steps_silent env (made ps) r a b (no_scan (node.Make kind.List ps) n) steps; sure = sure })

-- where no row is taken, none is ahead
pub never_ahead : (items : List Value) (o : Option Value) → o ≡ None → o ≡ slice_get items 0 → (length items == 0) ≡ false → ⊥
never_ahead items o e f h = never (length items == 0) (ap (λ xs. length xs == 0) (none_rows items o e f)) h

pub union_quiet : (s1 s : State) (p : Node) (r : Result (Option Value × State) EvalStop) (a b : Running) → s1 ≡ s → Calm (snap s1) r a b → SilentUnlessPulls (both (snap s) p) a b
union_quiet s1 s p r a b e h = λ n. h.quiet (ap (λ z. pulls (snap z)) e ∙ (neither (pulls (snap s)) (has_scan p) n).0)

pub union_quiet_on : (env : List Value) (s1 s : State) (q : Bor Plan) (r z : Result (Option Value × State) EvalStop) (a b c : Running) → s1 ≡ s → Calm (snap s1) r a b → Steps env (snap (state.Fresh q)) z b c → SilentUnlessPulls (both (snap s) (view q.now)) a c
union_quiet_on env s1 s q r z a b c e h steps =
    λ n. silent_then a b c (union_quiet s1 s (view q.now) r a b e h n) (fresh_silent env q z b c (neither (pulls (snap s)) (has_scan (view q.now)) n).1 steps)

bound_quiet : (v : Value) (s1 s : State) (r : Result (Option Value × State) EvalStop) (a b : Running) → s1 ≡ s → Calm (snap s1) r a b → SilentUnlessPulls (bound v (snap s)) a b
bound_quiet v s1 s r a b e h = λ n. h.quiet (ap (λ z. pulls (snap z)) e ∙ n)

pub bound_calm_gave : (v : Value) (s1 s t : State) (w : Value) (r : Result (Option Value × State) EvalStop) (a b : Running) → s1 ≡ s → Calm (snap s1) r a b → Calm (bound v (snap s)) (Ok (Some w, t)) a b
bound_calm_gave v s1 s t w r a b e h = record { quiet = bound_quiet v s1 s r a b e h; sure = tt }

pub bound_calm_over : (v : Value) (s1 s last t : State) (i : Option Value) (r : Result (Option Value × State) EvalStop) (a b : Running) → s1 ≡ s → r ≡ Ok (i, last) → i ≡ None → Calm (snap s1) r a b → Calm (bound v (snap s)) (Ok (None, t)) a b
bound_calm_over v s1 s last t i r a b e f g h = record { quiet = bound_quiet v s1 s r a b e h; sure = subst (λ z. is_sure (snap z) ≡ false) e (lacks s1 i last r f g h.sure) }

pub bound_calm_err : (v : Value) (s1 s : State) (w : EvalStop) (r : Result (Option Value × State) EvalStop) (a b : Running) → s1 ≡ s → Calm (snap s1) r a b → Calm (bound v (snap s)) (Err w) a b
bound_calm_err v s1 s w r a b e h = record { quiet = bound_quiet v s1 s r a b e h; sure = tt }

pub inside_quiet : (p : Node) (s : Snap) (v : Value) (j1 j : State) (r : Result (Option Value × State) EvalStop) (a b : Running) → j1 ≡ j → Calm (snap j1) r a b → SilentUnlessPulls (inside p s v (snap j)) a b
inside_quiet p s v j1 j r a b e h = λ n. h.quiet (ap (λ z. pulls (snap z)) e ∙ (neither (pulls (snap j)) (pulls s) (neither (pulls (snap j) || pulls s) (loop_reads_on p s) n).0).0)

pub inside_quiet_on : (p : Node) (s : Snap) (v : Value) (j1 j : State) (r : Result (Option Value × State) EvalStop) (a b c : Running) → j1 ≡ j → Calm (snap j1) r a b → SilentUnlessPulls (outside p s) b c → SilentUnlessPulls (inside p s v (snap j)) a c
inside_quiet_on p s v j1 j r a b c e h on = λ n.
    let x = neither (pulls (snap j) || pulls s) (loop_reads_on p s) n in
    silent_then a b c (inside_quiet p s v j1 j r a b e h n) (on (nor (pulls s) (loop_reads_on p s) (neither (pulls (snap j)) (pulls s) x.0).1 x.1))

pub inside_quiet_err : (p : Node) (s : Snap) (v : Value) (j1 j : State) (r : Result (Option Value × State) EvalStop) (u : Uses) (a b c : Running) → j1 ≡ j → Calm (snap j1) r a b → Closes u b c → SilentUnlessPulls (inside p s v (snap j)) a c
inside_quiet_err p s v j1 j r u a b c e h m = λ n. silent_then a b c (inside_quiet p s v j1 j r a b e h n) (closes_silent u b c m)

-- ---- between two items

-- a loop whose body is sure to give an item is at its first turn
abbrev pub AtFirst : Node → Snap → Running → Snap → Running → Type 0
AtFirst p s0 a s b = gives p ≡ true → (s ≡ s0) × (b ≡ a)

pub at_first : (p : Node) (s : Snap) (a : Running) → AtFirst p s a s a
at_first p s a = λ h. (refl, refl)

pub no_second : (q : Bor Plan) (s0 s : Snap) (j : Option Value) (inner : State) (z : Result (Option Value × State) EvalStop) (a b c d : Running) → z ≡ Ok (j, inner) → j ≡ None → Calm (snap (state.Fresh q)) z c d → AtFirst (view q.now) s0 a s b
no_second q s0 s j inner z a b c d f g h = λ y. absurd (never (gives (view q.now)) y (subst (λ x. is_sure x ≡ false) (snap_Fresh q) (lacks (state.Fresh q) j inner z f g h.sure)))

outside_quiet : (p : Node) (s0 s : Snap) (a b d : Running) → AtFirst p s0 a s b → (PartsLeft empty_listing (outside p s0) → Silent a d) → (has_scan p ≡ false → SilentUnlessPulls s b d) → SilentUnlessPulls (outside p s0) a d
outside_quiet p s0 s a b d first bare turn = λ n.
    let x = neither (pulls s0) (loop_reads_on p s0) n in
    let y = neither (has_scan p) (reads_on s0 && not (gives p)) x.1 in
    by_case x.0 y.0 y.1 (reads_on s0) refl
  where
    by_case : pulls s0 ≡ false → has_scan p ≡ false → (reads_on s0 && not (gives p)) ≡ false → (o : Bool) → reads_on s0 ≡ o → Silent a d
    by_case still none more false e = bare (no_scan p none, reads_none s0 e)
    by_case still none more true e =
        let f = first (unsure (reads_on s0) (gives p) more e) in
        subst (λ z. Silent z d) f.1 (turn none (ap pulls f.0 ∙ still))

source_quiet : (x s : State) (r : Result (Option Value × State) EvalStop) (b c : Running) → x ≡ s → Calm (snap x) r b c → SilentUnlessPulls (snap s) b c
source_quiet x s r b c e h = λ n. h.quiet (ap (λ z. pulls (snap z)) e ∙ n)

-- its source was stopped
pub loop_quiet_err : (env : List Value) (p : Node) (s0 : Snap) (x s : State) (e : EvalStop) (r : Result (Option Value × State) EvalStop) (a b c : Running) → x ≡ s → AtFirst p s0 a (snap s) b → Calm (snap x) r b c → Stops env (outside p s0) e a c → SilentUnlessPulls (outside p s0) a c
loop_quiet_err env p s0 x s e r a b c is first h stops = outside_quiet p s0 (snap s) a b c first (stops_silent env (outside p s0) e a c stops) (λ none. source_quiet x s r b c is h)

-- its source ended
pub loop_quiet_over : (env : List Value) (p : Node) (s0 : Snap) (x s : State) (r : Result (Option Value × State) EvalStop) (a b c : Running) → x ≡ s → AtFirst p s0 a (snap s) b → Calm (snap x) r b c → Ends env (outside p s0) a c → SilentUnlessPulls (outside p s0) a c
loop_quiet_over env p s0 x s r a b c is first h ends = outside_quiet p s0 (snap s) a b c first (ends_silent env (outside p s0) a c ends) (λ none. source_quiet x s r b c is h)

-- its body gave an item
pub loop_quiet_gave : (env : List Value) (v w : Value) (q : Bor Plan) (s0 t : Snap) (x s : State) (r y : Result (Option Value × State) EvalStop) (a b c d : Running) → x ≡ s → AtFirst (view q.now) s0 a (snap s) b → Calm (snap x) r b c → Steps (v ∷ env) (snap (state.Fresh q)) y c d → Gives env (outside (view q.now) s0) a w t d
    → SilentUnlessPulls (outside (view q.now) s0) a d
loop_quiet_gave env v w q s0 t x s r y a b c d is first h body gives =
    outside_quiet (view q.now) s0 (snap s) a b d first (gave_silent env (outside (view q.now) s0) t w a d gives) (λ none n. silent_then b c d (source_quiet x s r b c is h n) (fresh_silent (v ∷ env) q y c d none body))

-- its body was stopped
pub loop_quiet_lost : (env : List Value) (v : Value) (e : EvalStop) (q : Bor Plan) (s0 : Snap) (x s : State) (r y : Result (Option Value × State) EvalStop) (u : Uses) (a b c d l : Running) → x ≡ s → AtFirst (view q.now) s0 a (snap s) b → Calm (snap x) r b c → Steps (v ∷ env) (snap (state.Fresh q)) y c d → Closes u d l
    → Stops env (outside (view q.now) s0) e a l → SilentUnlessPulls (outside (view q.now) s0) a l
loop_quiet_lost env v e q s0 x s r y u a b c d l is first h body m stops =
    outside_quiet (view q.now) s0 (snap s) a b l first (stops_silent env (outside (view q.now) s0) e a l stops)
    (λ none n. silent_then b c l (source_quiet x s r b c is h n) (silent_then c d l (fresh_silent (v ∷ env) q y c d none body) (closes_silent u d l m)))
