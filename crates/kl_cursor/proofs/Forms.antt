-- Steps after steps.
use Rattle.std.proofs.Common.{◌≡◌, ℕ, ◌+◌, ◌*◌, ◌<◌, ◌≤◌, List, ◌∷◌, ◌++◌, Option, Some, None, Result, Ok, Err, refl, sym, ap, ◌∙◌, subst, arith}
use Rattle.std.proofs.Math.Nat.{mul-le-mul_right}
use Rattle.kl_value.specs.declared.Kind.{Kind}
use Rattle.kl_value.specs.declared.Value.{Value}
use Rattle.kl_type.specs.Ground.{Ground, coll}
use Rattle.kl_outcome.specs.Outcome.{more, stop, fine, overflow, followed, drawn}
use Rattle.kl_outcome.specs.Typed.{HaveTypes}
use Rattle.kl_scans.specs.Running.{Running}
use Rattle.kl_eval.specs.declared.stop.EvalStop.{EvalStop}
use Rattle.kl_eval.specs.declared.stop.EvalStop.TheVariants as why
use Rattle.kl_plan.specs.Alike.{harm}
use Rattle.kl_plan.specs.Nodes.{Node}
use Rattle.kl_plan.specs.Meaning.{coming, plan}
use Rattle.kl_plan.specs.Prices.{Prices}
use Rattle.kl_plan.specs.Holding.{Listing}
use Rattle.kl_cursor.specs.declared.state.State.{State}
use Rattle.kl_scans.specs.Held.{open_at, Uses, nothing, beside, Owned}
use Rattle.kl_scans.specs.Log.{Event, paid}
use Rattle.kl_scans.specs.Moves.{Moves, Closes}
use Rattle.kl_scans.specs.Stage.{Stage, stage, IsTold, readings}
use Rattle.kl_scans.proofs.Moving.{moves_then, moves_none, moves_beside, moves_same, stage_stays, paid_then}
use Rattle.kl_cursor.specs.Left.{Snap, fresh, both, bound, outside, inside, snap, uses, left, reading, to_start, PartsLeft, cost}
use Rattle.kl_cursor.specs.Likeness.{Same}
use Rattle.kl_cursor.specs.Measure.{height, most, size}
use Rattle.kl_cursor.specs.Sense.{Fits, IsToldAt}
use Rattle.kl_cursor.specs.Steps.{AreOf, WhereTold, Counts, Onward, Gives, Ends, Reason, Stops, Steps}
use Rattle.kl_cursor.proofs.Events.{of_none, of_then}
use Rattle.kl_cursor.proofs.Likes.{same_itself, same_at, same_on, same_followed, same_drawn, same_fits, same_harm, same_weight, well_first, well_source, weight_more}
use Rattle.kl_cursor.proofs.Still.{Still, still_beside, left_still, start_still, most_still, fits_still, types_on, bodies}
use Rattle.kl_cursor.proofs.Refusals.{refused_as, refused_then, refused_before}

pub told_on : (u v : Uses) (a b : Running) → Moves u v a b → IsToldAt a → IsToldAt b
told_on u v a b m h = subst IsTold (sym (stage_stays u v a b m)) h

-- ---- one after the other

chain : (pa pb l m n : ℕ) → pa + m ≡ l → pb + n ≡ m → (pa + pb) + n ≡ l
chain pa pb l m n x y = omega arith

-- what two parts of a way count together
pub paid_both : (H J : Stage) (P : Prices) (es fs : List Event) (l m n : ℕ) → J ≡ H → paid H P es + m ≡ l → paid J P fs + n ≡ m → paid H P (es ++ fs) + n ≡ l
paid_both H J P es fs l m n e x y = ap (λ z. z + n) (paid_then H P es fs) ∙ chain (paid H P es) (paid H P fs) l m n x (ap (λ K. paid K P fs + n) (sym e) ∙ y)

pub onward_none : (env : List Value) (s : Snap) (a : Running) → Onward env s a s a
onward_none env s a = record {
  moves = moves_none (uses s) a;
  known = λ all h. (tt, h);
  same = λ G k u e f t. same_itself k (left a s env);
  counts = λ G k u e f t z P. omega arith;
  typed = λ G k u e f. f;
  lower = omega arith;
  fewer = omega arith;
}

pub onward_then : (env : List Value) (s t r : Snap) (a b c : Running) → Onward env s a t b → Onward env t b r c → Onward env s a r c
onward_then env s t r a b c m n = record {
  moves = moves_then (uses s) (uses t) (uses r) a b c m.moves n.moves;
  known = λ all h. let x = m.known all h in let y = n.known all x.1 in (of_then all m.moves.events n.moves.events x.0 y.0, y.1);
  same = λ G k u e f told. same_on k (left a s env) (left b t env) (left c r env) (m.same G k u e f told) (n.same G k u e (m.typed G k u e f) (told_on (uses s) (uses t) a b m.moves told));
  counts = λ G k u e f told z P.
      paid_both (stage a) (stage b) P m.moves.events n.moves.events (to_start a P s env) (to_start b P t env) (to_start c P r env) (stage_stays (uses s) (uses t) a b m.moves) (m.counts G k u e f told z P)
      (n.counts G k u e (m.typed G k u e f) (told_on (uses s) (uses t) a b m.moves told) (same_harm k (left a s env) (left b t env) (m.same G k u e f told) ∙ z) P);
  typed = λ G k u e f. n.typed G k u e (m.typed G k u e f);
  lower = let x = m.lower in let y = n.lower in omega arith;
  fewer = let x = m.fewer in let y = n.fewer in omega arith;
}

pub gives_then : (env : List Value) (s t r : Snap) (v : Value) (a b c : Running) → Onward env s a t b → Gives env t b v r c → Gives env s a v r c
gives_then env s t r v a b c m n = record {
  moves = moves_then (uses s) (uses t) (uses r) a b c m.moves n.moves;
  known = λ all h. let x = m.known all h in let y = n.known all x.1 in (of_then all m.moves.events n.moves.events x.0 y.0, y.1);
  gave = λ G k u e f told. same_on k (left a s env) (left b t env) (more v (left c r env)) (m.same G k u e f told) (n.gave G k u e (m.typed G k u e f) (told_on (uses s) (uses t) a b m.moves told));
  counts = λ G k u e f told z P.
      paid_both (stage a) (stage b) P m.moves.events n.moves.events (to_start a P s env) (to_start b P t env) (to_start c P r env) (stage_stays (uses s) (uses t) a b m.moves) (m.counts G k u e f told z P)
      (n.counts G k u e (m.typed G k u e f) (told_on (uses s) (uses t) a b m.moves told) (same_harm k (left a s env) (left b t env) (m.same G k u e f told) ∙ z) P);
  typed = λ G k u e f. n.typed G k u e (m.typed G k u e f);
  lower = let x = m.lower in let y = n.lower in omega arith;
  fell = let x = m.fewer in let y = n.fell in omega arith;
}

pub ends_then : (env : List Value) (s t : Snap) (a b c : Running) → Onward env s a t b → Ends env t b c → Ends env s a c
ends_then env s t a b c m n = record {
  moves = moves_then (uses s) (uses t) nothing a b c m.moves n.moves;
  known = λ all h. let x = m.known all h in of_then all m.moves.events n.moves.events x.0 (n.known all x.1);
  over = λ G k u e f told. same_on k (left a s env) (left b t env) (stop fine) (m.same G k u e f told) (n.over G k u e (m.typed G k u e f) (told_on (uses s) (uses t) a b m.moves told));
  counts = λ G k u e f told z P.
      paid_both (stage a) (stage b) P m.moves.events n.moves.events (to_start a P s env) (to_start b P t env) 0 (stage_stays (uses s) (uses t) a b m.moves) (m.counts G k u e f told z P)
      (n.counts G k u e (m.typed G k u e f) (told_on (uses s) (uses t) a b m.moves told) (same_harm k (left a s env) (left b t env) (m.same G k u e f told) ∙ z) P);
}

reason_then : (env : List Value) (s t : Snap) (e : EvalStop) (a b c : Running) → Onward env s a t b → Reason env t e b c → Reason env s e a c
reason_then env s t why.Overflow a b c m r = λ G k u e f told.
    same_on k (left a s env) (left b t env) (stop overflow) (m.same G k u e f told) (r G k u e (m.typed G k u e f) (told_on (uses s) (uses t) a b m.moves told))
reason_then env s t (why.Driver l x) a b c m r = refused_then (λ all. PartsLeft all s) (λ all. PartsLeft all t) l x (uses s) (uses t) a b c (λ all h. (m.known all h).1) m.moves r
reason_then env s t why.NoMemory a b c m r = tt

pub stops_then : (env : List Value) (s t : Snap) (e : EvalStop) (a b c : Running) → Onward env s a t b → Stops env t e b c → Stops env s e a c
stops_then env s t e a b c m n = record {
  moves = moves_then (uses s) (uses t) nothing a b c m.moves n.moves;
  known = λ all h. let x = m.known all h in of_then all m.moves.events n.moves.events x.0 (n.known all x.1);
  reason = reason_then env s t e a b c m n.reason;
}

pub steps_then : (env : List Value) (s t : Snap) (r : Result (Option Value × State) EvalStop) (a b c : Running) → Onward env s a t b → Steps env t r b c → Steps env s r a c
steps_then env s t (Ok (Some v, q)) a b c m n = gives_then env s t (snap q) v a b c m n
steps_then env s t (Ok (None, q)) a b c m n = ends_then env s t a b c m n
steps_then env s t (Err e) a b c m n = stops_then env s t e a b c m n

-- ---- two parts

both_sum : (x y z p : ℕ) → x + y ≡ z → x + (y + p) ≡ z + p
both_sum x y z p e = omega arith

pub same_price : (H J : Stage) (P : Prices) (p : Node) (env : List Value) → J ≡ H → cost J P p env ≡ cost H P p env
same_price H J P p env e = ap (λ K. cost K P p env) e

pub union_some : (env : List Value) (s t : Snap) (p : Node) (v : Value) (a b : Running) → Gives env s a v t b → Gives env (both s p) a v (both t p) b
union_some env s t p v a b g =
    let held = stage_stays (uses s) (uses t) a b g.moves in
    record {
      moves = g.moves;
      known = λ all h. let x = g.known all h.0 in (x.0, (x.1, h.1));
      gave = λ G k u e f told. same_followed k (left a s env) (more v (left b t env)) (coming (plan (reading a) p env)) (coming (plan (reading b) p env)) (g.gave G k u e f.0 told)
          (same_at k (coming (plan (reading a) p env)) (coming (plan (reading b) p env)) (ap (λ H. coming (plan (readings H) p env)) (sym held)));
      counts = λ G k u e f told z P.
          ap (λ y. paid (stage a) P g.moves.events + (to_start b P t env + y)) (same_price (stage a) (stage b) P p env held)
          ∙ both_sum (paid (stage a) P g.moves.events) (to_start b P t env) (to_start a P s env) (cost (stage a) P p env)
          (g.counts G k u e f.0 told (well_first (left a s env) (coming (plan (reading a) p env)) z) P);
      typed = λ G k u e f. let x = g.typed G k u e f.0 in (x.0, (x.1, types_on (stage a) (stage b) G p (coll k u) held f.1));
      lower = let x = g.lower in omega arith;
      fell = let x = g.fell in omega arith;
    }

pub first_over : (x z p q : ℕ) → x + 0 ≡ z → q ≡ p → x + q ≡ z + p
first_over x z p q e f = omega arith

pub union_none : (env : List Value) (s : Snap) (p : Node) (a b : Running) → Ends env s a b → Onward env (both s p) a (fresh p) b
union_none env s p a b g =
    let held = stage_stays (uses s) nothing a b g.moves in
    record {
      moves = g.moves;
      known = λ all h. (g.known all h.0, h.1);
      same = λ G k u e f told. same_followed k (left a s env) (stop fine) (coming (plan (reading a) p env)) (coming (plan (reading b) p env)) (g.over G k u e f.0 told)
          (same_at k (coming (plan (reading a) p env)) (coming (plan (reading b) p env)) (ap (λ H. coming (plan (readings H) p env)) (sym held)));
      counts = λ G k u e f told z P.
          first_over (paid (stage a) P g.moves.events) (to_start a P s env) (cost (stage a) P p env) (cost (stage b) P p env)
          (g.counts G k u e f.0 told (well_first (left a s env) (coming (plan (reading a) p env)) z) P) (same_price (stage a) (stage b) P p env held);
      typed = λ G k u e f. types_on (stage a) (stage b) G p (coll k u) held f.1;
      lower = omega arith;
      fewer = omega arith;
    }

union_reason : (env : List Value) (s : Snap) (p : Node) (e : EvalStop) (a b : Running) → Reason env s e a b → Reason env (both s p) e a b
union_reason env s p why.Overflow a b r = λ G k u e f told.
    same_followed k (left a s env) (stop overflow) (coming (plan (reading a) p env)) (coming (plan (reading a) p env)) (r G k u e f.0 told) (same_itself k (coming (plan (reading a) p env)))
union_reason env s p (why.Driver l x) a b r = refused_as (λ all. PartsLeft all (both s p)) (λ all. PartsLeft all s) l x a b (λ all h. h.0) r
union_reason env s p why.NoMemory a b r = tt

pub union_stop : (env : List Value) (s : Snap) (p : Node) (e : EvalStop) (a b : Running) → Stops env s e a b → Stops env (both s p) e a b
union_stop env s p e a b g = record { moves = g.moves; known = λ all h. g.known all h.0; reason = union_reason env s p e a b g.reason }

-- ---- what is bound

pub bound_some : (env : List Value) (x : Value) (s t : Snap) (v : Value) (a b : Running) → Gives (x ∷ env) s a v t b → Gives env (bound x s) a v (bound x t) b
bound_some env x s t v a b g = record {
  moves = g.moves;
  known = λ all h. g.known all h;
  gave = λ G k u e f told. g.gave (f.0 ∷ G) k u (f.1, e) f.2 told;
  counts = λ G k u e f told z P. g.counts (f.0 ∷ G) k u (f.1, e) f.2 told z P;
  typed = λ G k u e f. let y = g.typed (f.0 ∷ G) k u (f.1, e) f.2 in (y.0, (f.0, f.1, y.1));
  lower = let y = g.lower in omega arith;
  fell = g.fell;
}

pub bound_none : (env : List Value) (x : Value) (s : Snap) (a b : Running) → Ends (x ∷ env) s a b → Ends env (bound x s) a b
bound_none env x s a b g = record {
  moves = g.moves;
  known = λ all h. g.known all h;
  over = λ G k u e f told. g.over (f.0 ∷ G) k u (f.1, e) f.2 told;
  counts = λ G k u e f told z P. g.counts (f.0 ∷ G) k u (f.1, e) f.2 told z P;
}

bound_reason : (env : List Value) (x : Value) (s : Snap) (e : EvalStop) (a b : Running) → Reason (x ∷ env) s e a b → Reason env (bound x s) e a b
bound_reason env x s why.Overflow a b r = λ G k u e f told. r (f.0 ∷ G) k u (f.1, e) f.2 told
bound_reason env x s (why.Driver l y) a b r = r
bound_reason env x s why.NoMemory a b r = tt

pub bound_stop : (env : List Value) (x : Value) (s : Snap) (e : EvalStop) (a b : Running) → Stops (x ∷ env) s e a b → Stops env (bound x s) e a b
bound_stop env x s e a b g = record { moves = g.moves; known = λ all h. g.known all h; reason = bound_reason env x s e a b g.reason }

-- ---- a loop inside its body

-- what the loop has left outside, after its source's cursors stood still
pub loop_still : (env : List Value) (k : Kind) (p : Node) (s : Snap) (a b : Running) → Still (uses s) a b → Same k (left a (outside p s) env) (left b (outside p s) env)
loop_still env k p s a b h = same_at k (left a (outside p s) env) (left b (outside p s) env) (sym (left_still (outside p s) a b env h))

inner_sum : (x y z o q : ℕ) → x + y ≡ z → q ≡ o → x + (y + q) ≡ z + o
inner_sum x y z o q e f = omega arith

pub inside_some : (env : List Value) (p : Node) (s : Snap) (x : Value) (i j : Snap) (v : Value) (a b : Running) → Owned (uses (inside p s x i)) a → Gives (x ∷ env) i a v j b → Gives env (inside p s x i) a v (inside p s x j) b
inside_some env p s x i j v a b o g =
    let still = still_beside (uses s) (uses i) (uses j) a b o g.moves in
    record {
      moves = moves_beside (uses s) (uses i) (uses j) a b g.moves;
      known = λ all h. let y = g.known all h.2 in (y.0, (h.0, h.1, y.1));
      gave = λ G k u e f told. same_followed k (left a i (x ∷ env)) (more v (left b j (x ∷ env))) (left a (outside p s) env) (left b (outside p s) env) (g.gave (f.1 ∷ G) k u (f.5, e) f.6 told) (loop_still env k p s a b still);
      counts = λ G k u e f told z P.
          inner_sum (paid (stage a) P g.moves.events) (to_start b P j (x ∷ env)) (to_start a P i (x ∷ env)) (to_start a P (outside p s) env) (to_start b P (outside p s) env)
          (g.counts (f.1 ∷ G) k u (f.5, e) f.6 told (well_first (left a i (x ∷ env)) (left a (outside p s) env) z) P) (start_still (outside p s) a b P env still);
      typed = λ G k u e f.
          let y = g.typed (f.1 ∷ G) k u (f.5, e) f.6 in
          (y.0, (f.0, f.1, f.2, fits_still s a b G f.0 f.1 still f.3, types_on (stage a) (stage b) (f.1 ∷ G) p (coll k u) still.held f.4, f.5, y.1));
      lower = let y = g.lower in omega arith;
      fell = let y = g.fell in let z : most b s * size p ≡ most a s * size p = ap (λ n. n * size p) (most_still s a b still) in omega arith;
    }

pub inside_none : (env : List Value) (p : Node) (s : Snap) (x : Value) (i : Snap) (a b : Running) → Owned (uses (inside p s x i)) a → Ends (x ∷ env) i a b → Onward env (inside p s x i) a (outside p s) b
inside_none env p s x i a b o g =
    let still = still_beside (uses s) (uses i) nothing a b o g.moves in
    record {
      moves = moves_same (beside (uses s) (uses i)) (beside (uses s) (uses i)) (beside (uses s) nothing) (uses s) a b (λ d k. refl) (λ d k. omega arith) (moves_beside (uses s) (uses i) nothing a b g.moves);
      known = λ all h. (g.known all h.2, (h.0, h.1));
      same = λ G k u e f told. same_followed k (left a i (x ∷ env)) (stop fine) (left a (outside p s) env) (left b (outside p s) env) (g.over (f.1 ∷ G) k u (f.5, e) f.6 told) (loop_still env k p s a b still);
      counts = λ G k u e f told z P.
          first_over (paid (stage a) P g.moves.events) (to_start a P i (x ∷ env)) (to_start a P (outside p s) env) (to_start b P (outside p s) env)
          (g.counts (f.1 ∷ G) k u (f.5, e) f.6 told (well_first (left a i (x ∷ env)) (left a (outside p s) env) z) P) (start_still (outside p s) a b P env still);
      typed = λ G k u e f. (f.0, f.1, f.2, fits_still s a b G f.0 f.1 still f.3, types_on (stage a) (stage b) (f.1 ∷ G) p (coll k u) still.held f.4);
      lower = omega arith;
      fewer = let z : most b s * size p ≡ most a s * size p = ap (λ n. n * size p) (most_still s a b still) in omega arith;
    }

inside_reason : (env : List Value) (p : Node) (s : Snap) (x : Value) (i : Snap) (e : EvalStop) (a b c : Running) → Moves (uses s) nothing b c → Reason (x ∷ env) i e a b → Reason env (inside p s x i) e a c
inside_reason env p s x i why.Overflow a b c m r = λ G k u e f told.
    same_followed k (left a i (x ∷ env)) (stop overflow) (left a (outside p s) env) (left a (outside p s) env) (r (f.1 ∷ G) k u (f.5, e) f.6 told) (same_itself k (left a (outside p s) env))
inside_reason env p s x i (why.Driver l y) a b c m r = refused_before (λ all. PartsLeft all (inside p s x i)) (λ all. PartsLeft all i) l y (uses s) nothing a b c (λ all h. h.2) r m
inside_reason env p s x i why.NoMemory a b c m r = tt

abbrev pub beside_none : (u v : Uses) (a b : Running) → Moves v nothing a b → Moves (beside u v) u a b
beside_none u v a b m = moves_same (beside u v) (beside u v) (beside u nothing) u a b (λ d k. refl) (λ d k. omega arith) (moves_beside u v nothing a b m)

pub inside_stop : (env : List Value) (p : Node) (s : Snap) (x : Value) (i : Snap) (e : EvalStop) (a b c : Running) → Stops (x ∷ env) i e a b → Closes (uses s) b c → Stops env (inside p s x i) e a c
inside_stop env p s x i e a b c g m = record {
  moves = moves_then (beside (uses s) (uses i)) (uses s) nothing a b c (beside_none (uses s) (uses i) a b g.moves) m.moves;
  known = λ all h. of_then all g.moves.events m.moves.events (g.known all h.2) (of_none all m.moves.events m.none);
  reason = inside_reason env p s x i e a b c m.moves g.reason;
}

-- ---- a loop between two items

pub loop_end : (env : List Value) (p : Node) (s : Snap) (a b : Running) → Ends env s a b → Ends env (outside p s) a b
loop_end env p s a b g = record {
  moves = g.moves;
  known = λ all h. g.known all h.1;
  over = λ G k u e f told. same_drawn k (left a s env) (stop fine) (λ v. coming (plan (reading a) p (v ∷ env))) (same_fits f.0 k (left a s env) (stop fine) f.2 (g.over G f.0 f.1 e f.3 told));
  counts = λ G k u e f told z P.
      let y = well_source (left a s env) (λ v. coming (plan (reading a) p (v ∷ env))) z in
      none_left (paid (stage a) P g.moves.events) (to_start a P s env) (bodies (stage a) P p env (left a s env)) (g.counts G f.0 f.1 e f.3 told y P)
      (same_weight f.0 (left a s env) (stop fine) (g.over G f.0 f.1 e f.3 told) y (λ v. cost (stage a) P p (v ∷ env)));
}
  where
    none_left : (x z w : ℕ) → x + 0 ≡ z → 0 ≡ w → x + 0 ≡ z + w
    none_left x z w e f = omega arith

loop_reason : (env : List Value) (p : Node) (s : Snap) (e : EvalStop) (a b : Running) → Reason env s e a b → Reason env (outside p s) e a b
loop_reason env p s why.Overflow a b r = λ G k u e f told.
    same_drawn k (left a s env) (stop overflow) (λ v. coming (plan (reading a) p (v ∷ env))) (same_fits f.0 k (left a s env) (stop overflow) f.2 (r G f.0 f.1 e f.3 told))
loop_reason env p s (why.Driver l x) a b r = refused_as (λ all. PartsLeft all (outside p s)) (λ all. PartsLeft all s) l x a b (λ all h. h.1) r
loop_reason env p s why.NoMemory a b r = tt

pub loop_stop : (env : List Value) (p : Node) (s : Snap) (e : EvalStop) (a b : Running) → Stops env s e a b → Stops env (outside p s) e a b
loop_stop env p s e a b g = record { moves = g.moves; known = λ all h. g.known all h.1; reason = loop_reason env p s e a b g.reason }

-- An item of the source: the loop goes on inside its body, where nothing is done yet. That this holds fewer items is no
-- longer so, so it is said apart.
pub record Drew (env : List Value) (p : Node) (s t : Snap) (v : Value) (a b : Running) : Type 0 where
  pub moves : Moves (uses s) (uses t) a b
  pub known : (all : Listing) → PartsLeft all (outside p s) → AreOf all moves.events × PartsLeft all (inside p t v (fresh p))
  pub same : WhereTold env (outside p s) a (λ k. Same k (left a (outside p s) env) (followed (coming (plan (reading b) p (v ∷ env))) (left b (outside p t) env)))
  pub counts : WhereTold env (outside p s) a (λ k. Counts env (outside p s) a moves.events (λ P. cost (stage b) P p (v ∷ env) + to_start b P (outside p t) env))
  pub typed : (G : List Ground) (k : Kind) (u : Ground) → HaveTypes G env → Fits a G k u (outside p s) → Fits b G k u (inside p t v (fresh p))
  pub lower : height t ≤ height s
  pub fell : most b t < most a s

drew_sum : (x l s w r w' : ℕ) → x + l ≡ s → r + w' ≡ w → x + (r + (l + w')) ≡ s + w
drew_sum x l s w r w' e f = omega arith

pub drew : (env : List Value) (p : Node) (s t : Snap) (v : Value) (a b : Running) → Gives env s a v t b → Drew env p s t v a b
drew env p s t v a b g =
    let held = stage_stays (uses s) (uses t) a b g.moves in
    record {
      moves = g.moves;
      known = λ all h. let x = g.known all h.1 in (x.0, (h.0, x.1, h.0));
      same = λ G k u e f told. subst (λ H. Same k (left a (outside p s) env) (drawn (more v (left b t env)) (λ w. coming (plan (readings H) p (w ∷ env))))) (sym held)
          (same_drawn k (left a s env) (more v (left b t env)) (λ w. coming (plan (reading a) p (w ∷ env))) (same_fits f.0 k (left a s env) (more v (left b t env)) f.2 (g.gave G f.0 f.1 e f.3 told)));
      counts = λ G k u e f told z P.
          let y = well_source (left a s env) (λ w. coming (plan (reading a) p (w ∷ env))) z in
          subst (λ H. paid (stage a) P g.moves.events + (cost H P p (v ∷ env) + (to_start b P t env + bodies H P p env (left b t env))) ≡ to_start a P (outside p s) env) (sym held)
          (drew_sum (paid (stage a) P g.moves.events) (to_start b P t env) (to_start a P s env) (bodies (stage a) P p env (left a s env)) (cost (stage a) P p (v ∷ env)) (bodies (stage a) P p env (left b t env))
          (g.counts G f.0 f.1 e f.3 told y P)
          (sym (weight_more (λ w. cost (stage a) P p (w ∷ env)) v (left b t env))
          ∙ same_weight f.0 (left a s env) (more v (left b t env)) (g.gave G f.0 f.1 e f.3 told) y (λ w. cost (stage a) P p (w ∷ env))));
      typed = λ G k u e f.
          let y = g.typed G f.0 f.1 e f.3 in
          let types = types_on (stage a) (stage b) (f.1 ∷ G) p (coll k u) held f.4 in
          (f.0, f.1, f.2, y.1, types, y.0, types);
      lower = g.lower;
      fell = g.fell;
    }

abbrev body_moves : (t i : Snap) (a b : Running) → Moves nothing (uses i) a b → Moves (uses t) (beside (uses t) (uses i)) a b
body_moves t i a b m = moves_same (beside (uses t) nothing) (uses t) (beside (uses t) (uses i)) (beside (uses t) (uses i)) a b (λ d k. omega arith) (λ d k. refl) (moves_beside (uses t) nothing (uses i) a b m)

abbrev pub body_over : (t : Snap) (a b : Running) → Moves nothing nothing a b → Moves (uses t) (uses t) a b
body_over t a b m = moves_same (beside (uses t) nothing) (uses t) (beside (uses t) nothing) (uses t) a b (λ q k. omega arith) (λ q k. omega arith) (moves_beside (uses t) nothing nothing a b m)

pub body_owned : (t : Snap) (a : Running) → Owned (uses t) a → Owned (beside (uses t) nothing) a
body_owned t a o = record { each = λ d k. let h : uses t d k ≤ open_at a d k = o.each d k in omega arith }

product_falls : (m n i b : ℕ) → n < m → i < b → i + n * b < m * b
product_falls m n i b x y =
    let q : (n + 1) * b ≤ m * b = mul-le-mul_right b (omega arith) in
    let e : (n + 1) * b ≡ n * b + b = grind arith in
    omega arith

-- the body of an item that was drawn ends well where the loop does
body_well : (env : List Value) (k : Kind) (p : Node) (s t : Snap) (v : Value) (a b : Running)
    → Same k (left a (outside p s) env) (followed (coming (plan (reading b) p (v ∷ env))) (left b (outside p t) env)) → harm (left a (outside p s) env) ≡ 0 → harm (coming (plan (reading b) p (v ∷ env))) ≡ 0
body_well env k p s t v a b h z = well_first (coming (plan (reading b) p (v ∷ env))) (left b (outside p t) env) (same_harm k (left a (outside p s) env) (followed (coming (plan (reading b) p (v ∷ env))) (left b (outside p t) env)) h ∙ z)

pub loop_some : (env : List Value) (p : Node) (s t i : Snap) (v w : Value) (a b c : Running) → Owned (uses t) b → Drew env p s t v a b → Gives (v ∷ env) (fresh p) b w i c → Gives env (outside p s) a w (inside p t v i) c
loop_some env p s t i v w a b c o d g =
    let still = still_beside (uses t) nothing (uses i) b c (body_owned t b o) g.moves in
    record {
      moves = moves_then (uses s) (uses t) (beside (uses t) (uses i)) a b c d.moves (body_moves t i b c g.moves);
      known = λ all h. let x = d.known all h in let y = g.known all x.1.2 in (of_then all d.moves.events g.moves.events x.0 y.0, (x.1.0, x.1.1, y.1));
      gave = λ G k u e f told.
          let told' = told_on (uses s) (uses t) a b d.moves told in
          let y = d.typed G k u e f in
          same_on k (left a (outside p s) env) (followed (coming (plan (reading b) p (v ∷ env))) (left b (outside p t) env)) (more w (left c (inside p t v i) env)) (d.same G k u e f told)
          (same_followed k (coming (plan (reading b) p (v ∷ env))) (more w (left c i (v ∷ env))) (left b (outside p t) env) (left c (outside p t) env) (g.gave (y.1 ∷ G) k u (y.5, e) y.6 told') (loop_still env k p t b c still));
      counts = λ G k u e f told z P.
          let told' = told_on (uses s) (uses t) a b d.moves told in
          let y = d.typed G k u e f in
          paid_both (stage a) (stage b) P d.moves.events g.moves.events (to_start a P (outside p s) env) (cost (stage b) P p (v ∷ env) + to_start b P (outside p t) env) (to_start c P (inside p t v i) env)
          (stage_stays (uses s) (uses t) a b d.moves) (d.counts G k u e f told z P)
          (inner_sum (paid (stage b) P g.moves.events) (to_start c P i (v ∷ env)) (cost (stage b) P p (v ∷ env)) (to_start b P (outside p t) env) (to_start c P (outside p t) env)
          (g.counts (y.1 ∷ G) k u (y.5, e) y.6 told' (body_well env k p s t v a b (d.same G k u e f told) z) P) (start_still (outside p t) b c P env still));
      typed = λ G k u e f.
          let y = d.typed G k u e f in
          let z = g.typed (y.1 ∷ G) k u (y.5, e) y.6 in
          (z.0, (y.0, y.1, y.2, fits_still t b c G y.0 y.1 still y.3, types_on (stage b) (stage c) (y.1 ∷ G) p (coll k u) still.held y.4, y.5, z.1));
      lower = let x = d.lower in let y = g.lower in omega arith;
      fell =
          let x : most c t < most a s = (let y = most_still t b c still in let z = d.fell in omega arith) in
          product_falls (most a s) (most c t) (most c i) (size p) x g.fell;
    }

pub loop_none : (env : List Value) (p : Node) (s t : Snap) (v : Value) (a b c : Running) → Owned (uses t) b → Drew env p s t v a b → Ends (v ∷ env) (fresh p) b c → Onward env (outside p s) a (outside p t) c × (most c t < most a s)
loop_none env p s t v a b c o d g =
    let still = still_beside (uses t) nothing nothing b c (body_owned t b o) g.moves in
    let x : most c t < most a s = (let y = most_still t b c still in let z = d.fell in omega arith) in (
      record {
        moves = moves_then (uses s) (uses t) (uses t) a b c d.moves (body_over t b c g.moves);
        known = λ all h. let w = d.known all h in (of_then all d.moves.events g.moves.events w.0 (g.known all w.1.2), (w.1.0, w.1.1));
        same = λ G k u e f told.
            let told' = told_on (uses s) (uses t) a b d.moves told in
            let y = d.typed G k u e f in
            same_on k (left a (outside p s) env) (followed (coming (plan (reading b) p (v ∷ env))) (left b (outside p t) env)) (left c (outside p t) env) (d.same G k u e f told)
            (same_followed k (coming (plan (reading b) p (v ∷ env))) (stop fine) (left b (outside p t) env) (left c (outside p t) env) (g.over (y.1 ∷ G) k u (y.5, e) y.6 told') (loop_still env k p t b c still));
        counts = λ G k u e f told z P.
            let told' = told_on (uses s) (uses t) a b d.moves told in
            let y = d.typed G k u e f in
            paid_both (stage a) (stage b) P d.moves.events g.moves.events (to_start a P (outside p s) env) (cost (stage b) P p (v ∷ env) + to_start b P (outside p t) env) (to_start c P (outside p t) env)
            (stage_stays (uses s) (uses t) a b d.moves) (d.counts G k u e f told z P)
            (first_over (paid (stage b) P g.moves.events) (cost (stage b) P p (v ∷ env)) (to_start b P (outside p t) env) (to_start c P (outside p t) env)
            (g.counts (y.1 ∷ G) k u (y.5, e) y.6 told' (body_well env k p s t v a b (d.same G k u e f told) z) P) (start_still (outside p t) b c P env still));
        typed = λ G k u e f.
            let y = d.typed G k u e f in
            (y.0, y.1, y.2, fits_still t b c G y.0 y.1 still y.3, types_on (stage b) (stage c) (y.1 ∷ G) p (coll k u) still.held y.4);
        lower = let z = d.lower in omega arith;
        fewer = let z : most c t * size p ≤ most a s * size p = mul-le-mul_right (size p) (omega arith) in z;
      },
      x,
    )

lost_reason : (env : List Value) (p : Node) (s t : Snap) (v : Value) (e : EvalStop) (a b c l : Running) → Drew env p s t v a b → Moves (uses t) nothing c l → Reason (v ∷ env) (fresh p) e b c → Reason env (outside p s) e a l
lost_reason env p s t v why.Overflow a b c l d m r = λ G k u e f told.
    let told' = told_on (uses s) (uses t) a b d.moves told in
    let y = d.typed G k u e f in
    same_on k (left a (outside p s) env) (followed (coming (plan (reading b) p (v ∷ env))) (left b (outside p t) env)) (stop overflow) (d.same G k u e f told)
    (same_followed k (coming (plan (reading b) p (v ∷ env))) (stop overflow) (left b (outside p t) env) (left b (outside p t) env) (r (y.1 ∷ G) k u (y.5, e) y.6 told') (same_itself k (left b (outside p t) env)))
lost_reason env p s t v (why.Driver n x) a b c l d m r =
    refused_then (λ all. PartsLeft all (outside p s)) (λ all. PartsLeft all (fresh p)) n x (uses s) (uses t) a b l (λ all h. (d.known all h).1.2) d.moves
    (refused_before (λ all. PartsLeft all (fresh p)) (λ all. PartsLeft all (fresh p)) n x (uses t) nothing b c l (λ all h. h) r m)
lost_reason env p s t v why.NoMemory a b c l d m r = tt

pub loop_lost : (env : List Value) (p : Node) (s t : Snap) (v : Value) (e : EvalStop) (a b c l : Running) → Drew env p s t v a b → Stops (v ∷ env) (fresh p) e b c → Closes (uses t) c l → Stops env (outside p s) e a l
loop_lost env p s t v e a b c l d g m = record {
  moves = moves_then (uses s) (uses t) nothing a b l d.moves (moves_then (uses t) (uses t) nothing b c l (body_over t b c g.moves) m.moves);
  known = λ all h. let w = d.known all h in of_then all d.moves.events (g.moves.events ++ m.moves.events) w.0 (of_then all g.moves.events m.moves.events (g.known all w.1.2) (of_none all m.moves.events m.none));
  reason = lost_reason env p s t v e a b c l d m.moves g.reason;
}
