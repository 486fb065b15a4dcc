-- A cursor finds its own cursors of drivers as they were.
use Rattle.std.proofs.Common.{◌≡◌, ℕ, ◌+◌, ◌*◌, ◌^◌, ◌≤◌, max, List, ◌∷◌, ◌++◌, length, Option, Some, None, refl, sym, ap, ◌∙◌, subst, arith}
use mathlib.Core.Path.{ap₂}
use Rattle.kl_value.specs.declared.Kind.{Kind}
use Rattle.kl_value.specs.declared.Value.{Value}
use Rattle.kl_type.specs.Ground.{Ground, coll}
use Rattle.kl_outcome.specs.Outcome.{Flow, fine, flow, followed, drawn}
use Rattle.kl_ask.specs.Driver.{Cursor}
use Rattle.kl_scans.specs.Running.{Running}
use Rattle.kl_plan.specs.Alike.{weight}
use Rattle.kl_plan.specs.declared.plan.Scan.{Scan}
use Rattle.kl_plan.specs.Meaning.{coming, drawn_for, plan, plan_items}
use Rattle.kl_plan.specs.Nodes.{Node}
use Rattle.kl_plan.specs.Typing.{PlanTypes, EachPlan}
use Rattle.kl_plan.specs.Prices.{Prices}
use Rattle.kl_scans.specs.Held.{cursor_at, open_at, Uses, one_at, beside, Owned}
use Rattle.kl_scans.specs.Moves.{Moves}
use Rattle.kl_scans.specs.Stage.{Stage, stage, readings, ScanOf, IsTold, MemoOf}
use Rattle.kl_scans.proofs.Moving.{open_most, stage_stays}
use Rattle.kl_cursor.specs.Left.{Snap, fresh, have, pulling, both, bound, outside, inside, made, ended, taking, reads, pairing, joining, matching, leading, uses, left, rows_left, to_start, cost, cost_nodes}
use Rattle.kl_cursor.specs.Joining.{waiting, pairs, held_of, row_of, pairs_cost, rest_cost}
use Rattle.kl_cursor.specs.Measure.{most, size, bound_in, asked_most}
use Rattle.kl_cursor.specs.Sense.{Fits, CursorOf, JoinTypes, HoldsTypes}

pub record Still (u : Uses) (a b : Running) : Type 0 where
  pub held : stage b ≡ stage a
  pub fetch : b.settings ≡ a.settings
  pub each : (d k : ℕ) → 1 ≤ u d k → cursor_at b d k ≡ cursor_at a d k

pub still_beside : (w u v : Uses) (a b : Running) → Owned (beside w u) a → Moves u v a b → Still w a b
still_beside w u v a b o m = record {
  held = stage_stays u v a b m;
  fetch = m.settings;
  each = λ d k h.
      let x : w d k + u d k ≤ open_at a d k = o.each d k in
      let y : open_at a d k ≤ 1 = open_most a d k in
      let free : u d k ≡ 0 = omega arith in
      let is_open : open_at a d k ≡ 1 = omega arith in
      m.others d k free is_open;
}

pub still_part : (w u : Uses) (a b : Running) → ((d k : ℕ) → w d k ≤ u d k) → Still u a b → Still w a b
still_part w u a b h s = record { held = s.held; fetch = s.fetch; each = λ d k e. s.each d k (let x : w d k ≤ u d k = h d k in omega arith) }

pub one_self : (d k : ℕ) → 1 ≤ one_at d k d k
one_self d k = let e : one_at d k d k ≡ 1 = grind arith in omega arith

first_part : (u v : Uses) (d k : ℕ) → u d k ≤ beside u v d k
first_part u v d k = omega arith

second_part : (u v : Uses) (d k : ℕ) → v d k ≤ beside u v d k
second_part u v d k = omega arith

still_source : (p : Node) (s : Snap) (v : Value) (i : Snap) (a b : Running) → Still (uses (inside p s v i)) a b → Still (uses s) a b
still_source p s v i a b h = still_part (uses s) (uses (inside p s v i)) a b (first_part (uses s) (uses i)) h

still_inner : (p : Node) (s : Snap) (v : Value) (i : Snap) (a b : Running) → Still (uses (inside p s v i)) a b → Still (uses i) a b
still_inner p s v i a b h = still_part (uses i) (uses (inside p s v i)) a b (second_part (uses s) (uses i)) h

still_behind : (v : Value) (i s : Snap) (a b : Running) → Still (uses (leading v i s)) a b → Still (uses s) a b
still_behind v i s a b h = still_part (uses s) (uses (leading v i s)) a b (first_part (uses s) (uses i)) h

still_under : (v : Value) (i s : Snap) (a b : Running) → Still (uses (leading v i s)) a b → Still (uses i) a b
still_under v i s a b h = still_part (uses i) (uses (leading v i s)) a b (second_part (uses s) (uses i)) h

pub left_still : (s : Snap) (a b : Running) (env : List Value) → Still (uses s) a b → left b s env ≡ left a s env
left_still (fresh p) a b env h = ap (λ H. coming (plan (readings H) p env)) h.held
left_still (have vs e) a b env h = refl
left_still (pulling c k rows n) a b env h = ap (λ o. flow (rows ++ rows_left o) fine) (h.each c.driver k (one_self c.driver k))
left_still (both s p) a b env h = ap₂ followed (left_still s a b env h) (ap (λ H. coming (plan (readings H) p env)) h.held)
left_still (bound v s) a b env h = left_still s a b (v ∷ env) h
left_still (outside p s) a b env h = ap₂ (λ f H. drawn f (λ v. coming (plan (readings H) p (v ∷ env)))) (left_still s a b env h) h.held
left_still (inside p s v i) a b env h =
    let e = left_still s a b env (still_source p s v i a b h) in
    let g = left_still i a b (v ∷ env) (still_inner p s v i a b h) in
    ap₂ followed g (ap₂ (λ f H. drawn f (λ v. coming (plan (readings H) p (v ∷ env)))) e h.held)
left_still (made ps) a b env h = ap (λ H. plan_items (readings H) ps env) h.held
left_still ended a b env h = refl
left_still (taking vs s) a b env h = ap (followed (flow vs fine)) (left_still s a b env h)
left_still (reads k p) a b env h = ap (λ H. drawn_for k (plan (readings H) p env)) h.held
left_still (pairing i p xs s) a b env h = ap₂ (λ f H. pairs (readings H) env p xs f) (left_still s a b env h) h.held
left_still (joining j s g n) a b env h = ap₂ (λ f H. followed (held_of (readings H) env j g) (drawn f (row_of (readings H) env j))) (left_still s a b env h) h.held
left_still (matching p ys x s) a b env h = ap₂ (λ f H. followed (drawn (flow ys fine) (λ y. coming (plan (readings H) p (y ∷ x ∷ env)))) f) (left_still s a b env h) h.held
left_still (leading v i s) a b env h = ap₂ followed (left_still i a b (v ∷ env) (still_under v i s a b h)) (left_still s a b env (still_behind v i s a b h))

-- the prices of a loop's bodies
abbrev pub bodies : Stage → Prices → Node → List Value → Flow → ℕ
bodies H P p env f = weight (λ v. cost H P p (v ∷ env)) f

pub start_still : (s : Snap) (a b : Running) (P : Prices) (env : List Value) → Still (uses s) a b → to_start b P s env ≡ to_start a P s env
start_still (fresh p) a b P env h = ap (λ H. cost H P p env) h.held
start_still (have vs e) a b P env h = refl
start_still (pulling c k rows n) a b P env h = refl
start_still (both s p) a b P env h = ap₂ (λ x y. x + y) (start_still s a b P env h) (ap (λ H. cost H P p env) h.held)
start_still (bound v s) a b P env h = start_still s a b P (v ∷ env) h
start_still (outside p s) a b P env h = ap₂ (λ x y. x + y) (start_still s a b P env h) (ap₂ (λ H f. bodies H P p env f) h.held (left_still s a b env h))
start_still (inside p s v i) a b P env h =
    let g = still_source p s v i a b h in
    ap₂ (λ x y. x + y) (start_still i a b P (v ∷ env) (still_inner p s v i a b h))
    (ap₂ (λ x y. x + y) (start_still s a b P env g) (ap₂ (λ H f. bodies H P p env f) h.held (left_still s a b env g)))
start_still (made ps) a b P env h = ap (λ H. cost_nodes H P ps env) h.held
start_still ended a b P env h = refl
start_still (taking vs s) a b P env h = start_still s a b P env h
start_still (reads k p) a b P env h = ap (λ H. cost H P p env) h.held
start_still (pairing i p xs s) a b P env h = ap₂ (λ x y. x + y) (start_still s a b P env h) (ap₂ (λ H f. pairs_cost (readings H) H.block P env p xs f) h.held (left_still s a b env h))
start_still (joining j s g n) a b P env h = ap₂ (λ x y. x + y) (start_still s a b P env h) (ap₂ (λ H f. rest_cost (readings H) H.block P env j g n f) h.held (left_still s a b env h))
start_still (matching p ys x s) a b P env h = ap₂ (λ H y. weight (λ z. cost H P p (z ∷ x ∷ env)) (flow ys fine) + y) h.held (start_still s a b P env h)
start_still (leading v i s) a b P env h = ap₂ (λ x y. x + y) (start_still i a b P (v ∷ env) (still_under v i s a b h)) (start_still s a b P env (still_behind v i s a b h))

pub most_still : (s : Snap) (a b : Running) → Still (uses s) a b → most b s ≡ most a s
most_still (fresh p) a b h = refl
most_still (have vs e) a b h = refl
most_still (pulling c k rows n) a b h = let e : bound_in (cursor_at b c.driver k) ≡ bound_in (cursor_at a c.driver k) = ap bound_in (h.each c.driver k (one_self c.driver k)) in omega arith
most_still (both s p) a b h = let e : most b s ≡ most a s = most_still s a b h in omega arith
most_still (bound v s) a b h = most_still s a b h
most_still (outside p s) a b h = ap (λ n. n * size p) (most_still s a b h)
most_still (inside p s v i) a b h =
    let e : most b s ≡ most a s = most_still s a b (still_source p s v i a b h) in
    let g : most b i ≡ most a i = most_still i a b (still_inner p s v i a b h) in
    ap₂ (λ m n. m + n * size p) g e
most_still (made ps) a b h = refl
most_still ended a b h = refl
most_still (taking vs s) a b h = ap (λ m. length vs + m) (most_still s a b h)
most_still (reads k p) a b h = refl
most_still (pairing i p xs s) a b h = ap (λ m. length xs * (m * size p)) (most_still s a b h)
most_still (joining j s g n) a b h = ap (λ m. (waiting g + m) * (max (asked_most j.inner.ask) (2 ^ 64) * size j.body)) (most_still s a b h)
most_still (matching p ys x s) a b h = ap (λ m. length ys * size p + m) (most_still s a b h)
most_still (leading v i s) a b h = ap₂ (λ m n. m + n) (most_still i a b (still_under v i s a b h)) (most_still s a b (still_behind v i s a b h))

pub types_on : (H J : Stage) (G : List Ground) (p : Node) (s : Ground) → J ≡ H → PlanTypes (ScanOf H) (MemoOf H) G p s → PlanTypes (ScanOf J) (MemoOf J) G p s
types_on H J G p s e h = subst (λ K. PlanTypes (ScanOf K) (MemoOf K) G p s) (sym e) h

cursor_on : (a b : Running) (c : Scan) (o q : Option Cursor) (u : Ground) → stage b ≡ stage a → q ≡ o → CursorOf a c o u → CursorOf b c q u
cursor_on a b c (Some o) q u e f h = subst (λ x. CursorOf b c x u) (sym f) (h.0, h.1, λ told. h.2 (subst IsTold e told))
cursor_on a b c None q u e f h = subst (λ x. CursorOf b c x u) (sym f) tt

pub fits_still : (s : Snap) (a b : Running) (G : List Ground) (k : Kind) (u : Ground) → Still (uses s) a b → Fits a G k u s → Fits b G k u s
fits_still (fresh p) a b G k u h f = types_on (stage a) (stage b) G p (coll k u) h.held f
fits_still (have vs e) a b G k u h f = f
fits_still (pulling c x rows n) a b G k u h f =
    (f.0, subst (λ K. ScanOf K c u) (sym h.held) f.1, cursor_on a b c _ _ u h.held (h.each c.driver x (one_self c.driver x)) f.2, f.3 ∙ ap (λ s. s.fetch) (sym h.fetch))
fits_still (both s p) a b G k u h f = (fits_still s a b G k u h f.0, types_on (stage a) (stage b) G p (coll k u) h.held f.1)
fits_still (bound v s) a b G k u h f = (f.0, f.1, fits_still s a b (f.0 ∷ G) k u h f.2)
fits_still (outside p s) a b G k u h f = (f.0, f.1, f.2, fits_still s a b G f.0 f.1 h f.3, types_on (stage a) (stage b) (f.1 ∷ G) p (coll k u) h.held f.4)
fits_still (inside p s v i) a b G k u h f = (
  f.0,
  f.1,
  f.2,
  fits_still s a b G f.0 f.1 (still_source p s v i a b h) f.3,
  types_on (stage a) (stage b) (f.1 ∷ G) p (coll k u) h.held f.4,
  f.5,
  fits_still i a b (f.1 ∷ G) k u (still_inner p s v i a b h) f.6,
)
fits_still (made ps) a b G k u h f = subst (λ K. EachPlan (ScanOf K) (MemoOf K) G ps u) (sym h.held) f
fits_still ended a b G k u h f = tt
fits_still (taking vs s) a b G k u h f = (f.0, fits_still s a b G k u h f.1)
fits_still (reads i p) a b G k u h f = (f.0, f.1, types_on (stage a) (stage b) G p (coll f.1 u) h.held f.2)
fits_still (pairing i p xs s) a b G k u h f =
    (f.0, f.1, f.2, f.3, fits_still s a b G f.0 f.2 h f.4, types_on (stage a) (stage b) (f.2 ∷ f.1 ∷ G) p (coll k u) h.held f.5, f.6, f.7, f.8)
fits_still (joining j s g n) a b G k u h f =
    (f.0, f.1, f.2, f.3, fits_still s a b G f.0 f.1 h f.4, subst (λ K. JoinTypes K G j k f.1 f.2 u) (sym h.held) f.5, subst (λ K. HoldsTypes K j g f.1 f.2) (sym h.held) f.6)
fits_still (matching p ys x s) a b G k u h f =
    (f.0, f.1, f.2, f.3, types_on (stage a) (stage b) (f.1 ∷ f.0 ∷ G) p (coll k u) h.held f.4, fits_still s a b G k u h f.5)
fits_still (leading v i s) a b G k u h f = (f.0, f.1, fits_still i a b (f.0 ∷ G) k u (still_under v i s a b h) f.2, fits_still s a b G k u (still_behind v i s a b h) f.3)
