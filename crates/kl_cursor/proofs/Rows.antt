-- The rows of a scan, as they go to a list or to a body.
use Rattle.std.proofs.Common.{◌≡◌, ℕ, ◌+◌, ◌<◌, List, [], ◌∷◌, ◌++◌, length, Ok, Err, sym, ap, ◌∙◌, subst, arith}
use Rattle.std.specs.Prelude.{⊤}
use Rattle.std.specs.List.{AllByRecursion}
use Rattle.kl_value.specs.declared.Value.{Value}
use Rattle.kl_type.specs.Ground.{Ground, coll}
use Rattle.kl_outcome.specs.Outcome.{fine, overflow, Flow, flow, followed, drawn}
use Rattle.kl_outcome.specs.Typed.{Inhabits}
use Rattle.kl_outcome.proofs.Drawing.{drawn_followed}
use Rattle.kl_scans.specs.Running.{Running}
use Rattle.kl_eval.specs.declared.stop.EvalStop.{EvalStop}
use Rattle.kl_eval.specs.declared.stop.EvalStop.TheVariants as why
use Rattle.kl_plan.specs.Alike.{harm}
use Rattle.kl_plan.specs.declared.plan.Scan.{Scan}
use Rattle.kl_plan.specs.Meaning.{coming, plan}
use Rattle.kl_plan.specs.Nodes.{Node}
use Rattle.kl_plan.proofs.Likeness.{weight_followed}
use Rattle.kl_scans.specs.Held.{cursor_at, nothing, one_at, Owned}
use Rattle.kl_scans.specs.Log.{paid}
use Rattle.kl_scans.specs.Moves.{Closes}
use Rattle.kl_scans.specs.Scans.{PulledMore}
use Rattle.kl_scans.specs.Stage.{stage, ScanOf, IsTold, or_none}
use Rattle.kl_scans.proofs.Moving.{moves_then, stage_stays}
use Rattle.kl_cursor.specs.Gathering.{Gathered}
use Rattle.kl_cursor.specs.Draining.{Draining}
use Rattle.kl_cursor.specs.Left.{Snap, have, pulling, outside, left, reading, to_start, rows_left, PartsLeft, cost}
use Rattle.kl_cursor.specs.Likeness.{Same}
use Rattle.kl_cursor.specs.Measure.{bound_in}
use Rattle.kl_cursor.specs.Sense.{CursorOf}
use Rattle.kl_cursor.specs.Steps.{AreOf, Halts, StoppedAt, Empties, Emits}
use Rattle.kl_cursor.proofs.Emitting.{not_well, over_stays}
use Rattle.kl_cursor.proofs.Events.{of_none, of_then}
use Rattle.kl_cursor.proofs.Forms.{body_owned, body_over, loop_still}
use Rattle.kl_cursor.proofs.Likes.{same_itself, same_at, same_on, same_followed, well_first}
use Rattle.kl_cursor.proofs.Scanning.{rows_of, type_of, ask_of}
use Rattle.kl_cursor.proofs.Starting.{harm_flow}
use Rattle.kl_cursor.proofs.Still.{still_beside, start_still, fits_still, types_on, one_self, bodies}
use Rattle.kl_cursor.proofs.ValueDrain.{flow_more}
use Rattle.kl_cursor.proofs.Refusals.{refused_before}

-- ---- one pull

-- the rows that a driver hands
pub scan_hands : (env : List Value) (q : Scan) (k n : ℕ) (into into' : List Value) (a b : Running) (p : PulledMore q k into into' a b) → Draining env (pulling q k [] n) a p.rows (pulling q k [] n) b
scan_hands env q k n into into' a b p =
    let held = stage_stays (one_at q.driver k) (one_at q.driver k) a b p.moves in
    record {
      moves = p.moves;
      known = λ all h. (subst (AreOf all) (sym p.only) (h, tt), h);
      same = λ G j u h f told.
          let r = rows_of a q (cursor_at a q.driver k) p.was u p.here f.2 told in
          let l = p.hands.left r.0 r.1 in
          same_at j (flow (rows_left (cursor_at a q.driver k)) fine) (followed (flow p.rows fine) (flow (rows_left (cursor_at b q.driver k)) fine))
          (ap (λ o. flow (rows_left o) fine) p.here ∙ ap (λ o. flow (or_none o) fine) r.1 ∙ ap (λ z. flow z fine) l.1 ∙ sym (flow_more p.rows l.0 fine)
          ∙ ap (λ o. followed (flow p.rows fine) (flow (or_none o) fine)) (sym l.2) ∙ ap (λ o. followed (flow p.rows fine) (flow (rows_left o) fine)) (sym p.now));
      counts = λ G j u h f told z P. ap (λ es. paid (stage a) P es + 0) p.only;
      typed = λ G j u h f.
          let t : p.was.ty ≡ u = type_of a q (cursor_at a q.driver k) p.was u p.here f.2 in
          let s : p.was.ask ≡ q.ask = ask_of a q (cursor_at a q.driver k) p.was u p.here f.2 in
          let still : CursorOf b q (cursor_at b q.driver k) u = subst (λ o. CursorOf b q o u) (sym p.now)
          (p.hands.ask ∙ s, p.hands.ty ∙ t, λ told. let r = rows_of a q (cursor_at a q.driver k) p.was u p.here f.2 (subst IsTold held told) in let l = p.hands.left r.0 r.1 in (l.0, l.2)) in
          (typed_as p.was.ty u p.rows t p.hands.typed, (tt, subst (λ K. ScanOf K q u) (sym held) f.1, still, f.3 ∙ ap (λ s. s.fetch) (sym p.moves.settings)));
      lower = omega arith;
    }
  where
    typed_as : (t u : Ground) (rows : List Value) → t ≡ u → AllByRecursion (Inhabits t) rows → AllByRecursion (Inhabits u) rows
    typed_as t u rows e h = subst (λ s. AllByRecursion (Inhabits s) rows) e h

-- rows that were handed are fetched ahead
pub rows_ahead : (env : List Value) (q : Scan) (k n : ℕ) (s : Snap) (rows : List Value) (a b : Running) → Draining env s a rows (pulling q k [] n) b → Draining env s a [] (pulling q k rows n) b
rows_ahead env q k n s rows a b d = record {
  moves = d.moves;
  known = d.known;
  same = λ G j u h f told. subst (Same j (left a s env)) (flow_more rows (rows_left (cursor_at b q.driver k)) fine) (d.same G j u h f told);
  counts = d.counts;
  typed = λ G j u h f. let x = d.typed G j u h f in (tt, (x.0, x.1.1, x.1.2, x.1.3));
  lower = d.lower;
}

pub pull_falls : (q : Scan) (k : ℕ) (into into' : List Value) (a b : Running) → PulledMore q k into into' a b → bound_in (cursor_at b q.driver k) < bound_in (cursor_at a q.driver k)
pull_falls q k into into' a b p =
    let x : p.then.bound + length p.rows ≡ p.was.bound = p.hands.bound in
    let y : 0 < length p.rows = p.hands.some in
    let v : bound_in (cursor_at a q.driver k) ≡ p.was.bound = ap bound_in p.here in
    let w : bound_in (cursor_at b q.driver k) ≡ p.then.bound = ap bound_in p.now in
    omega arith

-- ---- rows that a body draws

module _ (env : List Value) (p : Node) (q : Scan) (k n : ℕ) (rows : List Value) (a b : Running) (o : Owned (one_at q.driver k) a) where
  abbrev Rows : Snap
  Rows = outside p (pulling q k rows n)

  abbrev Behind : Snap
  Behind = outside p (pulling q k [] n)

  abbrev Alone : Snap
  Alone = outside p (have rows fine)

  abbrev body : Running → Value → Flow
  body w v = coming (plan (reading w) p (v ∷ env))

  abbrev told_left : List Value
  told_left = rows_left (cursor_at a q.driver k)

  -- those that are fetched ahead come first
  one_by_one : left a Rows env ≡ followed (left a Alone env) (left a Behind env)
  one_by_one = ap (λ f. drawn f (body a)) (sym (flow_more rows told_left fine)) ∙ drawn_followed (flow rows fine) (flow told_left fine) (body a)

  first_well : harm (left a Rows env) ≡ 0 → harm (left a Alone env) ≡ 0
  first_well z = well_first (left a Alone env) (left a Behind env) (ap harm (sym one_by_one) ∙ z)

  rows_sum : (e x y z w : ℕ) → e + 0 ≡ 0 + x → y ≡ 0 + z → w ≡ x + z → e + y ≡ 0 + w
  rows_sum e x y z w f g h = omega arith

  rows_drains : (ws : List Value) → Empties env Alone ws fine a b → Draining env Rows a ws Behind b
  rows_drains ws g =
      let still = still_beside (one_at q.driver k) nothing nothing a b (body_owned (pulling q k [] n) a o) g.moves in
      record {
        moves = body_over (pulling q k [] n) a b g.moves;
        known = λ all h. (g.known all (h.0, tt), (h.0, h.1));
        same = λ G j u e f told. same_on j (left a Rows env) (followed (left a Alone env) (left a Behind env)) (followed (flow ws fine) (left b Behind env)) (same_at j _ _ one_by_one)
            (same_followed j (left a Alone env) (flow ws fine) (left a Behind env) (left b Behind env) (g.gave G j u e (f.0, f.1, f.2, f.3.0, f.4) told) (loop_still env j p (pulling q k [] n) a b still));
        counts = λ G j u e f told z P.
            rows_sum (paid (stage a) P g.moves.events) (bodies (stage a) P p env (flow rows fine)) (to_start b P Behind env) (bodies (stage a) P p env (flow told_left fine)) (bodies (stage a) P p env (flow (rows ++ told_left) fine))
            (g.counts G j u e (f.0, f.1, f.2, f.3.0, f.4) told (first_well z) P) (start_still Behind a b P env still)
            (ap (bodies (stage a) P p env) (sym (flow_more rows told_left fine)) ∙ weight_followed (λ v. cost (stage a) P p (v ∷ env)) (flow rows fine) (flow told_left fine) (harm_flow rows));
        typed = λ G j u e f. (
          g.typed G j u e (f.0, f.1, f.2, f.3.0, f.4),
          (f.0, f.1, f.2, fits_still (pulling q k [] n) a b G f.0 f.1 still (tt, f.3.1, f.3.2, f.3.3), types_on (stage a) (stage b) (f.1 ∷ G) p (coll j u) still.held f.4),
        );
        lower = omega arith;
      }

  -- a draw leaves the cursor as it was
  pub rows_still : (r : Unit {0}) (old new : Gathered) → Emits env Alone (Ok r) old new a b → bound_in (cursor_at b q.driver k) ≡ bound_in (cursor_at a q.driver k)
  rows_still r old new h = ap bound_in ((still_beside (one_at q.driver k) nothing nothing a b (body_owned (pulling q k [] n) a o) h.2.moves).each q.driver k (one_self q.driver k))

  pub rows_drawn : (r : Unit {0}) (old new : Gathered) (h : Emits env Alone (Ok r) old new a b) → Draining env Rows a h.0 Behind b
  rows_drawn r old new h = rows_drains h.0 h.2

  -- a stop of the body closes the cursor
  module _ (d : Running) (m : Closes (one_at q.driver k) b d) where
    rows_over : (ws : List Value) → Empties env Alone ws overflow a b → Empties env Rows ws overflow a d
    rows_over ws g = record {
      moves = moves_then (one_at q.driver k) (one_at q.driver k) nothing a b d (body_over (pulling q k [] n) a b g.moves) m.moves;
      known = λ all h. of_then all g.moves.events m.moves.events (g.known all (h.0, tt)) (of_none all m.moves.events m.none);
      gave = λ G j u e f told. same_on j (left a Rows env) (followed (left a Alone env) (left a Behind env)) (flow ws overflow) (same_at j _ _ one_by_one)
          (subst (Same j (followed (left a Alone env) (left a Behind env))) (over_stays ws (left a Behind env))
          (same_followed j (left a Alone env) (flow ws overflow) (left a Behind env) (left a Behind env) (g.gave G j u e (f.0, f.1, f.2, f.3.0, f.4) told) (same_itself j (left a Behind env))));
      counts = λ G j u e f told z P. absurd (not_well j (left a Alone env) ws (g.gave G j u e (f.0, f.1, f.2, f.3.0, f.4) told) (first_well z));
      typed = λ G j u e f. g.typed G j u e (f.0, f.1, f.2, f.3.0, f.4);
    }

    rows_halt : (reason back : Type 0) → (reason → back) → Halts nothing (λ all. PartsLeft all Alone) reason a b → Halts (one_at q.driver k) (λ all. PartsLeft all Rows) back a d
    rows_halt reason back f h = record {
      moves = moves_then (one_at q.driver k) (one_at q.driver k) nothing a b d (body_over (pulling q k [] n) a b h.moves) m.moves;
      known = λ all i. of_then all h.moves.events m.moves.events (h.known all (i.0, tt)) (of_none all m.moves.events m.none);
      reason = f h.reason;
    }

    pub rows_stop : (e : EvalStop) (old new : Gathered) → Emits env Alone (Err e) old new a b → Emits env Rows (Err e) old new a d
    rows_stop why.Overflow old new h = (h.0, h.1, rows_over h.0 h.2)
    rows_stop (why.Driver l x) old new h = rows_halt (StoppedAt (λ all. PartsLeft all Alone) l x a b) (StoppedAt (λ all. PartsLeft all Rows) l x a d)
        (λ s. refused_before (λ all. PartsLeft all Rows) (λ all. PartsLeft all Alone) l x (one_at q.driver k) nothing a b d (λ all i. (i.0, tt)) s m.moves) h
    rows_stop why.NoMemory old new h = rows_halt ⊤ ⊤ (λ i. i) h
