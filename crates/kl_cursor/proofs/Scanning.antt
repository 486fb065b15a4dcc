-- Rows of a cursor of a driver.
use Rattle.std.proofs.Common.{◌≡◌, ℕ, ◌+◌, ◌<◌, ◌≤◌, List, [], ◌∷◌, ◌++◌, length, Bool, true, false, Option, Some, None, Result, Ok, Err, slice_get, refl, sym, ap, ◌∙◌, subst, arith, Bor}
use Rattle.std.specs.List.{AllByRecursion}
use Rattle.circular_buffer.specs.Buffer.{Buffer, buffer}
use Rattle.kl_value.specs.declared.Value.{Value}
use Rattle.kl_type.specs.Ground.{Ground}
use Rattle.kl_outcome.specs.Outcome.{more, stop, fine, flow}
use Rattle.kl_outcome.specs.Typed.{Inhabits}
use Rattle.kl_ask.specs.Driver.{Cursor}
use Rattle.kl_scans.specs.Running.{Running}
use Rattle.kl_eval.specs.declared.stop.EvalStop.{EvalStop}
use Rattle.kl_eval.specs.declared.stop.EvalStop.TheVariants as why
use Rattle.kl_plan.specs.declared.plan.Scan.{Scan}
use Rattle.kl_plan.specs.Prices.{Prices}
use Rattle.kl_scans.specs.Held.{cursor_at, count_open, open_at, nothing, one_at, Owned}
use Rattle.kl_scans.specs.Log.{Event, paid}
use Rattle.kl_scans.specs.Moves.{Closes}
use Rattle.kl_scans.specs.Scans.{CanScan, IsOpen, Pulls, PulledMore, PulledNone, NotPulled, Stopped}
use Rattle.kl_scans.specs.Stage.{ScanOf, IsTold, or_none, Stage, stage}
use Rattle.kl_scans.proofs.Moving.{moves_none, moves_then, stage_stays}
use Rattle.kl_cursor.specs.declared.state.State.{State}
use Rattle.kl_cursor.specs.declared.state.State.TheVariants as state
use Rattle.kl_cursor.specs.Left.{pulling, snap, rows_left}
use Rattle.kl_cursor.specs.Measure.{bound_in}
use Rattle.kl_cursor.specs.Sense.{CursorOf, IsToldAt, Stands}
use Rattle.kl_cursor.specs.Steps.{AreOf, Gives, Ends, Reason, Stops, Steps}
use Rattle.kl_cursor.proofs.Events.{of_none, of_then}
use Rattle.kl_cursor.proofs.Likes.{same_itself, same_at}
use Rattle.kl_cursor.proofs.Snaps.{snap_Scan}
use Rattle.kl_cursor.proofs.Still.{one_self}

pub rows_of : (w : Running) (c : Scan) (o : Option Cursor) (x : Cursor) (u : Ground) → o ≡ Some x → CursorOf w c o u → IsToldAt w → (rows : List Value) × (x.left ≡ Some rows)
rows_of w c o x u e h told = let y : CursorOf w c (Some x) u = subst (λ q. CursorOf w c q u) e h in y.2 told

pub type_of : (w : Running) (c : Scan) (o : Option Cursor) (x : Cursor) (u : Ground) → o ≡ Some x → CursorOf w c o u → x.ty ≡ u
type_of w c o x u e h = let y : CursorOf w c (Some x) u = subst (λ q. CursorOf w c q u) e h in y.1

pub ask_of : (w : Running) (c : Scan) (o : Option Cursor) (x : Cursor) (u : Ground) → o ≡ Some x → CursorOf w c o u → x.ask ≡ c.ask
ask_of w c o x u e h = let y : CursorOf w c (Some x) u = subst (λ q. CursorOf w c q u) e h in y.0

-- what a scan that stands somewhere can be asked
pub can_pull : (env : List Value) (q : Scan) (k n : ℕ) (rows : List Value) (w : Running) → Stands w (pulling q k rows n) env → CanScan w q
can_pull env q k n rows w h = (h.2, h.4.1)

closed_or_open : (w : Running) (q : Scan) (k : ℕ) (u : Ground) (o : Option Cursor) → cursor_at w q.driver k ≡ o → 1 ≤ count_open o → CursorOf w q o u → IsOpen w q k
closed_or_open w q k u (Some x) e h c = (x, e, c.0)
closed_or_open w q k u None e h c = absurd (omega (arith, h))

pub open_there : (env : List Value) (q : Scan) (k n : ℕ) (rows : List Value) (w : Running) → Owned (one_at q.driver k) w → Stands w (pulling q k rows n) env → IsOpen w q k
open_there env q k n rows w o h = closed_or_open w q k h.2 (cursor_at w q.driver k) refl (let x : one_at q.driver k q.driver k ≤ open_at w q.driver k = o.each q.driver k in let y = one_self q.driver k in omega arith) h.4.2

nothing_paid : (H : Stage) (P : Prices) (es fs : List Event) → es ≡ [] → fs ≡ [] → paid H P (es ++ fs) + 0 ≡ 0
nothing_paid H P es fs e f = ap (λ z. paid H P (z ++ fs) + 0) e ∙ ap (λ z. paid H P z + 0) f

-- ---- one pull

pub scan_ends : (env : List Value) (q : Scan) (k n : ℕ) (into into' : List Value) (a b d : Running) → PulledNone q k into into' a b → Closes (one_at q.driver k) b d → Ends env (pulling q k [] n) a d
scan_ends env q k n into into' a b d p m = record {
  moves = moves_then (one_at q.driver k) (one_at q.driver k) nothing a b d p.moves m.moves;
  known = λ all h. of_then all p.moves.events m.moves.events (of_none all p.moves.events p.none) (of_none all m.moves.events m.none);
  over = λ G j u e f told.
      let r = rows_of a q (cursor_at a q.driver k) p.was u p.here f.2 told in
      let z : r.0 ≡ [] = p.spent r.0 r.1 in
      same_at j (flow (rows_left (cursor_at a q.driver k)) fine) (stop fine) (ap (λ o. flow (rows_left o) fine) p.here ∙ ap (λ l. flow (or_none l) fine) r.1 ∙ ap (λ l. flow l fine) z);
  counts = λ G j u e f told z P. nothing_paid (stage a) P p.moves.events m.moves.events p.none m.none;
}

pub scan_gives : (env : List Value) (q : Scan) (k n : ℕ) (into into' : List Value) (row : Value) (rest : List Value) (a b : Running) → into ≡ [] → into' ≡ row ∷ rest → PulledMore q k into into' a b → Gives env (pulling q k [] n) a row (pulling q k rest n) b
scan_gives env q k n into into' row rest a b e g p =
    let rows : p.rows ≡ row ∷ rest = sym (p.appended ∙ ap (λ z. z ++ p.rows) e) ∙ g in
    let held = stage_stays (one_at q.driver k) (one_at q.driver k) a b p.moves in
    record {
      moves = p.moves;
      known = λ all h. (subst (AreOf all) (sym p.only) (h, tt), h);
      gave = λ G j u h f told.
          let r = rows_of a q (cursor_at a q.driver k) p.was u p.here f.2 told in
          let l = p.hands.left r.0 r.1 in
          same_at j (flow (rows_left (cursor_at a q.driver k)) fine) (more row (flow (rest ++ rows_left (cursor_at b q.driver k)) fine))
          (ap (λ o. flow (rows_left o) fine) p.here ∙ ap (λ o. flow (or_none o) fine) r.1 ∙ ap (λ z. flow z fine) (l.1 ∙ ap (λ z. z ++ l.0) rows)
          ∙ ap (λ o. more row (flow (rest ++ or_none o) fine)) (sym l.2) ∙ ap (λ o. more row (flow (rest ++ rows_left o) fine)) (sym p.now));
      counts = λ G j u h f told z P. ap (λ es. paid (stage a) P es + 0) p.only;
      typed = λ G j u h f.
          let t : p.was.ty ≡ u = type_of a q (cursor_at a q.driver k) p.was u p.here f.2 in
          let s : p.was.ask ≡ q.ask = ask_of a q (cursor_at a q.driver k) p.was u p.here f.2 in
          let all : AllByRecursion (Inhabits u) (row ∷ rest) = subst (λ s. AllByRecursion (Inhabits s) (row ∷ rest)) t (subst (AllByRecursion (Inhabits p.was.ty)) rows p.hands.typed) in
          let still : CursorOf b q (cursor_at b q.driver k) u = subst (λ o. CursorOf b q o u) (sym p.now)
          (p.hands.ask ∙ s, p.hands.ty ∙ t, λ told. let r = rows_of a q (cursor_at a q.driver k) p.was u p.here f.2 (subst IsTold held told) in let l = p.hands.left r.0 r.1 in (l.0, l.2)) in
          (all.0, (all.1, subst (λ K. ScanOf K q u) (sym held) f.1, still, f.3 ∙ ap (λ s. s.fetch) (sym p.moves.settings)));
      lower = omega arith;
      fell =
          let x : p.then.bound + length p.rows ≡ p.was.bound = p.hands.bound in
          let y : length p.rows ≡ length (row ∷ rest) = ap length rows in
          let v : bound_in (cursor_at a q.driver k) ≡ p.was.bound = ap bound_in p.here in
          let w : bound_in (cursor_at b q.driver k) ≡ p.then.bound = ap bound_in p.now in
          omega arith;
    }

none_first : (xs : List Value) → slice_get xs 0 ≡ None → xs ≡ []
none_first [] e = refl
none_first (x ∷ xs) e = cc

pub none_rows : (xs : List Value) (o : Option Value) → o ≡ None → o ≡ slice_get xs 0 → xs ≡ []
none_rows xs o e f = none_first xs (sym f ∙ e)

pub pulled_more : (q : Scan) (k : ℕ) (into into' : List Value) (r : Result Bool EvalStop) (y : Bool) (a b : Running) → r ≡ Ok y → y ≡ true → Pulls q k into into' r a b → PulledMore q k into into' a b
pulled_more q k into into' r y a b e f p = subst (λ z. Pulls q k into into' (Ok z) a b) f (subst (λ z. Pulls q k into into' z a b) e p)

pub pulled_none : (q : Scan) (k : ℕ) (into into' : List Value) (r : Result Bool EvalStop) (y : Bool) (a b : Running) → r ≡ Ok y → y ≡ false → Pulls q k into into' r a b → PulledNone q k into into' a b
pulled_none q k into into' r y a b e f p = subst (λ z. Pulls q k into into' (Ok z) a b) f (subst (λ z. Pulls q k into into' z a b) e p)

reason_of : (env : List Value) (q : Scan) (k n : ℕ) (e : EvalStop) (a b : Running) → Stopped q e a b → Reason env (pulling q k [] n) e a b
reason_of env q k n why.Overflow a b h = absurd h
reason_of env q k n (why.Driver l x) a b h = record { scan = q; stood = λ all i. i; named = h.0; by = h.1 }
reason_of env q k n why.NoMemory a b h = tt

pub scan_stops : (env : List Value) (q : Scan) (k n : ℕ) (e : EvalStop) (a b : Running) → NotPulled q k e a b → Stops env (pulling q k [] n) e a b
scan_stops env q k n e a b p = record { moves = p.moves; known = λ all h. of_none all p.moves.events p.none; reason = reason_of env q k n e a b p.cause }

-- ---- where none is left that was fetched ahead, from what the code has

pub refill_gave : (env : List Value) (q : Bor Scan) (k n : ℕ) (into into' : List Value) (r : Result Bool EvalStop) (y : Bool) (filled after : Buffer Value) (row : Value) (a b : Running) → into ≡ [] → r ≡ Ok y → y ≡ true → Pulls q.now k into into' r a b
    → filled ≡ buffer into' n → filled.items ≡ row ∷ after.items → after.capacity ≡ filled.capacity → Gives env (pulling q.now k [] n) a row (snap (state.Scan q k after)) b
refill_gave env q k n into into' r y filled after row a b e i j p f g h =
    subst (λ z. Gives env (pulling q.now k [] n) a row z b) (sym (snap_Scan q k after ∙ ap (λ m. pulling q.now k after.items m) (h ∙ ap (λ z. z.capacity) f)))
    (scan_gives env q.now k n into into' row after.items a b e (sym (ap (λ z. z.items) f) ∙ g) (pulled_more q.now k into into' r y a b i j p))

pub refill_over : (env : List Value) (q : Scan) (k n : ℕ) (into into' : List Value) (r : Result Bool EvalStop) (y : Bool) (a b d : Running) → r ≡ Ok y → y ≡ false → Pulls q k into into' r a b → Closes (one_at q.driver k) b d → Ends env (pulling q k [] n) a d
refill_over env q k n into into' r y a b d i j p m = scan_ends env q k n into into' a b d (pulled_none q k into into' r y a b i j p) m

pub refill_stops : (env : List Value) (q : Scan) (k n : ℕ) (into into' : List Value) (r : Result Bool EvalStop) (e : EvalStop) (a b : Running) → r ≡ Err e → Pulls q k into into' r a b → Stops env (pulling q k [] n) e a b
refill_stops env q k n into into' r e a b i p = scan_stops env q k n e a b (subst (λ z. Pulls q k into into' z a b) i p)

pub refill_never : (q : Scan) (k n : ℕ) (into into' : List Value) (r : Result Bool EvalStop) (y : Bool) (filled : Buffer Value) (o : Option Value) (a b : Running) → into ≡ [] → r ≡ Ok y → y ≡ true → Pulls q k into into' r a b → filled ≡ buffer into' n → o ≡ None → o ≡ slice_get filled.items 0 → ⊥
refill_never q k n into into' r y filled o a b e i j p f g h =
    let m = pulled_more q k into into' r y a b i j p in
    let some : 0 < length m.rows = m.hands.some in
    let rows : m.rows ≡ [] = sym (m.appended ∙ ap (λ z. z ++ m.rows) e) ∙ sym (ap (λ z. z.items) f) ∙ none_rows filled.items o g h in
    let none : length m.rows ≡ 0 = ap length rows in
    omega arith

-- ---- a row that was fetched ahead

take_gives : (env : List Value) (q : Scan) (k n : ℕ) (row : Value) (rest : List Value) (w : Running) → Gives env (pulling q k (row ∷ rest) n) w row (pulling q k rest n) w
take_gives env q k n row rest w = record {
  moves = moves_none (one_at q.driver k) w;
  known = λ all h. (tt, h);
  gave = λ G j u e f told. same_itself j (more row (flow (rest ++ rows_left (cursor_at w q.driver k)) fine));
  counts = λ G j u e f told z P. omega arith;
  typed = λ G j u e f. (f.0.0, (f.0.1, f.1, f.2, f.3));
  lower = omega arith;
  fell = omega arith;
}

pub took : (env : List Value) (q : Bor Scan) (k : ℕ) (before after : Buffer Value) (row : Value) (w : Running) → before.items ≡ row ∷ after.items → after.capacity ≡ before.capacity → Gives env (pulling q.now k before.items before.capacity) w row (snap (state.Scan q k after)) w
took env q k before after row w e f =
    subst (λ xs. Gives env (pulling q.now k xs before.capacity) w row (snap (state.Scan q k after)) w) (sym e)
    (subst (λ z. Gives env (pulling q.now k (row ∷ after.items) before.capacity) w row z w) (sym (snap_Scan q k after ∙ ap (λ m. pulling q.now k after.items m) f))
    (take_gives env q.now k before.capacity row after.items w))

pub took_none : (before after : Buffer Value) (o : Option Value) → o ≡ None → o ≡ slice_get before.items 0 → before.items ≡ after.items → after.items ≡ []
took_none before after o e f g = sym g ∙ none_rows before.items o e f

pub refilled : (env : List Value) (q : Scan) (k : ℕ) (before after : Buffer Value) (o : Option Value) (r : Result (Option Value × State) EvalStop) (a b : Running) → o ≡ None → o ≡ slice_get before.items 0 → after.capacity ≡ before.capacity → Steps env (pulling q k [] after.capacity) r a b → Steps env (pulling q k before.items before.capacity) r a b
refilled env q k before after o r a b e f g h =
    subst (λ m. Steps env (pulling q k before.items m) r a b) g (subst (λ xs. Steps env (pulling q k xs after.capacity) r a b) (sym (none_rows before.items o e f)) h)
