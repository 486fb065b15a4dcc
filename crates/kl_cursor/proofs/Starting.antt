-- A cursor of a driver as it is opened.
use Rattle.std.proofs.Common.{◌≡◌, ◌≢◌, ℕ, ◌+◌, ◌^◌, ◌≤◌, max, List, [], ◌∷◌, length, Option, Some, None, refl, sym, ap, ◌∙◌, subst, arith}
use Rattle.std.specs.List.{sum_by}
use Rattle.std.specs.List.Sorted.{IsPermutation}
use Rattle.std.proofs.lemmas.List.Sorted.{sum_by-IsPermutation}
use Rattle.std.proofs.lemmas.Option.{same_Some}
use Rattle.kl_value.specs.declared.Kind.{Kind}
use Rattle.kl_value.specs.declared.Kind.TheVariants as kind
use Rattle.kl_value.specs.declared.Value.{Value}
use Rattle.kl_type.specs.Ground.{Ground, coll}
use Rattle.kl_outcome.specs.Outcome.{Name, fine, flow}
use Rattle.kl_outcome.proofs.Flows.{flow_items}
use Rattle.kl_ask.specs.Asks.{answers}
use Rattle.kl_ask.specs.Driver.{Source, Cursor, Shows, InOrder}
use Rattle.kl_scans.specs.Running.{Running}
use Rattle.kl_ask.specs.Statements.{SqlFits}
use Rattle.kl_sqltext.specs.Meaning.{spj}
use Rattle.kl_sqltext.specs.declared.ast.Spj.{Spj}
use Rattle.kl_ask.specs.declared.ask.Ask.{Ask}
use Rattle.kl_ask.specs.declared.ask.Ask.TheVariants as asks
use Rattle.kl_ask.specs.declared.ask.ColTest.{ColTest}
use Rattle.kl_eval.specs.declared.stop.EvalStop.{EvalStop}
use Rattle.kl_eval.specs.declared.stop.EvalStop.TheVariants as why
use Rattle.kl_plan.specs.Alike.{harm, IsAlike}
use Rattle.kl_plan.specs.declared.plan.Scan.{Scan}
use Rattle.kl_plan.specs.Meaning.{coming, scanned}
use Rattle.kl_plan.specs.Nodes as node
use Rattle.kl_plan.specs.Typing.{PlanTypes}
use Rattle.kl_plan.proofs.Comings.{same_kind, same_type}
use Rattle.kl_scans.specs.Held.{Held, held_at, cursor_at, nothing, one_at}
use Rattle.kl_scans.specs.Log.{paid}
use Rattle.kl_scans.specs.Scans.{IsJoined, OpensIn, Started, NotStarted, Stopped}
use Rattle.kl_scans.specs.Stage.{Stage, stage, statement_of, readings, read_by, read_in, rows_asked, answered_by, table_rows, table_types, joined_by, AskOf, ScanOf, IsTold, or_none, MemoOf}
use Rattle.kl_scans.proofs.Statements.{reads_statement, joined_is, rows_told as tables_told}
use Rattle.kl_scans.proofs.Moving.{stage_stays}
use Rattle.kl_cursor.specs.Left.{fresh, pulling, rows_left}
use Rattle.kl_cursor.specs.Likeness.{Same}
use Rattle.kl_cursor.specs.Measure.{joined_most, asked_most, bound_in}
use Rattle.kl_cursor.specs.Sense.{CursorOf, IsToldAt, HasItems}
use Rattle.kl_cursor.specs.Steps.{AreOf, Onward, Reason, Stops}
use Rattle.kl_cursor.proofs.Events.{of_none}
use Rattle.kl_cursor.proofs.Likes.{same_at}

held_is : (w : Running) (d : ℕ) → (stage w).held d ≡ held_at w d
unfolding stage
held_is w d = refl

pub harm_flow : (xs : List Value) → harm (flow xs fine) ≡ 0
harm_flow [] = refl
harm_flow (x ∷ xs) = harm_flow xs

moved : (rows shown : List Value) → IsPermutation rows shown → IsAlike (λ n. n) (flow rows fine) (flow shown fine)
moved rows shown p = record {
  end = harm_flow shown ∙ sym (harm_flow rows);
  same = λ z w. ap (sum_by w) (flow_items shown fine) ∙ sum_by-IsPermutation w rows shown p ∙ sym (ap (sum_by w) (flow_items rows fine));
}

-- rows that a driver shows in its order
ordered : (d j : Kind) (rows shown : List Value) → (d ≡ kind.List → j ≡ kind.List) → InOrder j rows shown → Same d (flow rows fine) (flow shown fine)
ordered d kind.List rows shown h i = same_at d (flow rows fine) (flow shown fine) (ap (λ z. flow z fine) (sym i))
ordered kind.Set kind.Set rows shown h i = moved rows shown i
ordered kind.Bag kind.Set rows shown h i = moved rows shown i
ordered kind.List kind.Set rows shown h i = absurd (let e : kind.Set ≡ kind.List = h refl in cc)
ordered kind.Set kind.Bag rows shown h i = moved rows shown i
ordered kind.Bag kind.Bag rows shown h i = moved rows shown i
ordered kind.List kind.Bag rows shown h i = absurd (let e : kind.Bag ≡ kind.List = h refl in cc)

-- what a new cursor has left, where it is told
abbrev LeftOf : Kind → List Value → Option (List Value) → Type 0
LeftOf j rows left = (shown : List Value) × (left ≡ Some shown) × Same j (flow rows fine) (flow shown fine)

shown_rows : (j i : Kind) (keep : List Name) (tests : List ColTest) (r left : Option (List Value)) (rows : List Value) → (j ≡ kind.List → i ≡ kind.List) → answered_by r keep tests ≡ Some rows → Shows i keep tests r left → LeftOf j rows left
shown_rows j i keep tests (Some all) left rows h e s = (s.0, s.1, subst (λ z. Same j (flow z fine) (flow s.0 fine)) (same_Some _ _ e) (ordered j i (answers all keep tests) s.0 h s.2))
shown_rows j i keep tests None left rows h e s = absurd cc

record Opening (h : Held) (ask : Ask) (j : Kind) (u : Ground) (o : Cursor) : Type 0 where
  ty : o.ty ≡ u
  bound : o.bound ≤ asked_most ask
  shows : (rows : List Value) → read_by h.attached ask ≡ Some rows → LeftOf j rows o.left

-- the rows of a statement may come in any order
joined_rows : (h : Held) (q : Spj) (j : Kind) (o : Cursor) (rows : List Value) → j ≢ kind.List → SqlFits (table_types h.attached) q → IsJoined h q o → joined_by h.attached (Some q) ≡ Some rows → LeftOf j rows o.left
joined_rows h q j o rows none fits s e =
    let is = joined_is h.attached q rows e in
    let l = s.left (table_rows h.attached) (tables_told h q.tables fits.tables is.0) in
    (l.0, l.1, subst (λ z. Same j (flow z fine) (flow l.0 fine)) is.1 (ordered j kind.Bag (spj (table_rows h.attached) q) l.0 (λ k. absurd (none k)) l.2))

wide : (m n k : ℕ) → k ≤ n → k ≤ max m n
wide m n k h = omega arith

opening : (t : Stage) (h : Held) (c : Scan) (a : Source) (ask : Ask) (u : Ground) (o : Cursor) → h.attached c.source ≡ Some a → AskOf t h c a ask u → OpensIn h ask o → Opening h ask c.kind u o
opening t h c a (asks.Rows source keep tests) u o at f g =
    let here : h.attached source ≡ Some a = ap h.attached f.0 ∙ at in
    let s = g a here in
    record {
      ty = s.ty ∙ sym f.3;
      bound = s.bound;
      shows = λ rows e. shown_rows c.kind _ keep tests a.rows o.left rows f.4 (ap (λ z. rows_asked z keep tests) (sym here) ∙ e) s.left;
    }
opening t h c a (asks.Sql text) u o at f g =
    let s = g f.statement f.reads in
    let is : statement_of text ≡ Some f.statement = reads_statement text f.statement f.reads in
    record {
      ty = s.ty ∙ sym f.shows;
      bound = subst (λ q. o.bound ≤ joined_most q) (sym is) (wide (2 ^ 64) ((2 ^ 64) ^ length f.statement.tables) o.bound s.bound);
      shows = λ rows e. joined_rows h f.statement c.kind o rows f.no_list f.fits s (ap (joined_by h.attached) (sym is) ∙ e);
    }

opened_as : (w x : Running) (q : Scan) (k : ℕ) (u : Ground) (s : Started q k w x) (f : ScanOf (stage w) q u) → Opening f.held q.ask q.kind u s.opened
opened_as w x q k u s f = opening (stage w) f.held q f.source q.ask u s.opened f.attached f.ask (s.opens f.held (sym (held_is w q.driver) ∙ f.holds))

abbrev Given : Running → Scan → Cursor → Type 0
Given w q o = (rows : List Value) × (readings (stage w) q ≡ Some rows) × LeftOf q.kind rows o.left

given_of : (w x : Running) (q : Scan) (k : ℕ) (u : Ground) (s : Started q k w x) → ScanOf (stage w) q u → IsToldAt w → Given w q s.opened
given_of w x q k u s f told =
    let r = told q u f in
    (r.0, r.1, (opened_as w x q k u s f).shows r.0 (ap (λ z. read_in z q.ask) (sym f.holds) ∙ r.1))

no_more : (n m t : ℕ) → n ≡ m → m ≤ t → 0 + n ≤ t
no_more n m t e h = omega arith

pub record ScanTyped (w : Running) (c : Scan) (s : Ground) : Type 0 where
  pub u : Ground
  pub is : s ≡ coll c.kind u
  pub of : ScanOf (stage w) c u

pub scan_typed : (w : Running) (G : List Ground) (c : Scan) (s : Ground) → PlanTypes (ScanOf (stage w)) (MemoOf (stage w)) G (node.Scan c) s → ScanTyped w c s
scan_typed w G c s h = record { u = h.0; is = h.1; of = h.3 }

one_paid : (n : ℕ) → (n + 0) + 0 ≡ n
one_paid n = omega arith

pub scan_begins : (env : List Value) (q : Scan) (k n : ℕ) (w x : Running) → HasItems w (node.Scan q) env → n ≡ w.settings.fetch → Started q k w x → Onward env (fresh (node.Scan q)) w (pulling q k [] n) x
scan_begins env q k n w x i m s =
    let held = stage_stays nothing (one_at q.driver k) w x s.moves in
    record {
      moves = s.moves;
      known = λ all h. (subst (AreOf all) (sym s.only) (h, tt), h);
      same = λ G d u e f told.
          let t = scan_typed w G q (coll d u) f in
          let g = given_of w x q k t.u s t.of told in
          let l : LeftOf q.kind g.0 s.opened.left = g.2 in
          subst (λ z. Same z (coming (scanned q.kind (readings (stage w) q))) (flow (rows_left (cursor_at x q.driver k)) fine)) (sym (same_kind d q.kind u t.u t.is))
          (subst (λ z. Same q.kind z (flow (rows_left (cursor_at x q.driver k)) fine)) (sym (ap (λ z. coming (scanned q.kind z)) g.1))
          (subst (Same q.kind (flow g.0 fine)) (sym (ap (λ o. flow (rows_left o) fine) s.now ∙ ap (λ o. flow (or_none o) fine) l.1)) l.2));
      counts = λ G d u e f told z P. ap (λ es. paid (stage w) P es + 0) s.only ∙ one_paid (P.scan q);
      typed = λ G d u e f.
          let t = scan_typed w G q (coll d u) f in
          let same : u ≡ t.u = same_type d q.kind u t.u t.is in
          let ty : s.opened.ty ≡ u = (opened_as w x q k t.u s t.of).ty ∙ sym same in
          let still : CursorOf x q (cursor_at x q.driver k) u = subst (λ o. CursorOf x q o u) (sym s.now)
          (s.ask, ty, λ told. let g = given_of w x q k t.u s t.of (subst IsTold held told) in let l : LeftOf q.kind g.0 s.opened.left = g.2 in (l.0, l.1)) in
          (tt, subst (λ K. ScanOf K q u) (sym held) (subst (ScanOf (stage w) q) (sym same) t.of), still, m ∙ ap (λ z. z.fetch) (sym s.moves.settings));
      lower = omega arith;
      fewer =
          let t = scan_typed w i.0 q (coll i.1 i.2) i.4 in
          let y : s.opened.bound ≤ asked_most q.ask = (opened_as w x q k t.u s t.of).bound in
          let z : bound_in (cursor_at x q.driver k) ≡ s.opened.bound = ap bound_in s.now in
          no_more (bound_in (cursor_at x q.driver k)) s.opened.bound (asked_most q.ask) z y;
    }

start_reason : (env : List Value) (q : Scan) (e : EvalStop) (w x : Running) → Stopped q e w x → Reason env (fresh (node.Scan q)) e w x
start_reason env q why.Overflow w x h = absurd h
start_reason env q (why.Driver l y) w x h = record { scan = q; stood = λ all i. i; named = h.0; by = h.1 }
start_reason env q why.NoMemory w x h = tt

pub scan_refused : (env : List Value) (q : Scan) (e : EvalStop) (w x : Running) → NotStarted q e w x → Stops env (fresh (node.Scan q)) e w x
scan_refused env q e w x s = record { moves = s.moves; known = λ all h. of_none all s.moves.events s.none; reason = start_reason env q e w x s.cause }
