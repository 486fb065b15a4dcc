-- A call of the driver at a place, as a move of the session.
use Rattle.std.proofs.Common.{◌≡◌, ◌≢◌, ◌⊎◌, inl, inr, ⊎_elim, ℕ, ◌+◌, ◌&&◌, Bool, true, false, List, length, map, Some, cond, nat_eq, slice_get, refl, sym, ap, ◌∙◌, subst}
use Rattle.std.proofs.lemmas.Bool.{cases_eq}
use Rattle.std.proofs.lemmas.Option.{same_Some}
use Rattle.std.specs.List.{AllByRecursion}
use Rattle.std.specs.Option.{option_map}
use Rattle.kl_ask.specs.Driver.{State, OtherCursors}
use Rattle.kl_ask.specs.declared.ask.Ask.{Ask}
use Rattle.kl_scans.specs.Held.{cursor_in, cursor_at, count_open, open_at, Uses}
use Rattle.kl_scans.specs.Log.{Event, times_after, asked_after, handed_after, entries_after, peak_after, hits_after, misses_after, Leaves, StartsFit}
use Rattle.kl_scans.specs.Log.{times_at, asked_at, rows_at}
use Rattle.kl_scans.specs.Moves.{Stays, Moves}
use Rattle.kl_scans.specs.Right.{AreRight}
use Rattle.kl_scans.specs.Running.{Running}
use Rattle.kl_scans.specs.Stage.{stage}
use Rattle.kl_scans.proofs.Counted.{eq_self, eq_other}
use Rattle.kl_scans.proofs.Moving.{stays_none, unmoved, stage_on}

-- a cursor stands u times in something
abbrev pub uses : ℕ → ℕ → ℕ → Uses
uses d k u e l = cond (nat_eq e d && nat_eq l k) u 0

-- a call of the driver at a place turned its state x into y, and called no other driver
pub record CalledAt (d : ℕ) (a b : Running) (x y : State) : Type 0 where
  pub size : length b.drivers ≡ length a.drivers
  pub others : (j : ℕ) → j ≢ d → slice_get b.drivers j ≡ slice_get a.drivers j
  pub was : slice_get a.drivers d ≡ Some x
  pub is : slice_get b.drivers d ≡ Some y

-- what a call does for a cursor k that was something's u times, and is so v times
pub record Calls (d k u v : ℕ) (es : List Event) (x y : State) : Type 0 where
  pub stays : Stays x y
  pub others : OtherCursors k x y
  pub balance : count_open (y.cursors k) + u ≡ count_open (x.cursors k) + v
  pub kept : u ≡ 0 → count_open (x.cursors k) ≡ 1 → y.cursors k ≡ x.cursors k
  pub asked : y.asked ≡ asked_after d es x.asked
  pub handed : y.handed ≡ handed_after d es x.handed

-- events are of this driver alone
pub record AreOf (d : ℕ) (es : List Event) : Type 0 where
  pub asked : (e : ℕ) → e ≢ d → (x : List (Ask × ℕ)) → asked_after e es x ≡ x
  pub handed : (e : ℕ) → e ≢ d → (x : ℕ) → handed_after e es x ≡ x

-- what is traced of events, by which nothing is kept and no join is executed
pub record Traced (es : List Event) (a b : Running) : Type 0 where
  pub starts : (n : ℕ) → times_at b n ≡ option_map (times_after n es) (times_at a n)
  pub numbers : map (λ e. e.0) b.trace.starts ≡ map (λ e. e.0) a.trace.starts
  pub steps : b.trace.steps ≡ a.trace.steps
  pub joins : b.trace.joins ≡ entries_after es a.trace.joins
  pub peak : b.trace.peak ≡ peak_after a.settings.block es a.trace.peak
  pub hits : b.trace.hits ≡ hits_after es a.trace.hits
  pub misses : b.trace.misses ≡ misses_after es a.trace.misses
  pub executed : AllByRecursion (StartsFit a.settings.block) es
  pub memos : b.memos ≡ a.memos
  pub room : b.room ≡ a.room
  pub kept : b.kept ≡ a.kept
  pub leaves : Leaves a.room es a.kept b.kept

pub cursor_here : (w : Running) (d k : ℕ) (x : State) → slice_get w.drivers d ≡ Some x → cursor_at w d k ≡ x.cursors k
unfolding cursor_at
cursor_here w d k x is = ap (λ o. cursor_in o k) is

use_off : (d k u e l : ℕ) → (e ≢ d) ⊎ (l ≢ k) → uses d k u e l ≡ 0
use_off d k u e l (inl ne) = rw (eq_other e d ne) refl
use_off d k u e l (inr ne) = by_case (nat_eq e d)
  where
    by_case : (b : Bool) → cond (b && nat_eq l k) u 0 ≡ 0
    by_case true = rw (eq_other l k ne) refl
    by_case false = refl

use_here : (d k u : ℕ) → uses d k u d k ≡ u
use_here d k u = rw (eq_self d, eq_self k) refl

-- the places of two are the same, or one differs
which : (d k e l : ℕ) → ((e ≡ d) × (l ≡ k)) ⊎ ((e ≢ d) ⊎ (l ≢ k))
which d k e l = ⊎_elim (λ p. ⊎_elim (λ q. inl (p, q)) (λ n. inr (inr n)) (cases_eq l k)) (λ n. inr (inl n)) (cases_eq e d)

module _ (d k u v : ℕ) (es : List Event) (a b : Running) (x y : State) (at : CalledAt d a b x y) (call : Calls d k u v es x y) where
  cursor_away : (e l : ℕ) → e ≢ d → cursor_at b e l ≡ cursor_at a e l
  unfolding cursor_at
  cursor_away e l ne = ap (λ o. cursor_in o l) (at.others e ne)

  same_elsewhere : (e l : ℕ) → (e ≢ d) ⊎ (l ≢ k) → cursor_at b e l ≡ cursor_at a e l
  same_elsewhere e l (inl ne) = cursor_away e l ne
  same_elsewhere e l (inr ne) = ⊎_elim
      (λ is. subst (λ j. cursor_at b j l ≡ cursor_at a j l) (sym is) (cursor_here b d l y at.is ∙ call.others l ne ∙ sym (cursor_here a d l x at.was)))
      (λ off. cursor_away e l off)
      (cases_eq e d)

  balance_here : open_at b d k + uses d k u d k ≡ open_at a d k + uses d k v d k
  balance_here =
      let p : open_at b d k ≡ count_open (y.cursors k) = ap count_open (cursor_here b d k y at.is) in
      let q : open_at a d k ≡ count_open (x.cursors k) = ap count_open (cursor_here a d k x at.was) in
      let m : uses d k u d k ≡ u = use_here d k u in
      let n : uses d k v d k ≡ v = use_here d k v in
      rw (p, q, m, n) call.balance

  pub balances : (e l : ℕ) → open_at b e l + uses d k u e l ≡ open_at a e l + uses d k v e l
  balances e l = ⊎_elim
      (λ is. subst (λ j. open_at b j l + uses d k u j l ≡ open_at a j l + uses d k v j l) (sym is.0) (subst (λ j. open_at b d j + uses d k u d j ≡ open_at a d j + uses d k v d j) (sym is.1) balance_here))
      (λ off. rw (use_off d k u e l off, use_off d k v e l off) (ap (λ o. count_open o + 0) (same_elsewhere e l off)))
      (which d k e l)

  pub stays_others : (e l : ℕ) → uses d k u e l ≡ 0 → open_at a e l ≡ 1 → cursor_at b e l ≡ cursor_at a e l
  stays_others e l free one = ⊎_elim
      (λ is.
      let f : uses d k u d k ≡ 0 = subst (λ j. uses d k u d j ≡ 0) is.1 (subst (λ j. uses d k u j l ≡ 0) is.0 free) in
      let g : open_at a d k ≡ 1 = subst (λ j. open_at a d j ≡ 1) is.1 (subst (λ j. open_at a j l ≡ 1) is.0 one) in
      let h : y.cursors k ≡ x.cursors k = call.kept (sym (use_here d k u) ∙ f) (sym (ap count_open (cursor_here a d k x at.was)) ∙ g) in
      subst (λ j. cursor_at b j l ≡ cursor_at a j l) (sym is.0) (subst (λ j. cursor_at b d j ≡ cursor_at a d j) (sym is.1) (cursor_here b d k y at.is ∙ h ∙ sym (cursor_here a d k x at.was))))
      (λ off. same_elsewhere e l off)
      (which d k e l)

  pub asks : AreOf d es → (e : ℕ) → asked_at b e ≡ option_map (asked_after e es) (asked_at a e)
  asks own e = ⊎_elim
      (λ is. subst (λ j. asked_at b j ≡ option_map (asked_after j es) (asked_at a j)) (sym is) (rw (at.is, at.was) (ap Some call.asked)))
      (λ ne. ap (option_map (λ s. s.asked)) (at.others e ne) ∙ unmoved (asked_after e es) (own.asked e ne) (asked_at a e))
      (cases_eq e d)

  pub hands : AreOf d es → (e : ℕ) → rows_at b e ≡ option_map (handed_after e es) (rows_at a e)
  hands own e = ⊎_elim
      (λ is. subst (λ j. rows_at b j ≡ option_map (handed_after j es) (rows_at a j)) (sym is) (rw (at.is, at.was) (ap Some call.handed)))
      (λ ne. ap (option_map (λ s. s.handed)) (at.others e ne) ∙ unmoved (handed_after e es) (own.handed e ne) (rows_at a e))
      (cases_eq e d)

  pub stays_each : (j : ℕ) (p q : State) → slice_get a.drivers j ≡ Some p → slice_get b.drivers j ≡ Some q → Stays p q
  stays_each j p q hp hq = ⊎_elim
      (λ is.
      let same : x ≡ p = same_Some _ _ (sym at.was ∙ ap (slice_get a.drivers) (sym is) ∙ hp) in
      let same' : y ≡ q = same_Some _ _ (sym at.is ∙ ap (slice_get b.drivers) (sym is) ∙ hq) in
      subst (λ z. Stays p z) same' (subst (λ z. Stays z y) same call.stays))
      (λ ne. subst (λ z. Stays p z) (same_Some _ _ (sym hp ∙ sym (at.others j ne) ∙ hq)) (stays_none p))
      (cases_eq j d)

  abbrev pub moves_at : b.sources ≡ a.sources → b.settings ≡ a.settings → AreOf d es → Traced es a b → Moves (uses d k u) (uses d k v) a b
  moves_at same fixed own trace = record {
    sources = same;
    settings = fixed;
    drivers = record { size = at.size; each = stays_each };
    balance = balances;
    others = stays_others;
    memos = trace.memos;
    right = λ h. subst (λ kept. AreRight (stage b) kept) (sym trace.kept)
        (subst (λ t. AreRight t a.kept) (sym (stage_on a b (record { size = at.size; each = stays_each }) same fixed trace.memos)) h);
    events = es;
    logged = record {
      starts = trace.starts;
      asked = asks own;
      handed = hands own;
      numbers = trace.numbers;
      steps = trace.steps;
      joins = trace.joins;
      peak = trace.peak;
      hits = trace.hits;
      misses = trace.misses;
      executed = trace.executed;
      room = trace.room;
      kept = trace.leaves;
    };
  }
