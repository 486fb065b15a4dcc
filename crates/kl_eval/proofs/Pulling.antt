-- Pulls of a cursor, one after another.
use Rattle.std.proofs.Common.{◌≡◌, ◌<◌, ℕ, Bool, true, false, List, [], ◌++◌, Some, Ok, Err, IsSome, refl, sym, ◌∙◌, ap, subst, arith, append_assoc, append-nil}
use Rattle.std.specs.List.{AllByRecursion}
use Rattle.kl_value.specs.declared.Value.{Value}
use Rattle.kl_type.specs.Ground.{Ground}
use Rattle.kl_outcome.specs.Typed.{Inhabits}
use Rattle.kl_base.proofs.Each.{all_append}
use Rattle.kl_ask.specs.Driver.{State, Cursor, Pulls, source_of}
use Rattle.kl_ask.specs.declared.ask.Ask.{Ask}
use Rattle.kl_ask.specs.declared.ask.Ask.TheVariants as asks
use Rattle.kl_ask.specs.declared.DriverError.{DriverError}
use Rattle.kl_ask.proofs.Opened.{some_of}
use Rattle.kl_ask.proofs.Worlds.{keeps_none, keeps_then}
use Rattle.kl_eval.specs.Scans.{Draining, Drained, Stopped, bound_of}
use Rattle.kl_eval.proofs.Stops.{cause_then}

-- the source that an ask names stays
pub same_source : (ask : Ask) (a b : State) → b.attached ≡ a.attached → source_of b ask ≡ source_of a ask
same_source (asks.Rows source keep tests) a b same = ap (λ f. f source) same
same_source (asks.Sql text) a b same = refl

pub begins : (cursor : ℕ) (into : List Value) (s : State) → Draining cursor into into s s
begins cursor into s = record {
  keeps = keeps_none s;
  attached = refl;
  others = λ k ne. refl;
  rows = λ first is. record { then = first; rows = []; now = is; ask = refl; ty = refl; appended = sym (append-nil into); typed = tt; left = λ all has. (all, refl, has) };
}

typed_on : (t u : Ground) (xs ys : List Value) → u ≡ t → AllByRecursion (Inhabits t) xs → AllByRecursion (Inhabits u) ys → AllByRecursion (Inhabits t) (xs ++ ys)
typed_on t u xs ys same all more = all_append (Inhabits t) xs ys all (subst (λ ty. AllByRecursion (Inhabits ty) ys) same more)

-- the cursor as it stands
pub now_at : (cursor : ℕ) (into mid : List Value) (a b : State) → IsSome (a.cursors cursor) → Draining cursor into mid a b → (c : Cursor) × (b.cursors cursor ≡ Some c)
now_at cursor into mid a b is d =
    let first = some_of (a.cursors cursor) is in
    let h = d.rows first.0 first.1 in
    (h.then, h.now)

pub still_open : (cursor : ℕ) (into mid : List Value) (a b : State) → IsSome (a.cursors cursor) → Draining cursor into mid a b → IsSome (b.cursors cursor)
still_open cursor into mid a b is d = let c = now_at cursor into mid a b is d in rw c.1 refl

pub falls : (cursor most : ℕ) (into mid into' : List Value) (a b c : State) (more : Bool) → more ≡ true → IsSome (a.cursors cursor) → Draining cursor into mid a b → Pulls cursor most mid into' (Ok more) b c → bound_of (c.cursors cursor) < bound_of (b.cursors cursor)
falls cursor most into mid into' a b c more is_so is d q =
    let p = subst (λ m. Pulls cursor most mid into' (Ok m) b c) is_so q in
    let at = now_at cursor into mid a b is d in
    let more = p.answer at.0 at.1 in
    rw (at.1, more.now) (omega (arith, more.hands.bound, more.hands.some))

pub goes_on : (cursor most : ℕ) (into mid into' : List Value) (a b c : State) (more : Bool) → more ≡ true → IsSome (a.cursors cursor) → Draining cursor into mid a b → Pulls cursor most mid into' (Ok more) b c → Draining cursor into into' a c
goes_on cursor most into mid into' a b c more is_so is d q =
    let p = subst (λ m. Pulls cursor most mid into' (Ok m) b c) is_so q in
    record {
      keeps = keeps_then a b c d.keeps p.keeps;
      attached = p.attached ∙ d.attached;
      others = λ k ne. p.others k ne ∙ d.others k ne;
      rows = λ first has.
          let h = d.rows first has in
          let more = p.answer h.then h.now in
          record {
            then = more.then;
            rows = h.rows ++ more.rows;
            now = more.now;
            ask = more.hands.ask ∙ h.ask;
            ty = more.hands.ty ∙ h.ty;
            appended = more.appended ∙ ap (λ x. x ++ more.rows) h.appended ∙ append_assoc into h.rows more.rows;
            typed = typed_on first.ty h.then.ty h.rows more.rows h.ty h.typed more.hands.typed;
            left = λ all is_all.
                let l = h.left all is_all in
                let m = more.hands.left l.0 l.2 in
                (m.0, l.1 ∙ ap (λ x. h.rows ++ x) m.1 ∙ sym (append_assoc h.rows more.rows m.0), m.2);
          };
    }

pub ends : (cursor most : ℕ) (into mid into' : List Value) (a b c : State) (more : Bool) → more ≡ false → IsSome (a.cursors cursor) → Draining cursor into mid a b → Pulls cursor most mid into' (Ok more) b c → Drained cursor into into' a c
ends cursor most into mid into' a b c more is_so is d q =
    let p = subst (λ m. Pulls cursor most mid into' (Ok m) b c) is_so q in
    record {
      pulls = record {
        keeps = keeps_then a b c d.keeps p.keeps;
        attached = p.attached ∙ d.attached;
        others = λ k ne. p.others k ne ∙ d.others k ne;
        rows = λ first has.
            let h = d.rows first has in
            let none = p.answer h.then h.now in
            record { then = record { ask = h.then.ask; ty = h.then.ty; left = h.then.left; bound = 0 }; rows = h.rows; now = none.now; ask = h.ask; ty = h.ty; appended = none.same ∙ h.appended; typed = h.typed; left = h.left };
      };
      spent = λ first has all is_all.
          let h = d.rows first has in
          let none = p.answer h.then h.now in
          let l = h.left all is_all in
          let last = none.spent l.0 l.2 in
          none.same ∙ h.appended ∙ ap (λ x. into ++ x) (sym (l.1 ∙ ap (λ x. h.rows ++ x) last ∙ append-nil h.rows));
    }

pub stops : (cursor most : ℕ) (e : DriverError) (into mid into' : List Value) (a b c : State) → IsSome (a.cursors cursor) → Draining cursor into mid a b → Pulls cursor most mid into' (Err e) b c → Stopped cursor e a c
stops cursor most e into mid into' a b c is d p =
    let at = now_at cursor into mid a b is d in
    let step = p.answer at.0 at.1 in
    record {
      keeps = keeps_then a b c d.keeps p.keeps;
      attached = p.attached ∙ d.attached;
      others = λ k ne. p.others k ne ∙ d.others k ne;
      closed = step.closed;
      cause = cause_then e a b c d.keeps step.cause;
      drifted = λ first has x is s at_s. let h = d.rows first has in (p.answer h.then h.now).drifted x is s (ap (source_of b) h.ask ∙ same_source first.ask a b d.attached ∙ at_s);
    }
