-- A whole scan, from its parts.
use Rattle.std.proofs.Common.{◌≡◌, ◌<◌, ℕ, List, [], ◌++◌, length, map, get_or, slice_get, Result, Some, None, Ok, Err, IsSome, Vec, refl, sym, ◌∙◌, ap, subst, arith, ⊎_elim}
use Rattle.std.proofs.lemmas.Bool.{cases_eq}
use Rattle.std.proofs.lemmas.Grind.{common_steps}
use Rattle.std.proofs.lemmas.Option.{gets, slice_get_read}
use Rattle.std.proofs.Math.Path.{fun_ext}
use Rattle.std.specs.List.{AllByRecursion}
use Rattle.std.specs.declared.alloc.Global.{Global}
use Rattle.kl_value.specs.Canon.{canonical}
use Rattle.kl_value.specs.declared.Kind.{Kind}
use Rattle.kl_value.specs.declared.Value.{Value}
use Rattle.kl_type.specs.Ground.{ground_of}
use Rattle.kl_outcome.specs.Typed.{Inhabits}
use Rattle.kl_ask.specs.Asks.{kind_of}
use Rattle.kl_ask.specs.Driver.{State, OtherCursors, Starts, Finishes, Cause, source_of}
use Rattle.kl_ask.specs.declared.ask.Drift.{Drift}
use Rattle.kl_ask.specs.Lists.{AtIndex, StepsAt}
use Rattle.kl_ask.specs.World.{Quiet}
use Rattle.kl_ask.specs.declared.ask.Ask.{Ask}
use Rattle.kl_ask.specs.declared.session.Attached.{Attached}
use Rattle.kl_ask.specs.declared.DriverError.{DriverError}
use Rattle.kl_ask.specs.declared.DriverError.TheVariants as error
use Rattle.kl_ask.proofs.Worlds.{keeps_then, quiet_none, error_is}
use Rattle.kl_eval.specs.declared.stop.EvalStop.{EvalStop}
use Rattle.kl_eval.specs.declared.stop.EvalStop.TheVariants as stop
use Rattle.kl_eval.specs.Scans.{Drained, IsEmptyOf, Stopped, Scans, ScansTo, ScanEnd, Scanned, whole_ask}
use Rattle.kl_eval.specs.World.{Drifted}
use Rattle.kl_eval.proofs.Pulling.{same_source}
use Rattle.kl_eval.proofs.Stops.{cause_then}

pub started : (ask : Ask) (cursor : ℕ) (a b : State) → Starts ask (Ok cursor) a b → IsSome (b.cursors cursor)
started ask cursor a b s = rw s.opens.now refl

not_failed : (d : Drift) → error.Failed ≡ error.Changed d → ⊥
not_failed d h = cc

not_wanting : (d : Drift) → error.NoMemory ≡ error.Changed d → ⊥
not_wanting d h = cc

pub not_started : (ask : Ask) (e : DriverError) (a b : State) → Starts ask (Err e) a b → Scans ask (Err e) a b
not_started ask e a b s = record {
  quiet = record { keeps = s.keeps; attached = s.attached; cursors = s.refused.0 };
  end = ⊎_elim
      (λ h. (subst (λ q. Cause q a b) (sym (error_is h)) (s.failed h), λ d is. absurd (not_failed d (sym (error_is h) ∙ is))))
      (λ h. (subst (λ q. Cause q a b) (sym (error_is h)) tt, λ d is. absurd (not_wanting d (sym (error_is h) ∙ is))))
      s.no_other;
}

same_cursors : (cursor : ℕ) (a b c d : State) → a.cursors cursor ≡ None → OtherCursors cursor a b → OtherCursors cursor b c → OtherCursors cursor c d → d.cursors cursor ≡ None → (k : ℕ) → d.cursors k ≡ a.cursors k
same_cursors cursor a b c d free x y z closed k = ⊎_elim
    (λ is. ap d.cursors is ∙ closed ∙ sym free ∙ sym (ap a.cursors is))
    (λ ne. z k ne ∙ y k ne ∙ x k ne)
    (cases_eq k cursor)

pub scanned : (ask : Ask) (cursor : ℕ) (shown : Vec Value Global) (none : List Value) (a b c d : State) → none ≡ [] → Starts ask (Ok cursor) a b → Drained cursor none shown.items b c → Finishes cursor c d → Scans ask (Ok shown) a d
scanned ask cursor shown none a b c d empty s p f =
    let pulls = p.pulls in
    let o = s.opens in
    let h = pulls.rows o.opened o.now in
    record {
      quiet = record {
        keeps = keeps_then a b d s.keeps (keeps_then b c d pulls.keeps f.keeps);
        attached = f.attached ∙ pulls.attached ∙ s.attached;
        cursors = fun_ext (same_cursors cursor a b c d o.free o.others pulls.others f.others f.closed);
      };
      end = record {
        cursor = o.opened;
        fresh = o.fresh;
        rows = λ all told. p.spent o.opened o.now all told ∙ ap (λ x. x ++ all) empty;
        typed = subst (λ xs. AllByRecursion (Inhabits o.opened.ty) xs) (sym (h.appended ∙ ap (λ x. x ++ h.rows) empty)) h.typed;
      };
    }

pub scan_stopped : (ask : Ask) (cursor : ℕ) (e : DriverError) (a b c : State) → Starts ask (Ok cursor) a b → Stopped cursor e b c → Scans ask (Err e) a c
scan_stopped ask cursor e a b c s p = record {
  quiet = record {
    keeps = keeps_then a b c s.keeps p.keeps;
    attached = p.attached ∙ s.attached;
    cursors = fun_ext (same_cursors cursor a b c c s.opens.free s.opens.others p.others (λ k ne. refl) p.closed);
  };
  end = (cause_then e a b c s.keeps p.cause, λ d is z has. p.drifted s.opens.opened s.opens.now d is z (ap (source_of b) s.opens.ask_kept ∙ same_source ask a b s.attached ∙ has));
}

gather_end : (t : Attached) (r : Result (Vec Value Global) DriverError) (q : Result Value EvalStop) (a b : State) → Scanned (kind_of (ground_of t.ty)) t.source r q → Scans (whole_ask t) r a b → ScanEnd t q a b
gather_end t (Ok rows) (Ok v) a b g s = (rows.items, g, s.end)
gather_end t (Ok rows) (Err e) a b g s = subst (λ e. ScanEnd t (Err e) a b) (sym g) tt
gather_end t (Err e) (Ok v) a b g s = absurd g
gather_end t (Err e) (Err stop.Overflow) a b g s = absurd g
gather_end t (Err e) (Err (stop.Driver name f)) a b g s = (g.0, (λ w. g.2 (sym g.1 ∙ w)), subst (λ q. Cause q a b) (sym g.1) s.end.0, subst (λ q. Drifted q (a.attached t.source)) (sym g.1) s.end.1)
gather_end t (Err e) (Err stop.NoMemory) a b g s = tt

pub gathered : (t : Attached) (place : ℕ) (ask : Ask) (k : Kind) (r : Result (Vec Value Global) DriverError) (q : Result Value EvalStop) (xs ys : List State) → ask ≡ whole_ask t → k ≡ kind_of (ground_of t.ty)
    → Scanned k t.source r q → StepsAt place (λ a b. Scans ask r a b) xs ys → StepsAt place (λ a b. ScansTo t q a b) xs ys
gathered t place ask k r q xs ys is ek g s =
    let g' = subst (λ j. Scanned j t.source r q) ek g in
    record {
      size = s.size;
      others = s.others;
      here = λ a b ha hb. let h = subst (λ z. Scans z r a b) is (s.here a b ha hb) in record { quiet = h.quiet; end = gather_end t r q a b g' h };
    }

-- one box of a list
pub at_box : {A S : Type 0} (f : A → S) (P : S → Type 0) (xs : List A) (i : ℕ) (x : A) → i < length xs → x ≡ get_or xs i x → AtIndex i P (map f xs) → P (f x)
at_box f P xs i x lt is can = can (f x) (mapped (slice_get_read xs (length xs) i x refl lt is))
  where
    mapped : slice_get xs i ≡ Some x → slice_get (map f xs) i ≡ Some (f x)
    mapped at = grind (arith, gets, common_steps)

-- no rows, as a collection
pub emptied : (t : Attached) (k : Kind) (rows : Vec Value Global) (q : Result Value EvalStop) → k ≡ kind_of (ground_of t.ty) → rows.items ≡ [] → Scanned k t.source (Ok rows) q → IsEmptyOf t q
emptied t k rows (Ok v) ek none g = g ∙ ap (λ j. canonical j rows.items) ek ∙ ap (canonical (kind_of (ground_of t.ty))) none
emptied t k rows (Err e) ek none g = g

-- nothing was scanned
pub unscanned : (t : Attached) (place : ℕ) (xs : List State) → StepsAt place (λ a b. ScansTo t (Err stop.NoMemory) a b) xs xs
unscanned t place xs = record {
  size = refl;
  others = λ j ne. refl;
  here = λ a b ha hb. record { quiet = subst (λ q. Quiet a q) (same (sym ha ∙ hb)) (quiet_none a); end = tt };
}
  where
    same : {x y : State} → Some x ≡ Some y → x ≡ y
    same h = grind arith
