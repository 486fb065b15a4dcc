-- What a session reads of a source.
use Rattle.std.proofs.Common.{◌≡◌, ◌<◌, ℕ, List, [], length, Option, Result, Some, None, Ok, Err, IsSome, refl, sym, ◌∙◌, ap, subst, arith, get_or, slice_get}
use Rattle.std.specs.List.{AllByRecursion}
use Rattle.std.proofs.lemmas.Option.{slice_get_within, slice_get_read, same_Some}
use Rattle.kl_value.specs.Canon.{canonical}
use Rattle.kl_value.specs.declared.Value.{Value}
use Rattle.kl_type.specs.Ground.{Ground, ground_of}
use Rattle.kl_outcome.specs.Typed.{Inhabits}
use Rattle.kl_outcome.proofs.OutcomeTypes.{canonical_inhabits}
use Rattle.kl_ask.specs.Asks.{columns, item_of, kind_of, answers, shown_type}
use Rattle.kl_ask.specs.Driver.{State, Source, Cursor, IsFresh, Shows, IsColl, CanStart}
use Rattle.kl_ask.specs.Lists.{AtIndex, StepsAt}
use Rattle.kl_ask.specs.World.{World, IsListed, IsReady, at_driver, at_place, at_source, source_at, type_in, value_of_rows, value_in, types_of, values_of}
use Rattle.kl_ask.specs.declared.session.Attached.{Attached}
use Rattle.kl_ask.proofs.Whole.{whole_type, whole_rows, can_start_whole, collection_is, in_order_canonical}
use Rattle.kl_ask.proofs.Worlds.{moved_none, there, quiet_steps}
use Rattle.kl_eval.specs.declared.stop.EvalStop.{EvalStop}
use Rattle.kl_eval.specs.declared.stop.EvalStop.TheVariants as stop
use Rattle.kl_eval.specs.Scans.{IsEmptyOf, ScansAll, ScansTo, ScanEnd, whole_ask}
use Rattle.kl_eval.specs.World.{ReadsSource, Read, Tabled}

-- the driver of a source at a place, and what it has attached
abbrev pub Held : World → ℕ → Attached → ℕ → Type 0
Held w i a place = (d : State) × (s : Source) × (slice_get w.drivers place ≡ Some d) × (d.attached a.source ≡ Some s) × (source_at w i ≡ Some s)

in_source : (o : Option Source) → IsSome (type_in o) → (s : Source) × (o ≡ Some s)
in_source None h = absurd cc
in_source (Some s) h = (s, refl)

pub has_source : (w : World) (i : ℕ) → IsSome (types_of w i) → (s : Source) × (source_at w i ≡ Some s)
unfolding types_of
has_source w i h = in_source (source_at w i) h

in_driver : (a : Attached) (o : Option State) (s : Source) → at_driver a o ≡ Some s → (d : State) × (o ≡ Some d) × (d.attached a.source ≡ Some s)
in_driver a None s h = cc
in_driver a (Some d) s h = (d, refl, h)

placed : (w : World) (i : ℕ) (a : Attached) (o : Option ℕ) → slice_get w.sources i ≡ Some a → a.driver ≡ o → source_at w i ≡ at_place a o w.drivers
placed w i a o at is = ap (λ q. at_source q w.drivers) at ∙ ap (λ q. at_place a q w.drivers) is

pub held : (w : World) (i : ℕ) (a : Attached) (place : ℕ) → slice_get w.sources i ≡ Some a → a.driver ≡ Some place → IsSome (types_of w i) → Held w i a place
held w i a place at is h =
    let s = has_source w i h in
    let at_a : at_driver a (slice_get w.drivers place) ≡ Some s.0 = sym (placed w i a (Some place) at is) ∙ s.1 in
    let d = in_driver a (slice_get w.drivers place) s.0 at_a in
    (d.0, s.0, d.1, d.2, s.1)

in_list : (o : Option Attached) (ds : List State) (s : Source) → at_source o ds ≡ Some s → IsSome o
in_list None ds s h = cc
in_list (Some a) ds s h = refl

pub entry : (w : World) (rs : List Attached) (i : ℕ) (a : Attached) → rs ≡ w.sources → a ≡ get_or rs i a → IsSome (types_of w i) → slice_get w.sources i ≡ Some a
entry w rs i a same is h =
    let s = has_source w i h in
    go (slice_get w.sources i) refl (in_list (slice_get w.sources i) w.drivers s.0 s.1)
  where
    go : (o : Option Attached) → slice_get w.sources i ≡ o → IsSome o → slice_get w.sources i ≡ Some a
    go None e n = cc
    go (Some q) e n = slice_get_read w.sources (length w.sources) i a refl (slice_get_within w.sources i q e) (subst (λ z. a ≡ get_or z i a) same is)

pub listed_within : (w : World) (rs : List Attached) (i : ℕ) → rs ≡ w.sources → IsSome (types_of w i) → i < length rs
listed_within w rs i same h =
    let s = has_source w i h in
    go (slice_get w.sources i) refl (in_list (slice_get w.sources i) w.drivers s.0 s.1)
  where
    go : (o : Option Attached) → slice_get w.sources i ≡ o → IsSome o → i < length rs
    go None e n = cc
    go (Some q) e n = subst (λ z. i < length z) (sym same) (slice_get_within w.sources i q e)

module _ (w : World) (i : ℕ) (a : Attached) (place : ℕ) (at : slice_get w.sources i ≡ Some a) (is_at : a.driver ≡ Some place) (h : IsSome (types_of w i)) (ready : IsReady w) where
  pub driver_within : place < length w.drivers
  driver_within = let k = held w i a place at is_at h in slice_get_within w.drivers place k.0 k.2

  listed : IsListed a (held w i a place at is_at h).1
  listed = let k = held w i a place at is_at h in ready.listed i a k.1 at k.4

  pub can_scan : AtIndex place (λ s. CanStart s (whole_ask a)) w.drivers
  can_scan = λ s is.
      let k = held w i a place at is_at h in
      let same : k.0 ≡ s = same_Some _ _ (sym k.2 ∙ is) in
      subst (λ z. CanStart z (whole_ask a)) same (can_start_whole k.0 a.source a.ty k.1 k.3 listed.ty listed.proper)

-- what was shown is the source's value
module _ (t : Ground) (rows : Option (List Value)) (shown : List Value) (cursor : Cursor)
    (is_coll : IsColl t) (typed : (all : List Value) → rows ≡ Some all → AllByRecursion (Inhabits (item_of t)) all)
    (ty : cursor.ty ≡ shown_type (columns (item_of t)) (item_of t)) (left : Shows (kind_of t) (columns (item_of t)) [] rows cursor.left)
    (all_shown : (all : List Value) → cursor.left ≡ Some all → shown ≡ all) (shown_typed : AllByRecursion (Inhabits cursor.ty) shown) where
  pub shown_value : Inhabits t (canonical (kind_of t) shown)
  shown_value =
      let row_type : cursor.ty ≡ item_of t = ty ∙ whole_type (item_of t) in
      subst (λ q. Inhabits q (canonical (kind_of t) shown)) (sym (collection_is t is_coll))
      (canonical_inhabits (kind_of t) (item_of t) shown (subst (λ q. AllByRecursion (Inhabits q) shown) row_type shown_typed))

  pub told_value : (u : Value) → value_of_rows t rows ≡ Some u → canonical (kind_of t) shown ≡ u
  told_value u e = go rows refl left typed e
    where
      go : (r : Option (List Value)) → rows ≡ r → Shows (kind_of t) (columns (item_of t)) [] r cursor.left → ((all : List Value) → r ≡ Some all → AllByRecursion (Inhabits (item_of t)) all) → value_of_rows t r ≡ Some u → canonical (kind_of t) shown ≡ u
      go None q l good e = cc
      go (Some all) q l good e =
          ap (canonical (kind_of t)) (all_shown l.0 l.1) ∙ in_order_canonical (kind_of t) (answers all (columns (item_of t)) []) l.0 l.2
          ∙ ap (canonical (kind_of t)) (whole_rows (item_of t) all (good all refl)) ∙ same_Some _ _ e

reads : (w : World) (i : ℕ) (a : Attached) (d : State) (s : Source) (v : Value) → d.attached a.source ≡ Some s → source_at w i ≡ Some s → IsListed a s → (shown : List Value) → v ≡ canonical (kind_of (ground_of a.ty)) shown → ScansAll (whole_ask a) shown d
    → ReadsSource (types_of w) (values_of w) i v
unfolding types_of values_of
reads w i a d s v has at l shown ev sc =
    let fresh : IsFresh (columns (item_of (ground_of s.ty))) [] s sc.cursor = subst (λ y. IsFresh (columns (item_of (ground_of y))) [] s sc.cursor) (sym l.ty) (sc.fresh s has) in
    let t = ground_of s.ty in
    let is : v ≡ canonical (kind_of t) shown = ev ∙ ap (λ y. canonical (kind_of (ground_of y)) shown) (sym l.ty) in
    record {
      typed = λ u e.
          let same : t ≡ u = same_Some _ _ (sym (ap type_in at) ∙ e) in
          subst (λ q. Inhabits q v) same (subst (Inhabits t) (sym is) (shown_value t s.rows shown sc.cursor l.collection l.typed fresh.ty fresh.left sc.rows sc.typed));
      told = λ u e. is ∙ told_value t s.rows shown sc.cursor l.collection l.typed fresh.ty fresh.left sc.rows sc.typed u (sym (ap value_in at) ∙ e);
    }

-- the session after a scan
abbrev pub with_drivers : World → List State → World
with_drivers w ds = record { drivers = ds; sources = w.sources; settings = w.settings; trace = w.trace }

pub tabled : (w : World) (es : List State) (i : ℕ) (a : Attached) (place : ℕ) (r : Result Value EvalStop) → slice_get w.sources i ≡ Some a → a.driver ≡ Some place → IsSome (types_of w i) → IsReady w → StepsAt place (λ x y. ScansTo a r x y) w.drivers es → Tabled i r w (with_drivers w es)
tabled w es i a place r at is_at h ready steps =
    let k = held w i a place at is_at h in
    let y = there es place (omega (arith, slice_get_within w.drivers place k.0 k.2, steps.size)) in
    let end = (steps.here k.0 y.0 k.2 y.1).end in
    record {
      moved = record { sources = refl; settings = refl; trace = refl; drivers = quiet_steps place w.drivers es (λ x y. ScansTo a r x y) (λ x y s. s.quiet) steps };
      gives = go r end;
    }
  where
    go : (r : Result Value EvalStop) → ScanEnd a r (held w i a place at is_at h).0 (there es place (omega (arith, slice_get_within w.drivers place (held w i a place at is_at h).0 (held w i a place at is_at h).2, steps.size))).0 → Read i r w (with_drivers w es)
    go (Ok v) end = let k = held w i a place at is_at h in reads w i a k.0 k.1 v k.3 k.4 (ready.listed i a k.1 at k.4) end.0 end.1 end.2
    go (Err stop.Overflow) end = absurd end
    go (Err (stop.Driver n e)) end =
        let k = held w i a place at is_at h in
        let y = there es place (omega (arith, slice_get_within w.drivers place k.0 k.2, steps.size)) in
        record { number = i; listed = a; at = at; named = end.0; before = k.0; then = y.0; place = place; held = is_at; was = k.2; is = y.1; cause = end.2; drifted = λ d is s has. end.3 d is s (k.3 ∙ sym k.4 ∙ has); want = end.1 }
    go (Err stop.NoMemory) end = tt

-- a source that no driver has
module _ (w : World) (i : ℕ) (a : Attached) (at : slice_get w.sources i ≡ Some a) (none : a.driver ≡ None) (ready : IsReady w) where
  abbrev bare : Source
  bare = record { ty = a.ty; rows = Some []; count = 0; kept = None }

  bare_there : source_at w i ≡ Some bare
  bare_there = placed w i a None at none

  empty_reads : (v : Value) → v ≡ canonical (kind_of (ground_of a.ty)) [] → ReadsSource (types_of w) (values_of w) i v
  unfolding types_of values_of
  empty_reads v is =
      let l = ready.listed i a bare at bare_there in
      let t = ground_of a.ty in
      let fine : Inhabits t (canonical (kind_of t) []) = subst (λ q. Inhabits q (canonical (kind_of t) [])) (sym (collection_is t l.collection)) (canonical_inhabits (kind_of t) (item_of t) [] tt) in
      record {
        typed = λ u e. subst (λ q. Inhabits q v) (same_Some _ _ (sym (ap type_in bare_there) ∙ e)) (subst (Inhabits t) (sym is) fine);
        told = λ u e. is ∙ same_Some _ _ (sym (ap value_in bare_there) ∙ e);
      }

  empty_read : (r : Result Value EvalStop) → IsEmptyOf a r → Read i r w w
  empty_read (Ok v) e = empty_reads v e
  empty_read (Err stop.Overflow) e = cc
  empty_read (Err (stop.Driver n f)) e = cc
  empty_read (Err stop.NoMemory) e = tt

  pub bare_tabled : (r : Result Value EvalStop) → IsEmptyOf a r → Tabled i r w w
  bare_tabled r e = record { moved = moved_none w; gives = empty_read r e }
