-- What opening a cursor does to what the driver means.
use Rattle.std.proofs.Common.{◌≡◌, ◌≢◌, IsSome, ◌⊎◌, inl, inr, ◌<◌, ◌≤◌, ◌-◌, ◌^◌, ℕ, true, false, List, [], ◌∷◌, ◌++◌, length, drop, Option, Some, None, Ok, Err, IsErrOf, refl, sym, ◌∙◌, ap, subst, arith, ⊎_elim}
use Rattle.std.specs.List.{AllByRecursion}
use Rattle.std.specs.Option.{option_map}
use Rattle.std.proofs.Math.Path.{fun_ext}
use Rattle.std.proofs.lemmas.Bool.{cases_eq}
use Rattle.std.proofs.lemmas.List.Sorted.{IsPermutation-refl}
use Rattle.std.proofs.lemmas.Option.{same_Some}
use Rattle.kl_base.specs.Counts.{Rose}
use Rattle.kl_value.specs.declared.Kind.{Kind}
use Rattle.kl_value.specs.declared.Kind.TheVariants as kind
use Rattle.kl_value.specs.declared.Value.{Value}
use Rattle.kl_type.specs.Ground.{ground_of}
use Rattle.kl_outside.specs.Files.{FilesState, IsMissing, Seen, nothing_seen, seen_in}
use Rattle.kl_outcome.specs.Outcome.{Name}
use Rattle.kl_outcome.specs.Typed.{Inhabits}
use Rattle.kl_ask.specs.Asked.{with_ask}
use Rattle.kl_ask.specs.Asks.{answers, columns, item_of, kind_of, shown_type}
use Rattle.kl_ask.specs.Cursors.{open_at}
use Rattle.kl_ask.specs.Driver.{CanStart, CountsFault, InOrder, ReadSoFar, read_under, IsFresh, OpensAt, Shows, Source as Attached, Starts}
use Rattle.kl_ask.specs.declared.ask.Ask.{Ask}
use Rattle.kl_ask.specs.declared.ask.Ask.TheVariants as asks
use Rattle.kl_ask.specs.declared.ask.ColTest.{ColTest}
use Rattle.kl_ask.specs.declared.ask.DriverError.{DriverError}
use Rattle.kl_ask.specs.declared.ask.DriverError.TheVariants as error
use Rattle.kl_ask.proofs.Opened.{added_free, added_now, added_others, some_of}
use Rattle.kl_ask.proofs.Whole.{only_whole, whole_rows, whole_type}
use Rattle.kl_ask.proofs.Worlds.{error_is}
use Rattle.kl_nested.specs.Closing.{ClosesOpen}
use Rattle.kl_nested.specs.Desk.{IsDesk, IsKept}
use Rattle.kl_ask.specs.Named.{asked_source}
use Rattle.kl_nested.specs.Nested.{Sources, attached_of, cursor_of, nested_kind, nested_state, read_as, rows_at}
use Rattle.kl_nested.specs.Opening.{OpensLast, OpensOver}
use Rattle.kl_nested.specs.declared.parts.Source.{Source}
use Rattle.kl_nested.specs.declared.parts.Open.{Open}
use Rattle.kl_nested.proofs.Collections.{rows_typed}
use Rattle.kl_nested.proofs.Desks.{file_open, kept_asked}
use Rattle.kl_nested.proofs.Handings.{counts_as}
use Rattle.kl_nested.proofs.Progress.{under}
use Rattle.kl_nested.proofs.Takings.{knows}

pub none_some : {T : Type 0} (o : Option T) → o ≡ None → IsSome o → ⊥
none_some None none is = cc
none_some (Some x) none is = cc

pub is_there : {C D : Type 0} (seen : C → D) (o : Option C) → IsSome (option_map seen o) → IsSome o
is_there seen (Some x) h = refl
is_there seen None h = absurd cc

-- a file that was just opened was not read
nothing_read : (log : Option (ℕ → Seen)) (r : ReadSoFar) → option_map read_as (option_map (λ seen. nothing_seen) log) ≡ Some r → r.bytes ≡ []
nothing_read None r is = absurd cc
nothing_read (Some seen) r is = ap (λ x. x.bytes) (sym (same_Some _ _ is))

in_order : (k : Kind) (rows : List Value) → InOrder k rows rows
in_order kind.List rows = refl
in_order kind.Set rows = IsPermutation-refl rows
in_order kind.Bag rows = IsPermutation-refl rows

module _ (limit : ℕ) (room : limit < 2 ^ 63) (f : FilesState) (sources : Sources) (cursors : List (Option Open)) (asked : List (Ask × ℕ)) (handed drifts unread : ℕ) (desk : IsDesk limit f sources cursors) where
  -- rows that are told have the type
  typed_so : (s : Source) (rows : List Value) → IsKept limit f.told s → rows_at limit f.told s ≡ Some rows → AllByRecursion (Inhabits (item_of (ground_of s.ty))) rows
  typed_so s rows kept is = let k = knows limit f.told s kept rows is in rows_typed s.ty k.shows.read rows k.shows.items k.have

  shows_all : (o : Open) (s : Source) (keep : List Name) (tests : List ColTest) → o.source ≡ s → o.taken ≡ 0 → IsKept limit f.told s → keep ≡ columns (item_of (ground_of s.ty)) → tests ≡ []
      → Shows (kind_of (ground_of s.ty)) keep tests (rows_at limit f.told s) (cursor_of limit f.told o).left
  shows_all o s keep tests same none kept whole untested = by (rows_at limit f.told s) refl
    where
      left_is : (r : Option (List Value)) → rows_at limit f.told s ≡ r → (cursor_of limit f.told o).left ≡ option_map (drop 0) r
      left_is r is = (λ i. option_map (drop (none i)) (rows_at limit f.told (same i))) ∙ ap (option_map (drop 0)) is

      by : (r : Option (List Value)) → rows_at limit f.told s ≡ r → Shows (kind_of (ground_of s.ty)) keep tests r (cursor_of limit f.told o).left
      by None is = left_is None is
      by (Some rows) is =
          let shown : answers rows keep tests ≡ rows = (λ i. answers rows (whole i) (untested i)) ∙ whole_rows (item_of (ground_of s.ty)) rows (typed_so s rows kept is) in
          (rows, left_is (Some rows) is, subst (λ all. InOrder (kind_of (ground_of s.ty)) all rows) (sym shown) (in_order (kind_of (ground_of s.ty)) rows))

  opens_at : (ask : Ask) (s : Source) (g : FilesState) (o : Open) → CanStart (nested_state limit f sources cursors asked handed drifts unread) ask → asked_source sources ask ≡ Some s → OpensOver limit s ask f g o
      → OpensAt ask (nested_state limit f sources cursors asked handed drifts unread) (cursor_of limit f.told o)
  opens_at (asks.Sql text) s g o can found over = absurd (let no : false ≡ true = can.answerable.2 in cc)
  opens_at (asks.Rows source keep tests) s g o can found over = λ a is.
      let kept : IsKept limit f.told s = desk.kept source s found in
      let same : attached_of limit f.told s ≡ a = same_Some _ _ (sym (ap (option_map (attached_of limit f.told)) found) ∙ is) in
      let answerable = can.answerable in
      let this : answerable.0 ≡ attached_of limit f.told s = same_Some _ _ (sym answerable.1 ∙ ap (option_map (attached_of limit f.told)) found) in
      let whole = only_whole (nested_kind limit f.told).abilities (ground_of answerable.0.ty) source keep tests refl refl answerable.2 in
      let keep_is : keep ≡ columns (item_of (ground_of s.ty)) = whole.0 ∙ ap (λ (b : Attached). columns (item_of (ground_of b.ty))) this in
      let bound : o.source.count - o.taken ≡ s.count = let whole = ap (λ (s : Source). s.count) over.source_is in omega (arith, whole, over.none_taken) in
      let few = kept.few in
      subst (λ a. IsFresh keep tests a (cursor_of limit f.told o)) same (record {
        ty = ap (λ (s : Source). item_of (ground_of s.ty)) over.source_is ∙ sym (ap (λ ls. shown_type ls (item_of (ground_of s.ty))) keep_is ∙ whole_type (item_of (ground_of s.ty)));
        left = shows_all o s keep tests over.source_is over.none_taken kept keep_is whole.1;
        most = omega (arith, bound);
        whole = λ none. bound;
        told = λ rows is. told_count o s over.source_is over.none_taken kept rows is;
        bound = omega (arith, bound, few, room);
      })
    where
      told_count : (o : Open) (s : Source) → o.source ≡ s → o.taken ≡ 0 → IsKept limit f.told s → (rows : List Value) → (cursor_of limit f.told o).left ≡ Some rows → o.source.count - o.taken ≡ length rows
      told_count o s same none kept rows is = by (rows_at limit f.told s) refl
        where
          left_is : (r : Option (List Value)) → rows_at limit f.told s ≡ r → option_map (drop 0) r ≡ Some rows
          left_is r at = sym ((λ i. option_map (drop (none i)) (rows_at limit f.told (same i))) ∙ ap (option_map (drop 0)) at) ∙ is

          by : (r : Option (List Value)) → rows_at limit f.told s ≡ r → o.source.count - o.taken ≡ length rows
          by None at = absurd (let e = left_is None at in cc)
          by (Some all) at =
              let k = knows limit f.told s kept all at in
              let e : all ≡ rows = same_Some _ _ (left_is (Some all) at) in
              let whole = ap (λ (s : Source). s.count) same in
              let size = ap length e in
              omega (arith, whole, none, k.count, size)

  module _ (g : FilesState) (cursors' : List (Option Open)) (ask : Ask) (s : Source) (found : asked_source sources ask ≡ Some s) where
    -- a cursor was opened, and its ask counted
    pub start_done : (asked' : List (Ask × ℕ)) (n : ℕ) → CanStart (nested_state limit f sources cursors asked handed drifts unread) ask → n ≡ length cursors → OpensLast limit s ask (Ok tt) cursors cursors' f g → asked' ≡ with_ask ask asked
        → Starts ask (Ok n) (nested_state limit f sources cursors asked handed drifts unread) (nested_state limit g sources cursors' asked' handed drifts unread)
    start_done asked' n can last opens counted =
        let o = opens.opened.0 in
        let grown : cursors' ≡ cursors ++ Some o ∷ [] = opens.opened.1 in
        let over = opens.opened.2 in
        let now = nested_state limit (record { told = f.told; left = g.left; log = g.log; faults = g.faults }) sources cursors' asked' handed drifts unread in
        let apart : (y : Open) (k : ℕ) → open_at cursors k ≡ Some y → y.file ≢ o.file = (λ y k at same. none_some (f.left o.file) over.free (subst (λ i. IsSome (f.left i)) same (file_open limit f y (desk.reading k y at)))) in
        subst (λ t. Starts ask (Ok n) (nested_state limit f sources cursors asked handed drifts unread) (nested_state limit (record { told = t; left = g.left; log = g.log; faults = g.faults }) sources cursors' asked' handed drifts unread)) (sym opens.told) (record {
          keeps = record { kind = refl; handed = omega arith; faults = opens.later; drifts = omega arith; no_drift = λ is. refl; unread = omega arith };
          attached = refl;
          reading = λ k is.
              let x = some_of (open_at cursors k) (is_there (cursor_of limit f.told) (open_at cursors k) is) in
              let ne : k ≢ n = (λ same. none_some (open_at cursors n) (added_free cursors cursors' n o last grown) (subst (λ i. IsSome (open_at cursors i)) same (subst IsSome (sym x.1) refl))) in
              record {
                file = ap (option_map (λ (x : Open). x.file)) (added_others cursors cursors' n o last grown k ne);
                read = under (open_at cursors k) _ _ (λ y at. ap (option_map read_as) (over.others_seen y.file (apart y k at)));
              };
          handed = refl;
          faults = opens.counts;
          drifts = refl;
          unread = refl;
          opens = record {
            free = ap (option_map (cursor_of limit f.told)) (added_free cursors cursors' n o last grown);
            opened = cursor_of limit f.told o;
            now = ap (option_map (cursor_of limit f.told)) (added_now cursors cursors' n o last grown);
            ask_kept = opens.opened.2.ask_is;
            fresh = opens_at ask s g o can found opens.opened.2;
            others = λ k ne. ap (option_map (cursor_of limit f.told)) (added_others cursors cursors' n o last grown k ne);
            anew = λ is. subst IsSome (sym (ap (option_map (λ (x : Open). x.file)) (added_now cursors cursors' n o last grown))) refl;
            unread = λ r is. nothing_read f.log r (sym (ap (option_map read_as) over.unread) ∙ (sym (ap (λ (x : Option ℕ). read_under x now) (ap (option_map (λ (x : Open). x.file)) (added_now cursors cursors' n o last grown))) ∙ is));
            asked = counted;
          };
          refused = tt;
          failed = λ is. absurd cc;
          no_other = tt;
        })

    -- what is open is what was open
    abbrev Refusal : DriverError → FilesState → List (Option Open) → Type 0
    Refusal e h cursors'' = Starts ask (Err e) (nested_state limit f sources cursors asked handed drifts unread) (nested_state limit h sources cursors'' asked handed drifts unread)

    refusal : (e : DriverError) (h : FilesState) (cursors'' : List (Option Open)) → h.told ≡ f.told → ((k : ℕ) → IsSome (f.left k) → seen_in h k ≡ seen_in f k) → f.faults ≤ h.faults → CountsFault {T = ℕ} (Err e) f.faults h.faults → ((k : ℕ) → open_at cursors'' k ≡ open_at cursors k) → (e ≡ error.Failed → Rose f.faults h.faults)
        → (e ≡ error.Failed) ⊎ (e ≡ error.NoMemory) → Refusal e h cursors''
    refusal e h cursors'' told seen later counts same failed other =
        subst (λ t. Starts ask (Err e) (nested_state limit f sources cursors asked handed drifts unread) (nested_state limit (record { told = t; left = h.left; log = h.log; faults = h.faults }) sources cursors'' asked handed drifts unread)) (sym told) (record {
          keeps = record { kind = refl; handed = omega arith; faults = later; drifts = omega arith; no_drift = λ is. refl; unread = omega arith };
          attached = refl;
          reading = λ k is. record {
            file = ap (option_map (λ (x : Open). x.file)) (same k);
            read = under (open_at cursors k) _ _ (λ y at. ap (option_map read_as) (seen y.file (file_open limit f y (desk.reading k y at))));
          };
          handed = refl;
          faults = counts;
          drifts = refl;
          unread = refl;
          opens = tt;
          refused = (fun_ext (λ k. ap (option_map (cursor_of limit f.told)) (same k)), refl);
          failed = λ is. failed (error_is is);
          no_other = elim other [ inl is ↦ inl (subst (λ d. IsErrOf {T = ℕ} (Err d) error.Failed) (sym is) refl) | inr is ↦ inr (subst (λ d. IsErrOf {T = ℕ} (Err d) error.NoMemory) (sym is) refl) ];
        })

    there : IsMissing f s.path → ⊥
    there missing = let k = (kept_asked limit f sources cursors desk ask s found).known missing.0 missing.1 in let e : None ≡ Some k.0 = sym missing.2 ∙ k.2 in cc

    -- none was opened
    pub start_refused : (e : DriverError) → OpensLast limit s ask (Err e) cursors cursors' f g → Refusal e g cursors'
    start_refused e opens = refusal e g cursors' opens.told opens.refused.seen opens.later (counts_as (Unit {0}) ℕ e f.faults g.faults opens.counts) (λ k. ap (λ cs. open_at cs k) opens.same)
        (λ is. elim (opens.refused.failed (subst (λ d. IsErrOf {T = Unit {0}} (Err d) error.Failed) (sym is) refl)) [ inl missing ↦ absurd (there missing) | inr rose ↦ rose ])
        (elim opens.refused.no_other [ inl is ↦ inl (wanted is) | inr is ↦ inr (wanted is) ])
      where
        wanted : {x y : DriverError} → IsErrOf {T = Unit {0}} (Err x) y → x ≡ y
        wanted h = cc

    -- one was opened, and closed again
    pub start_uncounted : (n : ℕ) (h : FilesState) (cursors'' : List (Option Open)) → n ≡ length cursors → OpensLast limit s ask (Ok tt) cursors cursors' f g → ClosesOpen n cursors' cursors'' g h → Refusal error.NoMemory h cursors''
    start_uncounted n h cursors'' last opens closes =
        let o = opens.opened.0 in
        let grown : cursors' ≡ cursors ++ Some o ∷ [] = opens.opened.1 in
        let file = closes.file o (added_now cursors cursors' n o last grown) in
        let over = opens.opened.2 in
        refusal error.NoMemory h cursors'' (file.told ∙ opens.told)
        (λ k is. file.seen k ∙ over.others_seen k (λ same. none_some (f.left o.file) over.free (subst (λ i. IsSome (f.left i)) same is)))
        (omega (arith, opens.later, file.faults)) (file.faults ∙ opens.counts)
        (λ k. ⊎_elim
        (λ is. ap (open_at cursors'') is ∙ closes.closed ∙ sym (added_free cursors cursors' n o last grown) ∙ sym (ap (open_at cursors) is))
        (λ ne. closes.others k ne ∙ added_others cursors cursors' n o last grown k ne)
        (cases_eq k n))
        (λ is. absurd cc) (inr refl)
