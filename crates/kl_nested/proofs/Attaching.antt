-- What attaching a file does to what the driver means.
use Rattle.std.proofs.Common.{◌≡◌, ◌⊎◌, inl, inr, ◌<◌, ◌≤◌, ◌^◌, ℕ, Bool, true, false, List, length, Option, Some, None, IsSome, Result, Ok, Err, IsErrOf, refl, sym, ◌∙◌, ap, subst, arith, nat_eq}
use Rattle.std.specs.Cmp.Lexicographic.{pointwise}
use Rattle.std.specs.HashMap.{Updates}
use Rattle.std.specs.Option.{option_map}
use Rattle.std.proofs.lemmas.Option.{same_Some}
use Rattle.kl_base.specs.Counts.{Rose}
use Rattle.kl_value.specs.declared.Value.{Value}
use Rattle.kl_type.specs.declared.ground.Ty.{Ty}
use Rattle.kl_type.proofs.RowLemmas.{same_label}
use Rattle.kl_outside.specs.Files.{FilesState, IsMissing, seen_in}
use Rattle.kl_outcome.specs.Outcome.{Name}
use Rattle.kl_exchange.specs.FileItems.{FileEnd, WholeText, BadAt, TooDeepAt, PastLimit}
use Rattle.kl_heads.specs.Found.{FileText, file_text}
use Rattle.kl_heads.specs.Stated.{states_no_other}
use Rattle.kl_ask.specs.Asked.{raised_by, unread_by}
use Rattle.kl_ask.specs.Driver.{Attaches, CountsUnread, Source as Attached, Stored, Missing, Bad, Long, Deep, Rows, stored_by, told_rows, CountsFault}
use Rattle.kl_ask.specs.declared.ask.Ask.{Ask}
use Rattle.kl_ask.specs.declared.ask.DriverError.{DriverError}
use Rattle.kl_ask.specs.declared.ask.DriverError.TheVariants as error
use Rattle.kl_ask.proofs.Names.{not_same}
use Rattle.kl_ask.proofs.Worlds.{error_is}
use Rattle.kl_nested.specs.Contents.{contents_of, first_misfit, head_as, item_ty, stored_as, stored_in, stored_of, stored_unless}
use Rattle.kl_nested.specs.Desk.{IsDesk, IsKept}
use Rattle.kl_ask.specs.Named.{source_named}
use Rattle.kl_nested.specs.Nested.{Sources, Tells, attached_of, head_of, nested_state, read_as}
use Rattle.kl_ask.specs.Cursors.{open_at}
use Rattle.kl_nested.specs.Reading.{ReadsFile, Told}
use Rattle.kl_nested.specs.declared.parts.Source.{Source}
use Rattle.kl_nested.specs.declared.parts.Open.{Open}
use Rattle.kl_nested.specs.declared.through.Kept.{Kept}
use Rattle.kl_nested.proofs.Collections.{rows_typed}
use Rattle.kl_nested.proofs.Desks.{file_open}
use Rattle.kl_nested.proofs.Progress.{under}
use Rattle.kl_nested.proofs.Standings.{holds}
use Rattle.kl_nested.proofs.SameTypes.{stated_fits}

some_none : {T : Type 0} {x : T} → Some x ≡ None → ⊥
some_none h = cc

-- what stands at a path
abbrev at_path : ℕ → Tells → List ℕ → Ty → Option Stored
at_path limit told path ty = stored_by (contents_of limit told) path ty

not_missing : (limit : ℕ) (bytes : List ℕ) (item : Ty) → stored_in limit bytes item ≡ Missing → ⊥
not_missing limit bytes item is = by_head (states_no_other item (file_text limit bytes).head) (file_text limit bytes) refl is
  where
    by : (o : Option ℕ) (f : FileText) (end : FileEnd) → f.behind ≡ end → stored_unless limit o f ≡ Missing → ⊥
    by (Some p) f end at e = cc
    by None f WholeText at e = let k = rw at at e in cc
    by None f (BadAt p) at e = let k = rw at at e in cc
    by None f (TooDeepAt p) at e = let k = rw at at e in cc
    by None f PastLimit at e = let k = rw at at e in cc

    by_head : (b : Bool) (f : FileText) → states_no_other item f.head ≡ b → stored_as limit item f ≡ Missing → ⊥
    by_head true f fits e = by (first_misfit item f.items) f f.behind refl (let k = rw fits at e in k)
    by_head false f differs e = let k = rw differs at e in cc

module _ (limit : ℕ) (path : List ℕ) (ty : Ty) where
  -- either nothing is told, or the file is there and what was read of it stands in it
  abbrev Stands : Tells → Result Kept DriverError → Type 0
  Stands told result = (told ≡ None) ⊎ ((files : List ℕ → Option (List ℕ)) × (bytes : List ℕ) × (told ≡ Some files) × (files path ≡ Some bytes) × Told limit bytes (item_ty ty) result)

  stands : (f g : FilesState) (result : Result Kept DriverError) → (IsErrOf result error.Failed → ⊥) → ReadsFile limit path (item_ty ty) result f g → Stands f.told result
  stands f g result well reads = by f.told refl
    where
      at : (files : List ℕ → Option (List ℕ)) → f.told ≡ Some files → (o : Option (List ℕ)) → files path ≡ o → Stands f.told result
      at files told None is = absurd (well (reads.missing (files, told, is)).0)
      at files told (Some bytes) is = inr (files, bytes, told, is, reads.known bytes (files, told, is))

      by : (t : Tells) → f.told ≡ t → Stands f.told result
      by None is = inl is
      by (Some files) is = at files is (files path) refl

  stored_there : (told : Tells) (files : List ℕ → Option (List ℕ)) (bytes : List ℕ) → told ≡ Some files → files path ≡ Some bytes → at_path limit told path ty ≡ Some (stored_in limit bytes (item_ty ty))
  stored_there told files bytes is at = ap (λ t. at_path limit t path ty) is ∙ ap (λ o. Some (stored_of limit o ty)) at

  is_missing : (f : FilesState) → at_path limit f.told path ty ≡ Some Missing → IsMissing f path
  is_missing f is = by f.told refl
    where
      at : (o : Option (List ℕ)) → Some (stored_of limit o ty) ≡ Some Missing → o ≡ None
      at None e = refl
      at (Some bytes) e = absurd (not_missing limit bytes (item_ty ty) (same_Some _ _ e))

      by : (t : Tells) → f.told ≡ t → IsMissing f path
      by None none = let e : at_path limit f.told path ty ≡ None = ap (λ t. at_path limit t path ty) none in absurd (some_none (sym is ∙ e))
      by (Some files) told = (files, told, at (files path) (sym (ap (λ t. at_path limit t path ty) told) ∙ is))

  missing_at : (f : FilesState) → IsMissing f path → at_path limit f.told path ty ≡ Some Missing
  missing_at f is = ap (λ t. at_path limit t path ty) is.1 ∙ ap (λ o. Some (stored_of limit o ty)) is.2

  untold : (t : Tells) → t ≡ None → IsSome (contents_of limit t) → ⊥
  untold None is told = cc
  untold (Some files) is told = some_none is

  -- the cause of a refusal
  abbrev CauseOf : DriverError → Option Stored → FilesState → FilesState → ℕ → ℕ → Type 0
  CauseOf error.Failed at f g unread unread' = (at ≡ Some Missing) ⊎ Rose f.faults g.faults
  CauseOf (error.BadSource place) at f g unread unread' = (at ≡ Some (Bad place)) ⊎ ((f.told ≡ None) × Rose unread unread')
  CauseOf (error.TooLong most) at f g unread unread' = (at ≡ Some (Long most)) ⊎ ((f.told ≡ None) × Rose unread unread')
  CauseOf (error.TooDeep place) at f g unread unread' = (at ≡ Some (Deep place)) ⊎ ((f.told ≡ None) × Rose unread unread')
  CauseOf (error.Changed d) at f g unread unread' = ⊥
  CauseOf error.NoMemory at f g unread unread' = Unit {0}

  unread_cause : {A : Type 0} {P : Type 0} (f : FilesState) → P ⊎ ((f.told ≡ None) × A) → P ⊎ ((IsSome (contents_of limit f.told) → ⊥) × A)
  unread_cause f (inl p) = inl p
  unread_cause f (inr e) = inr (untold f.told e.0, e.1)

  -- ---- a file that was read through

  module _ (f g : FilesState) (kept : Kept) (reads : ReadsFile limit path (item_ty ty) (Ok kept) f g) where
    abbrev made : Source
    made = record { path = path; ty = ty; stated = kept.stated; bytes = kept.bytes; count = kept.count }

    stood : Stands f.told (Ok kept)
    stood = stands f g (Ok kept) (λ h. absurd cc) reads

    pub kept_so : IsKept limit f.told made
    kept_so = record {
      short = reads.small.0;
      few = reads.small.1;
      known = λ files is. by files is stood;
    }
      where
        by : (files : List ℕ → Option (List ℕ)) → f.told ≡ Some files → Stands f.told (Ok kept) → (bs : List ℕ) × (rows : List Value)
            × (files path ≡ Some bs) × (stored_in limit bs (item_ty ty) ≡ Rows rows) × (kept.count ≡ length rows) × (kept.bytes ≡ length bs) × (head_as (file_text limit bs).head ≡ head_of made)
        by files is (inl none) = absurd (some_none (sym is ∙ none))
        by files is (inr at) =
            let same : at.0 ≡ files = same_Some _ _ (sym at.2 ∙ is) in
            let fits = (holds limit at.1 (item_ty ty) at.4.0 at.4.1).2 in
            (at.1, at.4.0, ap (λ h. h path) (sym same) ∙ at.3, at.4.1, at.4.2, at.4.3, ap head_as (stated_fits (item_ty ty) (file_text limit at.1).head kept.stated at.4.4 fits))

  module _ (source : Name) (f g : FilesState) (sources : Sources) (cursors : List (Option Open)) (asked : List (Ask × ℕ)) (handed drifts : ℕ) where
    -- a refused `attach`
    refused : (e : DriverError) (unread unread' : ℕ) → IsDesk limit f sources cursors → g.told ≡ f.told → ((k : ℕ) → IsSome (f.left k) → seen_in g k ≡ seen_in f k) → f.faults ≤ g.faults
        → CountsFault {T = ℕ} (Err e) f.faults g.faults → unread ≤ unread' → CountsUnread (Err e) unread unread' → CauseOf e (at_path limit f.told path ty) f g unread unread'
        → (at_path limit f.told path ty ≡ Some Missing → (g.faults ≡ f.faults) × (unread' ≡ unread))
        → Attaches source path ty (Err e) (nested_state limit f sources cursors asked handed drifts unread) (nested_state limit g sources cursors asked handed drifts unread')
    refused e unread unread' desk told seen faults fault_counts more counts cause missing =
        subst (λ t. Attaches source path ty (Err e) (nested_state limit f sources cursors asked handed drifts unread) (nested_state limit (record { told = t; left = g.left; log = g.log; faults = g.faults }) sources cursors asked handed drifts unread')) (sym told) (record {
          keeps = record { kind = refl; handed = omega arith; faults = faults; drifts = omega arith; no_drift = λ is. refl; unread = more };
          cursors = refl;
          reading = λ k is. record { file = refl; read = under (open_at cursors k) _ _ (λ x at. ap (option_map read_as) (seen x.file (file_open limit f x (desk.reading k x at)))) };
          asked = refl;
          handed = refl;
          faults = fault_counts;
          drifts = refl;
          unread = counts;
          others = λ name ne. refl;
          attached = tt;
          kept = tt;
          count = tt;
          unique = λ is_unique is_set. tt;
          typed = tt;
          refused = refl;
          missing = λ is. (tt, (missing is).0, (missing is).1);
          bad = λ place is. tt;
          long = λ most is. tt;
          deep = λ place is. tt;
          failed = λ is. subst (λ e. CauseOf e (at_path limit f.told path ty) f g unread unread') (error_is is) cause;
          bad_source = λ place is. unread_cause f (subst (λ e. CauseOf e (at_path limit f.told path ty) f g unread unread') (error_is is) cause);
          too_long = λ most is. unread_cause f (subst (λ e. CauseOf e (at_path limit f.told path ty) f g unread unread') (error_is is) cause);
          too_deep = λ place is. unread_cause f (subst (λ e. CauseOf e (at_path limit f.told path ty) f g unread unread') (error_is is) cause);
          no_change = λ d is. subst (λ e. CauseOf e (at_path limit f.told path ty) f g unread unread') (error_is is) cause;
        })

    -- of a file that was read, or could not be
    module _ (unread : ℕ) (fits : unread < 2 ^ 64) (desk : IsDesk limit f sources cursors) where
      found_in : (e : DriverError) (why : Stored) → (IsErrOf {T = Kept} (Err e) error.Failed → ⊥) → ((bytes : List ℕ) → Told limit bytes (item_ty ty) (Err e) → stored_in limit bytes (item_ty ty) ≡ why) → ReadsFile limit path (item_ty ty) (Err e) f g
          → (at_path limit f.told path ty ≡ Some why) ⊎ ((f.told ≡ None) × Rose unread (raised_by 1 unread))
      found_in e why well is reads = elim (stands f g (Err e) well reads) [
        | inl none ↦ inr (none, omega (arith, fits))
        | inr at ↦ inl (stored_there f.told at.0 at.1 at.2 at.3 ∙ ap Some (is at.1 at.4))
      ]

      none_missing : (e : DriverError) → (IsErrOf {T = Kept} (Err e) error.Failed → ⊥) → ReadsFile limit path (item_ty ty) (Err e) f g → at_path limit f.told path ty ≡ Some Missing → ⊥
      none_missing e well reads is = well (reads.missing (is_missing f is)).0

      pub attach_refused : (e : DriverError) (unread' : ℕ) → ReadsFile limit path (item_ty ty) (Err e) f g → unread' ≡ unread_by e unread
          → Attaches source path ty (Err e) (nested_state limit f sources cursors asked handed drifts unread) (nested_state limit g sources cursors asked handed drifts unread')
      attach_refused e unread' reads counted = subst (λ n. Attaches source path ty (Err e) (nested_state limit f sources cursors asked handed drifts unread) (nested_state limit g sources cursors asked handed drifts n)) (sym counted) (by e reads)
        where
          by : (e : DriverError) → ReadsFile limit path (item_ty ty) (Err e) f g → Attaches source path ty (Err e) (nested_state limit f sources cursors asked handed drifts unread) (nested_state limit g sources cursors asked handed drifts (unread_by e unread))
          by error.Failed reads = refused error.Failed unread unread desk reads.told reads.open_seen reads.later reads.counts (omega arith) refl
              (elim (reads.failed refl) [ inl none ↦ inl (missing_at f none) | inr rose ↦ inr rose ]) (λ is. ((reads.missing (is_missing f is)).1, refl))
          by (error.BadSource place) reads = refused (error.BadSource place) unread (raised_by 1 unread) desk reads.told reads.open_seen reads.later reads.counts (omega (arith, fits)) (omega (arith, fits))
              (found_in (error.BadSource place) (Bad place) (λ h. absurd cc) (λ bytes is. is) reads) (λ is. absurd (none_missing (error.BadSource place) (λ h. absurd cc) reads is))
          by (error.TooLong most) reads = refused (error.TooLong most) unread (raised_by 1 unread) desk reads.told reads.open_seen reads.later reads.counts (omega (arith, fits)) (omega (arith, fits))
              (found_in (error.TooLong most) (Long most) (λ h. absurd cc) (λ bytes is. is) reads) (λ is. absurd (none_missing (error.TooLong most) (λ h. absurd cc) reads is))
          by (error.TooDeep place) reads = refused (error.TooDeep place) unread (raised_by 1 unread) desk reads.told reads.open_seen reads.later reads.counts (omega (arith, fits)) (omega (arith, fits))
              (found_in (error.TooDeep place) (Deep place) (λ h. absurd cc) (λ bytes is. is) reads) (λ is. absurd (none_missing (error.TooDeep place) (λ h. absurd cc) reads is))
          by (error.Changed d) reads = absurd (reads.no_change d refl)
          by error.NoMemory reads = refused error.NoMemory unread unread desk reads.told reads.open_seen reads.later reads.counts (omega arith) refl tt (λ is. absurd (none_missing error.NoMemory (λ h. absurd cc) reads is))

      -- it was read, and memory wanted then
      pub attach_stopped : (kept : Kept) → ReadsFile limit path (item_ty ty) (Ok kept) f g
          → Attaches source path ty (Err error.NoMemory) (nested_state limit f sources cursors asked handed drifts unread) (nested_state limit g sources cursors asked handed drifts unread)
      attach_stopped kept reads = refused error.NoMemory unread unread desk reads.told reads.open_seen reads.later reads.counts (omega arith) refl tt (λ is. let h = (reads.missing (is_missing f is)).0 in absurd cc)

    -- ---- a file that was read through

    module _ (kept : Kept) (reads : ReadsFile limit path (item_ty ty) (Ok kept) f g) where
      -- the rows that are told, if any
      told_all : (all : List Value) → at_path limit f.told path ty ≡ Some (Rows all) → (bs : List ℕ) × (stored_in limit bs (item_ty ty) ≡ Rows all) × (kept.count ≡ length all)
      told_all all is = elim (stood f g kept reads) [
        | inl none ↦ absurd (let e : at_path limit f.told path ty ≡ None = ap (λ t. at_path limit t path ty) none in some_none (sym is ∙ e))
        | inr at ↦ (let same : at.4.0 ≡ all = same_Some _ _ (ap told_rows (sym (stored_there f.told at.0 at.1 at.2 at.3 ∙ ap Some at.4.1) ∙ is)) in (at.1, at.4.1 ∙ ap Rows same, at.4.2 ∙ ap length same))
      ]

      -- nothing else is told
      no_other : (why : Stored) → ((all : List Value) → Rows all ≡ why → ⊥) → at_path limit f.told path ty ≡ Some why → ⊥
      no_other why other is = elim (stood f g kept reads) [
        | inl none ↦ (let e : at_path limit f.told path ty ≡ None = ap (λ t. at_path limit t path ty) none in some_none (sym is ∙ e))
        | inr at ↦ other at.4.0 (same_Some _ _ (sym (stored_there f.told at.0 at.1 at.2 at.3 ∙ ap Some at.4.1) ∙ is))
      ]

      pub attach_done : (unread : ℕ) (sources' : Sources) → IsDesk limit f sources cursors → Updates (pointwise nat_eq) sources sources' source (Some (made f g kept reads))
          → Attaches source path ty (Ok kept.count) (nested_state limit f sources cursors asked handed drifts unread) (nested_state limit g sources' cursors asked handed drifts unread)
      attach_done unread sources' desk added =
          let here : source_named sources' source ≡ Some (made f g kept reads) = added.0 source ∙ (let same = same_label source in rw same refl) in
          subst (λ t. Attaches source path ty (Ok kept.count) (nested_state limit f sources cursors asked handed drifts unread) (nested_state limit (record { told = t; left = g.left; log = g.log; faults = g.faults }) sources' cursors asked handed drifts unread)) (sym reads.told) (record {
            keeps = record { kind = refl; handed = omega arith; faults = reads.later; drifts = omega arith; no_drift = λ is. refl; unread = omega arith };
            cursors = refl;
            reading = λ k is. record { file = refl; read = under (open_at cursors k) _ _ (λ x at. ap (option_map read_as) (reads.open_seen x.file (file_open limit f x (desk.reading k x at)))) };
            asked = refl;
            handed = refl;
            faults = reads.counts;
            drifts = refl;
            unread = refl;
            others = λ name ne. ap (option_map (attached_of limit f.told)) (added.0 name ∙ (let other = not_same source name (λ e. ne (sym e)) in rw other refl));
            attached = (Some (record { bytes = kept.bytes; head = head_of (made f g kept reads) }), ap (option_map (attached_of limit f.told)) here);
            kept = λ anew s at. subst (λ (a : Attached). IsSome a.kept) (same_Some _ _ (sym (ap (option_map (attached_of limit f.told)) here) ∙ at)) refl;
            count = λ all is. (told_all all is).2;
            unique = λ is_unique is_set. absurd cc;
            typed = λ all is. let at = told_all all is in let h = holds limit at.0 (item_ty ty) all at.1 in rows_typed ty h.0.read all h.0.items h.1;
            refused = tt;
            missing = λ is. absurd (no_other Missing (λ all e. cc) is);
            bad = λ place is. no_other (Bad place) (λ all e. cc) is;
            long = λ most is. no_other (Long most) (λ all e. cc) is;
            deep = λ place is. no_other (Deep place) (λ all e. cc) is;
            failed = λ is. absurd cc;
            bad_source = λ place is. absurd cc;
            too_long = λ most is. absurd cc;
            too_deep = λ place is. absurd cc;
            no_change = λ d is. cc;
          })
