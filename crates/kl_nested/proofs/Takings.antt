-- The next rows of a source that was read so far.
use Rattle.std.proofs.Common.{◌≡◌, ◌≢◌, inl, inr, ℕ, ◌+◌, ◌<◌, ◌≤◌, true, false, List, [], ◌∷◌, ◌++◌, length, drop, Option, Some, None, IsErrOf, IsSome, Result, Ok, Err, refl, sym, ap, subst, ◌∙◌, arith, append_assoc, length-append}
use Rattle.std.proofs.lemmas.Bool.{false≢true}
use Rattle.std.proofs.lemmas.Option.{same_Some}
use Rattle.kl_value.specs.declared.Value.{Value}
use Rattle.kl_type.specs.Has.{has_type}
use Rattle.kl_type.specs.declared.ground.Ty.{Ty}
use Rattle.kl_outside.specs.Files.{FilesState, left_at_first, seen_in}
use Rattle.kl_exchange.specs.FileItems.{FileEnd, WholeText, BadAt, TooDeepAt, PastLimit}
use Rattle.kl_exchange.specs.FileReading.{Left}
use Rattle.kl_exchange.specs.declared.error.FileError.{FileError}
use Rattle.kl_exchange.specs.declared.error.FileError.TheVariants as fault
use Rattle.kl_heads.specs.FileReading.{AsSeen, EndsSo, HasRead, HeadedFile, NextItem, Stands, limit_of, place_of}
use Rattle.kl_heads.specs.Files.{Shows}
use Rattle.kl_heads.specs.Found.{file_text}
use Rattle.kl_ask.specs.Driver.{CountsFault, Rows, rows_in}
use Rattle.kl_ask.specs.declared.ask.Drift.TheVariants as drift
use Rattle.kl_ask.specs.declared.ask.DriverError.{DriverError}
use Rattle.kl_ask.specs.declared.ask.DriverError.TheVariants as error
use Rattle.kl_nested.specs.Contents.{head_as, item_ty, stored_of}
use Rattle.kl_nested.specs.Desk.{HasReadOf, HasTaken, IsKept}
use Rattle.kl_nested.specs.Handing.{AllHave, HasBytes, MeetsEnd, Pushes, ReadsOne, Refuses, TakesRow, changed_as, unread_as}
use Rattle.kl_nested.specs.Nested.{Tells, rows_at, stated_of}
use Rattle.kl_nested.specs.Reading.{NextRow, RowOf, SaysWhether, SkipsRow}
use Rattle.kl_nested.specs.declared.parts.Source.{Source}
use Rattle.kl_nested.specs.declared.rows.Halt.{Halt}
use Rattle.kl_nested.specs.declared.rows.Halt.TheVariants as halt
use Rattle.kl_nested.proofs.Collections.{last_typed}
use Rattle.kl_heads.proofs.OneEnd.{one_text}
use Rattle.kl_heads.proofs.Shown.{first_shown}
use Rattle.kl_nested.proofs.Shown.{all_shown, bytes_shown, fewer_shown, misfit_shown, more_shown, past_shown, read_to_end, unread_shown}
use Rattle.kl_nested.proofs.Standings.{holds}

-- ---- lists

drop_front : {T : Type 0} (xs ys : List T) → drop (length xs) (xs ++ ys) ≡ ys
drop_front [] ys = refl
drop_front (x ∷ xs) ys = drop_front xs ys

have_at : (t : Ty) (vs : List Value) (v : Value) (us : List Value) → AllHave t (vs ++ v ∷ us) → has_type v t ≡ true
have_at t [] v us h = h.0
have_at t (w ∷ vs) v us h = have_at t vs v us h.1

-- ---- heads

-- a head is known by how it is told
pub same_head : (a b : Option Ty) → head_as a ≡ head_as b → a ≡ b
same_head None None h = refl
same_head (Some t) (Some u) h = cc
same_head None (Some u) h = absurd cc
same_head (Some t) None h = absurd cc

-- behind the head
pub behind_head : (s : Source) (values : List Value) (now : HeadedFile) (first left : Left) → now.front ≡ false → HasReadOf s values now first left → HasRead first (stated_of s) values now left
behind_head s values now first left known (inl opened) = absurd (false≢true (sym known ∙ opened.1.unknown))
behind_head s values now first left known (inr has) = has

-- ---- what is told of a source

-- the rows of a source that is as it was kept
pub record Knows (limit : ℕ) (told : Tells) (s : Source) (all : List Value) : Type 0 where
  pub bytes : List ℕ
  pub first : Some (left_at_first told s.path) ≡ Some (Some bytes)
  pub shows : Shows limit bytes (stated_of s) all WholeText
  pub have : AllHave (item_ty s.ty) all
  pub count : s.count ≡ length all
  pub size : s.bytes ≡ length bytes
  pub rows : rows_at limit told s ≡ Some all

module _ (limit : ℕ) (told : Tells) (s : Source) (kept : IsKept limit told s) where
  knows_so : (files : List ℕ → Option (List ℕ)) → told ≡ Some files → (all : List Value) × Knows limit told s all
  knows_so files is =
      let k = kept.known files is in
      let h = holds limit k.0 (item_ty s.ty) k.1 k.3 in
      let stored : stored_of limit (files s.path) s.ty ≡ Rows k.1 = ap (λ o. stored_of limit o s.ty) k.2 ∙ k.3 in (
        k.1,
        record {
          bytes = k.0;
          first = ap Some (ap (λ t. left_at_first t s.path) is ∙ k.2);
          shows = subst (λ o. Shows limit k.0 o k.1 WholeText) (same_head (file_text limit k.0).head (stated_of s) k.6) h.0;
          have = h.1;
          count = k.4;
          size = k.5;
          rows = ap (λ t. rows_at limit t s) is ∙ ap rows_in stored;
        },
      )

  pub knows : (all : List Value) → rows_at limit told s ≡ Some all → Knows limit told s all
  knows all is = by told refl
    where
      by : (t : Tells) → told ≡ t → Knows limit told s all
      by None none = absurd (let k = rw none at is in cc)
      by (Some files) some = let k = knows_so files some in subst (Knows limit told s) (same_Some _ _ (sym k.1.rows ∙ is)) k.1

  -- what is told rules it out
  pub untold : ((all : List Value) → Knows limit told s all → ⊥) → told ≡ None
  untold never = by told refl
    where
      by : (t : Tells) → told ≡ t → told ≡ None
      by None none = none
      by (Some files) some = let k = knows_so files some in absurd (never k.0 k.1)

-- ---- one read

module _ (limit : ℕ) (s : Source) (taken : ℕ) (now then : HeadedFile) (f f' : FilesState) (kept : IsKept limit f.told s) (so_far : HasTaken limit s taken now f) (behind : now.front ≡ false) where
  module _ (found : Result (Option Value) FileError) (next : NextItem found now then f f') where
    pub reads_one : ReadsOne now then f f'
    reads_one = record {
      told = next.leaves.told;
      others = next.leaves.others;
      is_open = next.leaves.is_open;
      others_seen = next.leaves.others_seen;
      more = next.leaves.more;
      later = next.leaves.later;
      same_file = next.same.file;
    }

    -- no read failed
    pub well_read : (r : Result (Option Value) FileError) → found ≡ r → (IsErrOf r fault.Read → ⊥) → f'.faults ≡ f.faults
    well_read r is well = next.leaves.well (subst (λ r. IsErrOf r fault.Read → ⊥) (sym is) well)

    -- as it stands in what was read
    as_seen : (r : Result (Option Value) FileError) → found ≡ r → AsSeen (λ first left. Stands first (stated_of s) so_far.values r then left) then (seen_in f' now.items.file)
    as_seen r is = subst (λ r. AsSeen (λ first left. Stands first (stated_of s) so_far.values r then left) then (seen_in f' now.items.file)) is
        (next.sees (stated_of s) so_far.values (λ q e. let h = so_far.has_seen q e in (behind_head s so_far.values now (Some (Some q.bytes)) (Some (Some [])) behind h.0, h.1)))

    abbrev first : Left
    first = Some (left_at_first f.told s.path)

    stands : (r : Result (Option Value) FileError) → found ≡ r → Stands first (stated_of s) so_far.values r then (f'.left now.items.file)
    stands r is = subst (λ r. Stands first (stated_of s) so_far.values r then (f'.left now.items.file)) is
        (next.goes first (stated_of s) so_far.values (behind_head s so_far.values now first (f.left now.items.file) behind so_far.has_read))

    limit_on : limit_of then ≡ limit
    limit_on = next.same.limit ∙ so_far.same_limit

    -- the reader after it
    has_taken : (n : ℕ) (values : List Value) → n ≡ length values → HasRead first (stated_of s) values then (f'.left now.items.file)
        → AsSeen (λ first left. HasRead first (stated_of s) values then left) then (seen_in f' now.items.file) → HasTaken limit s n then f'
    has_taken n values counted read seen = record {
      values = values;
      has_seen = subst (λ k. AsSeen (HasReadOf s values then) then (seen_in f' k)) (sym next.same.file) (λ q e. let h = seen q e in (inr h.0, h.1));
      has_read =
          subst (λ k. HasReadOf s values then (Some (left_at_first f'.told s.path)) (f'.left k)) (sym next.same.file)
          (subst (λ t. HasReadOf s values then (Some (left_at_first t s.path)) (f'.left now.items.file)) (sym next.leaves.told) (inr read));
      is_open = subst (λ k. IsSome (f'.left k)) (sym next.same.file) next.leaves.is_open;
      counted = counted;
      same_limit = limit_on;
    }

    pub one_more : (v : Value) → found ≡ Ok (Some v) → HasTaken limit s (taken + 1) then f'
    one_more v is =
        has_taken (taken + 1) (so_far.values ++ v ∷ []) (let a = so_far.counted in let b : length (so_far.values ++ v ∷ []) ≡ length so_far.values + 1 = length-append so_far.values (v ∷ []) in omega arith)
        (stands (Ok (Some v)) is) (as_seen (Ok (Some v)) is)

    -- it is the next one of those that are told
    the_next : (v : Value) → found ≡ Ok (Some v) → (all : List Value) → Knows limit f.told s all → (us : List Value) × (all ≡ so_far.values ++ v ∷ us)
    the_next v is all k =
        let shows : Shows (limit_of then) k.bytes (stated_of s) all WholeText = subst (λ n. Shows n k.bytes (stated_of s) all WholeText) (sym limit_on) k.shows in
        let front = (first_shown first (stated_of s) (stated_of s) (so_far.values ++ v ∷ []) all then (f'.left now.items.file) k.bytes WholeText (stands (Ok (Some v)) is) k.first shows) in
        (front.1.0, front.1.1 ∙ append_assoc so_far.values (v ∷ []) front.1.0)

    pub next_told : (v : Value) → found ≡ Ok (Some v) → (all : List Value) → rows_at limit f.told s ≡ Some all → drop taken all ≡ v ∷ drop (taken + 1) all
    next_told v is all rows =
        let at = the_next v is all (knows limit f.told s kept all rows) in
        let here : drop taken all ≡ v ∷ at.0 = (λ i. drop (so_far.counted i) (at.1 i)) ∙ drop_front so_far.values (v ∷ at.0) in
        let more : taken + 1 ≡ length (so_far.values ++ v ∷ []) = let a = so_far.counted in let b : length (so_far.values ++ v ∷ []) ≡ length so_far.values + 1 = length-append so_far.values (v ∷ []) in omega arith in
        let behind : drop (taken + 1) all ≡ at.0 = (λ i. drop (more i) ((at.1 ∙ sym (append_assoc so_far.values (v ∷ []) at.0)) i)) ∙ drop_front (so_far.values ++ v ∷ []) at.0 in
        here ∙ ap (λ us. v ∷ us) (sym behind)

    -- ---- changes, which what is told rules out

    pub misfit_untold : (v : Value) → found ≡ Ok (Some v) → has_type v (item_ty s.ty) ≡ false → f.told ≡ None
    misfit_untold v is lacks = untold limit f.told s kept (λ all k.
        let at = the_next v is all k in
        let has = have_at (item_ty s.ty) so_far.values v at.0 (subst (AllHave (item_ty s.ty)) at.1 k.have) in
        let differs : false ≡ true = sym lacks ∙ has in
        cc)

    pub more_untold : (v : Value) → found ≡ Ok (Some v) → s.count ≤ taken → f.told ≡ None
    more_untold v is past = untold limit f.told s kept (λ all k.
        let at = the_next v is all k in
        let size : length all ≡ length so_far.values + length (v ∷ at.0) = ap length at.1 ∙ length-append so_far.values (v ∷ at.0) in
        let a = so_far.counted in
        let b = k.count in
        omega arith)

    one_end : (end : FileEnd) → EndsSo first (stated_of s) so_far.values end then → (all : List Value) → Knows limit f.told s all → (so_far.values ≡ all) × (end ≡ WholeText)
    one_end end so all k =
        let one = one_text limit k.bytes (stated_of s) (stated_of s) so_far.values all end WholeText (subst (λ n. Shows n k.bytes (stated_of s) so_far.values end) limit_on (so k.bytes k.first).0) k.shows in
        one.1

    pub fewer_untold : found ≡ Ok None → taken < s.count → f.told ≡ None
    fewer_untold is less = untold limit f.told s kept (λ all k.
        let one = one_end WholeText (stands (Ok None) is).1 all k in
        let size : length so_far.values ≡ length all = ap length one.0 in
        let a = so_far.counted in
        let b = k.count in
        omega arith)

    pub size_untold : (size : ℕ) → found ≡ Ok None → then.items.text.finished ≡ true → size ≡ place_of then + length then.items.text.left → size ≢ s.bytes → f.told ≡ None
    size_untold size is finished total other = untold limit f.told s kept (λ all k.
        let a = read_to_end k.bytes (stated_of s) so_far.values then (f'.left now.items.file) (subst (λ l. HasRead l (stated_of s) so_far.values then (f'.left now.items.file)) k.first (stands (Ok None) is).0) finished in
        other (total ∙ sym a ∙ sym k.size))

    pub ended : found ≡ Ok None → HasTaken limit s taken then f'
    ended is = has_taken taken so_far.values so_far.counted (stands (Ok None) is).0 (λ q e. let h = as_seen (Ok None) is q e in (h.0.0, h.1))

    not_whole : (end : FileEnd) → EndsSo first (stated_of s) so_far.values end then → (end ≡ WholeText → ⊥) → f.told ≡ None
    not_whole end so other = untold limit f.told s kept (λ all k. other (one_end end so all k).1)

    pub unread_refuses : (n : ℕ) (e : FileError) → found ≡ Err e → Refuses limit s now.items.file n (unread_as limit s.bytes e) f f'
    unread_refuses n (fault.Bad p) is = (
      not_whole (BadAt p) (stands (Err (fault.Bad p)) is).1 (λ e. cc),
      tt,
      unread_shown limit s then (seen_in f' now.items.file) (stated_of s) so_far.values (BadAt p) p refl (λ bytes h. h) limit_on (λ q e. let h = as_seen (Err (fault.Bad p)) is q e in (h.0.1, h.1)),
    )
    unread_refuses n (fault.TooDeep p) is = (
      not_whole (TooDeepAt p) (stands (Err (fault.TooDeep p)) is).1 (λ e. cc),
      tt,
      unread_shown limit s then (seen_in f' now.items.file) (stated_of s) so_far.values (TooDeepAt p) p refl (λ bytes h. h) limit_on (λ q e. let h = as_seen (Err (fault.TooDeep p)) is q e in (h.0.1, h.1)),
    )
    unread_refuses n fault.TooLong is = (
      not_whole PastLimit (stands (Err fault.TooLong) is).1 (λ e. cc),
      (refl, (λ e. let a = kept.short in omega (arith, a, e)), inl refl),
      past_shown limit s then (seen_in f' now.items.file) (stated_of s) so_far.values limit_on (λ q e. let h = as_seen (Err fault.TooLong) is q e in (h.0.1, h.1)),
    )
    unread_refuses n fault.Read is = next.leaves.failed (rw is refl)
    unread_refuses n fault.NoMemory is = tt

    -- the count of faults with what is told of a file that was not read
    pub unread_counts : (e : FileError) → found ≡ Err e → CountsFault {T = Unit {0}} (Err (unread_as limit s.bytes e)) f.faults f'.faults
    unread_counts (fault.Bad p) is = well_read (Err (fault.Bad p)) is (λ e. cc)
    unread_counts (fault.TooDeep p) is = well_read (Err (fault.TooDeep p)) is (λ e. cc)
    unread_counts fault.TooLong is = well_read (Err fault.TooLong) is (λ e. cc)
    unread_counts fault.Read is = next.leaves.later
    unread_counts fault.NoMemory is = well_read (Err fault.NoMemory) is (λ e. cc)

  -- ---- the next row

  module _ (into into' : List Value) where
    took : (v : Value) → NextRow (item_ty s.ty) (Ok (Some v)) now then f f' → into' ≡ into ++ v ∷ [] → TakesRow limit s taken into into' (Ok tt) now then f f'
    took v n appended = by n.found n.next n.row
      where
        by : (r : Result (Option Value) FileError) → NextItem r now then f f' → RowOf (item_ty s.ty) r (Ok (Some v)) then → TakesRow limit s taken into into' (Ok tt) now then f f'
        by (Ok (Some w)) next row = record {
          reads = reads_one (Ok (Some w)) next;
          row = (
            w,
            record {
              appended = appended ∙ ap (λ x. into ++ x ∷ []) row.0;
              typed = (last_typed s.ty _ so_far.values w (stands (Ok (Some w)) next (Ok (Some w)) refl).items.items row.1, tt);
              next = next_told (Ok (Some w)) next w refl;
            },
            one_more (Ok (Some w)) next w refl,
          );
          behind = (stands (Ok (Some w)) next (Ok (Some w)) refl).known;
          same = tt;
          counts = well_read (Ok (Some w)) next (Ok (Some w)) refl (λ e. cc);
          cause = λ e is. absurd cc;
        }
        by (Ok None) next row = absurd row
        by (Err e) next row = absurd row

    item_counts : (r : Result (Option Value) FileError) (v : Value) → NextItem r now then f f' → RowOf (item_ty s.ty) r (Ok (Some v)) then → f'.faults ≡ f.faults
    item_counts (Ok (Some w)) v next row = well_read (Ok (Some w)) next (Ok (Some w)) refl (λ e. cc)
    item_counts (Ok None) v next row = absurd row
    item_counts (Err e) v next row = absurd row

    no_room : (v : Value) → NextRow (item_ty s.ty) (Ok (Some v)) now then f f' → into' ≡ into → TakesRow limit s taken into into' (Err error.NoMemory) now then f f'
    no_room v n same = record { reads = reads_one n.found n.next; row = tt; behind = tt; same = same; counts = item_counts n.found v n.next n.row; cause = λ e is. let k : e ≡ error.NoMemory = cc in subst (λ e. Refuses limit s now.items.file taken e f f') (sym k) tt }

    pub pushed : (v : Value) (result : Result (Unit {0}) DriverError) → NextRow (item_ty s.ty) (Ok (Some v)) now then f f' → Pushes v into into' result → TakesRow limit s taken into into' result now then f f'
    pushed v (Ok done) n pushes = took v n pushes
    pushed v (Err e) n pushes = subst (λ e. TakesRow limit s taken into into' (Err e) now then f f') (sym pushes.1) (no_room v n pushes.0)

    pub fewer : NextRow (item_ty s.ty) (Ok None) now then f f' → into' ≡ into → taken < s.count → TakesRow limit s taken into into' (Err (error.Changed (drift.Count s.count taken))) now then f f'
    fewer n same less = by n.found n.next n.row
      where
        by : (r : Result (Option Value) FileError) → NextItem r now then f f' → RowOf (item_ty s.ty) r (Ok None) then → TakesRow limit s taken into into' (Err (error.Changed (drift.Count s.count taken))) now then f f'
        by (Ok None) next row = record {
          reads = reads_one (Ok None) next;
          row = tt;
          behind = tt;
          same = same;
          counts = well_read (Ok None) next (Ok None) refl (λ e. cc);
          cause = λ e is.
              let k : error.Changed (drift.Count s.count taken) ≡ e = cc in
              subst (λ e. Refuses limit s now.items.file taken e f f') k (
                fewer_untold (Ok None) next refl less,
                (refl, refl, λ e. omega (arith, e, less)),
                fewer_shown limit s then (seen_in f' now.items.file) so_far.values (limit_on (Ok None) next) (as_seen (Ok None) next (Ok None) refl) row taken so_far.counted,
              );
        }
        by (Ok (Some v)) next row = absurd row
        by (Err e) next row = absurd row

    pub halted : (h : Halt) (e : DriverError) → NextRow (item_ty s.ty) (Err h) now then f f' → into' ≡ into → taken < s.count → e ≡ changed_as limit s.bytes taken h → TakesRow limit s taken into into' (Err e) now then f f'
    halted h e n same less is = record {
      reads = reads_one n.found n.next;
      row = tt;
      behind = tt;
      same = same;
      counts = subst (λ d. CountsFault {T = Unit {0}} (Err d) f.faults f'.faults) (sym is) (counts n.found h n.next n.row);
      cause = λ d at. let k : d ≡ changed_as limit s.bytes taken h = let j : d ≡ e = cc in j ∙ is in subst (λ d. Refuses limit s now.items.file taken d f f') (sym k) (by n.found h n.next n.row);
    }
      where
        counts : (r : Result (Option Value) FileError) (h : Halt) → NextItem r now then f f' → RowOf (item_ty s.ty) r (Err h) then → CountsFault {T = Unit {0}} (Err (changed_as limit s.bytes taken h)) f.faults f'.faults
        counts (Ok (Some v)) halt.Misfit next row = well_read (Ok (Some v)) next (Ok (Some v)) refl (λ e. cc)
        counts (Ok (Some v)) (halt.Unread why) next row = absurd row
        counts (Ok None) halt.Misfit next row = absurd row
        counts (Ok None) (halt.Unread why) next row = absurd row
        counts (Err e) halt.Misfit next row = absurd row
        counts (Err e) (halt.Unread why) next row = subst (λ w. CountsFault {T = Unit {0}} (Err (unread_as limit s.bytes w)) f.faults f'.faults) (sym row) (unread_counts (Err e) next e refl)

        by : (r : Result (Option Value) FileError) (h : Halt) → NextItem r now then f f' → RowOf (item_ty s.ty) r (Err h) then → Refuses limit s now.items.file taken (changed_as limit s.bytes taken h) f f'
        by (Ok (Some v)) halt.Misfit next row = (
          misfit_untold (Ok (Some v)) next v refl row,
          (refl, less),
          misfit_shown limit s then (seen_in f' now.items.file) so_far.values (limit_on (Ok (Some v)) next) v taken so_far.counted (as_seen (Ok (Some v)) next (Ok (Some v)) refl) row,
        )
        by (Ok (Some v)) (halt.Unread why) next row = absurd row
        by (Ok None) halt.Misfit next row = absurd row
        by (Ok None) (halt.Unread why) next row = absurd row
        by (Err e) halt.Misfit next row = absurd row
        by (Err e) (halt.Unread why) next row = subst (λ w. Refuses limit s now.items.file taken (unread_as limit s.bytes w) f f') (sym row) (unread_refuses (Err e) next taken e refl)

-- ---- the end

module _ (limit : ℕ) (s : Source) (now then : HeadedFile) (f f' : FilesState) (kept : IsKept limit f.told s) (so_far : HasTaken limit s s.count now f) (behind : now.front ≡ false) where
  met : (r : Result (Option Value) FileError) (e : DriverError) → NextItem r now then f f' → CountsFault {T = Unit {0}} (Err e) f.faults f'.faults → Refuses limit s now.items.file (s.count + 1) e f f'
      → MeetsEnd limit s (Err e) now then f f'
  met r e next counts cause = record {
    reads = reads_one limit s s.count now then f f' kept so_far behind r next;
    taken = tt;
    all = tt;
    counts = counts;
    cause = λ d is. let k : e ≡ d = cc in subst (λ d. Refuses limit s now.items.file (s.count + 1) d f f') k cause;
  }

  abbrev one_more_counted : DriverError
  one_more_counted = error.Changed (drift.Count s.count (s.count + 1))

  meets_item : (v : Value) → NextItem (Ok (Some v)) now then f f' → MeetsEnd limit s (Err one_more_counted) now then f f'
  meets_item v next = met (Ok (Some v)) one_more_counted next (well_read limit s s.count now then f f' kept so_far behind (Ok (Some v)) next (Ok (Some v)) refl (λ e. cc)) (
    more_untold limit s s.count now then f f' kept so_far behind (Ok (Some v)) next v refl (omega arith),
    (refl, refl, λ e. omega (arith, e)),
    more_shown limit s then (seen_in f' now.items.file) so_far.values (limit_on limit s s.count now then f f' kept so_far behind (Ok (Some v)) next) v so_far.counted (as_seen limit s s.count now then f f' kept so_far behind (Ok (Some v)) next (Ok (Some v)) refl),
  )

  row_met : (v : Value) → NextRow (item_ty s.ty) (Ok (Some v)) now then f f' → MeetsEnd limit s (Err one_more_counted) now then f f'
  row_met v n = by n.found n.next n.row
    where
      by : (r : Result (Option Value) FileError) → NextItem r now then f f' → RowOf (item_ty s.ty) r (Ok (Some v)) then → MeetsEnd limit s (Err one_more_counted) now then f f'
      by (Ok (Some w)) next row = meets_item w next
      by (Ok None) next row = absurd row
      by (Err e) next row = absurd row

  -- one row more
  pub meets_more : SkipsRow (item_ty s.ty) (Ok true) now then f f' → MeetsEnd limit s (Err one_more_counted) now then f f'
  meets_more skips = by skips.row skips.next skips.says
    where
      by : (r : Result (Option Value) Halt) → NextRow (item_ty s.ty) r now then f f' → SaysWhether r (Ok true) → MeetsEnd limit s (Err one_more_counted) now then f f'
      by (Ok (Some v)) n says = row_met v n
      by (Ok None) n says = absurd cc
      by (Err h) n says = absurd says

  halt_met : (h : Halt) → NextRow (item_ty s.ty) (Err h) now then f f' → (r : Result (Option Value) FileError) → NextItem r now then f f' → RowOf (item_ty s.ty) r (Err h) then
      → (h ≡ halt.Misfit → MeetsEnd limit s (Err one_more_counted) now then f f') × ((e : FileError) → h ≡ halt.Unread e → MeetsEnd limit s (Err (unread_as limit s.bytes e)) now then f f')
  halt_met halt.Misfit n (Ok (Some v)) next row = (λ is. meets_item v next, λ e is. absurd cc)
  halt_met (halt.Unread why) n (Ok (Some v)) next row = absurd row
  halt_met halt.Misfit n (Ok None) next row = absurd row
  halt_met (halt.Unread why) n (Ok None) next row = absurd row
  halt_met halt.Misfit n (Err e) next row = absurd row
  halt_met (halt.Unread why) n (Err e) next row = (
    λ is. absurd cc,
    λ d is.
        let same : e ≡ d = sym row ∙ (let k : why ≡ d = cc in k) in
        subst (λ d. MeetsEnd limit s (Err (unread_as limit s.bytes d)) now then f f') same (met (Err e) (unread_as limit s.bytes e) next (unread_counts limit s s.count now then f f' kept so_far behind (Err e) next e refl) (unread_refuses limit s s.count now then f f' kept so_far behind (Err e) next (s.count + 1) e refl)),
  )

  skip_halted : (h : Halt) → SkipsRow (item_ty s.ty) (Err h) now then f f'
      → (h ≡ halt.Misfit → MeetsEnd limit s (Err one_more_counted) now then f f') × ((e : FileError) → h ≡ halt.Unread e → MeetsEnd limit s (Err (unread_as limit s.bytes e)) now then f f')
  skip_halted h skips = by skips.row skips.next skips.says
    where
      Halts : Halt → Type 0
      Halts h = (h ≡ halt.Misfit → MeetsEnd limit s (Err one_more_counted) now then f f') × ((e : FileError) → h ≡ halt.Unread e → MeetsEnd limit s (Err (unread_as limit s.bytes e)) now then f f')

      by : (r : Result (Option Value) Halt) → NextRow (item_ty s.ty) r now then f f' → SaysWhether r (Err h) → Halts h
      by (Ok (Some v)) n says = absurd says
      by (Ok None) n says = absurd says
      by (Err why) n says = subst Halts (sym says) (halt_met why n n.found n.next n.row)

  -- one item more, which lacks the type
  pub meets_misfit : SkipsRow (item_ty s.ty) (Err halt.Misfit) now then f f' → MeetsEnd limit s (Err one_more_counted) now then f f'
  meets_misfit skips = (skip_halted halt.Misfit skips).0 refl

  pub meets_fault : (e : FileError) (d : DriverError) → SkipsRow (item_ty s.ty) (Err (halt.Unread e)) now then f f' → d ≡ unread_as limit s.bytes e → MeetsEnd limit s (Err d) now then f f'
  meets_fault e d skips is = subst (λ d. MeetsEnd limit s (Err d) now then f f') (sym is) ((skip_halted (halt.Unread e) skips).1 e refl)

  -- the end, with these bytes
  pub meets_end : (result : Result (Unit {0}) DriverError) (size : ℕ) → SkipsRow (item_ty s.ty) (Ok false) now then f f' → size ≡ place_of then + length then.items.text.left → HasBytes s.bytes size result
      → MeetsEnd limit s result now then f f'
  meets_end result size skips total has = by skips.row skips.next skips.says
    where
      Met : Result (Unit {0}) DriverError → Type 0
      Met result = MeetsEnd limit s result now then f f'

      well_so : NextItem (Ok None) now then f f' → f'.faults ≡ f.faults
      well_so next = well_read limit s s.count now then f f' kept so_far behind (Ok None) next (Ok None) refl (λ e. cc)

      seen_so : NextItem (Ok None) now then f f' → AsSeen (λ first left. HasRead first (stated_of s) so_far.values then left × EndsSo first (stated_of s) so_far.values WholeText then) then (seen_in f' now.items.file)
      seen_so next = as_seen limit s s.count now then f f' kept so_far behind (Ok None) next (Ok None) refl

      at : (result : Result (Unit {0}) DriverError) → NextItem (Ok None) now then f f' → then.items.text.finished ≡ true → HasBytes s.bytes size result → Met result
      at (Ok done) next finished has = record {
        reads = reads_one limit s s.count now then f f' kept so_far behind (Ok None) next;
        taken = ended limit s s.count now then f f' kept so_far behind (Ok None) next refl;
        all = all_shown limit s then (seen_in f' now.items.file) so_far.values (limit_on limit s s.count now then f f' kept so_far behind (Ok None) next) (seen_so next) finished size so_far.counted total has;
        counts = well_so next;
        cause = λ e is. absurd cc;
      }
      at (Err e) next finished has = subst (λ e. Met (Err e)) (sym has.0)
          (met (Ok None) (error.Changed (drift.Bytes s.bytes size)) next (well_so next) (
            size_untold limit s s.count now then f f' kept so_far behind (Ok None) next size refl finished total has.1,
            (refl, has.1, inr refl),
            bytes_shown limit s then (seen_in f' now.items.file) so_far.values (limit_on limit s s.count now then f f' kept so_far behind (Ok None) next) (seen_so next) finished size so_far.counted total,
          ))

      item : (r : Result (Option Value) FileError) → NextItem r now then f f' → RowOf (item_ty s.ty) r (Ok None) then → Met result
      item (Ok None) next row = at result next row has
      item (Ok (Some v)) next row = absurd row
      item (Err e) next row = absurd row

      by : (r : Result (Option Value) Halt) → NextRow (item_ty s.ty) r now then f f' → SaysWhether r (Ok false) → Met result
      by (Ok None) n says = item n.found n.next n.row
      by (Ok (Some v)) n says = absurd cc
      by (Err h) n says = absurd says
