-- The calls of a driver, step by step.
use Rattle.std.proofs.Common.{◌≡◌, ◌≢◌, ◌<◌, ◌≤◌, ◌^◌, ℕ, true, false, List, Option, Some, None, IsSome, Result, Ok, Err, length, slice_get, refl, sym, ap, subst, ◌∙◌, nat_lt}
use Rattle.std.specs.HashMap.{IsUnchanged}
use Rattle.std.specs.Option.{option_map}
use Rattle.std.proofs.Math.Path.{fun_ext}
use Rattle.std.proofs.lemmas.Option.{same_Some}
use Rattle.kl_value.specs.declared.Value.{Value}
use Rattle.kl_type.specs.declared.ground.Ty.{Ty}
use Rattle.kl_outside.specs.Files.{FilesState, Closes, OtherFiles, OtherSeen}
use Rattle.kl_outcome.specs.Outcome.{Name}
use Rattle.kl_ask.specs.Asked.{raised_by, unread_by, with_ask}
use Rattle.kl_ask.specs.Cursors.{open_at}
use Rattle.kl_ask.specs.Driver.{Attaches, CanStart, Finishes, Pulls, Starts, State}
use Rattle.kl_ask.specs.declared.ask.Ask.{Ask}
use Rattle.kl_ask.specs.declared.ask.Ask.TheVariants as asks
use Rattle.kl_ask.specs.declared.ask.DriverError.{DriverError}
use Rattle.kl_ask.specs.declared.ask.DriverError.TheVariants as error
use Rattle.kl_ask.proofs.Opened.{added_now, changed_now, changed_others, some_of, unseen}
use Rattle.kl_nested.specs.Closing.{ClosesOpen, drifts_by}
use Rattle.kl_nested.specs.Contents.{item_ty}
use Rattle.kl_nested.specs.Desk.{HasTaken, IsDesk, IsKept}
use Rattle.kl_nested.specs.Handing.{HandsAt}
use Rattle.kl_ask.specs.Named.{asked_source, source_named}
use Rattle.kl_nested.specs.Nested.{Sources, attached_of, nested_state}
use Rattle.kl_nested.specs.Opening.{OpensAsked}
use Rattle.kl_nested.specs.Reading.{Adds, AttachesFile, ReadsFile}
use Rattle.kl_nested.specs.declared.parts.Source.{Source}
use Rattle.kl_nested.specs.declared.parts.Open.{Open}
use Rattle.kl_nested.specs.declared.through.Kept.{Kept}
use Rattle.kl_nested.proofs.Attaching.{attach_done, attach_refused, attach_stopped, kept_so}
use Rattle.kl_nested.proofs.Desks.{desk_attached, desk_closed, desk_opened, desk_pulled, desk_same, file_open}
use Rattle.kl_nested.proofs.Handings.{kept_on}
use Rattle.kl_nested.proofs.Pulling.{finish_done, pull_done, pull_refused}
use Rattle.kl_nested.proofs.Starting.{start_done, start_refused, start_uncounted}

abbrev Cursors : Type 0
Cursors = List (Option Open)

some_open : {C D : Type 0} (seen : C → D) (o : Option C) → IsSome (option_map seen o) → IsSome o
some_open seen (Some x) h = refl
some_open seen None h = absurd cc

pub is_there : {C D : Type 0} (seen : C → D) (o : Option C) → IsSome (option_map seen o) → IsSome o
is_there seen o h = some_open seen o h

same_named : (sources sources' : Sources) → IsUnchanged sources sources' → (name : Name) → source_named sources' name ≡ source_named sources name
same_named sources sources' same name = rw same refl

-- ---- the desk

module _ (limit : ℕ) (f : FilesState) (sources : Sources) (cursors : Cursors) where
  module _ (g : FilesState) (sources' : Sources) (source : Name) (path : List ℕ) (ty : Ty) (desk : IsDesk limit f sources cursors) where
    read_same : (kept : Result Kept DriverError) → ReadsFile limit path (item_ty ty) kept f g → IsDesk limit g sources cursors
    read_same kept reads = desk_same limit f sources cursors desk g reads.told reads.left reads.open_seen

    pub desk_after_ok : (count : ℕ) → option_map (attached_of limit f.told) (source_named sources source) ≡ None → AttachesFile limit source path ty (Ok count) sources sources' f g → IsDesk limit g sources' cursors
    desk_after_ok count fresh a = by a.kept a.reads a.adds
      where
        by : (kept : Result Kept DriverError) → ReadsFile limit path (item_ty ty) kept f g → Adds source path ty kept (Ok count) sources sources' → IsDesk limit g sources' cursors
        by (Ok kept) reads adds =
            desk_attached limit g sources cursors (read_same (Ok kept) reads) sources' source _ (unseen (attached_of limit f.told) (source_named sources source) fresh) adds.1 (kept_on limit f.told g.told _ reads.told (kept_so limit path ty f g kept reads))
        by (Err e) reads adds = absurd adds

    unchanged_desk : IsDesk limit g sources cursors → IsUnchanged sources sources' → IsDesk limit g sources' cursors
    unchanged_desk d same = record {
      kept = λ name s is. d.kept name s (sym (same_named sources sources' same name) ∙ is);
      asked = λ k o is. stays o.ask o.source (d.asked k o is);
      reading = d.reading;
      only = d.only;
      apart = d.apart;
    }
      where
        stays : (ask : Ask) (s : Source) → asked_source sources ask ≡ Some s → asked_source sources' ask ≡ Some s
        stays (asks.Rows name keep tests) s is = same_named sources sources' same name ∙ is
        stays (asks.Sql text) s is = is

    pub desk_after_err : (e : DriverError) → AttachesFile limit source path ty (Err e) sources sources' f g → IsDesk limit g sources' cursors
    desk_after_err e a = by a.kept a.reads a.adds
      where
        by : (kept : Result Kept DriverError) → ReadsFile limit path (item_ty ty) kept f g → Adds source path ty kept (Err e) sources sources' → IsDesk limit g sources' cursors
        by (Ok kept) reads adds = unchanged_desk (read_same (Ok kept) reads) adds.1
        by (Err d) reads adds = subst (λ ss. IsDesk limit g ss cursors) (sym adds.1) (read_same (Err d) reads)

  module _ (desk : IsDesk limit f sources cursors) where
    -- an open cursor has its file open
    pub files_open : (k : ℕ) (o : Open) → open_at cursors k ≡ Some o → IsSome (f.left o.file)
    files_open k o is = file_open limit f o (desk.reading k o is)

    -- one that is closed leaves the others
    pub desk_after_close : (h : FilesState) (cursors' : Cursors) (k : ℕ) → IsSome (open_at cursors k) → ClosesOpen k cursors cursors' f h → IsDesk limit h sources cursors'
    desk_after_close h cursors' k is closes =
        let o = some_of (open_at cursors k) is in
        let file = closes.file o.0 o.1 in
        desk_closed limit f sources cursors desk h cursors' k o.0 o.1 closes.closed closes.others file.told file.others file.closed (λ n ne. file.seen n)

  module _ (desk : IsDesk limit f sources cursors) (g : FilesState) (cursors' : Cursors) (ask : Ask) where
    pub desk_not_opened : (e : DriverError) → OpensAsked limit sources ask (Err e) cursors cursors' f g → IsDesk limit g sources cursors'
    desk_not_opened e a = subst (IsDesk limit g sources) (sym a.opens.same) (desk_same limit f sources cursors desk g a.opens.told a.opens.refused.left a.opens.refused.seen)

    module _ (a : OpensAsked limit sources ask (Ok tt) cursors cursors' f g) where
      pub desk_now_opened : IsDesk limit g sources cursors'
      desk_now_opened = desk_opened limit f sources cursors desk g cursors' a.source ask a.opens.opened.0 a.opens.told a.opens.opened.1 a.opens.opened.2 a.found

      pub opened_there : (n : ℕ) → n ≡ length cursors → IsSome (open_at cursors' n)
      opened_there n last = subst IsSome (sym (added_now cursors cursors' n a.opens.opened.0 last a.opens.opened.1)) refl

      pub desk_reclosed : (n : ℕ) → n ≡ length cursors → (h : FilesState) (cursors'' : Cursors) → ClosesOpen n cursors' cursors'' g h → IsDesk limit h sources cursors''
      desk_reclosed n last h cursors'' closes =
          let o = a.opens.opened.0 in
          let here = added_now cursors cursors' n o last a.opens.opened.1 in
          let file = closes.file o here in
          desk_closed limit g sources cursors' desk_now_opened h cursors'' n o here closes.closed closes.others file.told file.others file.closed (λ k ne. file.seen k)

  module _ (desk : IsDesk limit f sources cursors) (g : FilesState) (cursors' : Cursors) (cursor most : ℕ) (into into' : List Value) where
    open_here : (a : Open) → slice_get cursors cursor ≡ Some (Some a) → open_at cursors cursor ≡ Some a
    open_here a is = search

    pub desk_handed : (count : ℕ) → HandsAt limit cursor most into into' (Ok count) cursors cursors' f g → IsDesk limit g sources cursors'
    desk_handed count a =
        let h = a.hands in
        let old = desk.reading cursor a.old (open_here a.old a.here) in
        desk_pulled limit f sources cursors desk g cursors' cursor a.old a.new a.here a.made h.reads h.ask h.source h.file (record {
          kept = subst (λ (s : Source). IsKept limit g.told s) (sym h.source) (kept_on limit f.told g.told a.old.source h.reads.told old.kept);
          within = subst (λ (s : Source). a.new.taken ≤ s.count) (sym h.source) h.handed.within;
          same_file = h.reads.same_file ∙ old.same_file ∙ sym h.file;
          taken = subst (λ (s : Source). HasTaken limit s a.new.taken a.new.reader g) (sym h.source) h.handed.taken;
        })

    module _ (e : DriverError) (a : HandsAt limit cursor most into into' (Err e) cursors cursors' f g) where
      now_here : open_at cursors' cursor ≡ Some a.new
      now_here = changed_now cursors cursors' cursor a.old a.new a.here a.made

      pub handed_there : IsSome (open_at cursors' cursor)
      handed_there = subst IsSome (sym now_here) refl

      pub handed_file : (o : Open) → open_at cursors' cursor ≡ Some o → IsSome (g.left o.file)
      handed_file o is =
          let h = a.hands in
          let same : a.new ≡ o = same_Some _ _ (sym now_here ∙ is) in
          let old = desk.reading cursor a.old (open_here a.old a.here) in
          subst (λ k. IsSome (g.left k)) (old.same_file ∙ sym h.file ∙ ap (λ (x : Open). x.file) same) h.reads.is_open

      module _ (h : FilesState) (cursors'' : Cursors) (closes : ClosesOpen cursor cursors' cursors'' g h) where
        closed_file : Closes a.new.file g h
        closed_file = closes.file a.new now_here

        others_stay : (k : ℕ) → k ≢ cursor → open_at cursors'' k ≡ open_at cursors k
        others_stay k ne = closes.others k ne ∙ changed_others cursors cursors' cursor a.old a.new a.here a.made k ne

        left_stays : OtherFiles a.old.file f h
        left_stays k ne =
            let reading = desk.reading cursor a.old (open_here a.old a.here) in
            closed_file.others k (λ is. ne (is ∙ a.hands.file)) ∙ a.hands.reads.others k (λ is. ne (is ∙ reading.same_file))

        seen_stays : OtherSeen a.old.file f h
        seen_stays k ne =
            let reading = desk.reading cursor a.old (open_here a.old a.here) in
            closed_file.seen k ∙ a.hands.reads.others_seen k (λ is. ne (is ∙ reading.same_file))

        pub desk_refused : IsDesk limit h sources cursors''
        desk_refused = desk_closed limit f sources cursors desk h cursors'' cursor a.old (open_here a.old a.here) closes.closed others_stay (closed_file.told ∙ a.hands.reads.told) left_stays
            (ap h.left (sym a.hands.file) ∙ closed_file.closed) seen_stays

-- ---- the calls

module _ (limit : ℕ) (f : FilesState) (sources : Sources) (cursors : Cursors) (asked : List (Ask × ℕ)) (handed drifts unread : ℕ) where
  abbrev Old : State
  Old = nested_state limit f sources cursors asked handed drifts unread

  module _ (g : FilesState) (sources' : Sources) (source : Name) (path : List ℕ) (ty : Ty) where
    abbrev Attached : Result ℕ DriverError → ℕ → Type 0
    Attached result unread' = Attaches source path ty result Old (nested_state limit g sources' cursors asked handed drifts unread')

    pub attaches_ok : IsDesk limit f sources cursors → (count : ℕ) → AttachesFile limit source path ty (Ok count) sources sources' f g → Attached (Ok count) unread
    attaches_ok desk count a = by a.kept a.reads a.adds
      where
        by : (kept : Result Kept DriverError) → ReadsFile limit path (item_ty ty) kept f g → Adds source path ty kept (Ok count) sources sources' → Attached (Ok count) unread
        by (Ok kept) reads adds = subst (λ n. Attached (Ok n) unread) (sym adds.0) (attach_done limit path ty source f g sources cursors asked handed drifts kept reads unread sources' desk adds.1)
        by (Err e) reads adds = absurd adds

    pub attaches_err : IsDesk limit f sources cursors → unread < 2 ^ 64 → (e : DriverError) (unread' : ℕ) → AttachesFile limit source path ty (Err e) sources sources' f g → unread' ≡ unread_by e unread → Attached (Err e) unread'
    attaches_err desk fits e unread' a counted = by a.kept a.reads a.adds
      where
        by : (kept : Result Kept DriverError) → ReadsFile limit path (item_ty ty) kept f g → Adds source path ty kept (Err e) sources sources' → Attached (Err e) unread'
        by (Ok kept) reads adds =
            let none : unread' ≡ unread = counted ∙ ap (λ d. unread_by d unread) adds.0 in
            let made = attach_stopped limit path ty source f g sources cursors asked handed drifts unread fits desk kept reads in
            let same : (λ name. option_map (attached_of limit g.told) (source_named sources' name)) ≡ (λ name. option_map (attached_of limit g.told) (source_named sources name)) =
            fun_ext (λ name. ap (option_map (attached_of limit g.told)) (same_named sources sources' adds.1 name)) in
            subst (λ d. Attached (Err d) unread') (sym adds.0)
            (subst (λ m. Attached (Err error.NoMemory) m) (sym none)
            (subst (λ attached. Attaches source path ty (Err error.NoMemory) Old (record (nested_state limit g sources cursors asked handed drifts unread) { attached = attached })) (sym same) made))
        by (Err d) reads adds =
            subst (λ ss. Attaches source path ty (Err e) Old (nested_state limit g ss cursors asked handed drifts unread')) (sym adds.1)
            (attach_refused limit path ty source f g sources cursors asked handed drifts unread fits desk e unread' (subst (λ d. ReadsFile limit path (item_ty ty) (Err d) f g) (sym adds.0) reads) counted)

  pub can_ask : (ask : Ask) → CanStart Old ask → IsSome (asked_source sources ask)
  can_ask (asks.Rows source keep tests) can = some_open (attached_of limit f.told) (source_named sources source) (subst IsSome (sym can.answerable.1) refl)
  can_ask (asks.Sql text) can = absurd (let no : false ≡ true = can.answerable.2 in cc)

  module _ (desk : IsDesk limit f sources cursors) (g : FilesState) (cursors' : Cursors) (ask : Ask) (room : limit < 2 ^ 63) where
    pub starts_ok : (asked' : List (Ask × ℕ)) (n : ℕ) → CanStart Old ask → n ≡ length cursors → OpensAsked limit sources ask (Ok tt) cursors cursors' f g → asked' ≡ with_ask ask asked
        → Starts ask (Ok n) Old (nested_state limit g sources cursors' asked' handed drifts unread)
    starts_ok asked' n can last a counted = start_done limit room f sources cursors asked handed drifts unread desk g cursors' ask a.source a.found asked' n can last a.opens counted

    pub starts_err : (e : DriverError) → OpensAsked limit sources ask (Err e) cursors cursors' f g → Starts ask (Err e) Old (nested_state limit g sources cursors' asked handed drifts unread)
    starts_err e a = start_refused limit room f sources cursors asked handed drifts unread desk g cursors' ask a.source a.found e a.opens

    pub starts_uncounted : (asked' : List (Ask × ℕ)) (n : ℕ) → n ≡ length cursors → OpensAsked limit sources ask (Ok tt) cursors cursors' f g → (h : FilesState) (cursors'' : Cursors) → ClosesOpen n cursors' cursors'' g h → asked' ≡ asked
        → Starts ask (Err error.NoMemory) Old (nested_state limit h sources cursors'' asked' handed drifts unread)
    starts_uncounted asked' n last a h cursors'' closes same =
        subst (λ xs. Starts ask (Err error.NoMemory) Old (nested_state limit h sources cursors'' xs handed drifts unread)) (sym same)
        (start_uncounted limit room f sources cursors asked handed drifts unread desk g cursors' ask a.source a.found n h cursors'' last a.opens closes)

  module _ (desk : IsDesk limit f sources cursors) (g : FilesState) (cursors' : Cursors) (cursor most : ℕ) (into into' : List Value) where
    pub pulls_ok : (count handed' : ℕ) → HandsAt limit cursor most into into' (Ok count) cursors cursors' f g → handed' ≡ raised_by count handed → handed < 2 ^ 64 → 0 < most
        → Pulls cursor most into into' (Ok (nat_lt 0 count)) Old (nested_state limit g sources cursors' asked handed' drifts unread)
    pulls_ok count handed' a counted fits room = pull_done limit f sources cursors asked handed drifts unread cursor desk g cursors' handed' most count into into' a.old a.new a.here a.made a.hands counted fits room

    pub pulls_err : (e : DriverError) (a : HandsAt limit cursor most into into' (Err e) cursors cursors' f g) (h : FilesState) (cursors'' : Cursors) (closes : ClosesOpen cursor cursors' cursors'' g h) (drifts' : ℕ) → drifts' ≡ drifts_by e drifts → drifts < 2 ^ 64
        → Pulls cursor most into into' (Err e) Old (nested_state limit h sources cursors'' asked handed drifts' unread)
    pulls_err e a h cursors'' closes drifts' counted fits =
        let here = open_here limit f sources cursors desk g cursors' cursor most into into' a.old a.here in
        let file = closed_file limit f sources cursors desk g cursors' cursor most into into' e a h cursors'' closes in
        pull_refused limit f sources cursors asked handed drifts unread cursor desk g h cursors'' drifts' most into into' e a.old a.new here a.hands closes.closed
        (others_stay limit f sources cursors desk g cursors' cursor most into into' e a h cursors'' closes) file.told file.seen file.faults fits counted

  pub finishes : IsDesk limit f sources cursors → (h : FilesState) (cursors' : Cursors) (k : ℕ) → IsSome (open_at cursors k) → ClosesOpen k cursors cursors' f h → Finishes k Old (nested_state limit h sources cursors' asked handed drifts unread)
  finishes desk h cursors' k is closes = let o = some_of (open_at cursors k) is in finish_done limit f sources cursors asked handed drifts unread k desk h cursors' o.0 o.1 closes
