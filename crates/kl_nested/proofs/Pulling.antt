-- What a pull, and the end of a cursor, do to what the driver means.
use Rattle.std.proofs.Common.{◌≡◌, ◌≢◌, ◌⊎◌, inl, inr, ◌<◌, ◌≤◌, ◌+◌, ◌-◌, ◌^◌, ℕ, Bool, true, false, List, [], ◌∷◌, ◌++◌, length, drop, set, Option, Some, None, IsSome, Ok, Err, refl, sym, ◌∙◌, ap, subst, arith, slice_get, nat_lt, append-nil, zero, suc}
use Rattle.std.specs.Option.{option_map}
use Rattle.std.proofs.lemmas.Bool.Decides.{nat_tests}
use Rattle.std.proofs.lemmas.Option.{same_Some}
use Rattle.kl_value.specs.declared.Value.{Value}
use Rattle.kl_type.specs.Ground.{ground_of}
use Rattle.kl_outside.specs.Files.{FilesState, Seen, seen_in}
use Rattle.kl_exchange.specs.FileReading.{SeesMore}
use Rattle.kl_ask.specs.Asked.{raised_by}
use Rattle.kl_ask.specs.Asks.{item_of}
use Rattle.kl_ask.specs.Cursors.{open_at}
use Rattle.kl_ask.specs.Driver.{Cause, CountsDrift, CountsFault, Cursor, IsAsAttached, IsShown, Kept, ReadSoFar, ReadsAnew, Spelt, StatesAsKept, read_under, Source as Attached, Finishes, Hands as Hand, HasDrifted, IsAskedSql, IsMetAhead, PullResult, Pulls, PullsMore, PullsNone, State, emptied, source_of}
use Rattle.kl_ask.specs.declared.ask.Ask.{Ask}
use Rattle.kl_ask.specs.declared.ask.Ask.TheVariants as asks
use Rattle.kl_ask.specs.declared.ask.Drift.{Drift}
use Rattle.kl_ask.specs.declared.ask.Drift.TheVariants as drift
use Rattle.kl_ask.specs.declared.ask.DriverError.{DriverError}
use Rattle.kl_ask.specs.declared.ask.DriverError.TheVariants as error
use Rattle.kl_ask.proofs.Opened.{changed_now, changed_others}
use Rattle.kl_nested.specs.Closing.{ClosesOpen, drifts_by}
use Rattle.kl_nested.specs.Contents.{contents_of, spelt_in}
use Rattle.kl_nested.specs.Desk.{IsDesk}
use Rattle.kl_nested.specs.Handing.{Differs, Hands, Refuses, ShowsDrift, StopsBehind}
use Rattle.kl_ask.specs.Named.{asked_source}
use Rattle.kl_nested.specs.Nested.{Sources, Tells, attached_of, cursor_of, head_of, nested_state, read_as, rows_at, stated_of}
use Rattle.kl_nested.specs.declared.parts.Source.{Source}
use Rattle.kl_nested.specs.declared.parts.Open.{Open}
use Rattle.kl_nested.proofs.Shown.{says_head}
use Rattle.kl_nested.proofs.Progress.{read_there, reads_on, reads_under, under}
use Rattle.kl_nested.proofs.Starting.{is_there, none_some}
use Rattle.kl_nested.proofs.Takings.{knows}
use Rattle.kl_sqltext.specs.declared.ast.Spj.{Spj}

drop_all : {T : Type 0} (xs : List T) → drop (length xs) xs ≡ []
drop_all [] = refl
drop_all (x ∷ xs) = drop_all xs

no_rows : {T : Type 0} (xs : List T) → length xs ≡ 0 → xs ≡ []
no_rows [] h = refl
no_rows (x ∷ xs) h = absurd (omega (arith, h))

positive : (n : ℕ) → (n ≡ 0 → ⊥) → 0 < n
positive zero other = absurd (other refl)
positive (suc n) other = omega arith

module _ (limit : ℕ) (f : FilesState) (sources : Sources) (cursors : List (Option Open)) (asked : List (Ask × ℕ)) (handed drifts unread cursor : ℕ) (desk : IsDesk limit f sources cursors) where
  source_is : (ask : Ask) (s : Source) → asked_source sources ask ≡ Some s → source_of (nested_state limit f sources cursors asked handed drifts unread) ask ≡ Some (attached_of limit f.told s)
  source_is (asks.Rows name keep tests) s is = ap (option_map (attached_of limit f.told)) is
  source_is (asks.Sql text) s is = absurd cc

  -- each of the other cursors reads another file
  apart_from : (o : Open) → open_at cursors cursor ≡ Some o → (k : ℕ) → k ≢ cursor → (y : Open) → open_at cursors k ≡ Some y → y.file ≢ o.reader.items.file
  apart_from o here k ne y at same = ne (desk.apart k cursor y o at here (same ∙ (desk.reading cursor o here).same_file))

  module _ (g : FilesState) (cursors' : List (Option Open)) (handed' most n : ℕ) (into into' : List Value) (o o' : Open) (is : slice_get cursors cursor ≡ Some (Some o)) (made : cursors' ≡ set cursors cursor (Some o')) (hand : Hands limit most into into' (Ok n) o o' f g)
      (count : handed' ≡ raised_by n handed) (fits : handed < 2 ^ 64) (room : 0 < most) where
    here : open_at cursors cursor ≡ Some o
    here = search

    abbrev rows : List Value
    rows = hand.handed.rows

    abbrev seen : Open → Cursor
    seen = cursor_of limit f.told

    many : o'.source.count ≡ o.source.count
    many = ap (λ (s : Source). s.count) hand.source

    left' : (seen o').left ≡ option_map (drop o'.taken) (rows_at limit f.told o.source)
    left' = ap (λ s. option_map (drop o'.taken) (rows_at limit f.told s)) hand.source

    none_left : (whole : List Value) → rows_at limit f.told o.source ≡ Some whole → o'.taken ≡ o.source.count → drop o'.taken whole ≡ []
    none_left whole told spent =
        let k = knows limit f.told o.source (desk.reading cursor o here).kept whole told in
        ap (λ m. drop m whole) (spent ∙ k.count) ∙ drop_all whole

    left_so : (r : Option (List Value)) → rows_at limit f.told o.source ≡ r → (all : List Value) → (seen o).left ≡ Some all
        → (rest : List Value) × (all ≡ rows ++ rest) × ((seen o').left ≡ Some rest) × ((length rows ≡ most) ⊎ (rest ≡ []))
    left_so None told all e = absurd (let k : None ≡ Some all = sym (ap (option_map (drop o.taken)) told) ∙ e in cc)
    left_so (Some whole) told all e =
        let this : drop o.taken whole ≡ all = same_Some _ _ (sym (ap (option_map (drop o.taken)) told) ∙ e) in
        let next = hand.handed.are_next.next whole told in
        let at : o.taken + length rows ≡ o'.taken = omega (arith, hand.handed.after, hand.handed.size) in
        (drop o'.taken whole, sym this ∙ next ∙ ap (λ m. rows ++ drop m whole) at, left' ∙ ap (option_map (drop o'.taken)) told, elim hand.handed.all [ inl m ↦ inl (hand.handed.size ∙ m) | inr spent ↦ inr (none_left whole told spent) ])

    untold_so : (r : Option (List Value)) → rows_at limit f.told o.source ≡ r → (seen o).left ≡ None → (seen o').left ≡ None
    untold_so None told e = left' ∙ ap (option_map (drop o'.taken)) told
    untold_so (Some whole) told e = absurd (let k : Some (drop o.taken whole) ≡ None = sym (ap (option_map (drop o.taken)) told) ∙ e in cc)

    hands : 0 < n → Hand most rows (seen o) (seen o')
    hands some = record {
      ask = hand.ask;
      ty = ap (λ (s : Source). item_of (ground_of s.ty)) hand.source;
      some = omega (arith, some, hand.handed.size);
      most = omega (arith, hand.handed.few, hand.handed.size);
      typed = hand.handed.are_next.typed;
      bound = omega (arith, many, hand.handed.after, hand.handed.within, hand.handed.size);
      left = left_so (rows_at limit f.told o.source) refl;
      untold = untold_so (rows_at limit f.told o.source) refl;
    }

    abbrev Told : FilesState
    Told = record { told = f.told; left = g.left; log = g.log; faults = g.faults }

    cursor_is : (c : Cursor) → option_map seen (open_at cursors cursor) ≡ Some c → seen o ≡ c
    cursor_is c has = same_Some _ _ (sym (ap (option_map seen) here) ∙ has)

    abbrev Old : State
    Old = nested_state limit f sources cursors asked handed drifts unread

    abbrev New : State
    New = nested_state limit Told sources cursors' asked handed' drifts unread

    its_source_is : (s : Attached) → source_of Old o.ask ≡ Some s → attached_of limit f.told o.source ≡ s
    its_source_is s at = same_Some _ _ (sym (source_is o.ask o.source (desk.asked cursor o here)) ∙ at)

    -- what the cursor reads its file by has read the head that was kept
    has_head : 0 < n → (q : Seen) → seen_in g o.file ≡ Some q → (spelt_in limit q.bytes).head q.ended ≡ Some (head_of o.source)
    has_head some q is =
        let taken = hand.handed.taken in
        let so = taken.has_seen q (ap (seen_in g) (hand.reads.same_file ∙ (desk.reading cursor o here).same_file) ∙ is) in
        elim so.0 [
          | inl none ↦ absurd (omega (arith, some, hand.handed.after, taken.counted, ap length none.0))
          | inr has ↦ says_head limit (stated_of o.source) taken.values o'.reader q taken.same_limit has so.1
        ]

    states_as_kept : 0 < n → (r : ReadsAnew cursor Old New) (s : Attached) → attached_of limit f.told o.source ≡ s → StatesAsKept s r.read (r.spells r.read.bytes)
    states_as_kept some r s same_source =
        let was = read_there (seen_in g o.file) r.read (sym (ap (λ x. read_under (option_map (λ (x : Open). x.file) x) New) here) ∙ r.is_read) in
        let spells : spelt_in limit ≡ r.spells = same_Some _ _ r.kind_spells in
        subst (λ s. StatesAsKept s r.read (r.spells r.read.bytes)) same_source
        (subst (λ (spells : List ℕ → Spelt). StatesAsKept (attached_of limit f.told o.source) r.read (spells r.read.bytes)) spells
        (subst (λ (read : ReadSoFar). StatesAsKept (attached_of limit f.told o.source) read (spelt_in limit read.bytes)) was.2
        (λ k at. has_head some was.0 was.1 ∙ ap (λ (k : Kept). Some k.head) (same_Some _ _ at))))

    more : 0 < n → (c : Cursor) → option_map seen (open_at cursors cursor) ≡ Some c → PullsMore cursor most into into' c Old New
    more some c has = subst (λ c. PullsMore cursor most into into' c Old New) (cursor_is c has) (record {
      rows = rows;
      then = seen o';
      appended = hand.handed.are_next.appended;
      now = ap (option_map seen) (changed_now cursors cursors' cursor o o' is made);
      hands = hands some;
      handed = count ∙ ap (λ k. raised_by k handed) (sym hand.handed.size);
      stated = λ r s at. states_as_kept some r s (its_source_is s at);
    })

    none : n ≡ 0 → (c : Cursor) → option_map seen (open_at cursors cursor) ≡ Some c → PullsNone cursor into into' c Old New
    none zero_is c has =
        let spent' : o'.taken ≡ o.source.count = elim hand.handed.all [ inl m ↦ absurd (omega (arith, m, zero_is, room)) | inr m ↦ m ] in
        let same : o'.taken ≡ o.taken = omega (arith, hand.handed.after, zero_is) in
        let none_rows : rows ≡ [] = no_rows rows (hand.handed.size ∙ zero_is) in
        subst (λ c. PullsNone cursor into into' c Old New) (cursor_is c has) (record {
          same = hand.handed.are_next.appended ∙ ap (λ more. into ++ more) none_rows ∙ append-nil into;
          spent = λ all e. spent_so (rows_at limit f.told o.source) refl same spent' all e;
          over = inl (omega (arith, spent', same));
          now = ap (option_map seen) (changed_now cursors cursors' cursor o o' is made) ∙ ap Some (emptied_is same spent');
          handed = omega (arith, count, fits, zero_is);
          unchanged = λ r s at. as_attached r s (its_source_is s at);
        })
      where
        as_attached : (r : ReadsAnew cursor Old New) (s : Attached) → attached_of limit f.told o.source ≡ s → IsAsAttached s r.read (r.spells r.read.bytes)
        as_attached r s same_source =
            let was = read_there (seen_in g o.file) r.read (sym (ap (λ x. read_under (option_map (λ (x : Open). x.file) x) New) here) ∙ r.is_read) in
            let ended = hand.handed.ended zero_is was.0 (ap (seen_in g) (desk.reading cursor o here).same_file ∙ was.1) in
            let spells : spelt_in limit ≡ r.spells = same_Some _ _ r.kind_spells in
            subst (λ s. IsAsAttached s r.read (r.spells r.read.bytes)) same_source
            (subst (λ (spells : List ℕ → Spelt). IsAsAttached (attached_of limit f.told o.source) r.read (spells r.read.bytes)) spells
            (subst (λ (read : ReadSoFar). IsAsAttached (attached_of limit f.told o.source) read (spelt_in limit read.bytes)) was.2
            (record { all = ended.all; size = ended.size; head = ended.head })))

        spent_so : (r : Option (List Value)) → rows_at limit f.told o.source ≡ r → o'.taken ≡ o.taken → o'.taken ≡ o.source.count → (all : List Value) → (seen o).left ≡ Some all → all ≡ []
        spent_so None told same spent' all e = absurd (let k : None ≡ Some all = sym (ap (option_map (drop o.taken)) told) ∙ e in cc)
        spent_so (Some whole) told same spent' all e =
            let this : drop o.taken whole ≡ all = same_Some _ _ (sym (ap (option_map (drop o.taken)) told) ∙ e) in
            sym this ∙ ap (λ m. drop m whole) (sym same) ∙ none_left whole told spent'

        emptied_is : o'.taken ≡ o.taken → o'.taken ≡ o.source.count → seen o' ≡ emptied (seen o)
        emptied_is same spent' =
            let over : o'.source.count - o'.taken ≡ 0 = omega (arith, many, spent') in
            λ i. record {
              ask = hand.ask i;
              ty = item_of (ground_of (hand.source i).ty);
              left = option_map (drop (same i)) (rows_at limit f.told (hand.source i));
              bound = over i;
            }

    answer : (some : Bool) → nat_lt 0 n ≡ some → (c : Cursor) → option_map seen (open_at cursors cursor) ≡ Some c → PullResult cursor most into into' c (Ok some) Old New
    answer true test c has = more (grind (arith, nat_tests)) c has
    answer false test c has = none (grind (arith, nat_tests)) c has

    -- rows were appended, or none was left
    pub pull_done : Pulls cursor most into into' (Ok (nat_lt 0 n)) Old (nested_state limit g sources cursors' asked handed' drifts unread)
    pull_done = subst (λ t. Pulls cursor most into into' (Ok (nat_lt 0 n)) Old (nested_state limit (record { told = t; left = g.left; log = g.log; faults = g.faults }) sources cursors' asked handed' drifts unread)) (sym hand.reads.told) (record {
      keeps = record { kind = refl; handed = omega (arith, count, fits); faults = hand.reads.later; drifts = omega arith; no_drift = λ is. refl; unread = omega arith };
      attached = refl;
      asked = refl;
      faults = hand.counts;
      drifts = refl;
      unread = refl;
      others = λ k ne. ap (option_map seen) (changed_others cursors cursors' cursor o o' is made k ne);
      reads = reads_under (open_at cursors cursor) o Old New here (reads_on (seen_in f o.file) (seen_in g o.file) (subst (λ k. SeesMore (seen_in f k) (seen_in g k)) (desk.reading cursor o here).same_file hand.reads.more));
      same_file = λ open_now. ap (option_map (λ (x : Open). x.file)) (changed_now cursors cursors' cursor o o' is made) ∙ ap Some hand.file ∙ sym (ap (option_map (λ (x : Open). x.file)) here);
      others_reading = λ k ne open_then. record {
        file = ap (option_map (λ (x : Open). x.file)) (changed_others cursors cursors' cursor o o' is made k ne);
        read = under (open_at cursors k) Old New (λ y at. ap (option_map read_as) (hand.reads.others_seen y.file (apart_from o here k ne y at)));
      };
      answer = answer (nat_lt 0 n) refl;
    })

  -- ---- a refused pull

  shown_of : (s : Source) (read : ReadSoFar) (spelt : Spelt) (d : Drift) → IsShown (Some limit) (attached_of limit None s) read spelt d → IsShown (Some limit) (attached_of limit f.told s) read spelt d
  shown_of s read spelt (drift.Bytes kept size) h = (h.0, elim h.1 [ inl past ↦ inl past | inr all ↦ inr all ])
  shown_of s read spelt (drift.Count kept count) h = h
  shown_of s read spelt (drift.Header kept stated) h = h
  shown_of s read spelt (drift.Unread place) h = h
  shown_of s read spelt (drift.Misfit item) h = h

  told_not : (t : Tells) → t ≡ None → IsSome (contents_of limit t) → ⊥
  told_not None none is = cc
  told_not (Some files) none is = let k : Some files ≡ None = none in cc

  drifted_so : (o : Open) (found : ℕ) (d : Drift) → Differs limit o.source found d → HasDrifted (attached_of limit f.told o.source) d
  drifted_so o found (drift.Bytes kept size) h = (ap Some (sym h.0), h.1)
  drifted_so o found (drift.Count kept count) h = (sym h.0, h.2)
  drifted_so o found (drift.Header kept stated) h = (ap Some (sym h.0), h.1)
  drifted_so o found (drift.Unread place) h = tt
  drifted_so o found (drift.Misfit item) h = tt

  ahead_so : (o : Open) (found : ℕ) (d : Drift) → StopsBehind o found → Differs limit o.source found d → IsMetAhead (Some limit) (attached_of limit f.told o.source) (cursor_of limit f.told o) d
  ahead_so o found (drift.Bytes kept size) stops h = elim h.2 [
    | inl past ↦ inl (limit, refl, past)
    | inr behind ↦ inr (λ whole. elim stops [
      | inl first ↦ absurd (omega (arith, first.1, behind))
      | inr later ↦ elim later [ inl row ↦ absurd (omega (arith, row.1, behind)) | inr past ↦ omega (arith, past.0) ]
    ])
  ]
  ahead_so o found (drift.Count kept count) stops h = elim stops [
    | inl first ↦ inl (let some : 0 < o.source.count = positive o.source.count (λ none. h.2 (h.1 ∙ first.1 ∙ sym none ∙ sym h.0)) in record { within = omega (arith, some, first.1, h.1); ahead = λ whole. omega (arith, first.0, first.1, h.1) })
    | inr later ↦ elim later [
      | inl row ↦ inl (record { within = omega (arith, row.1, h.1); ahead = λ whole. omega (arith, row.0, row.1, h.1) })
      | inr past ↦ inr (record { over = λ whole. omega (arith, past.0); next = omega (arith, past.1, h.0, h.1) })
    ]
  ]
  ahead_so o found (drift.Header kept stated) stops h = λ whole. elim stops [
    | inl first ↦ omega (arith, first.0)
    | inr later ↦ elim later [ inl row ↦ omega (arith, row.0, h.2) | inr past ↦ absurd (omega (arith, past.1, h.2)) ]
  ]
  ahead_so o found (drift.Unread place) stops h = tt
  ahead_so o found (drift.Misfit item) stops h = elim stops [
    | inl first ↦ record { within = h.1; ahead = λ whole. omega (arith, first.0, first.1, h.0) }
    | inr later ↦ elim later [
      | inl row ↦ record { within = h.1; ahead = λ whole. omega (arith, row.0, row.1, h.0) }
      | inr past ↦ absurd (omega (arith, past.1, h.0, h.1))
    ]
  ]

  no_sql : (ask : Ask) (s : Source) (q : Spj) → asked_source sources ask ≡ Some s → IsAskedSql ask q → ⊥
  no_sql (asks.Rows source keep tests) s q is asked = asked
  no_sql (asks.Sql text) s q is asked = cc

  module _ (g h : FilesState) (cursors' : List (Option Open)) (drifts' most : ℕ) (into into' : List Value) (e : DriverError) (o o' : Open) (here : open_at cursors cursor ≡ Some o) (hand : Hands limit most into into' (Err e) o o' f g)
      (closed : open_at cursors' cursor ≡ None) (others : (k : ℕ) → k ≢ cursor → open_at cursors' k ≡ open_at cursors k) (told : h.told ≡ g.told) (seen : (k : ℕ) → seen_in h k ≡ seen_in g k) (faults : h.faults ≡ g.faults) (fits : drifts < 2 ^ 64) (counted : drifts' ≡ drifts_by e drifts) where
    abbrev was : State
    was = nested_state limit f sources cursors asked handed drifts unread

    abbrev now : ℕ → State
    now m = nested_state limit (record { told = f.told; left = h.left; log = h.log; faults = h.faults }) sources cursors' asked handed m unread

    cursor_at_is : (c : Cursor) → was.cursors cursor ≡ Some c → cursor_of limit f.told o ≡ c
    cursor_at_is c has = same_Some _ _ (sym (ap (option_map (cursor_of limit f.told)) here) ∙ has)

    its_source : (c : Cursor) → was.cursors cursor ≡ Some c → (s : Attached) → source_of was c.ask ≡ Some s → attached_of limit f.told o.source ≡ s
    its_source c has s at =
        let ask : o.ask ≡ c.ask = ap (λ (c : Cursor). c.ask) (cursor_at_is c has) in
        same_Some _ _ (sym (source_is o.ask o.source (desk.asked cursor o here)) ∙ ap (source_of was) ask ∙ at)

    drift_shown : (m : ℕ) (d : Drift) → ShowsDrift limit o.source (seen_in g o.reader.items.file) d → (r : ReadsAnew cursor was (now m)) (s : Attached) → attached_of limit f.told o.source ≡ s
        → IsShown (Some limit) s r.read (r.spells r.read.bytes) d
    drift_shown m d shows r s same_source =
        let read = read_there (seen_in h o.file) r.read (sym (ap (λ x. read_under (option_map (λ (x : Open). x.file) x) (now m)) here) ∙ r.is_read) in
        let so = shows read.0 (ap (seen_in g) (desk.reading cursor o here).same_file ∙ sym (seen o.file) ∙ read.1) in
        let spells : spelt_in limit ≡ r.spells = same_Some _ _ r.kind_spells in
        subst (λ s. IsShown (Some limit) s r.read (r.spells r.read.bytes) d) same_source
        (subst (λ (spells : List ℕ → Spelt). IsShown (Some limit) (attached_of limit f.told o.source) r.read (spells r.read.bytes) d) spells
        (subst (λ (read : ReadSoFar). IsShown (Some limit) (attached_of limit f.told o.source) read (spelt_in limit read.bytes) d) read.2
        (shown_of o.source (read_as read.0) (spelt_in limit read.0.bytes) d so)))

    build : (e : DriverError) → CountsFault {T = Bool} (Err e) f.faults h.faults → ((d : Drift) → e ≡ error.Changed d → ShowsDrift limit o.source (seen_in g o.reader.items.file) d) → drifts ≤ drifts_by e drifts → (IsSome (contents_of limit f.told) → drifts_by e drifts ≡ drifts) → CountsDrift (Err e) drifts (drifts_by e drifts) → Cause e was (now (drifts_by e drifts)) → ((d : Drift) → e ≡ error.Changed d → HasDrifted (attached_of limit f.told o.source) d)
        → ((d : Drift) → e ≡ error.Changed d → IsMetAhead (Some limit) (attached_of limit f.told o.source) (cursor_of limit f.told o) d)
        → Pulls cursor most into into' (Err e) was (now (drifts_by e drifts))
    build e fault_counts shown up no_drift counts cause drifted ahead = record {
      keeps = record { kind = refl; handed = omega arith; faults = omega (arith, hand.reads.later, faults); drifts = up; no_drift = no_drift; unread = omega arith };
      attached = refl;
      asked = refl;
      faults = fault_counts;
      drifts = counts;
      unread = refl;
      others = λ k ne. ap (option_map (cursor_of limit f.told)) (others k ne);
      reads = reads_under (open_at cursors cursor) o was (now (drifts_by e drifts)) here (reads_on (seen_in f o.file) (seen_in h o.file)
          (subst (λ x. SeesMore (seen_in f o.file) x) (sym (seen o.file)) (subst (λ k. SeesMore (seen_in f k) (seen_in g k)) (desk.reading cursor o here).same_file hand.reads.more)));
      same_file = λ open_now. absurd (none_some (open_at cursors' cursor) closed (is_there (cursor_of limit f.told) (open_at cursors' cursor) open_now));
      others_reading = λ k ne open_then. record {
        file = ap (option_map (λ (x : Open). x.file)) (others k ne);
        read = under (open_at cursors k) was (now (drifts_by e drifts)) (λ y at. ap (option_map read_as) (seen y.file ∙ hand.reads.others_seen y.file (apart_from o here k ne y at)));
      };
      answer = λ c has. record {
        same = hand.same;
        closed = ap (option_map (cursor_of limit f.told)) closed;
        handed = refl;
        cause = cause;
        drifted = λ d is s at. subst (λ s. HasDrifted s d) (its_source c has s at) (drifted d is);
        ahead = λ d is s at. subst (λ s. IsMetAhead (Some limit) s c d) (its_source c has s at) (subst (λ c. IsMetAhead (Some limit) (attached_of limit f.told o.source) c d) (cursor_at_is c has) (ahead d is));
        shown = λ d is r s at. drift_shown (drifts_by e drifts) d (shown d is) r s (its_source c has s at);
        joined_drifted = λ d is q asked.
            let ask : c.ask ≡ o.ask = ap (λ (c : Cursor). c.ask) (sym (cursor_at_is c has)) in
            absurd (no_sql o.ask o.source q (desk.asked cursor o here) (subst (λ ask. IsAskedSql ask q) ask asked));
      };
    }

    by : (e : DriverError) (found : ℕ) → StopsBehind o found → CountsFault {T = ℕ} (Err e) f.faults g.faults → Refuses limit o.source o.reader.items.file found e f g → Pulls cursor most into into' (Err e) was (now (drifts_by e drifts))
    by error.Failed found stops counts cause = build error.Failed (omega (arith, hand.reads.later, faults)) (λ d is. absurd cc) (omega arith) (λ is. refl) refl (omega (arith, cause, faults)) (λ d is. absurd cc) (λ d is. absurd cc)
    by error.NoMemory found stops counts cause = build error.NoMemory (faults ∙ counts) (λ d is. absurd cc) (omega arith) (λ is. refl) refl tt (λ d is. absurd cc) (λ d is. absurd cc)
    by (error.Changed d) found stops counts cause = build (error.Changed d) (faults ∙ counts) (λ k is. let same : d ≡ k = cc in subst (ShowsDrift limit o.source (seen_in g o.reader.items.file)) same cause.2) (omega (arith, fits)) (λ is. absurd (told_not f.told cause.0 is)) (omega (arith, fits)) (told_not f.told cause.0, omega (arith, fits))
        (λ k is. let same : d ≡ k = cc in subst (HasDrifted (attached_of limit f.told o.source)) same (drifted_so o found d cause.1))
        (λ k is. let same : d ≡ k = cc in subst (IsMetAhead (Some limit) (attached_of limit f.told o.source) (cursor_of limit f.told o)) same (ahead_so o found d stops cause.1))
    by (error.BadSource p) found stops counts cause = absurd cause
    by (error.TooLong m) found stops counts cause = absurd cause
    by (error.TooDeep p) found stops counts cause = absurd cause

    pub pull_refused : Pulls cursor most into into' (Err e) was (nested_state limit h sources cursors' asked handed drifts' unread)
    pull_refused =
        let c = hand.cause e refl in
        subst (λ m. Pulls cursor most into into' (Err e) was (nested_state limit h sources cursors' asked handed m unread)) (sym counted)
        (subst (λ t. Pulls cursor most into into' (Err e) was (nested_state limit (record { told = t; left = h.left; log = h.log; faults = h.faults }) sources cursors' asked handed (drifts_by e drifts) unread)) (sym (told ∙ hand.reads.told)) (by e c.0 c.1 hand.counts c.2))

  -- ---- the end of a cursor

  pub finish_done : (h : FilesState) (cursors' : List (Option Open)) (o : Open) → open_at cursors cursor ≡ Some o → ClosesOpen cursor cursors cursors' f h
      → Finishes cursor (nested_state limit f sources cursors asked handed drifts unread) (nested_state limit h sources cursors' asked handed drifts unread)
  finish_done h cursors' o here closes =
      let file = closes.file o here in
      subst (λ t. Finishes cursor (nested_state limit f sources cursors asked handed drifts unread) (nested_state limit (record { told = t; left = h.left; log = h.log; faults = h.faults }) sources cursors' asked handed drifts unread)) (sym file.told) (record {
        keeps = record { kind = refl; handed = omega arith; faults = omega (arith, file.faults); drifts = omega arith; no_drift = λ is. refl; unread = omega arith };
        attached = refl;
        asked = refl;
        handed = refl;
        faults = file.faults;
        drifts = refl;
        unread = refl;
        closed = ap (option_map (cursor_of limit f.told)) closes.closed;
        others = λ k ne. ap (option_map (cursor_of limit f.told)) (closes.others k ne);
        others_reading = λ k ne open_then. record {
          file = ap (option_map (λ (x : Open). x.file)) (closes.others k ne);
          read = under (open_at cursors k) _ _ (λ y at. ap (option_map read_as) (file.seen y.file));
        };
      })
