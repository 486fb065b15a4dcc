-- What attaching says of a file that was read.
use Rattle.std.proofs.Common.{Result, ◌≡◌, ◌⊎◌, ◌<◌, ◌≤◌, ◌+◌, ◌-◌, ◌^◌, min, ℕ, Bool, true, false, List, length, Option, Some, None, Ok, Err, IsSome, refl, sym, ◌∙◌, ap, subst, arith, inl, inr, nat_lt, nat_eq, cond}
use Rattle.std.proofs.lemmas.Bool.Decides.{nat_tests}
use Rattle.std.specs.List.{AllByRecursion}
use Rattle.std.specs.Cmp.Lexicographic.{pointwise}
use Rattle.std.specs.HashMap.{IsUnchanged}
use Rattle.std.specs.Map.{lookup}
use Rattle.std.specs.Option.{option_map}
use Rattle.std.proofs.lemmas.Option.{same_Some}
use Rattle.kl_base.specs.Counts.{Rose}
use Rattle.kl_value.specs.declared.Value.{Value}
use Rattle.kl_type.specs.Ground.{IsProper, ground_of}
use Rattle.kl_type.specs.declared.ground.Ty.{Ty}
use Rattle.kl_type.proofs.RowLemmas.{same_label}
use Rattle.kl_outcome.specs.Outcome.{Name}
use Rattle.kl_outcome.specs.Typed.{Inhabits}
use Rattle.kl_outside.proofs.FileLemmas.{was_there}
use Rattle.kl_outside.specs.Files.{FilesState, ReadsWhole, IsWhole, IsMissing}
use Rattle.kl_outside.specs.declared.files.Whole.{Whole}
use Rattle.kl_outside.specs.declared.stop.Stop.{Stop}
use Rattle.kl_outside.specs.declared.stop.Stop.TheVariants as stop
use Rattle.kl_ask.specs.Asked.{raised_by, unread_by}
use Rattle.kl_outside.specs.declared.files.Whole.TheVariants.{Bytes, TooLong}
use Rattle.kl_ask.specs.Asks.{item_of}
use Rattle.kl_ask.specs.Named.{source_named}
use Rattle.kl_ask.specs.Driver.{Stored, Missing, Bad, Long, Deep, Rows, Source as Attached, Attaches, CountsFault, CountsUnread, told_rows, stored_by}
use Rattle.kl_ask.specs.declared.ask.Ask.{Ask}
use Rattle.kl_ask.specs.declared.ask.DriverError.{DriverError}
use Rattle.kl_ask.specs.declared.ask.DriverError.TheVariants as error
use Rattle.kl_ask.proofs.Names.{not_same}
use Rattle.kl_flat.specs.Attaching.{AddsSource, ReadsRows, RowsOf}
use Rattle.kl_flat.specs.ColumnTable.{rows_of}
use Rattle.kl_flat.specs.Columns.{is_table_type}
use Rattle.kl_flat.specs.Fitting.{are_rows}
use Rattle.kl_flat.proofs.Typing.{are_table_rows, rows_typed}
use Rattle.kl_flat.specs.Flat.{Sources, flat_state, told_only, attached_of, contents_of, most_bytes, stored_bytes, stored_of, stored_rows}
use Rattle.kl_flat.specs.Table.{bad_record, table_rows}
use Rattle.kl_flat.specs.declared.parts.Open.{Open}
use Rattle.kl_ask.proofs.Worlds.{error_is}

some_none : {T : Type 0} {x : T} → Some x ≡ None → ⊥
some_none h = cc

-- what stands at a path, read as a type, where bytes are told
abbrev pub at_path : Option (List ℕ → Option (List ℕ)) → List ℕ → Ty → Option Stored
at_path told path ty = stored_by (contents_of told) path ty

-- either nothing is told, or what was read stands there
abbrev Stands : Option (List ℕ → Option (List ℕ)) → List ℕ → Ty → Whole → Type 0
Stands told path ty whole = (told ≡ None) ⊎ ((bytes : List ℕ) × (at_path told path ty ≡ Some (stored_bytes bytes ty)) × IsWhole most_bytes bytes whole)

stands : (path : List ℕ) (ty : Ty) (whole : Whole) (f f' : FilesState) → ReadsWhole path most_bytes (Ok whole) f f' → Stands f.told path ty whole
stands path ty whole f f' reads = by f.told refl
  where
    by : (t : Option (List ℕ → Option (List ℕ))) → f.told ≡ t → Stands f.told path ty whole
    by None is = inl is
    by (Some files) is =
        let found = was_there path most_bytes whole f f' files reads is in
        inr (found.0, ap (λ t. at_path t path ty) is ∙ ap (λ o. Some (stored_of o ty)) found.1, found.2)

is_missing : (path : List ℕ) (ty : Ty) (f : FilesState) → at_path f.told path ty ≡ Some Missing → IsMissing f path
is_missing path ty f is = by f.told refl
  where
    rows_not : (bytes : List ℕ) (o : Option ℕ) → stored_rows bytes ty o ≡ Missing → ⊥
    rows_not bytes None e = cc
    rows_not bytes (Some place) e = cc

    bytes_not : (bytes : List ℕ) (b : Bool) → cond b (Long most_bytes) (stored_rows bytes ty (bad_record bytes ty)) ≡ Missing → ⊥
    bytes_not bytes true e = cc
    bytes_not bytes false e = rows_not bytes (bad_record bytes ty) e

    at : (o : Option (List ℕ)) → Some (stored_of o ty) ≡ Some Missing → o ≡ None
    at None e = refl
    at (Some bytes) e = absurd (bytes_not bytes (nat_lt most_bytes (length bytes)) (same_Some _ _ e))

    by : (t : Option (List ℕ → Option (List ℕ))) → f.told ≡ t → IsMissing f path
    by None none = let e : at_path f.told path ty ≡ None = ap (λ t. at_path t path ty) none in absurd (some_none (sym is ∙ e))
    by (Some files) told = (files, told, at (files path) (sym (ap (λ t. at_path t path ty) told) ∙ is))

missing_at : (path : List ℕ) (ty : Ty) (f : FilesState) → IsMissing f path → at_path f.told path ty ≡ Some Missing
missing_at path ty f is = ap (λ t. at_path t path ty) is.1 ∙ ap (λ o. Some (stored_of o ty)) is.2

untold : (t : Option (List ℕ → Option (List ℕ))) → t ≡ None → IsSome (contents_of t) → ⊥
untold None is told = cc
untold (Some files) is told = some_none is

-- the cause of a refusal
abbrev CauseOf : DriverError → Option Stored → FilesState → FilesState → ℕ → ℕ → Type 0
CauseOf error.Failed at f f' unread unread' = (at ≡ Some Missing) ⊎ Rose f.faults f'.faults
CauseOf (error.BadSource place) at f f' unread unread' = (at ≡ Some (Bad place)) ⊎ ((f.told ≡ None) × Rose unread unread')
CauseOf (error.TooLong most) at f f' unread unread' = (at ≡ Some (Long most)) ⊎ ((f.told ≡ None) × Rose unread unread')
CauseOf (error.TooDeep place) at f f' unread unread' = ⊥
CauseOf (error.Changed d) at f f' unread unread' = ⊥
CauseOf error.NoMemory at f f' unread unread' = Unit {0}

unread_cause : {A : Type 0} {P : Type 0} (f : FilesState) → P ⊎ ((f.told ≡ None) × A) → P ⊎ ((IsSome (contents_of f.told) → ⊥) × A)
unread_cause f (inl p) = inl p
unread_cause f (inr e) = inr (untold f.told e.0, e.1)

-- a refused `attach`
refused : (e : DriverError) (source path : List ℕ) (ty : Ty) (f f' : FilesState) (sources : Sources) (cursors : List (Option Open)) (asked : List (Ask × ℕ)) (handed unread unread' : ℕ)
    → f'.told ≡ f.told → f.faults ≤ f'.faults → CountsFault {T = ℕ} (Err e) f.faults f'.faults → unread ≤ unread' → CountsUnread (Err e) unread unread' → CauseOf e (at_path f.told path ty) f f' unread unread'
    → (at_path f.told path ty ≡ Some Missing → (f'.faults ≡ f.faults) × (unread' ≡ unread))
    → Attaches source path ty (Err e) (flat_state f sources cursors asked handed unread) (flat_state f' sources cursors asked handed unread')
refused e source path ty f f' sources cursors asked handed unread unread' told faults rises more counts cause missing =
    subst (λ t. Attaches source path ty (Err e) (flat_state f sources cursors asked handed unread) (flat_state (record { told = t; left = f'.left; log = f'.log; faults = f'.faults }) sources cursors asked handed unread')) (sym told) (record {
      keeps = record { kind = refl; handed = omega arith; faults = faults; drifts = omega arith; no_drift = λ is. refl; unread = more };
      cursors = refl;
      reading = λ k is. record { file = refl; read = refl };
      asked = refl;
      handed = refl;
      faults = rises;
      drifts = refl;
      unread = counts;
      others = λ name ne. refl;
      attached = tt;
      kept = tt;
      count = tt;
      unique = λ is_unique is_set. tt;
      typed = tt;
      refused = refl;
      missing = λ is. (tt, (missing is).0, (missing is).1);
      bad = λ place is. tt;
      long = λ most is. tt;
      deep = λ place is. tt;
      failed = λ is. subst (λ e. CauseOf e (at_path f.told path ty) f f' unread unread') (error_is is) cause;
      bad_source = λ place is. unread_cause f (subst (λ e. CauseOf e (at_path f.told path ty) f f' unread unread') (error_is is) cause);
      too_long = λ most is. unread_cause f (subst (λ e. CauseOf e (at_path f.told path ty) f f' unread unread') (error_is is) cause);
      too_deep = λ place is. absurd (subst (λ e. CauseOf e (at_path f.told path ty) f f' unread unread') (error_is is) cause);
      no_change = λ d is. subst (λ e. CauseOf e (at_path f.told path ty) f f' unread unread') (error_is is) cause;
    })

module _ (source path : List ℕ) (ty : Ty) (f f' : FilesState) (sources : Sources) (cursors : List (Option Open)) (asked : List (Ask × ℕ)) (handed unread : ℕ) where
  -- the file was read, and memory wanted then
  no_memory : (whole : Whole) → ReadsWhole path most_bytes (Ok whole) f f' → Attaches source path ty (Err error.NoMemory) (flat_state f sources cursors asked handed unread) (flat_state f' sources cursors asked handed unread)
  no_memory whole reads = refused error.NoMemory source path ty f f' sources cursors asked handed unread unread reads.told reads.later reads.counts (omega arith) refl tt (λ is. ((reads.missing (is_missing path ty f is)).1, refl))

  failed : ReadsWhole path most_bytes (Err stop.Failed) f f' → Attaches source path ty (Err error.Failed) (flat_state f sources cursors asked handed unread) (flat_state f' sources cursors asked handed unread)
  failed reads = refused error.Failed source path ty f f' sources cursors asked handed unread unread reads.told reads.later reads.counts (omega arith) refl
      (elim (reads.failed refl) [ inl none ↦ inl (missing_at path ty f none) | inr rose ↦ inr rose ]) (λ is. ((reads.missing (is_missing path ty f is)).1, refl))

  no_room : ReadsWhole path most_bytes (Err stop.NoMemory) f f' → Attaches source path ty (Err error.NoMemory) (flat_state f sources cursors asked handed unread) (flat_state f' sources cursors asked handed unread)
  no_room reads = refused error.NoMemory source path ty f f' sources cursors asked handed unread unread reads.told reads.later reads.counts (omega arith) refl tt (λ is. ((reads.missing (is_missing path ty f is)).1, refl))

  too_long : (unread' : ℕ) → ReadsWhole path most_bytes (Ok TooLong) f f' → unread' ≡ min (unread + 1) (2 ^ 64 - 1) → unread < 2 ^ 64
      → Attaches source path ty (Err (error.TooLong most_bytes)) (flat_state f sources cursors asked handed unread) (flat_state f' sources cursors asked handed unread')
  too_long unread' reads rose fits = refused (error.TooLong most_bytes) source path ty f f' sources cursors asked handed unread unread' reads.told reads.later reads.counts (omega (arith, rose, fits)) (omega (arith, rose, fits))
      (by (stands path ty TooLong f f' reads)) (λ is. let q = (reads.missing (is_missing path ty f is)).0 in absurd cc)
    where
      by : Stands f.told path ty TooLong → (at_path f.told path ty ≡ Some (Long most_bytes)) ⊎ ((f.told ≡ None) × Rose unread unread')
      by (inl none) = inr (none, omega (arith, rose))
      by (inr found) = let long : nat_lt most_bytes (length found.0) ≡ true = grind (arith, nat_tests, found.2) in inl (found.1 ∙ ap Some (rw long refl))

  bad_source : (bytes : List ℕ) (place unread' : ℕ) → ReadsWhole path most_bytes (Ok (Bytes bytes)) f f' → bad_record bytes ty ≡ Some place → unread' ≡ min (unread + 1) (2 ^ 64 - 1) → unread < 2 ^ 64
      → Attaches source path ty (Err (error.BadSource place)) (flat_state f sources cursors asked handed unread) (flat_state f' sources cursors asked handed unread')
  bad_source bytes place unread' reads bad rose fits = refused (error.BadSource place) source path ty f f' sources cursors asked handed unread unread' reads.told reads.later reads.counts (omega (arith, rose, fits)) (omega (arith, rose, fits))
      (by (stands path ty (Bytes bytes) f f' reads)) (λ is. let q = (reads.missing (is_missing path ty f is)).0 in absurd cc)
    where
      by : Stands f.told path ty (Bytes bytes) → (at_path f.told path ty ≡ Some (Bad place)) ⊎ ((f.told ≡ None) × Rose unread unread')
      by (inl none) = inr (none, omega (arith, rose))
      by (inr found) =
          let short : nat_lt most_bytes (length found.0) ≡ false = grind (arith, nat_tests, found.2.1) in
          let same : bad_record found.0 ty ≡ Some place = ap (λ b. bad_record b ty) (sym found.2.0) ∙ bad in
          inl (found.1 ∙ ap Some (rw short (ap (stored_rows found.0 ty) same)))

  -- the file has no rows, or was not read
  pub attach_refused : (e : DriverError) (unread' : ℕ) → ReadsRows path ty (Err e) f f' → unread' ≡ unread_by e unread → unread < 2 ^ 64
      → Attaches source path ty (Err e) (flat_state f sources cursors asked handed unread) (flat_state f' sources cursors asked handed unread')
  attach_refused e unread' read counted fits = by read.read read.reads read.rows
    where
      Refused : DriverError → Type 0
      Refused e = Attaches source path ty (Err e) (flat_state f sources cursors asked handed unread) (flat_state f' sources cursors asked handed (unread_by e unread))

      is_so : {d : DriverError} → e ≡ d → Refused d → Attaches source path ty (Err e) (flat_state f sources cursors asked handed unread) (flat_state f' sources cursors asked handed unread')
      is_so is done =
          subst (λ n. Attaches source path ty (Err e) (flat_state f sources cursors asked handed unread) (flat_state f' sources cursors asked handed n)) (sym counted) (subst Refused (sym is) done)

      by : (whole : Result Whole Stop) → ReadsWhole path most_bytes whole f f' → RowsOf ty whole (Err e)
          → Attaches source path ty (Err e) (flat_state f sources cursors asked handed unread) (flat_state f' sources cursors asked handed unread')
      by (Ok (Bytes bytes)) reads (inl none) = is_so none (no_memory (Bytes bytes) reads)
      by (Ok (Bytes bytes)) reads (inr bad) = is_so bad.1 (bad_source bytes bad.0 (raised_by 1 unread) reads bad.2 refl fits)
      by (Ok TooLong) reads is = let same : e ≡ error.TooLong most_bytes = cc in is_so same (too_long (raised_by 1 unread) reads refl fits)
      by (Err stop.Failed) reads is = let same : e ≡ error.Failed = cc in is_so same (failed reads)
      by (Err stop.NoMemory) reads is = let same : e ≡ error.NoMemory = cc in is_so same (no_room reads)

-- a table that was read
read_well : (path : List ℕ) (ty : Ty) (rows : List Value) (f f' : FilesState) → ReadsRows path ty (Ok rows) f f'
    → (bytes : List ℕ) × ReadsWhole path most_bytes (Ok (Bytes bytes)) f f' × (rows ≡ table_rows bytes ty) × (bad_record bytes ty ≡ None)
read_well path ty rows f f' read = by read.read read.reads read.rows
  where
    by : (whole : Result Whole Stop) → ReadsWhole path most_bytes whole f f' → RowsOf ty whole (Ok rows)
        → (bytes : List ℕ) × ReadsWhole path most_bytes (Ok (Bytes bytes)) f f' × (rows ≡ table_rows bytes ty) × (bad_record bytes ty ≡ None)
    by (Ok (Bytes bytes)) reads are = (bytes, reads, are.0, are.1)
    by (Ok TooLong) reads is = absurd cc
    by (Err stop.Failed) reads is = absurd cc
    by (Err stop.NoMemory) reads is = absurd cc

pub read_rows_fit : (path : List ℕ) (ty : Ty) (rows : List Value) (f f' : FilesState) → ReadsRows path ty (Ok rows) f f' → is_table_type ty ≡ true → IsProper ty → are_rows ty rows ≡ true
read_rows_fit path ty rows f f' read suits proper = let well = read_well path ty rows f f' read in ap (are_rows ty) well.2 ∙ are_table_rows well.0 ty suits proper

abbrev attached_in : {A : Type 0} → Option A → Sources → Name → Option Attached
attached_in told sources name = option_map (attached_of told) (source_named sources name)

-- the sources are as before
stays : {A : Type 0} (told : Option A) (sources sources' : Sources) → IsUnchanged sources sources' → attached_in told sources' ≡ attached_in told sources
stays told sources sources' same = λ i name. option_map (attached_of told) (lookup (pointwise nat_eq name) (same i))

-- it was read, and memory wanted then
pub attach_stopped : (source path : List ℕ) (ty : Ty) (rows : List Value) (result : Result ℕ DriverError) (f f' : FilesState) (sources sources' : Sources) (cursors : List (Option Open)) (asked : List (Ask × ℕ)) (handed unread : ℕ)
    → ReadsRows path ty (Ok rows) f f' → IsUnchanged sources sources' → result ≡ Err error.NoMemory
    → Attaches source path ty result (flat_state f sources cursors asked handed unread) (flat_state f' sources' cursors asked handed unread)
attach_stopped source path ty rows result f f' sources sources' cursors asked handed unread read same is =
    let well = read_well path ty rows f f' read in
    let as_before = no_memory source path ty f f' sources cursors asked handed unread (Bytes well.0) well.1 in
    subst (λ r. Attaches source path ty r (flat_state f sources cursors asked handed unread) (flat_state f' sources' cursors asked handed unread)) (sym is)
    (subst (λ at. Attaches source path ty (Err error.NoMemory) (flat_state f sources cursors asked handed unread) (record (flat_state f' sources cursors asked handed unread) { attached = at })) (sym (stays f'.told sources sources' same)) as_before)

-- what stands there is these rows, where it is told
abbrev pub Good : Option (List ℕ → Option (List ℕ)) → List ℕ → Ty → List Value → Type 0
Good told path ty rows = (told_only told rows ≡ told_rows (at_path told path ty)) × ((all : List Value) → at_path told path ty ≡ Some (Rows all) → all ≡ rows)
    × (at_path told path ty ≡ Some Missing → ⊥) × ((place : ℕ) → at_path told path ty ≡ Some (Bad place) → ⊥) × ((most : ℕ) → at_path told path ty ≡ Some (Long most) → ⊥) × ((place : ℕ) → at_path told path ty ≡ Some (Deep place) → ⊥)

good_rows : (path : List ℕ) (ty : Ty) (f : FilesState) (bytes : List ℕ) (rows : List Value) → rows ≡ table_rows bytes ty → bad_record bytes ty ≡ None → Stands f.told path ty (Bytes bytes) → Good f.told path ty rows
good_rows path ty f bytes rows are good stand = by f.told refl stand
  where
    rows_same : {xs ys : List Value} → Some (Rows xs) ≡ Some (Rows ys) → xs ≡ ys
    rows_same h = cc

    none : {s : Stored} → None ≡ Some s → ⊥
    none h = cc

    by : (t : Option (List ℕ → Option (List ℕ))) → f.told ≡ t → Stands t path ty (Bytes bytes) → Good t path ty rows
    by None told st = (refl, λ all is. absurd (none is), λ is. none is, λ place is. none is, λ most is. none is, λ place is. none is)
    by (Some files) told (inl untold_is) = absurd (some_none untold_is)
    by (Some files) told (inr found) =
        let short : nat_lt most_bytes (length found.0) ≡ false = grind (arith, nat_tests, found.2.1) in
        let fine : bad_record found.0 ty ≡ None = ap (λ b. bad_record b ty) (sym found.2.0) ∙ good in
        let same : table_rows found.0 ty ≡ rows = ap (λ b. table_rows b ty) (sym found.2.0) ∙ sym are in
        let all : at_path (Some files) path ty ≡ Some (Rows rows) = found.1 ∙ ap Some (rw short (ap (stored_rows found.0 ty) fine ∙ ap Rows same)) in
        (sym (ap told_rows all), λ xs is. rows_same (sym is ∙ all), λ is. let e : Some (Rows rows) ≡ Some Missing = sym all ∙ is in cc, λ place is. let e : Some (Rows rows) ≡ Some (Bad place) = sym all ∙ is in cc, λ most is. let e : Some (Rows rows) ≡ Some (Long most) = sym all ∙ is in cc, λ place is. let e : Some (Rows rows) ≡ Some (Deep place) = sym all ∙ is in cc)

-- a file that was read as a table holds its rows
pub good_read : (path : List ℕ) (ty : Ty) (rows : List Value) (f f' : FilesState) → ReadsRows path ty (Ok rows) f f' → Good f.told path ty rows × (f'.told ≡ f.told) × (f.faults ≤ f'.faults)
good_read path ty rows f f' read =
    let well = read_well path ty rows f f' read in
    (good_rows path ty f well.0 rows well.2 well.3 (stands path ty (Bytes well.0) f f' well.1), well.1.told, well.1.later)

abbrev mk : Ty → Option (List Value) → ℕ → Attached
mk t r n = record { ty = t; rows = r; count = n; kept = None }

-- a table that was read and attached
pub attach_done : (source path : List ℕ) (ty : Ty) (rows : List Value) (count : ℕ) (f f' : FilesState) (sources sources' : Sources) (cursors : List (Option Open)) (asked : List (Ask × ℕ)) (handed unread : ℕ)
    → ReadsRows path ty (Ok rows) f f' → AddsSource source ty rows sources sources' count → are_rows ty rows ≡ true
    → Attaches source path ty (Ok count) (flat_state f sources cursors asked handed unread) (flat_state f' sources' cursors asked handed unread)
attach_done source path ty rows count f f' sources sources' cursors asked handed unread read adds good =
    let well = read_well path ty rows f f' read in
    let reads = well.1 in
    let s = adds.made in
    let facts = (good_read path ty rows f f' read).0 in
    let here : source_named sources' source ≡ Some s = adds.added.0 source ∙ (let same = same_label source in rw same refl) in
    let told : told_only f.told (rows_of s.table) ≡ told_rows (at_path f.told path ty) = ap (told_only f.told) adds.with ∙ facts.0 in
    let size : length (rows_of s.table) ≡ count = ap length adds.with ∙ sym adds.size in
    let kept : attached_of f.told s ≡ mk ty (told_rows (at_path f.told path ty)) count = λ i. mk (adds.of i) (told i) (size i) in
    subst (λ t. Attaches source path ty (Ok count) (flat_state f sources cursors asked handed unread) (flat_state (record { told = t; left = f'.left; log = f'.log; faults = f'.faults }) sources' cursors asked handed unread)) (sym reads.told) (record {
      keeps = record { kind = refl; handed = omega arith; faults = reads.later; drifts = omega arith; no_drift = λ is. refl; unread = omega arith };
      cursors = refl;
      reading = λ k is. record { file = refl; read = refl };
      asked = refl;
      handed = refl;
      faults = reads.counts;
      drifts = refl;
      unread = refl;
      others = λ n ne. ap (option_map (attached_of f.told)) (adds.added.0 n ∙ (let other = not_same source n (λ e. ne (sym e)) in rw other refl));
      attached = (None, ap (option_map (attached_of f.told)) here ∙ ap Some kept);
      kept = λ anew. absurd cc;
      count = λ all is. adds.size ∙ ap length (sym (facts.1 all is));
      unique = λ is_unique is_set. absurd cc;
      typed = λ all is. subst (AllByRecursion (Inhabits (item_of (ground_of ty)))) (sym (facts.1 all is)) (rows_typed ty rows good);
      refused = tt;
      missing = λ is. absurd (facts.2 is);
      bad = λ place is. facts.3 place is;
      long = λ most is. facts.4 most is;
      deep = λ place is. facts.5 place is;
      failed = λ is. absurd cc;
      bad_source = λ place is. absurd cc;
      too_long = λ most is. absurd cc;
      too_deep = λ place is. absurd cc;
      no_change = λ d is. cc;
    })
