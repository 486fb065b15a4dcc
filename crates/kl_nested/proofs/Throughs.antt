-- The reading of a whole file.
use Rattle.std.proofs.Common.{◌≡◌, ◌≢◌, ℕ, ◌+◌, ◌<◌, ◌≤◌, true, false, List, [], ◌∷◌, ◌++◌, length, Option, Some, None, IsSome, Result, Ok, Err, IsErrOf, Bool, refl, sym, ap, subst, ◌∙◌, arith, length-append, inl, inr}
use Rattle.std.specs.Prelude.{is_some}
use Rattle.std.specs.List.{AllByRecursion}
use Rattle.std.proofs.lemmas.Bool.{cases_eq}
use Rattle.kl_base.specs.Counts.{Rose}
use Rattle.kl_value.specs.declared.Value.{Value}
use Rattle.kl_type.specs.Has.{has_type}
use Rattle.kl_type.specs.declared.ground.Ty.{Ty}
use Rattle.kl_outside.proofs.FileLemmas.{not_open}
use Rattle.kl_outside.specs.Files.{FilesState, Closes, OpensPath, OtherFiles, left_at_first, OtherSeen}
use Rattle.kl_outside.specs.declared.stop.Stop.{Stop}
use Rattle.kl_outside.specs.declared.stop.Stop.TheVariants as stop
use Rattle.kl_exchange.specs.FileItems.{FileEnd, WholeText, BadAt, TooDeepAt, PastLimit, reading}
use Rattle.kl_exchange.specs.FileReading.{to_come}
use Rattle.kl_exchange.specs.declared.error.FileError.{FileError}
use Rattle.kl_exchange.specs.declared.error.FileError.TheVariants as fault
use Rattle.kl_exchange.proofs.FileReading.{begins_so}
use Rattle.kl_heads.specs.FileReading.{EndsSo, HasOpened, HasRead, HeadedFile, NextItem, Opens, ReadsHead, Stands, limit_of, place_of}
use Rattle.kl_heads.specs.Files.{Shows}
use Rattle.kl_heads.specs.Stated.{states_no_other}
use Rattle.kl_ask.specs.Driver.{Bad, CountsFault}
use Rattle.kl_ask.specs.declared.ask.Drift.{Drift}
use Rattle.kl_ask.specs.declared.ask.DriverError.{DriverError}
use Rattle.kl_ask.specs.declared.ask.DriverError.TheVariants as error
use Rattle.kl_nested.specs.Contents.{stored_behind, stored_in}
use Rattle.kl_nested.specs.Handing.{AllHave}
use Rattle.kl_nested.specs.Opening.{stopped_as}
use Rattle.kl_nested.specs.Reading.{LooksAtHead, SaysHead, NextRow, ReadsFile, ReadsThrough, RowOf, SaysWhether, SkipsRow, Told, unreadable}
use Rattle.kl_nested.specs.declared.rows.Halt.{Halt}
use Rattle.kl_nested.specs.declared.rows.Halt.TheVariants as halt
use Rattle.kl_nested.proofs.Places.{items_few}
use Rattle.kl_nested.proofs.Shown.{read_to_end}
use Rattle.kl_nested.proofs.Standings.{ends_at, head_differs, head_read, misfits}
use Rattle.kl_nested.specs.declared.through.Kept.{Kept}

-- ---- what the loop knows

-- the head and these items of the type were read, and nothing but this file was touched
pub record Reading (limit : ℕ) (item : Ty) (file : ℕ) (old : FilesState) (stated : Bool) (now : HeadedFile) (new : FilesState) (count : ℕ) : Type 0 where
  pub head : Option Ty
  pub values : List Value
  pub has_read : HasRead (old.left file) head values now (new.left file)
  pub fits : states_no_other item head ≡ true
  pub is_stated : stated ≡ is_some head
  pub have : AllHave item values
  pub counted : count ≡ length values
  pub limit_is : limit_of now ≡ limit
  pub same_file : now.items.file ≡ file
  pub told : new.told ≡ old.told
  pub others : OtherFiles file old new
  pub is_open : IsSome (new.left file)
  pub others_seen : OtherSeen file old new
  pub counts : new.faults ≡ old.faults

-- no count passes its type
pub small : (limit : ℕ) (item : Ty) (file : ℕ) (old : FilesState) (stated : Bool) (now : HeadedFile) (new : FilesState) (count : ℕ) → Reading limit item file old stated now new count → count ≤ limit
small limit item file old stated now new count at =
    let a = items_few at.has_read.items.read at.values at.has_read.items.items in
    let b = at.has_read.items.place in
    let c = at.has_read.items.within in
    let d = at.limit_is in
    let e = at.counted in
    omega arith

-- ---- the steps of the loop

pub all_append : (P : Value → Type 0) (vs us : List Value) → AllByRecursion P vs → AllByRecursion P us → AllByRecursion P (vs ++ us)
all_append P [] us h k = k
all_append P (v ∷ vs) us h k = (h.0, all_append P vs us h.1 k)

module _ (limit : ℕ) (item : Ty) (old : FilesState) (file : ℕ) where
  -- ---- the head

  -- before it
  pub record Opened (now : HeadedFile) : Type 0 where
    pub has_opened : HasOpened (old.left file) now (old.left file)
    pub limit_is : limit_of now ≡ limit
    pub same_file : now.items.file ≡ file
    pub is_open : IsSome (old.left file)

  pub at_first : (now : HeadedFile) → now.front ≡ true → now.head ≡ 0 → now.refused ≡ None → now.items.text ≡ reading 0 [] false → now.items.past ≡ false → now.items.file ≡ file → now.items.limit ≡ limit → IsSome (old.left file) → Opened now
  at_first now front head refused text past same is_limit open_now = record {
    has_opened = record { unknown = front; size = head; fresh = refused; items = begins_so now.items (old.left file) text past };
    limit_is = omega (arith, head, is_limit);
    same_file = same;
    is_open = open_now;
  }

  module _ (now then : HeadedFile) (after : FilesState) (at : Opened now) (found : Result (Option Ty) FileError) (reads : ReadsHead found now then old after) where
    head_files : OtherFiles file old after
    head_files k ne = reads.leaves.others k (λ is. ne (is ∙ at.same_file))

    head_seen : OtherSeen file old after
    head_seen k ne = reads.leaves.others_seen k (λ is. ne (is ∙ at.same_file))

    head_well : (r : Result (Option Ty) FileError) → found ≡ r → (IsErrOf r fault.Read → ⊥) → after.faults ≡ old.faults
    head_well r is well = reads.leaves.well (subst (λ r. IsErrOf r fault.Read → ⊥) (sym is) well)

    head_open : IsSome (after.left file)
    head_open = subst (λ k. IsSome (after.left k)) at.same_file reads.leaves.is_open

    opens : (r : Result (Option Ty) FileError) → found ≡ r → Opens (old.left file) r then (after.left file)
    opens r is =
        subst (λ r. Opens (old.left file) r then (after.left file)) is
        (subst (λ k. Opens (old.left file) found then (after.left k)) at.same_file
        (reads.goes (old.left file) (subst (λ k. HasOpened (old.left file) now (old.left k)) (sym at.same_file) at.has_opened)))

    head_limit : limit_of then ≡ limit
    head_limit = reads.same.limit ∙ at.limit_is

    -- the head fits, or there is none
    head_fits : (head : Option Ty) → found ≡ Ok head → (stated : Bool) → stated ≡ is_some head → states_no_other item head ≡ true → Reading limit item file old stated then after 0
    head_fits head is stated is_stated fits = record {
      head = head;
      values = [];
      has_read = opens (Ok head) is;
      fits = fits;
      is_stated = is_stated;
      have = tt;
      counted = refl;
      limit_is = head_limit;
      same_file = reads.same.file ∙ at.same_file;
      told = reads.leaves.told;
      others = head_files;
      is_open = head_open;
      others_seen = head_seen;
      counts = head_well (Ok head) is (λ e. cc);
    }

    -- a refusal
    head_stops : (e : DriverError) → CountsFault {T = Kept} (Err e) old.faults after.faults → (IsErrOf {T = Kept} (Err e) error.Failed → Rose old.faults after.faults) → ((d : Drift) → IsErrOf {T = Kept} (Err e) (error.Changed d) → ⊥)
        → ((bytes : List ℕ) → old.left file ≡ Some (Some bytes) → Told limit bytes item (Err e)) → ReadsThrough limit file item (Err e) old after
    head_stops e counts failed no_change known =
        record { told = reads.leaves.told; others = head_files; is_open = head_open; others_seen = head_seen; later = reads.leaves.later; counts = counts; failed = failed; small = tt; no_change = no_change; known = known }

    -- another type is stated
    head_other : (head : Option Ty) → found ≡ Ok head → states_no_other item head ≡ false → ReadsThrough limit file item (Err (error.BadSource 0)) old after
    head_other head is other = head_stops (error.BadSource 0) (head_well (Ok head) is (λ e. cc)) (λ h. absurd cc) (λ d h. cc)
        (λ bytes known. head_differs limit bytes item head [] then (after.left file) head_limit (subst (λ l. HasRead l head [] then (after.left file)) known (opens (Ok head) is)) other)

    head_ends : (end : FileEnd) → EndsSo (old.left file) None [] end then → (bytes : List ℕ) → old.left file ≡ Some (Some bytes) → stored_in limit bytes item ≡ stored_behind limit [] end
    head_ends end so bytes known = ends_at limit bytes item None [] end refl tt (subst (λ n. Shows n bytes None [] end) head_limit (so bytes known).0)

    head_unread : (e : FileError) (d : DriverError) → found ≡ Err e → d ≡ unreadable limit 0 (halt.Unread e) → ReadsThrough limit file item (Err d) old after
    head_unread e d is so = subst (λ d. ReadsThrough limit file item (Err d) old after) (sym so) (by e is)
      where
        by : (e : FileError) → found ≡ Err e → ReadsThrough limit file item (Err (unreadable limit 0 (halt.Unread e))) old after
        by (fault.Bad p) is = head_stops (error.BadSource p) (head_well (Err (fault.Bad p)) is (λ e. cc)) (λ h. absurd cc) (λ d h. cc) (head_ends (BadAt p) (opens (Err (fault.Bad p)) is))
        by (fault.TooDeep p) is = head_stops (error.TooDeep p) (head_well (Err (fault.TooDeep p)) is (λ e. cc)) (λ h. absurd cc) (λ d h. cc) (head_ends (TooDeepAt p) (opens (Err (fault.TooDeep p)) is))
        by fault.TooLong is = head_stops (error.TooLong limit) (head_well (Err fault.TooLong) is (λ e. cc)) (λ h. absurd cc) (λ d h. cc) (head_ends PastLimit (opens (Err fault.TooLong) is))
        by fault.Read is = head_stops error.Failed reads.leaves.later (λ h. reads.leaves.failed (rw is refl)) (λ d h. cc) (λ bytes known. tt)
        by fault.NoMemory is = head_stops error.NoMemory (head_well (Err fault.NoMemory) is (λ e. cc)) (λ h. absurd cc) (λ d h. cc) (λ bytes known. tt)

  -- ---- with the code's step

  module _ (now then : HeadedFile) (after : FilesState) (at : Opened now) where
    pub head_passed : (stated : Bool) → LooksAtHead limit item (Ok stated) now then old after → Reading limit item file old stated then after 0
    head_passed stated looks = by looks.found looks.reads looks.says
      where
        by : (found : Result (Option Ty) FileError) → ReadsHead found now then old after → SaysHead limit item found (Ok stated) → Reading limit item file old stated then after 0
        by (Ok head) reads says = head_fits now then after at (Ok head) reads head refl stated says.0 says.1
        by (Err why) reads says = absurd says

    pub head_stopped : (e : DriverError) → LooksAtHead limit item (Err e) now then old after → ReadsThrough limit file item (Err e) old after
    head_stopped e looks = by looks.found looks.reads looks.says
      where
        by : (found : Result (Option Ty) FileError) → ReadsHead found now then old after → SaysHead limit item found (Err e) → ReadsThrough limit file item (Err e) old after
        by (Ok head) reads says = subst (λ e. ReadsThrough limit file item (Err e) old after) (sym says.0) (head_other now then after at (Ok head) reads head refl says.1)
        by (Err why) reads says = head_unread now then after at (Err why) reads why e refl says

  -- ---- the items

  module _ (stated : Bool) (now then : HeadedFile) (new after : FilesState) (count : ℕ) (at : Reading limit item file old stated now new count) (found : Result (Option Value) FileError) (next : NextItem found now then new after) where
    other_files : OtherFiles file old after
    other_files k ne = next.leaves.others k (λ is. ne (is ∙ at.same_file)) ∙ at.others k ne

    told_on : after.told ≡ old.told
    told_on = next.leaves.told ∙ at.told

    other_seen : OtherSeen file old after
    other_seen k ne = next.leaves.others_seen k (λ is. ne (is ∙ at.same_file)) ∙ at.others_seen k ne

    later_on : old.faults ≤ after.faults
    later_on = let a = at.counts in let b = next.leaves.later in omega arith

    -- no read failed
    well_on : (r : Result (Option Value) FileError) → found ≡ r → (IsErrOf r fault.Read → ⊥) → after.faults ≡ old.faults
    well_on r is well = next.leaves.well (subst (λ r. IsErrOf r fault.Read → ⊥) (sym is) well) ∙ at.counts

    open_on : IsSome (after.left file)
    open_on = subst (λ k. IsSome (after.left k)) at.same_file next.leaves.is_open

    limit_on : limit_of then ≡ limit
    limit_on = next.same.limit ∙ at.limit_is

    stands : Stands (old.left file) at.head at.values found then (after.left file)
    stands =
        subst (λ k. Stands (old.left file) at.head at.values found then (after.left k)) at.same_file
        (next.goes (old.left file) at.head at.values (subst (λ k. HasRead (old.left file) at.head at.values now (new.left k)) (sym at.same_file) at.has_read))

    stands_at : (r : Result (Option Value) FileError) → found ≡ r → Stands (old.left file) at.head at.values r then (after.left file)
    stands_at r is = subst (λ r. Stands (old.left file) at.head at.values r then (after.left file)) is stands

    -- one item more
    one_more : (v : Value) → found ≡ Ok (Some v) → has_type v item ≡ true → Reading limit item file old stated then after (count + 1)
    one_more v is have = record {
      head = at.head;
      values = at.values ++ v ∷ [];
      has_read = stands_at (Ok (Some v)) is;
      fits = at.fits;
      is_stated = at.is_stated;
      have = all_append (λ v. has_type v item ≡ true) at.values (v ∷ []) at.have (have, tt);
      counted = let a = at.counted in let b : length (at.values ++ v ∷ []) ≡ length at.values + 1 = length-append at.values (v ∷ []) in omega arith;
      limit_is = limit_on;
      same_file = next.same.file ∙ at.same_file;
      told = told_on;
      others = other_files;
      is_open = open_on;
      others_seen = other_seen;
      counts = well_on (Ok (Some v)) is (λ e. cc);
    }

    ended : (end : FileEnd) → EndsSo (old.left file) at.head at.values end then → (bytes : List ℕ) → old.left file ≡ Some (Some bytes) → stored_in limit bytes item ≡ stored_behind limit at.values end
    ended end so bytes known = ends_at limit bytes item at.head at.values end at.fits at.have (subst (λ n. Shows n bytes at.head at.values end) limit_on (so bytes known).0)

    -- the end
    done : (size : ℕ) → found ≡ Ok None → then.items.text.finished ≡ true → size ≡ place_of then + length then.items.text.left → ReadsThrough limit file item (Ok (record { stated = stated; bytes = size; count = count })) old after
    done size is finished total =
        let so = stands_at (Ok None) is in
        record {
          told = told_on;
          others = other_files;
          is_open = open_on;
          others_seen = other_seen;
          later = later_on;
          counts = well_on (Ok None) is (λ e. cc);
          failed = λ h. absurd cc;
          small = ((let a = so.0.items.within in omega (arith, a, total, limit_on)), small limit item file old stated now new count at);
          no_change = λ d h. cc;
          known = λ bytes known.
              let here : HasRead (Some (Some bytes)) at.head at.values then (after.left file) = subst (λ l. HasRead l at.head at.values then (after.left file)) known so.0 in (
                at.values,
                ended WholeText so.1 bytes known,
                at.counted,
                total ∙ sym (read_to_end bytes at.head at.values then (after.left file) here finished),
                at.is_stated ∙ ap is_some (head_read limit bytes item at.head at.values then (after.left file) limit_on here),
              );
        }

    -- a refusal
    through : (e : DriverError) → CountsFault {T = Kept} (Err e) old.faults after.faults → (IsErrOf {T = Kept} (Err e) error.Failed → Rose old.faults after.faults) → ((d : Drift) → IsErrOf {T = Kept} (Err e) (error.Changed d) → ⊥)
        → ((bytes : List ℕ) → old.left file ≡ Some (Some bytes) → Told limit bytes item (Err e)) → ReadsThrough limit file item (Err e) old after
    through e counts failed no_change known = record { told = told_on; others = other_files; is_open = open_on; others_seen = other_seen; later = later_on; counts = counts; failed = failed; small = tt; no_change = no_change; known = known }

    -- an item that lacks the type
    misfit : (v : Value) (place : ℕ) → found ≡ Ok (Some v) → has_type v item ≡ false → place ≡ place_of now → ReadsThrough limit file item (Err (error.BadSource place)) old after
    misfit v place is lacks same =
        through (error.BadSource place) (well_on (Ok (Some v)) is (λ e. cc)) (λ h. absurd cc) (λ d h. cc)
        (λ bytes known.
        misfits limit bytes item at.head at.values v now then (new.left file) (after.left file) limit_on at.fits (subst (λ l. HasRead l at.head at.values now (new.left file)) known at.has_read)
        (subst (λ l. HasRead l at.head (at.values ++ v ∷ []) then (after.left file)) known (stands_at (Ok (Some v)) is)) at.have lacks
        ∙ ap Bad (sym same))

    unread : (e : FileError) (place : ℕ) → found ≡ Err e → ReadsThrough limit file item (Err (unreadable limit place (halt.Unread e))) old after
    unread (fault.Bad p) place is = through (error.BadSource p) (well_on (Err (fault.Bad p)) is (λ e. cc)) (λ h. absurd cc) (λ d h. cc) (ended (BadAt p) (stands_at (Err (fault.Bad p)) is).1)
    unread (fault.TooDeep p) place is = through (error.TooDeep p) (well_on (Err (fault.TooDeep p)) is (λ e. cc)) (λ h. absurd cc) (λ d h. cc) (ended (TooDeepAt p) (stands_at (Err (fault.TooDeep p)) is).1)
    unread fault.TooLong place is = through (error.TooLong limit) (well_on (Err fault.TooLong) is (λ e. cc)) (λ h. absurd cc) (λ d h. cc) (ended PastLimit (stands_at (Err fault.TooLong) is).1)
    unread fault.Read place is = through error.Failed later_on (λ h. let a = at.counts in let b = next.leaves.failed (rw is refl) in omega arith) (λ d h. cc) (λ bytes known. tt)
    unread fault.NoMemory place is = through error.NoMemory (well_on (Err fault.NoMemory) is (λ e. cc)) (λ h. absurd cc) (λ d h. cc) (λ bytes known. tt)

  -- ---- with the code's step

  module _ (stated : Bool) (now then : HeadedFile) (new after : FilesState) (count : ℕ) (at : Reading limit item file old stated now new count) where
    stepped_by : (v : Value) → NextRow item (Ok (Some v)) now then new after → Reading limit item file old stated then after (count + 1) × (to_come then.items < to_come now.items)
    stepped_by v s = by s.found s.next s.row
      where
        by : (r : Result (Option Value) FileError) → NextItem r now then new after → RowOf item r (Ok (Some v)) then → Reading limit item file old stated then after (count + 1) × (to_come then.items < to_come now.items)
        by (Ok (Some w)) n l = (one_more stated now then new after count at (Ok (Some w)) n w refl l.1, n.less w refl)
        by (Ok None) n l = absurd l
        by (Err e) n l = absurd l

    ended_by : (size : ℕ) → NextRow item (Ok None) now then new after → size ≡ place_of then + length then.items.text.left → ReadsThrough limit file item (Ok (record { stated = stated; bytes = size; count = count })) old after
    ended_by size s total = by s.found s.next s.row
      where
        by : (r : Result (Option Value) FileError) → NextItem r now then new after → RowOf item r (Ok None) then → ReadsThrough limit file item (Ok (record { stated = stated; bytes = size; count = count })) old after
        by (Ok None) n l = done stated now then new after count at (Ok None) n size refl l total
        by (Ok (Some v)) n l = absurd l
        by (Err e) n l = absurd l

    refused_by : (h : Halt) (place : ℕ) → NextRow item (Err h) now then new after → place ≡ place_of now → ReadsThrough limit file item (Err (unreadable limit place h)) old after
    refused_by h place s same = by s.found h s.next s.row
      where
        by : (r : Result (Option Value) FileError) (h : Halt) → NextItem r now then new after → RowOf item r (Err h) then → ReadsThrough limit file item (Err (unreadable limit place h)) old after
        by (Ok (Some v)) halt.Misfit n l = misfit stated now then new after count at (Ok (Some v)) n v place refl l same
        by (Ok (Some v)) (halt.Unread e) n l = absurd l
        by (Ok None) halt.Misfit n l = absurd l
        by (Ok None) (halt.Unread e) n l = absurd l
        by (Err e) halt.Misfit n l = absurd l
        by (Err e) (halt.Unread why) n l = subst (λ w. ReadsThrough limit file item (Err (unreadable limit place (halt.Unread w))) old after) (sym l) (unread stated now then new after count at (Err e) n e place refl)

    pub stepped : SkipsRow item (Ok true) now then new after → Reading limit item file old stated then after (count + 1) × (to_come then.items < to_come now.items)
    stepped s = by s.row s.next s.says
      where
        by : (r : Result (Option Value) Halt) → NextRow item r now then new after → SaysWhether r (Ok true) → Reading limit item file old stated then after (count + 1) × (to_come then.items < to_come now.items)
        by (Ok (Some v)) n l = stepped_by v n
        by (Ok None) n l = absurd cc
        by (Err h) n l = absurd l

    pub ended_so : (size : ℕ) → SkipsRow item (Ok false) now then new after → size ≡ place_of then + length then.items.text.left → ReadsThrough limit file item (Ok (record { stated = stated; bytes = size; count = count })) old after
    ended_so size s total = by s.row s.next s.says
      where
        by : (r : Result (Option Value) Halt) → NextRow item r now then new after → SaysWhether r (Ok false) → ReadsThrough limit file item (Ok (record { stated = stated; bytes = size; count = count })) old after
        by (Ok None) n l = ended_by size n total
        by (Ok (Some v)) n l = absurd cc
        by (Err h) n l = absurd l

    pub refused : (h : Halt) (place : ℕ) (e : DriverError) → SkipsRow item (Err h) now then new after → place ≡ place_of now → e ≡ unreadable limit place h → ReadsThrough limit file item (Err e) old after
    refused h place e s same is = subst (λ e. ReadsThrough limit file item (Err e) old after) (sym is) (by s.row s.next s.says)
      where
        by : (r : Result (Option Value) Halt) → NextRow item r now then new after → SaysWhether r (Err h) → ReadsThrough limit file item (Err (unreadable limit place h)) old after
        by (Ok (Some v)) n l = absurd l
        by (Ok None) n l = absurd l
        by (Err why) n l = refused_by h place (subst (λ w. NextRow item (Err w) now then new after) (sym l) n) same

-- ---- the file at a path

module _ (limit : ℕ) (path : List ℕ) (item : Ty) where
  pub file_read : (file : ℕ) (result : Result Kept DriverError) (s0 s1 s2 s3 : FilesState) → OpensPath path (Ok file) s0 s1 → ReadsThrough limit file item result s1 s2 → Closes file s2 s3 → ReadsFile limit path item result s0 s3
  file_read file result s0 s1 s2 s3 opens reads closes = record {
    told = closes.told ∙ reads.told ∙ opens.told;
    left = λ k. elim (cases_eq k file) [ inl is ↦ ap s3.left is ∙ closes.closed ∙ sym opens.fresh ∙ sym (ap s0.left is) | inr ne ↦ closes.others k ne ∙ reads.others k ne ∙ opens.others k ne ];
    open_seen = λ k is. let ne : k ≢ file = (λ same. not_open (s0.left k) (ap s0.left same ∙ opens.fresh) is) in closes.seen k ∙ reads.others_seen k ne ∙ opens.others_seen k ne;
    later = omega (arith, opens.later, reads.later, closes.faults);
    counts = counts_over result s0.faults s1.faults s2.faults s3.faults opens.counts reads.counts closes.faults;
    failed = λ is. inr (let a = reads.failed is in omega (arith, opens.later, a, closes.faults));
    missing = λ missing. absurd (no_failure (opens.missing missing).0);
    small = reads.small;
    no_change = reads.no_change;
    known = λ bytes holds. reads.known bytes (opens.left ∙ ap Some (ap (λ t. left_at_first t path) holds.1 ∙ holds.2));
  }
    where
      no_failure : {value : ℕ} {why : Stop} → Ok value ≡ Err why → ⊥
      no_failure is = cc

      counts_over : (r : Result Kept DriverError) (a b c d : ℕ) → b ≡ a → CountsFault r b c → d ≡ c → CountsFault r a d
      counts_over (Ok kept) a b c d one two three = three ∙ two ∙ one
      counts_over (Err error.Failed) a b c d one two three = omega (arith, one, two, three)
      counts_over (Err error.NoMemory) a b c d one two three = three ∙ two ∙ one
      counts_over (Err (error.Changed x)) a b c d one two three = three ∙ two ∙ one
      counts_over (Err (error.BadSource p)) a b c d one two three = three ∙ two ∙ one
      counts_over (Err (error.TooLong m)) a b c d one two three = three ∙ two ∙ one
      counts_over (Err (error.TooDeep p)) a b c d one two three = three ∙ two ∙ one

  pub not_opened : (why : Stop) (e : DriverError) (s0 s1 : FilesState) → OpensPath path (Err why) s0 s1 → e ≡ stopped_as why → ReadsFile limit path item (Err e) s0 s1
  not_opened why e s0 s1 opens is = subst (λ e. ReadsFile limit path item (Err e) s0 s1) (sym is) (by why opens)
    where
      by : (why : Stop) → OpensPath path (Err why) s0 s1 → ReadsFile limit path item (Err (stopped_as why)) s0 s1
      by stop.Failed opens = record {
        told = opens.told;
        left = λ k. ap (λ left. left k) opens.refused;
        open_seen = λ k is. opens.refused_seen k;
        later = opens.later;
        counts = opens.later;
        failed = λ is. opens.failed refl;
        missing = λ missing. (refl, (opens.missing missing).1);
        small = tt;
        no_change = λ d is. cc;
        known = λ bytes holds. tt;
      }
      by stop.NoMemory opens = record {
        told = opens.told;
        left = λ k. ap (λ left. left k) opens.refused;
        open_seen = λ k is. opens.refused_seen k;
        later = opens.later;
        counts = opens.counts;
        failed = λ is. absurd cc;
        missing = λ missing. absurd (let h = (opens.missing missing).0 in cc);
        small = tt;
        no_change = λ d is. cc;
        known = λ bytes holds. tt;
      }
