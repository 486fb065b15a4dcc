-- The head of a file that is read over.
use Rattle.std.proofs.Common.{◌≡◌, ◌≢◌, inl, inr, ℕ, Bool, true, false, [], length, Option, Some, None, IsErrOf, IsSome, Result, Ok, Err, refl, sym, ap, subst, ◌∙◌, arith}
use Rattle.std.specs.Prelude.{is_some}
use Rattle.std.specs.Bool.{beq}
use Rattle.std.proofs.lemmas.Bool.{false≢true}
use Rattle.kl_type.specs.declared.ground.Ty.{Ty}
use Rattle.kl_outside.specs.Files.{FilesState, left_at_first, seen_in}
use Rattle.kl_exchange.specs.FileItems.{FileEnd, WholeText, BadAt, TooDeepAt, PastLimit}
use Rattle.kl_exchange.specs.FileReading.{Left}
use Rattle.kl_exchange.specs.declared.error.FileError.{FileError}
use Rattle.kl_exchange.specs.declared.error.FileError.TheVariants as fault
use Rattle.kl_exchange.proofs.FileReading.{same_seen}
use Rattle.kl_heads.specs.FileReading.{AsSeen, EndsSo, HasOpened, HasRead, HeadedFile, Opens, ReadsHead, limit_of}
use Rattle.kl_heads.specs.Files.{Shows}
use Rattle.kl_heads.specs.Stated.{states_no_other}
use Rattle.kl_ask.specs.Driver.{CountsFault}
use Rattle.kl_ask.specs.declared.ask.DriverError.{DriverError}
use Rattle.kl_ask.specs.declared.ask.DriverError.TheVariants as error
use Rattle.kl_nested.specs.Contents.{head_as, item_ty}
use Rattle.kl_nested.specs.Desk.{HasReadOf, HasTaken, IsKept}
use Rattle.kl_nested.specs.Handing.{Differs, HasHead, PassesHead, ReadsOne, Refuses, ShowsDrift, unread_as}
use Rattle.kl_nested.specs.Nested.{head_of, stated_of}
use Rattle.kl_nested.specs.declared.parts.Source.{Source}
use Rattle.kl_heads.proofs.OneEnd.{one_text}
use Rattle.kl_heads.proofs.Shown.{first_shown}
use Rattle.kl_nested.proofs.Shown.{header_shown, past_shown, unread_shown}
use Rattle.kl_nested.proofs.Takings.{same_head, untold}
use Rattle.kl_nested.proofs.SameTypes.{same_type, stated_fits}

-- ---- what was found, beside what was kept

pub beq_same : (b c : Bool) → beq b c ≡ true → b ≡ c
beq_same true true is = refl
beq_same false false is = refl
beq_same true false is = cc
beq_same false true is = cc

pub beq_other : (b c : Bool) → beq b c ≡ false → b ≢ c
beq_other true true is same = cc
beq_other false false is same = cc
beq_other true false is same = cc
beq_other false true is same = cc

pub head_is : (s : Source) (found : Option Ty) → s.stated ≡ is_some found → states_no_other (item_ty s.ty) found ≡ true → found ≡ stated_of s
head_is s found stated fits = stated_fits (item_ty s.ty) found s.stated stated fits

-- what was kept is found, and the test tells it
told_so : (s : Source) (b : Bool) → s.stated ≡ b → (s.stated ≡ is_some (stated_of s)) × (states_no_other (item_ty s.ty) (stated_of s) ≡ true)
told_so s true is = (rw is refl, rw is ((same_type (item_ty s.ty) (item_ty s.ty)).1 refl))
told_so s false is = (rw is refl, rw is refl)

pub head_not : (s : Source) (found : Option Ty) → ((s.stated ≡ is_some found) × (states_no_other (item_ty s.ty) found ≡ true) → ⊥) → head_as found ≢ head_of s
head_not s found other same =
    let is : found ≡ stated_of s = same_head found (stated_of s) same in
    other (subst (λ o. (s.stated ≡ is_some o) × (states_no_other (item_ty s.ty) o ≡ true)) (sym is) (told_so s s.stated refl))

-- ---- the head is read over

module _ (limit : ℕ) (s : Source) (taken : ℕ) (now then : HeadedFile) (f f' : FilesState) (kept : IsKept limit f.told s) (so_far : HasTaken limit s taken now f) where
  -- it was read before
  pub passed_before : now.front ≡ false → PassesHead limit s taken (Ok tt) now now f f
  passed_before behind = record {
    reads = record { told = refl; others = λ k ne. refl; is_open = so_far.is_open; others_seen = λ k ne. refl; more = same_seen (seen_in f now.items.file) (seen_in f now.items.file) refl; later = omega arith; same_file = refl };
    passed = behind;
    unread = tt;
    taken_so = so_far;
    counts = refl;
    cause = λ e is. absurd cc;
  }

  abbrev first : Left
  first = Some (left_at_first f.told s.path)

  module _ (front : now.front ≡ true) where
    opened_by : (a b : Left) → HasReadOf s so_far.values now a b → (so_far.values ≡ []) × HasOpened a now b
    opened_by a b (inl opened) = opened
    opened_by a b (inr has) = absurd (false≢true (sym has.known ∙ front))

    none_taken : taken ≡ 0
    none_taken = so_far.counted ∙ ap length (opened_by first (f.left now.items.file) so_far.has_read).0

    module _ (found : Result (Option Ty) FileError) (reads : ReadsHead found now then f f') where
      reads_one : ReadsOne now then f f'
      reads_one = record {
        told = reads.leaves.told;
        others = reads.leaves.others;
        is_open = reads.leaves.is_open;
        others_seen = reads.leaves.others_seen;
        more = reads.leaves.more;
        later = reads.leaves.later;
        same_file = reads.same.file;
      }

      well_read : (r : Result (Option Ty) FileError) → found ≡ r → (IsErrOf r fault.Read → ⊥) → f'.faults ≡ f.faults
      well_read r is well = reads.leaves.well (subst (λ r. IsErrOf r fault.Read → ⊥) (sym is) well)

      opens : (r : Result (Option Ty) FileError) → found ≡ r → Opens first r then (f'.left now.items.file)
      opens r is = subst (λ r. Opens first r then (f'.left now.items.file)) is (reads.goes first (opened_by first (f.left now.items.file) so_far.has_read).1)

      as_seen : (r : Result (Option Ty) FileError) → found ≡ r → AsSeen (λ first left. Opens first r then left) then (seen_in f' now.items.file)
      as_seen r is = subst (λ r. AsSeen (λ first left. Opens first r then left) then (seen_in f' now.items.file)) is
          (reads.sees (λ q e. let h = so_far.has_seen q e in ((opened_by (Some (Some q.bytes)) (Some (Some [])) h.0).1, h.1)))

      limit_on : limit_of then ≡ limit
      limit_on = reads.same.limit ∙ so_far.same_limit

      -- it is as it was kept
      pub found_same : (head : Option Ty) → found ≡ Ok head → head ≡ stated_of s → PassesHead limit s taken (Ok tt) now then f f'
      found_same head is same =
          let has : HasRead first (stated_of s) [] then (f'.left now.items.file) = subst (λ o. HasRead first o [] then (f'.left now.items.file)) same (opens (Ok head) is) in
          record {
            reads = reads_one;
            passed = has.known;
            unread = tt;
            taken_so = record {
              values = [];
              has_read =
                  subst (λ k. HasReadOf s [] then (Some (left_at_first f'.told s.path)) (f'.left k)) (sym reads.same.file)
                  (subst (λ t. HasReadOf s [] then (Some (left_at_first t s.path)) (f'.left now.items.file)) (sym reads.leaves.told) (inr has));
              has_seen = subst (λ k. AsSeen (HasReadOf s [] then) then (seen_in f' k)) (sym reads.same.file)
                  (λ q e. let h = as_seen (Ok head) is q e in (inr (subst (λ o. HasRead (Some (Some q.bytes)) o [] then (Some (Some []))) same h.0), h.1));
              is_open = subst (λ k. IsSome (f'.left k)) (sym reads.same.file) reads.leaves.is_open;
              counted = none_taken;
              same_limit = limit_on;
            };
            counts = well_read (Ok head) is (λ e. cc);
            cause = λ e bad. absurd cc;
          }

      stops : (e : DriverError) → CountsFault {T = Unit {0}} (Err e) f.faults f'.faults → Refuses limit s now.items.file 0 e f f' → PassesHead limit s taken (Err e) now then f f'
      stops e counts cause = record {
        reads = reads_one;
        passed = tt;
        unread = none_taken;
        taken_so = tt;
        counts = counts;
        cause = λ d is. let k : e ≡ d = cc in subst (λ d. Refuses limit s now.items.file 0 d f f') k cause;
      }

      -- another head, which what is told rules out
      head_untold : (head : Option Ty) → found ≡ Ok head → head_as head ≢ head_of s → f.told ≡ None
      head_untold head is other = untold limit f.told s kept (λ all k.
          other (ap head_as (first_shown first head (stated_of s) [] all then (f'.left now.items.file) k.bytes WholeText (opens (Ok head) is) k.first (subst (λ n. Shows n k.bytes (stated_of s) all WholeText) (sym limit_on) k.shows)).0))

      pub found_so : (head : Option Ty) (result : Result (Unit {0}) DriverError) → found ≡ Ok head → HasHead s head result → PassesHead limit s taken result now then f f'
      found_so head (Ok done) is same = found_same head is same
      found_so head (Err (error.Changed d)) is other = stops (error.Changed d) (well_read (Ok head) is (λ e. cc)) (
        head_untold head is other.1,
        subst (λ d. Differs limit s 0 d) (sym other.0) (refl, other.1, refl),
        subst (ShowsDrift limit s (seen_in f' now.items.file)) (sym other.0) (header_shown limit s then (seen_in f' now.items.file) head limit_on (as_seen (Ok head) is)),
      )
      found_so head (Err error.NoMemory) is wanted = stops error.NoMemory (well_read (Ok head) is (λ e. cc)) tt
      found_so head (Err error.Failed) is wanted = absurd cc
      found_so head (Err (error.BadSource p)) is wanted = absurd cc
      found_so head (Err (error.TooLong m)) is wanted = absurd cc
      found_so head (Err (error.TooDeep p)) is wanted = absurd cc

      not_whole : (end : FileEnd) → EndsSo first None [] end then → (end ≡ WholeText → ⊥) → f.told ≡ None
      not_whole end so other = untold limit f.told s kept (λ all k.
          other (one_text limit k.bytes None (stated_of s) [] all end WholeText (subst (λ n. Shows n k.bytes None [] end) limit_on (so k.bytes k.first).0) k.shows).1.1)

      refuses : (e : FileError) → found ≡ Err e → Refuses limit s now.items.file 0 (unread_as limit s.bytes e) f f'
      refuses (fault.Bad p) is = (
        not_whole (BadAt p) (opens (Err (fault.Bad p)) is) (λ e. cc),
        tt,
        unread_shown limit s then (seen_in f' now.items.file) None [] (BadAt p) p refl (λ bytes h. h) limit_on (as_seen (Err (fault.Bad p)) is),
      )
      refuses (fault.TooDeep p) is = (
        not_whole (TooDeepAt p) (opens (Err (fault.TooDeep p)) is) (λ e. cc),
        tt,
        unread_shown limit s then (seen_in f' now.items.file) None [] (TooDeepAt p) p refl (λ bytes h. h) limit_on (as_seen (Err (fault.TooDeep p)) is),
      )
      refuses fault.TooLong is = (
        not_whole PastLimit (opens (Err fault.TooLong) is) (λ e. cc),
        (refl, (λ e. let a = kept.short in omega (arith, a, e)), inl refl),
        past_shown limit s then (seen_in f' now.items.file) None [] limit_on (as_seen (Err fault.TooLong) is),
      )
      refuses fault.Read is = reads.leaves.failed (rw is refl)
      refuses fault.NoMemory is = tt

      counts : (e : FileError) → found ≡ Err e → CountsFault {T = Unit {0}} (Err (unread_as limit s.bytes e)) f.faults f'.faults
      counts (fault.Bad p) is = well_read (Err (fault.Bad p)) is (λ e. cc)
      counts (fault.TooDeep p) is = well_read (Err (fault.TooDeep p)) is (λ e. cc)
      counts fault.TooLong is = well_read (Err fault.TooLong) is (λ e. cc)
      counts fault.Read is = reads.leaves.later
      counts fault.NoMemory is = well_read (Err fault.NoMemory) is (λ e. cc)

      -- no head was read
      pub not_found : (e : FileError) (d : DriverError) → found ≡ Err e → d ≡ unread_as limit s.bytes e → PassesHead limit s taken (Err d) now then f f'
      not_found e d is so = subst (λ d. PassesHead limit s taken (Err d) now then f f') (sym so) (stops (unread_as limit s.bytes e) (counts e is) (refuses e is))
