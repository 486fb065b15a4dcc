-- Files in memory, by the places that are open.
use Rattle.std.proofs.Common.{◌≡◌, IsSome, subst, ℕ, ◌+◌, ◌<◌, ◌≤◌, min, List, ◌∷◌, ◌++◌, length, get_or, take, drop, [], Option, Some, None, Ok, Err, if◌then◌else◌, refl, sym, ◌∙◌, ap, arith, slice_get, true, drop-cons}
use Rattle.std.proofs.Math.ListN.{drop_of_length-le}
use Rattle.std.proofs.lemmas.List.{drop-drop, take-append-drop, nil_from_length}
use Rattle.std.proofs.lemmas.Grind.{common_steps}
use Rattle.std.proofs.lemmas.Option.{gets, same_Some, slice_get_read}
use Rattle.std.specs.Str.{bytes_eq}
use Rattle.std.specs.Option.{option_map}
use Rattle.slab.specs.Slab.{Slab, get, with_value}
use Rattle.slab.proofs.SlabLemmas.{Updates-with_value}
use Rattle.kl_outside.specs.Files.{FilesState, ReadsPiece}
use Rattle.kl_outside.specs.Entries.{bytes_of, bytes_at}
use Rattle.kl_outside.specs.Changes.{bytes_by, change_bytes, has_come}
use Rattle.kl_outside.specs.Memory.{Stored, bytes_held, left_at, memory_state}
use Rattle.kl_outside.specs.Schedule.{Calls, make_call, fail_call, next_count}
use Rattle.kl_outside.specs.declared.stop.Stop.TheVariants.{Failed}
use Rattle.kl_outside.specs.declared.memory.Change.{Change}
use Rattle.kl_outside.specs.declared.memory.Place.{Place}

pub found_at : (entries : List (List ℕ × List ℕ)) (path : List ℕ) (i : ℕ) (entry : List ℕ × List ℕ) → i < length entries → entry ≡ get_or entries i entry → bytes_eq entry.0 path ≡ true → bytes_of entries path ≡ bytes_of (drop i entries) path → bytes_of entries path ≡ Some (bytes_at entries i)
found_at entries path i entry lt is eq from =
    let there : slice_get entries i ≡ Some entry = slice_get_read entries (length entries) i entry refl lt is in
    let front : drop i entries ≡ entry ∷ drop (i + 1) entries = grind (arith, gets, common_steps, drop-cons) in
    let at : bytes_at entries i ≡ entry.1 = rw (there, bytes_at) refl in
    let first : bytes_of (drop i entries) path ≡ Some entry.1 = rw (front, eq) refl in
    from ∙ first ∙ ap Some (sym at)

-- ---- calls of `read`

-- what is told of what is left, and nothing of what was read
abbrev pub told_by : (List ℕ → Option (List ℕ)) → Option (List ℕ → Option (List ℕ)) → Stored → Slab Place → ℕ → FilesState
told_by shows told s places faults = record { told = told; left = λ k. option_map (λ place. shows (left_at s place)) (get places k); log = None; faults = faults }

pub no_read : (told : Option (List ℕ → Option (List ℕ))) (left : ℕ → Option (Option (List ℕ))) (file : ℕ) (into : List ℕ) (before mid after : Calls) → mid ≡ make_call before → after ≡ fail_call mid → mid.faults ≤ after.faults
    → ReadsPiece file into (Err Failed) (record { told = told; left = left; log = None; faults = before.faults }) (record { told = told; left = left; log = None; faults = after.faults })
no_read told left file into before mid after made failed later =
    let same : mid.faults ≡ before.faults = ap (λ calls. calls.faults) made in
    let next : after.faults ≡ next_count mid.faults = ap (λ calls. calls.faults) failed in
    record {
      told = refl;
      within = tt;
      bytes = tt;
      end = tt;
      others = λ k ne. refl;
      refused = refl;
      seen = tt;
      others_seen = λ k ne. refl;
      refused_seen = refl;
      later = omega (arith, same, later);
      counts = omega (arith, same, later);
      failed = λ is. omega (arith, same, next);
    }

-- A read of so many bytes, where what is left is told.
pub reads_more : (told : Option (List ℕ → Option (List ℕ))) (s : Stored) (places : Slab Place) (file : ℕ) (place : Place) (count : ℕ) (into : List ℕ) (before mid : Calls) → mid ≡ make_call before → get places file ≡ Some place → 0 < length into → count ≡ min (length (left_at s place)) (length into) → take count into ≡ take count (left_at s place)
    → ReadsPiece file into (Ok count) (told_by Some told s places before.faults) (told_by Some told s (with_value places file (record { held = place.held; at = place.at + count })) mid.faults)
reads_more told s places file place count into before mid made is room size copied =
    let same : mid.faults ≡ before.faults = ap (λ calls. calls.faults) made in
    let now = Updates-with_value places file (record { held = place.held; at = place.at + count }) (subst IsSome (sym is) refl) in
    record {
      told = refl;
      within = omega (arith, size);
      bytes = rw (is, now.changed, copied) (sym (ap (λ r. take count (left_at s place) ++ r) (sym (drop-drop count place.at (bytes_held s.entries s.changes place.held))) ∙ take-append-drop count (left_at s place)));
      end = λ none bytes all. let same : left_at s place ≡ bytes = same_Some _ _ (same_Some _ _ (sym (ap (option_map (λ place. Some (left_at s place))) is) ∙ all)) in nil_from_length bytes (rw (← same) (omega (arith, size, none, room)));
      others = λ k ne. ap (option_map (λ place. Some (left_at s place))) (now.others k ne);
      refused = tt;
      seen = refl;
      others_seen = λ k ne. refl;
      refused_seen = tt;
      later = omega (arith, same);
      counts = same;
      failed = λ bad. cc;
    }

-- and where it is not told
reads_untold : (told : Option (List ℕ → Option (List ℕ))) (s : Stored) (places : Slab Place) (file : ℕ) (place : Place) (count : ℕ) (into : List ℕ) (before mid : Calls) → mid ≡ make_call before → get places file ≡ Some place → count ≤ length into
    → ReadsPiece file into (Ok count) (told_by (λ left. None) told s places before.faults) (told_by (λ left. None) told s (with_value places file (record { held = place.held; at = place.at + count })) mid.faults)
reads_untold told s places file place count into before mid made is size =
    let same : mid.faults ≡ before.faults = ap (λ calls. calls.faults) made in
    let now = Updates-with_value places file (record { held = place.held; at = place.at + count }) (subst IsSome (sym is) refl) in
    record {
      told = refl;
      within = size;
      bytes = rw (is, now.changed) tt;
      end = λ none bytes all. absurd (let h : Some None ≡ Some (Some bytes) = sym (ap (option_map (λ place. None)) is) ∙ all in cc);
      others = λ k ne. ap (option_map (λ place. None)) (now.others k ne);
      refused = tt;
      seen = refl;
      others_seen = λ k ne. refl;
      refused_seen = tt;
      later = omega (arith, same);
      counts = same;
      failed = λ bad. cc;
    }

-- and by the files themselves
pub reads_stored : (entries : List (List ℕ × List ℕ)) (changes : List Change) (places : Slab Place) (file : ℕ) (place : Place) (count : ℕ) (into : List ℕ) (before mid : Calls) → mid ≡ make_call before → get places file ≡ Some place → 0 < length into → count ≡ min (length (left_at (record { entries = entries; changes = changes }) place)) (length into) → take count into ≡ take count (left_at (record { entries = entries; changes = changes }) place)
    → ReadsPiece file into (Ok count) (memory_state (record { entries = entries; changes = changes }) places before.faults) (memory_state (record { entries = entries; changes = changes }) (with_value places file (record { held = place.held; at = place.at + count })) mid.faults)
reads_stored entries [] places file place count into before mid made is room size copied =
    reads_more (Some (bytes_of entries)) (record { entries = entries; changes = [] }) places file place count into before mid made is room size copied
reads_stored entries (c ∷ changes) places file place count into before mid made is room size copied =
    reads_untold None (record { entries = entries; changes = c ∷ changes }) places file place count into before mid made is (omega (arith, size))

-- ---- changes

-- what the last change that came before a place gives, or what stands without one
abbrev pub found_bytes : List Change → Option ℕ → Option (List ℕ) → Option (List ℕ)
found_bytes changes None first = first
found_bytes changes (Some i) first = Some (change_bytes changes i)

-- one change further
pub past_change : (changes : List Change) (path : List ℕ) (i : ℕ) (c : Change) (found : Option (List ℕ)) → i < length changes → c ≡ get_or changes i c
    → bytes_by (drop i changes) path found ≡ bytes_by (drop (i + 1) changes) path (if has_come path c then Some (change_bytes changes i) else found)
past_change changes path i c found lt is =
    let there : slice_get changes i ≡ Some c = slice_get_read changes (length changes) i c refl lt is in
    let front : drop i changes ≡ c ∷ drop (i + 1) changes = grind (arith, gets, common_steps, drop-cons) in
    let at : change_bytes changes i ≡ c.bytes = rw (there, change_bytes) refl in
    rw (front, at) refl

-- behind all changes
pub past_changes : (changes : List Change) (path : List ℕ) (i : ℕ) (found : Option (List ℕ)) → length changes ≤ i → bytes_by (drop i changes) path found ≡ found
past_changes changes path i found le = ap (λ rest. bytes_by rest path found) (drop_of_length-le changes le)
