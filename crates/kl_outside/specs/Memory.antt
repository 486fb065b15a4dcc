-- What files in memory mean.
use Rattle.std.specs.Prelude.{ℕ, ◌-◌, List, [], ◌∷◌, ◌++◌, Option, Some, None, drop, map}
use Rattle.std.specs.Option.{option_map}
use Rattle.slab.specs.Slab.{Slab, get}
use Rattle.kl_outside.specs.Changes.{bytes_by, change_bytes, opened_once}
use Rattle.kl_outside.specs.Files.{FilesState}
use Rattle.kl_outside.specs.Schedule.{Calls}
use Rattle.kl_outside.specs.Entries.{bytes_of, bytes_at}
use Rattle.kl_outside.specs.declared.memory.Change.{Change}
use Rattle.kl_outside.specs.declared.memory.Held.{Held}
use Rattle.kl_outside.specs.declared.memory.Held.TheVariants as held
use Rattle.kl_outside.specs.declared.memory.Place.{Place}
use Rattle.kl_outside.specs.declared.memory.MemFiles.{MemFiles}

-- Paths with their bytes, and how these change.
pub record Stored : Type 0 where
  pub entries : List (List ℕ × List ℕ)
  pub changes : List Change

-- the bytes that a path has at its next opening, if it is there
abbrev pub next_bytes : Stored → List ℕ → Option (List ℕ)
next_bytes s path = bytes_by s.changes path (bytes_of s.entries path)

abbrev pub with_change : ℕ → List ℕ → List ℕ → Stored → Stored
with_change opening path bytes s = record s { changes = s.changes ++ (record { path = path; bytes = bytes; before = opening - 1 }) ∷ [] }

abbrev pub with_opening : List ℕ → Stored → Stored
with_opening path s = record s { changes = map (opened_once path) s.changes }

-- ---- what is open

abbrev pub bytes_held : List (List ℕ × List ℕ) → List Change → Held → List ℕ
bytes_held entries changes (held.Entry i) = bytes_at entries i
bytes_held entries changes (held.Change i) = change_bytes changes i

-- what a file at a place has left
abbrev pub left_at : Stored → Place → List ℕ
left_at s place = drop place.at (bytes_held s.entries s.changes place.held)

-- Files of which some path is to change tell nothing of any path's bytes; all others tell them all.
abbrev pub unless_changing : {T : Type 0} → List Change → T → Option T
unless_changing [] x = Some x
unless_changing (c ∷ changes) x = None

abbrev pub memory_state : Stored → Slab Place → ℕ → FilesState
memory_state s places faults = record {
  told = unless_changing s.changes (bytes_of s.entries);
  left = λ k. option_map (λ place. unless_changing s.changes (left_at s place)) (get places k);
  log = None;
  faults = faults;
}

-- nothing is told any more
abbrev pub untold : FilesState → FilesState
untold s = record s { told = None; left = λ k. option_map (λ left. None) (s.left k) }

-- ---- of the type

abbrev pub stored : MemFiles → Stored
stored m = record { entries = m.entries.items; changes = m.changes.items }

-- the faults are those of the listed calls and, where no bytes are told, of missing paths
abbrev pub files_state : MemFiles → FilesState
files_state m = memory_state (stored m) m.places m.schedule.faults

-- what is open, with what it has left, also where the files do not tell it
abbrev pub shown_state : MemFiles → FilesState
shown_state m = record (files_state m) { left = λ k. option_map (λ place. Some (left_at (stored m) place)) (get m.places k) }

-- which calls are to fail, and how many were made
abbrev pub files_calls : MemFiles → Calls
files_calls m = m.schedule
