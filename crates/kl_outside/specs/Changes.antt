-- Paths that have other bytes from some opening on.
use Rattle.std.specs.Prelude.{ℕ, ◌-◌, ◌==◌, ◌&&◌, Bool, List, [], ◌∷◌, Option, Some, None, slice_get, if◌then◌else◌}
use Rattle.std.specs.Str.{bytes_eq}
use Rattle.kl_outside.specs.declared.memory.Change.{Change}

-- one more opening of a path
abbrev pub opened_once : List ℕ → Change → Change
opened_once path c = if bytes_eq c.path path then record c { before = c.before - 1 } else c

-- the path has the bytes of the change at its next opening
abbrev pub has_come : List ℕ → Change → Bool
has_come path c = bytes_eq c.path path && c.before == 0

-- What a path has at its next opening: of the changes that have come the last counts, and `first` where none has.
abbrev pub bytes_by : List Change → List ℕ → Option (List ℕ) → Option (List ℕ)
bytes_by [] path first = first
bytes_by (c ∷ changes) path first = bytes_by changes path (if has_come path c then Some c.bytes else first)

-- the bytes of the change at a place
abbrev pub change_bytes : List Change → ℕ → List ℕ
change_bytes changes i = elim (slice_get changes i) [ None ↦ [] | Some c ↦ c.bytes ]
