-- Paths with their bytes, as a list.
use Rattle.std.specs.Prelude.{ℕ, List, [], ◌∷◌, Option, Some, None, slice_get, if◌then◌else◌}
use Rattle.std.specs.Str.{bytes_eq}

-- the bytes of the first entry with this path
abbrev pub bytes_of : List (List ℕ × List ℕ) → List ℕ → Option (List ℕ)
bytes_of [] path = None
bytes_of (entry ∷ entries) path = if bytes_eq entry.0 path then Some entry.1 else bytes_of entries path

-- the bytes of the entry at a place
abbrev pub bytes_at : List (List ℕ × List ℕ) → ℕ → List ℕ
bytes_at entries i = elim (slice_get entries i) [ None ↦ [] | Some entry ↦ entry.1 ]
