-- Texts one behind another in one list of bytes.
use Rattle.std.specs.Prelude.{ℕ, zero, suc, List, slice_index}

-- where the text of a row begins: where the one before it ends
abbrev pub start : List ℕ → ℕ → ℕ
start ends zero = 0
start ends (suc i) = slice_index ends i
