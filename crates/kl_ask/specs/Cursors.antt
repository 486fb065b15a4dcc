-- Cursors by their numbers, as drivers keep them: a closed one leaves its place empty.
use Rattle.std.specs.Prelude.{ℕ, List, Option, slice_get}
use Rattle.std.specs.Option.{option_flatten}

abbrev pub open_at : {C : Type 0} → List (Option C) → ℕ → Option C
open_at cursors k = option_flatten (slice_get cursors k)
