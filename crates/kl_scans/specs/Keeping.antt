-- What is kept, as a cache has it.
use Rattle.std.specs.Prelude.{ℕ, List, [], map, Option, Some, None}
use Rattle.kl_value.specs.declared.Value.{Value}
use Rattle.kl_memo.specs.Memo.{Kept}
use Rattle.kl_memo.specs.declared.memo.MemoKey.{MemoKey}
use Rattle.kl_plan.specs.Subqueries.{Subquery}

abbrev pub subquery : MemoKey → Subquery
subquery k = (k.number, k.values)

-- without a cache nothing is kept
abbrev pub kept_in : Option Kept → List (Subquery × Value)
kept_in (Some m) = map (λ e. (subquery e.0, e.1)) m.entries
kept_in None = []

abbrev pub room_in : Option Kept → ℕ
room_in (Some m) = m.capacity
room_in None = 0
