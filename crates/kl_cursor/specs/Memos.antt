-- What is done with the values of memos.
use Rattle.std.specs.Prelude.{◌≡◌, ℕ, false, List, Result, Ok, Err, ⊤}
use Rattle.std.specs.List.Sorted.{IsPermutation}
use Rattle.kl_value.specs.declared.Value.{Value}
use Rattle.kl_eval.specs.declared.stop.Halt.{Halt}
use Rattle.kl_eval.specs.declared.stop.Halt.TheVariants as halt
use Rattle.kl_lookups.specs.Lookups.{has}
use Rattle.kl_plan.specs.Nodes as node
use Rattle.kl_plan.specs.Nodes.{Node}
use Rattle.kl_plan.specs.Subqueries.{Subquery, values_at}
use Rattle.kl_scans.specs.Log.{missed}
use Rattle.kl_scans.specs.Over.{Did}
use Rattle.kl_scans.specs.Running.{Running}
use Rattle.kl_scans.specs.Same.{same_subquery}
use Rattle.kl_cursor.specs.Sense.{HasWorth}
use Rattle.kl_cursor.specs.Steps.{Wholly}

-- a plan is a memo
abbrev pub IsMemo : Node → Type 0
IsMemo (node.Memo n frees p) = ⊤
IsMemo _ = ⊥

-- the same values are kept, whichever of them was used last
abbrev pub KeepsSame : Running → Running → Type 0
KeepsSame a b = IsPermutation a.kept b.kept

-- ---- for private functions alone

-- a value was kept under a key, and is answered; or memory ran out, and nothing was kept
abbrev pub KeepsCopy : Subquery → Value → Result Value Halt → Running → Running → Type 0
KeepsCopy k v (Ok u) a b = (u ≡ v) × Did (missed k v) a b
KeepsCopy k v (Err halt.NoMemory) a b = b ≡ a
KeepsCopy k v (Err _) a b = ⊥

-- a part with these free positions is that of a memo, under whose key nothing is kept
abbrev pub Misses : Running → List Value → Subquery → List ℕ → Node → Type 0
Misses w env k frees p = HasWorth w (node.Memo k.0 frees p) env × (k.1 ≡ values_at env frees) × (has same_subquery k w.kept ≡ false)

-- the value of a part, which is kept under the key: that of the memo, whatever its free positions are
abbrev pub Fills : List Value → Subquery → Node → Result Value Halt → Running → Running → Type 0
Fills env k p r a b = (frees : List ℕ) → Misses a env k frees p → Wholly env (node.Memo k.0 frees p) r a b
