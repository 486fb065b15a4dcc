-- Subqueries, whose values may be kept: under which keys they are asked for.
use Rattle.std.specs.Prelude.{ℕ, ◌<◌, List, [], ◌∷◌, length, Option, Some, None, slice_get}
use Rattle.std.specs.List.{AllByRecursion}
use Rattle.kl_value.specs.declared.Value.{Value}
use Rattle.kl_plan.specs.Nodes.{Node}

-- the number of a memo, and the values of its free positions
abbrev pub Subquery : Type 0
Subquery = ℕ × List Value

-- a memo: its number, its free positions and its part
abbrev pub Memo : Type 0
Memo = ℕ × (List ℕ × Node)

abbrev pub with_value : Option Value → List Value → List Value
with_value (Some v) vs = v ∷ vs
with_value None vs = vs

-- the values at some positions
abbrev pub values_at : List Value → List ℕ → List Value
values_at env [] = []
values_at env (x ∷ xs) = with_value (slice_get env x) (values_at env xs)

-- so many values that each of these positions has one
abbrev pub Covers : List ℕ → List Value → Type 0
Covers frees env = AllByRecursion (λ x. x < length env) frees
