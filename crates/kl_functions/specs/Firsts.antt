-- How many arguments the primitives take that are called by their names.
-- No public contract cites this.
use Rattle.std.specs.Prelude.{ℕ, ◌==◌, Bool, false, Option, Some, None}
use Rattle.kl_outcome.specs.Outcome.{Name}
use Rattle.kl_prim.specs.Table.{Entry}
use Rattle.kl_scope.specs.Senses.{by_name, primitive_of}
use Rattle.kl_ho.specs.Plain.{arity_of}

abbrev pub arity_by_name : Entry → Option ℕ
arity_by_name e = arity_of (by_name e)

abbrev pub primitive_arity : Name → Option ℕ
primitive_arity x = arity_of (primitive_of x)

abbrev pub is_one : Option ℕ → Bool
is_one (Some n) = n == 1
is_one None = false
