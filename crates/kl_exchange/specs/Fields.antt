-- The fields of a record.
use Rattle.std.specs.Prelude.{ℕ, List}
use Rattle.std.specs.declared.cmp.Ordering.{Ordering}
use Rattle.std.specs.Ordering.{ordering_then}
use Rattle.kl_base.specs.Fields.{bytes_cmp}
use Rattle.kl_base.specs.Sorted.{sorted}
use Rattle.kl_value.specs.Order.{compare}
use Rattle.kl_value.specs.declared.Value.{Value}

-- by label, and under one label by value
abbrev pub pair_cmp : List ℕ × Value → List ℕ × Value → Ordering
pair_cmp f g = ordering_then (bytes_cmp f.0 g.0) (compare f.1 g.1)

unfoldable pub fields_of : List (List ℕ × Value) → List (List ℕ × Value)
fields_of pairs = sorted pair_cmp pairs
