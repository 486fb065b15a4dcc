-- Values in canonical form.
use Rattle.std.specs.Prelude.{⊤}
use Rattle.std.specs.List.Sorted.{IsStrictlySortedBy}
use Rattle.kl_base.specs.Fields.{LabelsRise}
use Rattle.kl_base.specs.Sorted.{IsRising}
use Rattle.kl_value.specs.Order.{compare}
use Rattle.kl_value.specs.declared.value.Value.{Value, Value-F, every-Value}

-- one level is in canonical form: labels strictly rise, a set's items strictly rise, and a bag's items rise
abbrev pub IsCanonicalLayer : Value-F Value → Type 0
IsCanonicalLayer (Value-F.Rec fs) = LabelsRise fs
IsCanonicalLayer (Value-F.Set vs) = IsStrictlySortedBy compare vs
IsCanonicalLayer (Value-F.Bag vs) = IsRising compare vs
IsCanonicalLayer _ = ⊤

-- each level is
unfoldable pub IsCanonical : Value → Type 0
IsCanonical = every-Value IsCanonicalLayer
