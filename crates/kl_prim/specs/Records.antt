-- Records by their fields.
use Rattle.std.specs.Prelude.{ℕ, Bool, not, List, filter, Option, Some, None, is_some, IsSome}
use Rattle.std.specs.List.{list_all}
use Rattle.std.specs.declared.cmp.Ordering.{Ordering}
use Rattle.kl_base.specs.Fields.{field, bytes_cmp}
use Rattle.kl_base.specs.Sorted.{sorted}
use Rattle.kl_value.specs.declared.Value.{Value, Value-F, out-Value}

abbrev pub Fields : Type 0
Fields = List (List ℕ × Value)

-- the fields of a record
abbrev pub record_layer : Value-F Value → Option Fields
record_layer (Value-F.Rec fs) = Some fs
record_layer _ = None

abbrev pub as_record : Value → Option Fields
as_record v = record_layer (out-Value v)

abbrev pub IsRecord : Value → Type 0
IsRecord v = IsSome (as_record v)

abbrev pub by_label : {T : Type 0} → List ℕ × T → List ℕ × T → Ordering
by_label f g = bytes_cmp f.0 g.0

-- the fields by rising label
abbrev pub in_order : {T : Type 0} → List (List ℕ × T) → List (List ℕ × T)
in_order fs = sorted by_label fs

-- whether one of the fields has the label
abbrev pub is_label_of : {T : Type 0} → List (List ℕ × T) → List ℕ → Bool
is_label_of fs l = is_some (field l fs)

abbrev pub share_none : Fields → Fields → Bool
share_none fs gs = list_all (λ f. not (is_label_of gs f.0)) fs

abbrev pub has_all : Fields → Fields → Bool
has_all fs gs = list_all (λ g. is_label_of fs g.0) gs

-- the fields whose labels a test does not name
abbrev pub without : (List ℕ → Bool) → Fields → Fields
without test fs = filter (λ f. not (test f.0)) fs
