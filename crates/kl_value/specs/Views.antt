-- What a value is, where it is of one shape.
use Rattle.std.specs.Prelude.{ℕ, ℤ, Bool, List, Option, Some, None, IsSome}
use Rattle.kl_base.specs.Fields.{field}
use Rattle.kl_value.specs.declared.value.Kind.{Kind}
use Rattle.kl_value.specs.declared.value.Kind.TheVariants as kind
use Rattle.kl_value.specs.declared.value.Value.{Value, Value-F, out-Value}
use Rattle.kl_value.specs.declared.value.Value.TheVariants as value

abbrev pub bool_layer : Value-F Value → Option Bool
bool_layer (Value-F.Bool b) = Some b
bool_layer _ = None

abbrev pub int_layer : Value-F Value → Option ℤ
int_layer (Value-F.Int n) = Some n
int_layer _ = None

abbrev pub bytes_layer : Value-F Value → Option (List ℕ)
bytes_layer (Value-F.Text t) = Some t
bytes_layer _ = None

pub record Collection : Type 0 where
  pub kind : Kind
  pub items : List Value

abbrev pub collection_layer : Value-F Value → Option Collection
collection_layer (Value-F.Set vs) = Some (record { kind = kind.Set; items = vs })
collection_layer (Value-F.Bag vs) = Some (record { kind = kind.Bag; items = vs })
collection_layer (Value-F.List vs) = Some (record { kind = kind.List; items = vs })
collection_layer _ = None

abbrev pub field_layer : List ℕ → Value-F Value → Option Value
field_layer l (Value-F.Rec fs) = field l fs
field_layer l _ = None

abbrev pub items_layer : Kind → Value-F Value → Option (List Value)
items_layer kind.Set (Value-F.Set vs) = Some vs
items_layer kind.Bag (Value-F.Bag vs) = Some vs
items_layer kind.List (Value-F.List vs) = Some vs
items_layer _ _ = None

-- the truth value, integer, text or collection that a value is, its items where it is a collection of the kind, and
-- what stands at a label where it is a record that has it
abbrev pub as_bool : Value → Option Bool
as_bool v = bool_layer (out-Value v)

abbrev pub as_int : Value → Option ℤ
as_int v = int_layer (out-Value v)

abbrev pub as_text : Value → Option (List ℕ)
as_text v = bytes_layer (out-Value v)

abbrev pub as_collection : Value → Option Collection
as_collection v = collection_layer (out-Value v)

abbrev pub items_at : Kind → Value → Option (List Value)
items_at k v = items_layer k (out-Value v)

abbrev pub field_at : List ℕ → Value → Option Value
field_at l v = field_layer l (out-Value v)

abbrev pub IsBool : Value → Type 0
IsBool v = IsSome (as_bool v)

abbrev pub IsInt : Value → Type 0
IsInt v = IsSome (as_int v)

abbrev pub IsText : Value → Type 0
IsText v = IsSome (as_text v)

abbrev pub IsCollection : Value → Type 0
IsCollection v = IsSome (as_collection v)

-- the collection of a kind that has these items as they stand
abbrev pub collection : Kind → List Value → Value
collection kind.Set vs = value.Set vs
collection kind.Bag vs = value.Bag vs
collection kind.List vs = value.List vs
