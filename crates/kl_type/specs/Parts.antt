-- What a type is made of.
use Rattle.std.specs.Prelude.{Bool, true, false, ℕ, List, Option, Some, None, cond}
use Rattle.kl_value.specs.declared.Kind.{Kind}
use Rattle.kl_value.specs.declared.Kind.TheVariants as kind
use Rattle.kl_type.specs.declared.ground.Ty.{Ty, Ty-F, out-Ty}

abbrev pub same_kind : Kind → Kind → Bool
same_kind kind.Set kind.Set = true
same_kind kind.Bag kind.Bag = true
same_kind kind.List kind.List = true
same_kind j k = false

abbrev is_bool_layer : Ty-F Ty → Bool
is_bool_layer Ty-F.Bool = true
is_bool_layer _ = false

abbrev is_int_layer : Ty-F Ty → Bool
is_int_layer Ty-F.Int = true
is_int_layer _ = false

abbrev is_string_layer : Ty-F Ty → Bool
is_string_layer Ty-F.Str = true
is_string_layer _ = false

abbrev record_layer : Ty-F Ty → Option (List (List ℕ × Ty))
record_layer (Ty-F.Rec ts) = Some ts
record_layer _ = None

abbrev variant_layer : Ty-F Ty → Option (List (List ℕ × Ty))
variant_layer (Ty-F.Var ts) = Some ts
variant_layer _ = None

abbrev items_layer : Kind → Ty-F Ty → Option Ty
items_layer k (Ty-F.Coll j t) = cond (same_kind j k) (Some t) None
items_layer k _ = None

abbrev pub is_bool : Ty → Bool
is_bool t = is_bool_layer (out-Ty t)

abbrev pub is_int : Ty → Bool
is_int t = is_int_layer (out-Ty t)

abbrev pub is_string : Ty → Bool
is_string t = is_string_layer (out-Ty t)

abbrev pub record_of : Ty → Option (List (List ℕ × Ty))
record_of t = record_layer (out-Ty t)

abbrev pub variant_of : Ty → Option (List (List ℕ × Ty))
variant_of t = variant_layer (out-Ty t)

abbrev pub items_of : Kind → Ty → Option Ty
items_of k t = items_layer k (out-Ty t)
