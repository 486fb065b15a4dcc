-- Types of tables.
use Rattle.std.specs.Prelude.{Bool, true, false, not, ◌&&◌, ◌==◌, length}
use Rattle.std.specs.List.{list_all}
use Rattle.kl_type.specs.declared.ground.Ty.{Ty, Ty-F, out-Ty}
use Rattle.kl_ask.specs.Tables.{columns_of}

abbrev pub base_layer : Ty-F Ty → Bool
base_layer Ty-F.Bool = true
base_layer Ty-F.Int = true
base_layer Ty-F.Str = true
base_layer _ = false

abbrev pub is_base : Ty → Bool
is_base t = base_layer (out-Ty t)

-- a collection of records with one or more fields, all of base types
abbrev pub is_table_type : Ty → Bool
is_table_type t = not (length (columns_of t) == 0) && list_all (λ c. is_base c.1) (columns_of t)
