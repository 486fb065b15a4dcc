-- The columns of tables, as drivers of tables see them.
use Rattle.std.specs.Prelude.{ℕ, List, []}
use Rattle.kl_type.specs.declared.ground.Ty.{Ty, Ty-F, out-Ty}

abbrev pub fields_layer : Ty-F Ty → List (List ℕ × Ty)
fields_layer (Ty-F.Rec fs) = fs
fields_layer _ = []

abbrev pub items_layer : Ty-F Ty → List (List ℕ × Ty)
items_layer (Ty-F.Coll k t) = fields_layer (out-Ty t)
items_layer _ = []

-- the labels and types of the columns that a type asks of a table: the fields of a collection of records
abbrev pub columns_of : Ty → List (List ℕ × Ty)
columns_of t = items_layer (out-Ty t)
