-- The text of a type.
use Rattle.std.specs.Prelude.{ℕ, List, ◌++◌, map, codes}
use Rattle.kl_value.specs.Written.{with_commas, opening, closing}
use Rattle.kl_type.specs.declared.ground.Ty.{Ty, Ty-F, fold-Ty}

-- one level, where the texts of what stands inside are given
abbrev pub type_layer : Ty-F (List ℕ) → List ℕ
type_layer Ty-F.Bool = codes "bool"
type_layer Ty-F.Int = codes "int"
type_layer Ty-F.Str = codes "string"
type_layer (Ty-F.Rec fs) = codes "[" ++ with_commas (map (λ f. f.0 ++ codes ": " ++ f.1) fs) ++ codes "]"
type_layer (Ty-F.Var fs) = codes "<" ++ with_commas (map (λ f. f.0 ++ codes ": " ++ f.1) fs) ++ codes ">"
type_layer (Ty-F.Coll k t) = opening k ++ t ++ closing k

unfoldable pub type_text : Ty → List ℕ
type_text = fold-Ty (List ℕ) type_layer

-- a field: its label, and the text of its type
abbrev pub field_text : List ℕ × Ty → List ℕ
field_text f = f.0 ++ codes ": " ++ type_text f.1
