-- The types that collections of made rows have.
use Rattle.std.specs.Prelude.{Bool, false, ◌&&◌, ℕ, List, [], ◌∷◌, codes, nat_eq}
use Rattle.std.specs.Cmp.Lexicographic.{pointwise}
use Rattle.kl_type.specs.Parts.{is_int, is_string}
use Rattle.kl_type.specs.declared.ground.Ty.{Ty}
use Rattle.kl_ask.specs.Tables.{columns_of}

abbrev pub is_int_at : List ℕ × Ty → List ℕ → Bool
is_int_at c l = pointwise nat_eq c.0 l && is_int c.1

abbrev pub is_text_at : List ℕ × Ty → List ℕ → Bool
is_text_at c l = pointwise nat_eq c.0 l && is_string c.1

-- the columns of made rows
abbrev pub are_made : List (List ℕ × Ty) → Bool
are_made (group ∷ id ∷ name ∷ []) = is_int_at group (codes "grp") && (is_int_at id (codes "id") && is_text_at name (codes "name"))
are_made _ = false

-- a collection of `[grp: int, id: int, name: string]`
abbrev pub is_made_type : Ty → Bool
is_made_type t = are_made (columns_of t)
