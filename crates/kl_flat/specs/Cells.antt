-- What a cell of a table means.
use Rattle.std.specs.Prelude.{Bool, true, false, ◌||◌, ◌==◌, ℕ, List, [], ◌∷◌, reverse, Option, Some, None, cond, codes, nat_eq}
use Rattle.std.specs.Cmp.Lexicographic.{pointwise}
use Rattle.std.specs.Option.{option_map}
use Rattle.kl_value.specs.declared.Value.{Value}
use Rattle.kl_value.specs.declared.Value.TheVariants as value
use Rattle.kl_prim.specs.Meaning.{number_in}
use Rattle.kl_type.specs.declared.ground.Ty.{Ty, Ty-F, out-Ty}

-- a space or a tab
abbrev pub is_blank : ℕ → Bool
is_blank b = (b == 32) || (b == 9)

abbrev pub past_blanks : List ℕ → List ℕ
past_blanks [] = []
past_blanks (b ∷ bs) = cond (is_blank b) (past_blanks bs) (b ∷ bs)

-- the bytes without the blanks at both ends
abbrev pub without_blanks : List ℕ → List ℕ
without_blanks bs = reverse (past_blanks (reverse (past_blanks bs)))

abbrev pub truth_in : List ℕ → Option Value
truth_in bs =
    cond (pointwise nat_eq bs (codes "true")) (Some (value.Bool true))
    (cond (pointwise nat_eq bs (codes "false")) (Some (value.Bool false)) None)

abbrev pub cell_layer : List ℕ → Ty-F Ty → Option Value
cell_layer bs Ty-F.Bool = truth_in bs
cell_layer bs Ty-F.Int = option_map value.Int (number_in (without_blanks bs))
cell_layer bs Ty-F.Str = Some (value.Text bs)
cell_layer bs _ = None

-- The value of a base type that a cell has, if it has one: `true` or `false`; an optional `-` and digits of an integer
-- of 64 bits, with blanks around; or any bytes.
abbrev pub cell_value : List ℕ → Ty → Option Value
cell_value bs t = cell_layer bs (out-Ty t)
