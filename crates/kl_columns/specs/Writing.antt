-- The text of an entry, on a line of its own.
use Rattle.std.specs.Prelude.{◌||◌, ◌==◌, ◌/◌, ◌%◌, ℕ, List, [], ◌∷◌, ◌++◌, codes, cond, nat_lt, slice_index}
use Rattle.std.specs.List.{flat_map}
use Rattle.kl_type.specs.Written.{type_text}
use Rattle.kl_catalogue.specs.declared.reading.Entry.{Entry}

-- the digit of a number below 16
abbrev pub digit : ℕ → ℕ
digit n = slice_index (codes "0123456789abcdef") n

-- a byte inside a text
abbrev pub spelled : ℕ → List ℕ
spelled b =
    cond (b == 34) (codes "\\\"")
    (cond (b == 92) (codes "\\\\")
    (cond (b == 10) (codes "\\n")
    (cond (b == 13) (codes "\\r")
    (cond (b == 9) (codes "\\t")
    (cond (nat_lt b 32 || b == 127) (92 ∷ 120 ∷ digit (b / 16) ∷ digit (b % 16) ∷ [])
    (b ∷ []))))))

abbrev pub quoted : List ℕ → List ℕ
quoted text = codes "\"" ++ flat_map spelled text ++ codes "\""

abbrev pub entry_line : Entry → List ℕ
entry_line e = codes "source " ++ e.name ++ codes " : " ++ type_text e.ty ++ codes " = " ++ e.driver ++ codes " " ++ quoted e.locator ++ codes ";\n"
