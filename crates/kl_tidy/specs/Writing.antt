-- A text in quotes, as lines that tell of it show it.
use Rattle.std.specs.Prelude.{◌||◌, ◌==◌, ℕ, List, [], ◌∷◌, ◌++◌, codes, cond, nat_lt}
use Rattle.std.specs.List.{flat_map}

-- a byte between quotes: behind a backslash where it is a quote or one, and `?` where it is not printed
abbrev pub shown : ℕ → List ℕ
shown b = cond (b == 34 || b == 92) (92 ∷ b ∷ []) (cond (nat_lt b 32 || b == 127) (codes "?") (b ∷ []))

abbrev pub quoted : List ℕ → List ℕ
quoted text = codes "\"" ++ flat_map shown text ++ codes "\""
