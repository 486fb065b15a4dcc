-- How much deeper a text may nest.
use Rattle.std.specs.Prelude.{ℕ, zero, suc, Bool, true, false}

-- whether it may nest at all
abbrev pub opens : ℕ → Bool
opens zero = false
opens (suc depth) = true
