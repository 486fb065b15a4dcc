-- What stands between the quotes of a text.
use Rattle.std.specs.Prelude.{◌≡◌, ◌≢◌, ℕ, ◌+◌, ◌*◌, ◌==◌, IsTrue, cond, List, [], ◌∷◌, ◌++◌, Option, Some, None}
use Rattle.std.specs.Char.{is_ascii_hexdigit, digit_value}

-- the byte `"`
abbrev pub quote : ℕ
quote = 34

-- the byte `\`
abbrev pub backslash : ℕ
backslash = 92

-- the byte that a backslash and this byte mean; n is a line feed, r a carriage return, t a tab
abbrev pub escape_of : ℕ → Option ℕ
escape_of b =
    cond (b == 34) (Some 34)
    (cond (b == 92) (Some 92)
    (cond (b == 110) (Some 10)
    (cond (b == 114) (Some 13)
    (cond (b == 116) (Some 9)
    None))))

-- one part of a text: the byte that it means, and how it is written
pub data Part : ℕ → List ℕ → Type 0 where
  plain : {b : ℕ} → b ≢ quote → b ≢ backslash → Part b (b ∷ [])
  escaped : {b c : ℕ} → escape_of c ≡ Some b → Part b (backslash ∷ c ∷ [])
  -- `\x` and two hexadecimal digits, of either case
  hex : {high low : ℕ} → IsTrue (is_ascii_hexdigit high) → IsTrue (is_ascii_hexdigit low)
      → Part (digit_value high * 16 + digit_value low) (backslash ∷ 120 ∷ high ∷ low ∷ [])

-- the bytes are the parts, one behind the other, of a text that means these
abbrev pub Parts : List ℕ → List ℕ → Type 0
Parts [] u = u ≡ []
Parts (b ∷ meant) u = (part : List ℕ) × (rest : List ℕ) × (u ≡ part ++ rest) × Part b part × Parts meant rest
