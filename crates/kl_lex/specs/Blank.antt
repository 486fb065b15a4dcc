-- What may stand between tokens.
use Rattle.std.specs.Prelude.{◌≡◌, ◌≢◌, ℕ, Bool, false, ◌||◌, ◌==◌, IsTrue, List, [], ◌∷◌, ◌++◌}
use Rattle.std.specs.List.{AllByRecursion}

abbrev pub line_feed : ℕ
line_feed = 10

-- the byte `#`
abbrev pub hash : ℕ
hash = 35

-- tab, line feed, carriage return and space
abbrev pub is_white : ℕ → Bool
is_white b = b == 9 || b == line_feed || b == 13 || b == 32

-- no byte ends the line
abbrev pub InLine : List ℕ → Type 0
InLine bytes = AllByRecursion (λ b. b ≢ line_feed) bytes

-- the line ends here, or the text does
abbrev pub EndsLine : List ℕ → Type 0
EndsLine [] = Unit {0}
EndsLine (b ∷ bs) = b ≡ line_feed

-- the bytes are white space and comments, and then the rest; a comment runs from `#` to the end of its line
pub data Gap : List ℕ → List ℕ → Type 0 where
  none : {rest : List ℕ} → Gap rest rest
  white : {b : ℕ} {bs rest : List ℕ} → IsTrue (is_white b) → Gap bs rest → Gap (b ∷ bs) rest
  comment : (line : List ℕ) {bs rest : List ℕ} → InLine line → EndsLine bs → Gap bs rest → Gap (hash ∷ (line ++ bs)) rest

-- a token is due: a byte that is neither white space nor begins a comment
abbrev pub IsDue : List ℕ → Type 0
IsDue [] = ⊥
IsDue (b ∷ bs) = (is_white b ≡ false) × (b ≢ hash)
