-- What the parts of the lexer answer. No public contract cites this.
use Rattle.std.specs.Prelude.{◌≡◌, ℕ, pos, ◌+◌, ◌≤◌, List, ◌∷◌, ◌++◌, length}
use Rattle.kl_lex.specs.Blank.{InLine, EndsLine}
use Rattle.kl_value.specs.Quoted.{Part, Parts, quote}
use Rattle.kl_lex.specs.Spelling.{spelling, int_max}
use Rattle.kl_lex.specs.declared.token.Sym.{Sym as Symbol}
use Rattle.kl_lex.specs.declared.token.Tok.{Tok}
use Rattle.kl_lex.specs.declared.token.Tok.TheVariants.{Int, Big}

-- the bytes are the rest of a line, and what is left from its end on
abbrev pub LineBefore : List ℕ → List ℕ → Type 0
LineBefore bytes left = (line : List ℕ) × (bytes ≡ line ++ left) × InLine line × EndsLine left

-- the bytes are the inside of a text, its closing quote and the rest
abbrev pub Closes : List ℕ → List ℕ → List ℕ → Type 0
Closes bytes meant rest = (inside : List ℕ) × (bytes ≡ inside ++ quote ∷ rest) × Parts meant inside

-- no text closes in the bytes
abbrev pub NoneCloses : List ℕ → Type 0
NoneCloses bytes = (meant rest : List ℕ) → Closes bytes meant rest → ⊥

-- the bytes are one part of a text and the rest
abbrev pub PartFirst : List ℕ → ℕ → List ℕ → Type 0
PartFirst bytes b rest = (part : List ℕ) × (bytes ≡ part ++ rest) × Part b part

-- no part of a text is at the front
abbrev pub NoPart : List ℕ → Type 0
NoPart bytes = (b : ℕ) (rest : List ℕ) → PartFirst bytes b rest → ⊥

-- no symbol is at the front
abbrev pub NoSymbol : List ℕ → Type 0
NoSymbol bytes = (s : Symbol) (rest : List ℕ) → bytes ≡ spelling s ++ rest → ⊥

-- the symbol is at the front, and no longer one is
pub record LongestSymbol (bytes : List ℕ) (s : Symbol) (rest : List ℕ) : Type 0 where
  pub parts : bytes ≡ spelling s ++ rest
  pub longest : (t : Symbol) (r : List ℕ) → bytes ≡ spelling t ++ r → length (spelling t) ≤ length (spelling s)

-- the token of a number of this value
abbrev pub HasValue : ℕ → Tok → Type 0
HasValue v (Int n) = (v ≤ int_max) × (n ≡ pos v)
HasValue v Big = v ≡ int_max + 1
HasValue v _ = ⊥
