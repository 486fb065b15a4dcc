-- Texts of a grammar over placed tokens: which bytes are which value, and where those that are none go wrong.
-- A value's text is nested at most so deep: S n.
use Rattle.std.specs.Prelude.{◌≡◌, ℕ, Bool, true, false, List, [], ◌∷◌, length, drop, ◌⊎◌}
use Rattle.kl_lex.specs.declared.token.Sym.TheVariants as sym
use Rattle.kl_lex.specs.declared.token.Tok.{Tok}
use Rattle.kl_lex.specs.declared.token.Tok.TheVariants as tok
use Rattle.kl_lex.specs.declared.token.Placed.{Placed}
use Rattle.kl_lex.specs.Lexing.{Refused}
use Rattle.kl_lex.specs.Placing.{PlacedTokens}
use Rattle.kl_phrase.specs.Words.{Phrase}
use Rattle.kl_phrase.specs.FirstPlaces.{IsFirstBad, IsFirstDeep}

-- the byte at which these last tokens of a text of so many bytes begin
abbrev pub byte_of : ℕ → List Placed → ℕ
byte_of total [] = total
byte_of total (t ∷ ts) = t.from

-- the brackets that nest: { {| [| [ <
abbrev pub is_bracket_at : Tok → Bool
is_bracket_at (tok.Sym sym.OpenSet) = true
is_bracket_at (tok.Sym sym.OpenBag) = true
is_bracket_at (tok.Sym sym.OpenList) = true
is_bracket_at (tok.Sym sym.OpenRec) = true
is_bracket_at (tok.Sym sym.Lt) = true
is_bracket_at _ = false

abbrev pub is_bracket : Placed → Bool
is_bracket t = is_bracket_at t.what

module _ {A : Type 0} (S : ℕ → Phrase Placed A) where
  -- the tokens are this value, nested at most 256 deep
  abbrev pub Spells : List Placed → A → Type 0
  Spells ts a = S 256 0 a ts

  -- the bytes are this value
  abbrev pub IsTextOf : List ℕ → A → Type 0
  IsTextOf bytes a = (ts : List Placed) × PlacedTokens bytes ts × Spells ts a

  -- so many tokens are all that begin some text, and they begin one nested at most 256 deep
  abbrev pub IsBadAt : List Placed → ℕ → Type 0
  IsBadAt ts k = IsFirstBad S 256 ts k

  -- so many tokens begin a text nested at most 256 deep, and the next one is a bracket that makes the nesting 257
  abbrev pub IsDeepAt : List Placed → ℕ → Type 0
  IsDeepAt ts k = IsFirstDeep S is_bracket 256 ts k

  -- at this byte of a text of so many, a token with which no text goes on; a bracket that nests too deep
  abbrev pub AtBad : ℕ → List Placed → ℕ → Type 0
  AtBad total ts byte = (k : ℕ) × IsBadAt ts k × (byte ≡ byte_of total (drop k ts))

  abbrev pub AtDeep : ℕ → List Placed → ℕ → Type 0
  AtDeep total ts byte = (k : ℕ) × IsDeepAt ts k × (byte ≡ byte_of total (drop k ts))

  -- a byte where a token is due and none starts, or else where the tokens go wrong
  abbrev pub BadText : List ℕ → ℕ → Type 0
  BadText bytes byte = Refused bytes byte ⊎ ((ts : List Placed) × PlacedTokens bytes ts × AtBad (length bytes) ts byte)

  -- the byte where the tokens nest too deep
  abbrev pub DeepText : List ℕ → ℕ → Type 0
  DeepText bytes byte = (ts : List Placed) × PlacedTokens bytes ts × AtDeep (length bytes) ts byte
