-- Bytes as tokens, by longest match.
use Rattle.std.specs.Prelude.{◌≡◌, ℕ, ◌+◌, ◌<◌, ◌≤◌, List, [], ◌∷◌, ◌++◌, length, Result, Ok, Err}
use Rattle.kl_lex.specs.Blank.{Gap, IsDue}
use Rattle.kl_lex.specs.Spelling.{Lexeme, Spelled}
use Rattle.kl_lex.specs.declared.token.Tok.{Tok}
use Rattle.kl_lex.specs.declared.token.Token.{Token}
use Rattle.kl_lex.specs.declared.lexer.LexError.{LexError}
use Rattle.kl_lex.specs.declared.lexer.LexError.TheVariants.{Bad, NoMemory}

-- the bytes are a lexeme and the rest, and no longer front of them is a lexeme
pub record Longest (bytes lexeme rest : List ℕ) : Type 0 where
  pub parts : bytes ≡ lexeme ++ rest
  pub one : Lexeme lexeme
  pub longest : (v r : List ℕ) → bytes ≡ v ++ r → Lexeme v → length v ≤ length lexeme

-- the longest lexeme at the front spells this token
pub record Starts (bytes : List ℕ) (what : Tok) (rest : List ℕ) : Type 0 where
  pub lexeme : List ℕ
  pub longest : Longest bytes lexeme rest
  pub spelled : Spelled what lexeme

-- no token starts at the front
abbrev pub NoneStarts : List ℕ → Type 0
NoneStarts bytes = (what : Tok) (rest : List ℕ) → Starts bytes what rest → ⊥

-- the token at the front, with its places in a text of so many bytes
pub record Front (total : ℕ) (bytes : List ℕ) (t : Token) (rest : List ℕ) : Type 0 where
  pub starts : Starts bytes t.what rest
  pub from : t.from + length bytes ≡ total
  pub to : t.to + length rest ≡ total

-- these tokens with their gaps, and what is left
abbrev pub Upto : ℕ → List ℕ → List Token → List ℕ → Type 0
Upto total bytes [] left = Gap bytes left
Upto total bytes (t ∷ ts) left = (front : List ℕ) × (rest : List ℕ) × Gap bytes front × Front total front t rest × Upto total rest ts left

-- the tokens of the bytes
abbrev pub Tokens : List ℕ → List Token → Type 0
Tokens bytes ts = Upto (length bytes) bytes ts []

-- from this place on each token has a byte, and begins no sooner than the one before it ends
abbrev pub PlacesRise : ℕ → ℕ → List Token → Type 0
PlacesRise place total [] = place ≤ total
PlacesRise place total (t ∷ ts) = (place ≤ t.from) × (t.from < t.to) × PlacesRise t.to total ts

-- behind some tokens and a gap a token is due at this byte, and none starts there
abbrev pub Refused : List ℕ → ℕ → Type 0
Refused bytes byte = (ts : List Token) × (left : List ℕ) × Upto (length bytes) bytes ts left × IsDue left × NoneStarts left
    × (byte + length left ≡ length bytes)

abbrev pub RefusedAt : {A : Type 0} → List ℕ → Result A LexError → Type 0
RefusedAt bytes (Ok x) = Unit {0}
RefusedAt bytes (Err NoMemory) = Unit {0}
RefusedAt bytes (Err (Bad byte)) = Refused bytes byte
