-- Tokens of bytes of any length, one by one and all of them.
use Rattle.std.specs.Prelude.{◌≡◌, ℕ, ◌+◌, List, [], map, length}
use Rattle.kl_lex.specs.Blank.{Gap, IsDue}
use Rattle.kl_lex.specs.Lexing.{Front, NoneStarts, Tokens, PlacesRise, Refused}
use Rattle.kl_lex.specs.declared.token.Token.{Token}
use Rattle.kl_lex.specs.declared.token.Placed.{Placed}
use Rattle.kl_lex.specs.declared.lexer.Next.{Next}
use Rattle.kl_lex.specs.declared.lexer.Next.TheVariants as next
use Rattle.kl_lex.specs.declared.lexer.Lexed.{Lexed}
use Rattle.kl_lex.specs.declared.lexer.Lexed.TheVariants as lexed

-- the same token, as one of a short text
abbrev pub token_of : Placed → Token
token_of t = record { what = t.what; from = t.from; to = t.to }

-- the tokens of the bytes
abbrev pub PlacedTokens : List ℕ → List Placed → Type 0
PlacedTokens bytes ts = Tokens bytes (map token_of ts)

-- what comes next in a text of so many bytes, of which these are left: behind a gap a token, the end, or a byte where a
-- token is due and none starts
abbrev pub Comes : ℕ → List ℕ → Next → Type 0
Comes total bytes (next.Token t after) = (front : List ℕ) × Gap bytes front × Front total front (token_of t) after.rest.now
    × (after.total ≡ total)
Comes total bytes next.End = Gap bytes []
Comes total bytes (next.Bad byte) = (left : List ℕ) × Gap bytes left × IsDue left × NoneStarts left × (byte + length left ≡ total)

-- the tokens of the bytes, whose places rise; or the byte where a token is due behind some tokens, and none starts
abbrev pub AreLexed : List ℕ → Lexed → Type 0
AreLexed bytes (lexed.Tokens ts) = PlacedTokens bytes ts × PlacesRise 0 (length bytes) (map token_of ts)
AreLexed bytes (lexed.Bad byte) = Refused bytes byte

-- the answer is these tokens
abbrev pub OnlyTokens : Lexed → List Placed → Type 0
OnlyTokens (lexed.Tokens found) ts = found ≡ ts
OnlyTokens (lexed.Bad byte) ts = ⊥
