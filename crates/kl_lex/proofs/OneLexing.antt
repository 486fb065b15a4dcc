-- Bytes are one list of tokens, or go wrong at one byte.
use Rattle.std.proofs.Common.{◌≡◌, inl, inr, ℕ, List, [], length, map, refl, ap, arith}
use Rattle.kl_lex.specs.Lexing.{Refused, Tokens}
use Rattle.kl_lex.specs.Placing.{PlacedTokens, token_of}
use Rattle.kl_lex.specs.declared.token.Placed.{Placed}
use Rattle.kl_lex.specs.declared.token.Token.{Token}
use Rattle.kl_lex.proofs.Placings.{one_list}
use Rattle.kl_lex.proofs.Sequence.{one_lexing, refused_none}

pub unique : (bytes : List ℕ) (ts us : List Token) → Tokens bytes ts → Tokens bytes us → ts ≡ us
unique bytes ts us this that = (one_lexing (length bytes) bytes ts us [] [] this (inl refl) that (inl refl)).0

pub placed : (bytes : List ℕ) (ts us : List Placed) → PlacedTokens bytes ts → PlacedTokens bytes us → ts ≡ us
placed bytes ts us this that = one_list ts us (unique bytes (map token_of ts) (map token_of us) this that)

pub one_byte : (bytes : List ℕ) (b d : ℕ) → Refused bytes b → Refused bytes d → b ≡ d
one_byte bytes b d (us, left, upto, due, none, at) (us2, left2, upto2, due2, none2, at2) =
    let same = (one_lexing (length bytes) bytes us us2 left left2 upto (inr (due, none)) upto2 (inr (due2, none2))).1 in
    omega (arith, at, at2, ap length same)

pub refused : (bytes : List ℕ) (b : ℕ) (ts : List Token) → Refused bytes b → Tokens bytes ts → ⊥
refused bytes b ts (us, left, upto, due, none, at) tokens = refused_none bytes us ts left upto due none tokens
