-- Tokens, one by one.
use Rattle.std.proofs.Common.{◌≡◌, ℕ, ◌<◌, ◌≤◌, List, [], ◌∷◌, ◌++◌, length, map, refl, ap, subst, ◌∙◌, arith}
use Rattle.kl_lex.specs.declared.token.Token.{Token}
use Rattle.kl_lex.specs.declared.token.Placed.{Placed}
use Rattle.kl_lex.specs.declared.lexer.Lexer.{Lexer}
use Rattle.kl_lex.specs.declared.lexer.Next.TheVariants as next
use Rattle.kl_lex.specs.Blank.{Gap, none}
use Rattle.kl_lex.specs.Lexing.{Front, Upto, Tokens, Refused, PlacesRise}
use Rattle.kl_lex.specs.Placing.{token_of, Comes}
use Rattle.kl_lex.proofs.Sequence.{gap_more, gap_shorter, starts_shorter, upto_more, refused_none, read_whole, places_rise}

upto_gap : (total : ℕ) (bytes : List ℕ) (ts : List Token) (r s : List ℕ) → Upto total bytes ts r → Gap r s → Upto total bytes ts s
upto_gap total bytes [] r s g h = gap_more g h
upto_gap total bytes (t ∷ ts) r s (front, rest, g, f, more) h = (front, rest, g, f, upto_gap total rest ts r s more h)

pub map_more : (ts : List Placed) (t : Placed) → map token_of (ts ++ t ∷ []) ≡ map token_of ts ++ token_of t ∷ []
map_more [] t = refl
map_more (s ∷ ts) t = ap (λ (z : List Token). token_of s ∷ z) (map_more ts t)

-- so far these tokens, behind which some bytes are left
module _ (bytes : List ℕ) (ts : List Token) (total : ℕ) (all : total ≡ length bytes) (r : List ℕ) (so_far : Upto (length bytes) bytes ts r) where
  pub ends : Gap r [] → Tokens bytes ts
  ends g = upto_gap (length bytes) bytes ts r [] so_far g

  pub ends_only : (us : List Token) → Gap r [] → Tokens bytes us → ts ≡ us
  ends_only us g h = read_whole bytes ts us [] (ends g) refl h

  pub ends_rising : Gap r [] → PlacesRise 0 (length bytes) ts
  ends_rising g = places_rise 0 (length bytes) bytes ts [] (omega arith) (ends g)

  pub stops : (byte : ℕ) → Comes total r (next.Bad byte) → Refused bytes byte
  stops byte (left, g, due, never, e) = (ts, left, upto_gap (length bytes) bytes ts r left so_far g, due, never, e ∙ all)

  pub stops_only : (byte : ℕ) (us : List Token) → Comes total r (next.Bad byte) → Tokens bytes us → ⊥
  stops_only byte us (left, g, due, never, e) h = refused_none bytes ts us left (upto_gap (length bytes) bytes ts r left so_far g) due never h

  pub goes_on : (t : Placed) (after : Lexer) → Comes total r (next.Token t after) → Upto (length bytes) bytes (ts ++ token_of t ∷ []) after.rest.now
  goes_on t after (front, g, f, e) =
      upto_more (length bytes) bytes ts front (token_of t) after.rest.now after.rest.now (upto_gap (length bytes) bytes ts r front so_far g) (subst (λ n. Front n front (token_of t) after.rest.now) all f) none

pub same_total : (total : ℕ) (r : List ℕ) (t : Placed) (after : Lexer) → Comes total r (next.Token t after) → after.total ≡ total
same_total total r t after (front, g, f, e) = e

pub shorter : (total : ℕ) (r : List ℕ) (t : Placed) (after : Lexer) → Comes total r (next.Token t after) → length after.rest.now < length r
shorter total r t after (front, g, f, e) = omega (arith, gap_shorter g, starts_shorter front t.what after.rest.now f.starts)

-- no place is past the end
pub from_within : (total : ℕ) (r : List ℕ) (t : Placed) (after : Lexer) → Comes total r (next.Token t after) → t.from ≤ total
from_within total r t after (front, g, f, e) = omega (arith, f.from)

pub to_within : (total : ℕ) (r : List ℕ) (t : Placed) (after : Lexer) → Comes total r (next.Token t after) → t.to ≤ total
to_within total r t after (front, g, f, e) = omega (arith, f.to)

pub full : (r : List ℕ) → (length r ≡ 0 → ⊥) → r ≡ [] → ⊥
full r n e = n (ap length e)

one_placed : (t s : Placed) → token_of t ≡ token_of s → t ≡ s
one_placed t s e i = record { what = (e i).what; from = (e i).from; to = (e i).to }

pub one_list : (ts us : List Placed) → map token_of ts ≡ map token_of us → ts ≡ us
one_list [] [] e = refl
one_list [] (u ∷ us) e = absurd cc
one_list (t ∷ ts) [] e = absurd cc
one_list (t ∷ ts) (u ∷ us) e =
    let same : token_of t ≡ token_of u = cc in
    let rest : map token_of ts ≡ map token_of us = cc in
    ap (λ (z : Placed). z ∷ ts) (one_placed t u same) ∙ ap (λ (z : List Placed). u ∷ z) (one_list ts us rest)
