-- The descent answers exactly the readings of the grammar, and the exact place where there is none.
use Rattle.std.proofs.Common.{◌≡◌, ℕ, suc, List, [], length, inr}
use Rattle.std.specs.Prelude.{Result, Ok, Err}
use Rattle.kl_lex.specs.declared.token.Placed.{Placed}
use Rattle.kl_lex.specs.Placing.{PlacedTokens}
use Rattle.kl_phrase.specs.FirstPlaces.{FirstAnswers, OnePlace}
use Rattle.kl_phrase.specs.Readers.{ok, ended}
use Rattle.kl_phrase.proofs.Exact.{Exactly, Nested}
use Rattle.kl_phrase.proofs.Exact as exact
use Rattle.kl_phrase.proofs.FirstPlaces as firsts
use Rattle.kl_type.specs.declared.ground.Ty.{Ty}
use Rattle.kl_type.specs.declared.reading.TypeError.{TypeError}
use Rattle.kl_type.specs.declared.reading.TypeError.TheVariants.{Bad, TooDeep, NoMemory}
use Rattle.kl_type.specs.Grammar.{Reads}
use Rattle.kl_type.specs.Reading.{SpellsType, RefusesType, RefusesTokens}
use Rattle.kl_type.specs.Texts.{is_bracket}
use Rattle.kl_type.specs.Descent as d
use Rattle.kl_type.proofs.FieldGoods.{Free}
use Rattle.kl_type.proofs.Flats.{flat_reads, firstly}
use Rattle.kl_type.proofs.Goods.{has_reads, good_reads}
use Rattle.kl_type.proofs.Kepts.{more_reads, same_reads, rests_reads}
use Rattle.kl_type.proofs.TextLemmas.{ReadsExactly}

exactly : Exactly Reads suc Free is_bracket (λ N n. d.reads n)
exactly = record { has = has_reads; good = good_reads; ends = tt; more = more_reads; same = λ N M n. same_reads (Nested is_bracket) N M n }

answers : (ts : List Placed) → FirstAnswers Reads is_bracket 256 ts (ended (d.reads 256 ts))
answers ts = firsts.answers Reads Free is_bracket is_bracket (λ N n. d.reads n) (λ N n. flat_reads n) exactly firstly (λ t h. h) 256 ts

only : (ts : List Placed) (t : Ty) → SpellsType ts t → ended (d.reads 256 ts) ≡ ok t []
only ts t h = exact.only Reads suc Free is_bracket (λ N n. d.reads n) exactly 256 t ts h

pub reads_exactly : ReadsExactly Reads (d.reads 256)
reads_exactly = record { answers = answers; only = only; rests = rests_reads 256 }

pub unique : (ts : List Placed) (t u : Ty) → SpellsType ts t → SpellsType ts u → t ≡ u
unique ts t u h i = exact.unique Reads suc Free is_bracket (λ N n. d.reads n) exactly 256 256 t u ts h i

pub one_place : (ts : List Placed) → OnePlace Reads is_bracket 256 ts
one_place ts = firsts.one_place Reads is_bracket 256 ts

pub refused_so : (bytes : List ℕ) (ts : List Placed) → PlacedTokens bytes ts → (r : Result Ty TypeError) → RefusesTokens (length bytes) ts r → RefusesType bytes r
refused_so bytes ts found (Ok t) h = tt
refused_so bytes ts found (Err (Bad place)) h = inr (ts, found, h)
refused_so bytes ts found (Err (TooDeep place)) h = (ts, found, h)
refused_so bytes ts found (Err NoMemory) h = tt
