-- The descent answers exactly the readings of the grammar, and the exact place where there is none.
use Rattle.std.proofs.Common.{◌≡◌, ℕ, suc, ◌-◌, List, [], length, inl, inr}
use Rattle.std.specs.Prelude.{Result, Ok, Err}
use Rattle.kl_lex.specs.declared.token.Placed.{Placed}
use Rattle.kl_lex.specs.Placing.{PlacedTokens}
use Rattle.kl_phrase.specs.FirstPlaces.{FirstAnswers, OnePlace}
use Rattle.kl_phrase.specs.Readers.{Out, ok, fail, bad, deep, ended}
use Rattle.kl_phrase.proofs.Exact as exact
use Rattle.kl_phrase.proofs.Firsts.{Stops}
use Rattle.kl_phrase.proofs.FirstPlaces as firsts
use Rattle.kl_type.specs.Texts.{is_bracket}
use Rattle.kl_type.proofs.TextLemmas.{ReadsExactly}
use Rattle.kl_catalogue.specs.declared.reading.Entry.{Entry}
use Rattle.kl_catalogue.specs.declared.reading.CatalogueError.{CatalogueError}
use Rattle.kl_catalogue.specs.declared.reading.CatalogueError.TheVariants.{Bad, TooDeep, NoMemory}
use Rattle.kl_catalogue.specs.Grammar.{ReadsCatalogue}
use Rattle.kl_catalogue.specs.Reading.{SpellsCatalogue, IsToldOf, RefusesCatalogue, RefusesTokens}
use Rattle.kl_catalogue.specs.Descent as d
use Rattle.kl_catalogue.specs.Descent.{is_source}
use Rattle.kl_catalogue.proofs.Goods.{exactly, firstly, flat_catalogue, rests_catalogue}

answers : (ts : List Placed) → FirstAnswers ReadsCatalogue is_bracket 256 ts (ended (d.catalogue 256 ts))
answers ts = firsts.answers ReadsCatalogue (Stops is_source) is_bracket is_bracket (λ N n. d.catalogue n) (λ N n. flat_catalogue n) exactly firstly (λ t h. h) 256 ts

only : (ts : List Placed) (c : List Entry) → SpellsCatalogue ts c → ended (d.catalogue 256 ts) ≡ ok c []
only ts c h = exact.only ReadsCatalogue suc (Stops is_source) is_bracket (λ N n. d.catalogue n) exactly 256 c ts h

pub reads_exactly : ReadsExactly ReadsCatalogue (d.catalogue 256)
reads_exactly = record { answers = answers; only = only; rests = rests_catalogue 256 }

pub unique : (ts : List Placed) (c e : List Entry) → SpellsCatalogue ts c → SpellsCatalogue ts e → c ≡ e
unique ts c e h i = exact.unique ReadsCatalogue suc (Stops is_source) is_bracket (λ N n. d.catalogue n) exactly 256 256 c e ts h i

pub one_place : (ts : List Placed) → OnePlace ReadsCatalogue is_bracket 256 ts
one_place ts = firsts.one_place ReadsCatalogue is_bracket 256 ts

told_by : (ts : List Placed) (o : Out Placed (List Entry)) → FirstAnswers ReadsCatalogue is_bracket 256 ts o → IsToldOf ts
told_by ts (ok c r) h = inl (c, h.1)
told_by ts (fail bad r) h = inr (inl (length ts - length r, h.1))
told_by ts (fail deep r) h = inr (inr (length ts - length r, h.1))

pub told : (ts : List Placed) → IsToldOf ts
told ts = told_by ts (ended (d.catalogue 256 ts)) (answers ts)

pub refused_so : (bytes : List ℕ) (ts : List Placed) → PlacedTokens bytes ts → (r : Result (List Entry) CatalogueError) → RefusesTokens (length bytes) ts r → RefusesCatalogue bytes r
refused_so bytes ts found (Ok c) h = tt
refused_so bytes ts found (Err (Bad byte)) h = inr (ts, found, h)
refused_so bytes ts found (Err (TooDeep byte)) h = (ts, found, h)
refused_so bytes ts found (Err NoMemory) h = tt
