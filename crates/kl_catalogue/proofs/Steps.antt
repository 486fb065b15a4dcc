-- What the code's steps say of the descent.
use Rattle.std.proofs.Common.{◌≡◌, ℕ, ◌≤◌, ◌<◌, ◌^◌, Bool, true, false, List, [], ◌∷◌, ◌++◌, map, length, Some, None, refl, ap, subst, ◌∙◌, arith}
use Rattle.kl_lex.specs.declared.token.Sym.TheVariants as sy
use Rattle.kl_lex.specs.declared.token.Placed.{Placed}
use Rattle.kl_lex.specs.Lexing.{PlacesRise}
use Rattle.kl_lex.specs.Placing.{token_of}
use Rattle.kl_phrase.specs.Words.{heads}
use Rattle.kl_phrase.specs.Readers.{Why, bad, Out, ok, fail, Reader, after, behind, before, one}
use Rattle.kl_phrase.proofs.Kept.{Rests, rest_less}
use Rattle.kl_phrase.proofs.Gathered.{Progress, goes_on, part_fails}
use Rattle.kl_phrase.specs.declared.fault.Fault.{Fault}
use Rattle.kl_phrase.specs.Gives.{Fails}
use Rattle.kl_type.specs.Texts.{byte_of}
use Rattle.kl_type.specs.Descent.{is_word, mark, reads}
use Rattle.kl_type.proofs.Steps.{AheadWord}
use Rattle.kl_catalogue.specs.declared.reading.Entry.{Entry}
use Rattle.kl_lex.specs.Keywords.{is_keyword}
use Rattle.kl_catalogue.specs.Grammar.{Parts, entry_of}
use Rattle.kl_catalogue.specs.Descent as d
use Rattle.kl_catalogue.specs.Descent.{is_source, a_source, unless_keyword, a_name, a_name_at}
use Rattle.kl_catalogue.proofs.Goods.{rests_entry, rests_catalogue}
use Rattle.kl_type.proofs.TokenLemmas.{no_word}

-- ---- names

pub no_name : (ts : List Placed) → heads is_word ts ≡ false → one a_name ts ≡ fail bad ts
no_name = no_word (λ word. unless_keyword (is_keyword word) word)

pub name_taken : (ts more : List Placed) (w : List ℕ) → AheadWord w ts more → is_keyword w ≡ true → one a_name ts ≡ fail bad ts
name_taken ts more w (t, e, h) k = let z : a_name t ≡ None = ap a_name_at h ∙ ap (λ (b : Bool). unless_keyword b w) k in rw (e, z) refl

pub name_free : (ts more : List Placed) (w : List ℕ) → AheadWord w ts more → is_keyword w ≡ false → one a_name ts ≡ ok w more
name_free ts more w (t, e, h) k = let z : a_name t ≡ Some w = ap a_name_at h ∙ ap (λ (b : Bool). unless_keyword b w) k in rw (e, z) refl

-- ---- entries

abbrev pub AheadSource : List Placed → List Placed → Type 0
AheadSource rest more = (t : Placed) × (rest ≡ t ∷ more) × (is_source t ≡ true)

abbrev pub AnEntry : Reader Placed Entry
AnEntry = d.entry (reads 256)

abbrev AfterSource : Reader Placed Parts
AfterSource = before (d.described (reads 256)) (mark sy.Semi)

behind_source : (rest more : List Placed) → AheadSource rest more → behind (one a_source) AfterSource rest ≡ AfterSource more
behind_source rest more (t, e, h) = rw (e, h) refl

heads_source : (rest more : List Placed) → AheadSource rest more → heads is_source rest ≡ true
heads_source rest more (t, e, h) = rw e h

entry_at : (rest more : List Placed) → AheadSource rest more → AnEntry rest ≡ d.entry_rest (reads 256) more
entry_at rest more a = ap (λ (o : Out Placed Parts). after {B = Entry} o (λ x s. ok (entry_of x) s)) (behind_source rest more a)

pub entry_less : (rest more r : List Placed) (a : Entry) → AheadSource rest more → d.entry_rest (reads 256) more ≡ ok a r → length r < length rest
entry_less rest more r a (t, e, h) i = rest_less t rest more r a (d.entry_rest (reads 256) more) e (rests_entry 256 more) i

pub entry_on : (list : Out Placed (List Entry)) (found : List Entry) (rest more r : List Placed) (a : Entry) → AheadSource rest more → d.entry_rest (reads 256) more ≡ ok a r → Progress is_source AnEntry list found rest → Progress is_source AnEntry list (found ++ a ∷ []) r
entry_on list found rest more r a ahead e so = goes_on is_source AnEntry list found rest r a (heads_source rest more ahead) (entry_at rest more ahead ∙ e) (entry_less rest more r a ahead e) so

pub entry_fails : (list : Out Placed (List Entry)) (found : List Entry) (rest more : List Placed) (f : Fault Placed) → AheadSource rest more → Fails f (d.entry_rest (reads 256) more) → Progress is_source AnEntry list found rest → Fails f list
entry_fails list found rest more f ahead = part_fails is_source AnEntry (d.entry_rest (reads 256) more) list found rest f (heads_source rest more ahead) (λ w s e. entry_at rest more ahead ∙ e)

-- ---- places take no more than 32 bits

rises : (p total : ℕ) (ts : List Placed) → PlacesRise p total (map token_of ts) → (p ≤ total) × (byte_of total ts ≤ total)
rises p total [] h = (h, omega arith)
rises p total (t ∷ ts) (a, b, c) = let k = (rises t.to total ts c).0 in (omega arith, omega arith)

behind_some : (p total : ℕ) (u r : List Placed) → PlacesRise p total (map token_of (u ++ r)) → byte_of total r ≤ total
behind_some p total [] r h = (rises p total r h).1
behind_some p total (t ∷ u) r (a, b, c) = behind_some t.to total u r c

module _ (total : ℕ) (ts : List Placed) (short : total ≤ 65536) (places : PlacesRise 0 total (map token_of ts)) where
  fits : (u r : List Placed) → ts ≡ u ++ r → byte_of total r < 2 ^ 32
  fits u r e = let k = behind_some 0 total u r (subst (λ (z : List Placed). PlacesRise 0 total (map token_of z)) e places) in omega arith

  pub rest_fits : (c : List Entry) (r : List Placed) → d.catalogue 256 ts ≡ ok c r → byte_of total r < 2 ^ 32
  rest_fits c r e = let k : Rests {A = List Entry} ts (ok c r) = subst (λ (o : Out Placed (List Entry)). Rests ts o) e (rests_catalogue 256 ts) in fits k.0 r k.1

  pub place_fits : (w : Why) (r : List Placed) → d.catalogue 256 ts ≡ fail w r → byte_of total r < 2 ^ 32
  place_fits w r e = let k : Rests {A = List Entry} ts (fail w r) = subst (λ (o : Out Placed (List Entry)). Rests ts o) e (rests_catalogue 256 ts) in fits k.0 r k.1
