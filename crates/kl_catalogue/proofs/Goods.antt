-- Each reader of the descent reads its word of the grammar; what it answers rests on no token behind the first of the rest;
-- and beside it goes a flat one, which calls each failure a plain one.
use Rattle.std.proofs.Common.{ℕ, zero, suc, Bool, List, ◌∷◌, length, ◌⊎◌, inl, inr, refl}
use Rattle.kl_lex.specs.declared.token.Sym.TheVariants as sy
use Rattle.kl_lex.specs.declared.token.Placed.{Placed}
use Rattle.kl_phrase.specs.Words.{Phrase, One, Then, Behind, Before, Many}
use Rattle.kl_phrase.specs.Readers.{Why, Reader, one, behind, before, both, goes, turns, loop, many}
use Rattle.kl_phrase.proofs.Theory.{Good, On, Has, good_one, good_made, good_both, good_behind, good_before, good_many, on_behind, has_behind}
use Rattle.kl_phrase.proofs.Firsts.{Stops, on_made, has_then, has_before, has_many}
use Rattle.kl_phrase.proofs.Kept.{Keeps, Takes, Rests, keeps_one, keeps_made, keeps_both, keeps_behind, keeps_before, keeps_many, takes_one, takes_made, takes_behind}
use Rattle.kl_phrase.proofs.Exact.{IsBad, Nested, Each, Exactly}
use Rattle.kl_type.specs.declared.ground.Ty.{Ty}
use Rattle.kl_type.specs.Grammar.{Symbol, Reads}
use Rattle.kl_type.specs.Texts.{is_bracket}
use Rattle.kl_type.specs.Descent.{a_symbol, mark, reads}
use Rattle.kl_type.proofs.TokenLemmas.{good_symbol, has_symbol}
use Rattle.kl_type.proofs.FieldGoods.{Free}
use Rattle.kl_type.proofs.Goods.{has_reads, good_reads}
use Rattle.kl_type.proofs.Kepts.{same_reads, more_reads}
use Rattle.kl_phrase.proofs.FirstPlaces.{Flattens, Firstly, flat_one, flat_nothing, flat_chain, flat_made, flat_both, flat_behind, flat_before, flat_pick}
use Rattle.kl_type.proofs.Flats.{flat_reads, flattens, good_flat}
use Rattle.kl_catalogue.specs.declared.reading.Entry.{Entry}
use Rattle.kl_catalogue.specs.Grammar.{IsSource, IsName, IsTextToken, entry_of, Described, AnEntry, ReadsCatalogue}
use Rattle.kl_catalogue.specs.Descent as d
use Rattle.kl_catalogue.specs.Descent.{is_source, a_source, a_name, a_text}
use Rattle.kl_catalogue.proofs.Lexemes.{decides_source, on_source, decides_name, has_name, decides_text, has_text}

-- ---- the words of the grammar

abbrev Located : Phrase Placed (List ℕ × List ℕ)
Located = Then (Behind (Symbol sy.Eq) (One IsName)) (One IsTextToken)

has_located : Has Located
has_located = has_then (Behind (Symbol sy.Eq) (One IsName)) (One IsTextToken) (has_behind (Symbol sy.Eq) (One IsName) (has_symbol sy.Eq) has_name) has_text

module _ (W : Phrase Placed Ty) (has_in : Has W) where
  has_typed : Has (Then (Behind (Symbol sy.Colon) W) Located)
  has_typed = has_then (Behind (Symbol sy.Colon) W) Located (has_behind (Symbol sy.Colon) W (has_symbol sy.Colon) has_in) has_located

  has_described : Has (Described W)
  has_described = has_then (One IsName) (Then (Behind (Symbol sy.Colon) W) Located) has_name has_typed

  has_rest : Has (Before (Described W) (Symbol sy.Semi))
  has_rest = has_before (Described W) (Symbol sy.Semi) has_described (has_symbol sy.Semi)

on_entry : (E : Phrase Placed Ty) → On is_source (AnEntry E)
on_entry E = on_made is_source entry_of (Behind (One IsSource) (Before (Described E) (Symbol sy.Semi))) (on_behind is_source (One IsSource) (Before (Described E) (Symbol sy.Semi)) on_source)

module _ (N : ℕ) (E W : Phrase Placed Ty) (e : Reader Placed Ty) (good : Good N E W Free e) (has_in : Has W) where
  good_located : Good N Located Located Free (both (behind (mark sy.Eq) (one a_name)) (one a_text))
  good_located = good_both {C = Free} (good_behind (good_symbol sy.Eq Free) (good_one decides_name) has_name (λ n b y v r h. tt)) (good_one decides_text) has_text (λ n b y v r h. tt)

  good_described : Good N (Described E) (Described W) Free (d.described e)
  good_described = good_both {C = Free} (good_one decides_name) (good_both {C = Free} (good_behind (good_symbol sy.Colon Free) good has_in (λ n b y v r h. tt)) good_located has_located (λ n b y v r h. tt)) (has_typed W has_in) (λ n b y v r h. tt)

  good_entry : Good N (AnEntry E) (AnEntry W) Free (d.entry e)
  good_entry = good_made (good_behind {C = Free} (good_one decides_source) (good_before good_described (good_symbol sy.Semi Free) (has_symbol sy.Semi) (λ n b y v r h. tt)) (has_rest W has_in) (λ n b y v r h. tt))

  good_entries : Good N (Many (AnEntry E)) (Many (AnEntry W)) (Stops is_source) (d.entries e)
  good_entries = good_many {C = Free} good_entry (on_entry E) (λ w h. tt) (λ v h. (tt, h))

has_catalogue : (n : ℕ) → Has (ReadsCatalogue n)
has_catalogue n = has_many (AnEntry (Reads n))

good_catalogue : (N n : ℕ) → Good N (ReadsCatalogue n) (ReadsCatalogue (suc n)) (Stops is_source) (d.catalogue n)
good_catalogue N n = good_entries N (Reads n) (Reads (suc n)) (reads n) (good_reads N n) (has_reads (suc n))

-- ---- no token behind the first of the rest

module _ (Q : Why → List Placed → Type 0) (N M : ℕ) (e e' : Reader Placed Ty) (ke : Keeps Q N M e e') where
  keeps_body : Keeps Q N M (before (d.described e) (mark sy.Semi)) (before (d.described e') (mark sy.Semi))
  keeps_body = keeps_before (keeps_both (keeps_one a_name) (keeps_both (keeps_behind (keeps_one (a_symbol sy.Colon)) ke) (keeps_both (keeps_behind (keeps_one (a_symbol sy.Eq)) (keeps_one a_name)) (keeps_one a_text)))) (keeps_one (a_symbol sy.Semi))

  keeps_entry_rest : Keeps Q N M (d.entry_rest e) (d.entry_rest e')
  keeps_entry_rest = keeps_made entry_of keeps_body

  takes_entry : Takes (d.entry e)
  takes_entry = takes_made (behind (one a_source) (before (d.described e) (mark sy.Semi))) entry_of (takes_behind (takes_one a_source) keeps_body)

  keeps_entries : Keeps Q N M (d.entries e) (d.entries e')
  keeps_entries = keeps_many (keeps_made entry_of (keeps_behind (keeps_one a_source) keeps_body)) takes_entry

pub rests_entry : (n : ℕ) (ts : List Placed) → Rests ts (d.entry_rest (reads n) ts)
rests_entry n ts = (keeps_entry_rest Each 0 0 (reads n) (reads n) (same_reads Each 0 0 n)).rests ts

pub rests_catalogue : (n : ℕ) (ts : List Placed) → Rests ts (d.catalogue n ts)
rests_catalogue n ts = (keeps_entries Each 0 0 (reads n) (reads n) (same_reads Each 0 0 n)).rests ts

pub exactly : Exactly ReadsCatalogue suc (Stops is_source) is_bracket (λ N n. d.catalogue n)
exactly = record {
  has = has_catalogue;
  good = good_catalogue;
  ends = refl;
  more = λ N M n k le. keeps_entries IsBad N M (reads n) (reads k) (more_reads N M n k le);
  same = λ N M n. keeps_entries (Nested is_bracket) N M (reads n) (reads n) (same_reads (Nested is_bracket) N M n);
}

-- ---- the flat descent

module _ {T : Type 0} where
  flat_goes : {A B : Type 0} {opens : T → Bool} {p q : Reader T (List A × B)} (x : A ⊎ B) → Flattens opens p q → Flattens opens (λ r. goes x r p) (λ r. goes x r q)
  flat_goes {A} {B} (inl a) h = flat_made (λ (x : List A × B). (a ∷ x.0, x.1)) h
  flat_goes (inr b) h = record { flat = λ ts. refl }

  flat_turns : {A B : Type 0} {opens : T → Bool} {p q : Reader T (A ⊎ B)} → Flattens opens p q → (k : ℕ) → Flattens opens (turns p k) (turns q k)
  flat_turns h zero = record { flat = λ ts. refl }
  flat_turns h (suc k) = flat_chain h (λ x. flat_goes x (flat_turns h k))

  flat_loop : {A B : Type 0} {opens : T → Bool} {p q : Reader T (A ⊎ B)} → Flattens opens p q → Flattens opens (loop p) (loop q)
  flat_loop h = record { flat = λ ts. (flat_turns h (suc (length ts))).flat ts }

  flat_many : {A : Type 0} {opens : T → Bool} (test : T → Bool) {p q : Reader T A} → Flattens opens p q → Flattens opens (many test p) (many test q)
  flat_many {A} test h = flat_made (λ (x : List A × Unit {0}). x.0) (flat_loop (flat_pick (flat_made inl h) (flat_made inr (flat_nothing (tt {0})))))

pub flat_catalogue : ℕ → Reader Placed (List Entry)
flat_catalogue n = d.entries (flat_reads n)

flat_mark : (s : Rattle.kl_lex.specs.declared.token.Sym.Sym) → Flattens is_bracket (mark s) (mark s)
flat_mark s = flat_one (a_symbol s)

flattens_catalogue : (n : ℕ) → Flattens is_bracket (d.catalogue n) (d.entries (flat_reads n))
flattens_catalogue n =
    flat_many is_source (flat_made entry_of (flat_behind (flat_one a_source) (flat_before (flat_both (flat_one a_name) (flat_both (flat_behind (flat_mark sy.Colon) (flattens n)) (flat_both (flat_behind (flat_mark sy.Eq) (flat_one a_name)) (flat_one a_text)))) (flat_mark sy.Semi))))

pub firstly : Firstly ReadsCatalogue (Stops is_source) is_bracket (λ N n. d.catalogue n) (λ N n. flat_catalogue n)
unfolding flat_catalogue
firstly = record { good = λ N n. good_entries N (Reads n) (Reads n) (flat_reads n) (good_flat N n) (has_reads n); flat = λ N n. flattens_catalogue n }
