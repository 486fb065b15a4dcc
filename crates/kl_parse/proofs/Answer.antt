-- The parser answers exactly the readings of the grammar, and the exact place and kind of each refusal.
use Rattle.std.specs.List.{slice_range}
use Rattle.std.proofs.Common.{◌≡◌, ℕ, zero, suc, ◌+◌, ◌-◌, ◌≤◌, Bool, true, false, not, ◌&&◌, ◌||◌, List, [], ◌∷◌, ◌++◌, length, take, drop, Result, Ok, Err, IfOk, inl, inr, refl, sym, ap, subst, ◌∙◌, append_assoc, arith, ◌<◌, ◌⊎◌}
use Rattle.kl_lex.specs.declared.token.Sym.{Sym}
use Rattle.kl_lex.specs.declared.token.Sym.TheVariants as sy
use Rattle.kl_lex.specs.declared.token.Token.{Token}
use Rattle.kl_lex.specs.declared.keyword.Keyword.TheVariants as key
use Rattle.kl_syntax.specs.declared.tree.Program.{Program}
use Rattle.kl_phrase.specs.Fronts.{Told, program, syntax, too_deep, Tells, told, first_told, deep_told, again_told}
use Rattle.kl_phrase.specs.Readers.{Reader, Out, ok, fail, bad, deep, ended, before}
use Rattle.kl_phrase.specs.Refusals.{may_miss}
use Rattle.kl_phrase.specs.Words.{heads}
use Rattle.kl_phrase.proofs.Fronts.{Placed}
use Rattle.kl_phrase.proofs.Fronts as fronts
use Rattle.kl_phrase.proofs.Kept.{Rests, head}
use Rattle.kl_phrase.proofs.LastTokens.{Ends, ends_one, ends_made, ends_both, ends_behind, ends_before, ends_many, ends_open, last_is}
use Rattle.kl_parse.specs.declared.program.ParseError.{ParseError}
use Rattle.kl_parse.specs.declared.program.ParseError.TheVariants.{Syntax, TooDeep, NoMemory}
use Rattle.kl_parse.specs.Grammar.{decl_of, program_of, whole, ReadsProgram, BeginsProgram, is_number, is_text, misses}
use Rattle.kl_parse.specs.Kinds.{is_symbol, is_key, a_symbol, a_key}
use Rattle.kl_parse.specs.Parsing.{IsProgram, RefusesProgram, OnePlace, IsToldOf}
use Rattle.kl_parse.specs.Telling.{Says, SaysError, SaysAgain, Through, rest_of}
use Rattle.kl_base.specs.Results.{OrMemory}
use Rattle.kl_parse.specs.Descent as d
use Rattle.kl_parse.proofs.KindLemmas.{is_symbol_of}
use Rattle.kl_parse.proofs.PatGoods.{Free}
use Rattle.kl_parse.proofs.Plains.{plain_reads, plain_body, plain_pat, plain_program}
use Rattle.kl_parse.proofs.Reading.{up, has_program, has_front, up_sort, body_up, program_up, program_front, program_loose}
use Rattle.kl_parse.proofs.Kepts.{more_program, same_program}
use Rattle.kl_parse.proofs.Agrees.{agrees_program}
use Rattle.kl_parse.proofs.Depths.{deep_pat, deep_reads, deep_body, deep_program}
use Rattle.kl_parse.proofs.NoEnds.{semi, no_reads, no_body}

-- ---- nothing is left out at a token of the text

and_not : (b : Bool) → (b && not b) ≡ false
and_not true = refl
and_not false = refl

none_missed : (l r : List Token) (t : Token) → head (t ∷ r) ≡ head l → ((is_number t && not (heads is_number l)) || (is_text t && not (heads is_text l))) ≡ false
none_missed [] r t e = absurd cc
none_missed (x ∷ l) r t e =
    let k : t ≡ x = cc in
    ap (λ z. (is_number z && not (is_number x)) || (is_text z && not (is_text x))) k ∙ ap (λ b. b || (is_text x && not (is_text x))) (and_not (is_number x)) ∙ and_not (is_text x)

no_hole : (ts r : List Token) (N : ℕ) → head r ≡ head (drop (N - length r) ts) → may_miss (misses ts) N r ≡ false
no_hole ts [] N e = refl
no_hole ts (t ∷ r) N e = none_missed (drop (N - length (t ∷ r)) ts) r t e

-- ---- at the end of a program nothing is too deep

module _ (N n : ℕ) where
  body_none : d.body (d.read_pat N n) (d.reads N n whole) [] ≡ fail deep [] → ⊥
  unfolding d.body d.pat_by d.pat d.simple d.reads_by d.read_whole d.ors d.and d.negation d.compare d.add d.mul d.un d.post d.prim d.named
  body_none e = by n e
    where
      by : (m : ℕ) → d.body (d.read_pat N m) (d.reads N m whole) [] ≡ fail deep [] → ⊥
      by zero e = cc
      by (suc m) e = cc

  reads_none : d.reads N n whole [] ≡ fail deep [] → ⊥
  unfolding d.reads_by d.read_whole d.ors d.and d.negation d.compare d.add d.mul d.un d.post d.prim d.named
  reads_none e = by n e
    where
      by : (m : ℕ) → d.reads N m whole [] ≡ fail deep [] → ⊥
      by zero e = cc
      by (suc m) e = cc

  ends_body : Ends semi N (d.body (d.read_pat N n) (d.reads N n whole))
  ends_body = ends_open semi N (plain_body deep N (d.reads N n whole) (d.reads_by N bad n whole) (plain_reads deep N n whole) (d.read_pat N n) (d.pat_by N bad n) (plain_pat deep N n)) (body_up N n) (no_body (up n)) body_none (deep_body N n (d.reads N n whole) (deep_reads N n whole) (d.read_pat N n) (deep_pat N n)).rests

  ends_reads : Ends semi N (d.reads N n whole)
  ends_reads = ends_open semi N (plain_reads deep N n whole) (up_sort N n whole) (no_reads (up n) whole) reads_none (deep_reads N n whole).rests

  ends_name : Ends semi N (d.name N)
  ends_name = ends_made semi N Rattle.kl_parse.specs.Lexemes.word_of (numbered_name)
    where
      numbered_name : Ends semi N (Rattle.kl_phrase.specs.Readers.numbered N (Rattle.kl_phrase.specs.Readers.one Rattle.kl_parse.specs.Kinds.a_name))
      numbered_name = Rattle.kl_phrase.proofs.LastTokens.ends_numbered semi N N (ends_one semi N Rattle.kl_parse.specs.Kinds.a_name)

  ends_mark : (s : Sym) → Ends semi N (d.mark s)
  ends_mark s = ends_one semi N (a_symbol s)

  ends_program : Ends semi N (d.program N n)
  unfolding d.read_program
  ends_program = ends_made semi N program_of (ends_both semi N (ends_many semi N (is_key key.Define) (ends_made semi N decl_of (ends_behind semi N (ends_one semi N (a_key key.Define)) (ends_both semi N ends_name (ends_behind semi N (ends_mark sy.Equals) (ends_before semi N ends_body (ends_mark sy.Semi))))))) (ends_before semi N ends_reads (ends_mark sy.Semi)))

-- a program ends in such a token
last_semi : (k : ℕ) (a : Program) (ts : List Token) → ReadsProgram k 0 a ts → (x : List Token) × (t : Token) × (ts ≡ x ++ t ∷ []) × (semi t ≡ true)
last_semi k a ts (x, ex, (u, v, e, s, (y, z, ev, r, (t, ez, et)))) = (u ++ y, t, e ∙ ap (λ w. u ++ w) (ev ∙ ap (λ w. y ++ w) ez) ∙ sym (append_assoc u y (t ∷ [])), is_symbol_of sy.Semi t et)

open_end : (n k : ℕ) (a : Program) (ts : List Token) → d.program (length ts) n ts ≡ fail deep [] → ReadsProgram k 0 a ts → ⊥
open_end n k a ts e h =
    let one = last_semi k a ts h in
    let two = (ends_program (length ts) n).ends ts (omega arith) e in
    last_is semi 0 one.0 two.0 two.1 one.1 (sym one.2 ∙ two.2) one.3 two.3

-- ---- the whole

abbrev hole : List Token → ℕ → List Token → Bool
hole ts N r = may_miss (misses ts) N r

abbrev flat : ℕ → ℕ → Reader Token Program
flat N n = d.program_by N bad n

abbrev loose : List Token → ℕ → ℕ → Reader Token Program
loose ts N n = d.begins_program N ts n

placed : Placed ReadsProgram BeginsProgram up Free hole d.program flat loose
placed = record {
  has = has_program;
  has_front = has_front;
  ends = tt;
  good = program_up;
  front = program_front;
  loose = program_loose;
  more = more_program;
  same = same_program;
  plain_of = λ N n. plain_program deep N n;
  agree = λ ts N n h. agrees_program N ts h n;
  no_hole = no_hole;
  deepens = deep_program;
  open_end = open_end;
}

tells : (ts : List Token) → Tells ReadsProgram BeginsProgram 256 ts (told d.program 256 ts)
tells = fronts.tells ReadsProgram BeginsProgram up Free hole d.program flat loose placed 256

pub unique : (ts : List Token) (p q : Program) → IsProgram ts p → IsProgram ts q → p ≡ q
unique ts p q h i = fronts.unique ReadsProgram BeginsProgram up Free hole d.program flat loose placed 256 256 p q ts h i

pub one_place : (ts : List Token) → OnePlace ts
one_place = fronts.one_place ReadsProgram BeginsProgram up Free hole d.program flat loose placed 256

told_by : (ts : List Token) (t : Told Program) → Tells ReadsProgram BeginsProgram 256 ts t → IsToldOf ts
told_by ts (program p) h = inl (p, h)
told_by ts (syntax k) h = inr (inl (k, h))
told_by ts (too_deep k) h = inr (inr (k, h))

pub all_told : (ts : List Token) → IsToldOf ts
all_told ts = told_by ts (told d.program 256 ts) (tells ts)

-- ---- what a call says

pub says_program : (ts : List Token) (result : Result Program ParseError) → Says result (told d.program 256 ts) → IfOk result (IsProgram ts)
says_program ts (Ok p) h = subst (Tells ReadsProgram BeginsProgram 256 ts) h (tells ts)
says_program ts (Err e) h = tt

pub says_refused : (ts : List Token) (result : Result Program ParseError) → Says result (told d.program 256 ts) → RefusesProgram ts result
says_refused ts (Ok p) h = tt
says_refused ts (Err (Syntax k)) h = subst (Tells ReadsProgram BeginsProgram 256 ts) h (tells ts)
says_refused ts (Err (TooDeep k)) h = subst (Tells ReadsProgram BeginsProgram 256 ts) h (tells ts)
says_refused ts (Err NoMemory) h = tt

-- a program is told as such
only : (ts : List Token) (p : Program) → IsProgram ts p → told d.program 256 ts ≡ program p
only ts p h = fronts.only ReadsProgram BeginsProgram up Free hole d.program flat loose placed 256 p ts h

pub says_only : (ts : List Token) (result : Result Program ParseError) → Says result (told d.program 256 ts) → (p : Program) → IsProgram ts p → OrMemory NoMemory result p
says_only ts (Ok q) h p i = let e : program q ≡ program p = sym h ∙ only ts p i in cc
says_only ts (Err (Syntax k)) h p i = absurd (let e : Path (Told Program) (syntax k) (program p) = sym h ∙ only ts p i in cc)
says_only ts (Err (TooDeep k)) h p i = absurd (let e : Path (Told Program) (too_deep k) (program p) = sym h ∙ only ts p i in cc)
says_only ts (Err NoMemory) h p i = refl

-- ---- the first run

module _ (total : ℕ) (ts : List Token) (all : total ≡ length ts) where
  first : (o : Out Token Program) → d.program total 256 ts ≡ o → told d.program 256 ts ≡ first_told d.program ts (ended o)
  first o e = ap (λ (z : Out Token Program). first_told d.program ts (ended z)) (ap (λ (n : ℕ). d.program n 256 ts) (sym all) ∙ e)

  empty : (r : List Token) → length r ≡ 0 → r ≡ []
  empty [] z = refl
  empty (t ∷ r) z = absurd cc

  pub said_whole : (p : Program) (r : List Token) → d.program total 256 ts ≡ ok p r → length r ≡ 0 → told d.program 256 ts ≡ program p
  said_whole p r e z = first (ok p []) (e ∙ ap (ok p) (empty r z))

  pub said_rest : (p : Program) (r : List Token) → d.program total 256 ts ≡ ok p r → (length r ≡ 0 → ⊥) → told d.program 256 ts ≡ syntax (total - length r)
  said_rest p [] e z = absurd (z refl)
  said_rest p (t ∷ r) e z = first (ok p (t ∷ r)) e ∙ ap (λ (n : ℕ). syntax (n - length (t ∷ r))) (sym all)

  pub said_bad : (r : List Token) → d.program total 256 ts ≡ fail bad r → told d.program 256 ts ≡ syntax (total - length r)
  said_bad r e = first (fail bad r) e ∙ ap (λ (n : ℕ). syntax (n - length r)) (sym all)

  pub said_end : (k : ℕ) (r : List Token) → d.program total 256 ts ≡ fail deep r → k ≡ total - length r → (k + 1 < 0) ⊎ (length ts < k + 1) → told d.program 256 ts ≡ syntax (length ts)
  said_end k [] e ek far = first (fail deep []) e
  said_end k (t ∷ r) e ek far =
      let u : (u : List Token) × (ts ≡ u ++ t ∷ r) = subst (λ (o : Out Token Program). Rests ts o) e ((deep_program total 256).rests.leaves ts) in
      absurd (within far (let z = (fronts.sized ts u.0 (t ∷ r) u.1).0 in omega arith))
    where
      within : (k + 1 < 0) ⊎ (length ts < k + 1) → k + 1 ≤ length ts → ⊥
      within (inl lt) le = omega arith
      within (inr lt) le = omega arith

-- ---- the second run

pub said_again : (total : ℕ) (k : ℕ) (ts r front : List Token) (e : ParseError) → total ≡ length ts → d.program total 256 ts ≡ fail deep r → k ≡ total - length r → k + 1 ≤ length ts → front ≡ take (k + 1) ts → SaysAgain k front e → SaysError e (told d.program 256 ts)
said_again total k ts [] front e all p ek le ef h = absurd (omega arith)
said_again total k ts (t ∷ r) front e all p ek le ef h =
    let one : front ≡ take (suc k) ts = ef ∙ ap (λ (j : ℕ). take j ts) (let z : k + 1 ≡ suc k = omega arith in z) in
    let two : SaysError e (deep_told d.program k ts) = subst (λ (z : List Token). SaysAgain k z e) one h in
    let at : k ≡ length ts - suc (length r) = ek ∙ ap (λ (n : ℕ). n - suc (length r)) all in
    let three : SaysError e (first_told d.program ts (fail deep (t ∷ r))) = subst (λ (j : ℕ). SaysError e (deep_told d.program j ts)) at two in
    let q : d.program (length ts) 256 ts ≡ fail deep (t ∷ r) = ap (λ (n : ℕ). d.program n 256 ts) (sym all) ∙ p in
    subst (λ (o : Out Token Program). SaysError e (first_told d.program ts (ended o))) (sym q) three

-- a front that the code took
pub front_range : (ts front : List Token) (k : ℕ) → front ≡ slice_range ts 0 (k + 1) → front ≡ take (k + 1) ts
front_range ts front k e = e ∙ ap (λ (j : ℕ). take j ts) (let z : (k + 1) - 0 ≡ k + 1 = omega arith in z)

pub through_all : (k : ℕ) (rest : List Token) → length rest ≡ 0 → Through k rest (TooDeep k)
through_all k rest z (ok p []) e = refl
through_all k rest z (ok p (t ∷ r)) e = absurd (let l = ap length e in omega arith)
through_all k rest z (fail w []) e = refl
through_all k rest z (fail w (t ∷ r)) e = absurd (let l = ap length e in omega arith)

pub through_some : (k : ℕ) (rest : List Token) → (length rest ≡ 0 → ⊥) → Through k rest (Syntax k)
through_some k rest z (ok p []) e = absurd (z (ap length (sym e)))
through_some k rest z (ok p (t ∷ r)) e = refl
through_some k rest z (fail w []) e = absurd (z (ap length (sym e)))
through_some k rest z (fail w (t ∷ r)) e = refl

pub said_front : (total : ℕ) (k : ℕ) (front rest : List Token) (e : ParseError) (o : Out Token Program) → total ≡ length front → d.program total total front ≡ o → rest_of o ≡ rest → Through k rest e → SaysAgain k front e
said_front total k front rest e o all p r h = subst (λ (z : Out Token Program). SaysError e (again_told d.program k (ended z))) (sym p ∙ ap (λ (n : ℕ). d.program n n front) all) (h o r)
