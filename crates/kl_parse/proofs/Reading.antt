-- The descent reads the grammar, nested at most so deep.
use Rattle.std.proofs.Common.{◌≡◌, ℕ, zero, suc, ◌+◌, Bool, true, false, not, ◌&&◌, ◌||◌, IsTrue, List, [], ◌∷◌, ◌++◌, length, drop, Option, inl, inr, refl, sym, ap, ◌∙◌, append_assoc}
use Rattle.kl_lex.specs.declared.token.Sym.{Sym}
use Rattle.kl_lex.specs.declared.token.Sym.TheVariants as sy
use Rattle.kl_lex.specs.declared.token.Tok.{Tok}
use Rattle.kl_lex.specs.declared.token.Tok.TheVariants as tok
use Rattle.kl_lex.specs.declared.token.Token.{Token}
use Rattle.kl_lex.specs.declared.keyword.Keyword.TheVariants as key
use Rattle.kl_syntax.specs.declared.tree.Expr.{Expr}
use Rattle.kl_syntax.specs.declared.tree.Qual.TheVariants as qual
use Rattle.kl_syntax.specs.declared.tree.Pattern.{Pattern}
use Rattle.kl_syntax.specs.declared.tree.Branch.{Branch}
use Rattle.kl_parse.specs.Lexemes.{IsSymbol, Symbol, Key, Name}
use Rattle.kl_phrase.specs.Depth.{opens}
use Rattle.kl_phrase.specs.Fronts.{Missing}
use Rattle.kl_parse.specs.Grammar.{branch_of, function_of, constant_of, decl_of, program_of, Unsigned, PatField, PatVariant, ReadsPat, ABranch, Reads, Sort, whole, negated, signed, added, PatInside, Body, ADecl, AProgram, ReadsProgram, is_number, is_text, misses, left_out, Begins, BeginsProgram}
use Rattle.kl_parse.specs.Kinds.{among, is_symbol, is_key, one_symbol, one_key}
use Rattle.kl_parse.specs.Descent as d
use Rattle.kl_parse.proofs.KindLemmas.{symbol_of, on_symbol, on_key, has_symbol, has_name}
use Rattle.kl_parse.proofs.PatGoods.{Free, good_name, stop, closes, past, past_key, good_variant, fields_in, has_reads_pat, good_pat_same, good_pat_up}
use Rattle.kl_parse.proofs.ExprFirsts.{goes_whole, un_kinds, whole_kinds, on_un, on_whole}
use Rattle.kl_parse.proofs.Levels.{has_sort, has_unsigned, goes_of, good_sort}
use Rattle.kl_parse.proofs.Plains.{plain_pat_before, plain_reads, plain_begins, plain_condition, plain_constant}
use Rattle.kl_parse.proofs.Scan.{Leads, passes_reads_pat, nothing_there, leads_sort, to_leads, never_both, ends_qual, ends_body, draws, arrows}
use Rattle.kl_phrase.specs.Words.{heads, Phrase, Then, Behind, Before, Many, Made, Or, Never}
use Rattle.kl_phrase.specs.Readers.{Reader, bad, made, both, behind}
use Rattle.kl_phrase.proofs.Theory.{Good, On, Has, To, good_made, good_both, good_many, good_same, good_follow, on_behind, has_behind, no}
use Rattle.kl_phrase.proofs.Firsts.{Stops, Heads, on_made, on_opened, meets_on, has_made, has_then, has_before, has_many, has_left, has_right}
use Rattle.kl_phrase.proofs.Commit.{Apart, good_followed, followed_by, made_of, sound_ok}
use Rattle.kl_phrase.proofs.Deciding.{Flat, good_opened_by, good_decide}
use Rattle.kl_phrase.proofs.Plain.{Plains, flat_of}
use Rattle.kl_phrase.proofs.LeftOut.{good_one_way, good_missing}
use Rattle.kl_phrase.proofs.Spelled.{Each}

-- ---- branches

abbrev InBranch : Phrase Token Pattern → Phrase Token Expr → Phrase Token Branch
InBranch P E = Made branch_of (Then (PatVariant P) (Behind (Symbol sy.Arrow) E))

on_branch : (P : Phrase Token Pattern) (E : Phrase Token Expr) → On (is_symbol sy.Lt) (InBranch P E)
on_branch P E n x u v (y, e, (u1, u2, e1, (w1, w2, e2, s, r), q)) = rw (e1, e2, append_assoc, append_assoc) (on_symbol sy.Lt n tt w1 (w2 ++ (u2 ++ v)) s)

good_branch : (N : ℕ) (P PW : Phrase Token Pattern) (E W : Phrase Token Expr) (p : Reader Token Pattern) (e : Reader Token Expr) → Good N P PW Free p → Has PW → Good N E W (Stops (among goes_whole)) e → Has W → Good N (InBranch P E) (InBranch PW W) (Stops (among goes_whole)) (made branch_of (both (d.pat_variant N p) (behind (d.mark sy.Arrow) e)))
good_branch N P PW E W p e gp hp ge he = good_made (good_both {C = Free} (good_variant N P PW p gp hp) (past sy.Arrow ge he) (has_behind (Symbol sy.Arrow) W (has_symbol sy.Arrow) he) (λ n b y v r h. tt))

on_way : (n : ℕ) (E : Phrase Token Expr) → On (is_symbol sy.Lt) (ABranch (opens n) (PatInside n) E)
on_way n E = on_opened (is_symbol sy.Lt) (opens n) (InBranch (PatInside n) E) (on_branch (PatInside n) E)

-- a branch of one depth, whose whole texts nest as deep or deeper
good_way : (N n : ℕ) (can : Bool) (PW : Phrase Token Pattern) (E W : Phrase Token Expr) (e : Reader Token Expr) → (IsTrue (opens n) → IsTrue can) → (IsTrue (opens n) → Good N (PatInside n) PW Free (d.inside_by N bad n)) → (IsTrue (opens n) → Has PW) → Good N E W (Stops (among goes_whole)) e → Has W
    → Good N (ABranch (opens n) (PatInside n) E) (ABranch can PW W) (Stops (among goes_whole)) (d.branch N bad (opens n) (d.inside_by N bad n) e)
unfolding d.branch
good_way N n can PW E W e imp gp hp ge he = good_one_way (is_symbol sy.Lt) (good_opened_by (opens n) can imp (λ i. good_branch N (PatInside n) PW E W (d.inside_by N bad n) e (gp i) (hp i) ge he)) (on_way n E)

has_branch : (P : Phrase Token Pattern) (E : Phrase Token Expr) → Has P → Has E → Has (ABranch true P E)
has_branch P E hp he n =
    let b = has_made branch_of (Then (PatVariant P) (Behind (Symbol sy.Arrow) E)) (has_then (PatVariant P) (Behind (Symbol sy.Arrow) E) has_v (has_behind (Symbol sy.Arrow) E (has_symbol sy.Arrow) he)) n in (b.0, b.1, (refl, b.2))
  where
    has_v : Has (PatVariant P)
    has_v = has_behind (Symbol sy.Lt) (Before (PatField P) (Symbol sy.Gt)) (has_symbol sy.Lt) (has_before (PatField P) (Symbol sy.Gt) (fields_in P hp) (has_symbol sy.Gt))

inside_same : (N n : ℕ) → IsTrue (opens n) → Good N (PatInside n) (PatInside n) Free (d.inside_by N bad n)
inside_same N zero i = no i
inside_same N (suc n) i = good_pat_same N n

has_inside : (n : ℕ) → IsTrue (opens n) → Has (PatInside n)
has_inside zero i = no i
has_inside (suc n) i = has_reads_pat n

inside_up : (N n : ℕ) → IsTrue (opens n) → Good N (PatInside n) (ReadsPat (suc n)) Free (d.inside_by N bad n)
inside_up N zero i = no i
inside_up N (suc n) i = good_pat_up N n

-- ---- branches that are left out

-- no branch begins with what stands for one
no_branch : (ts : List Token) (k : ℕ) (t : Token) → is_symbol sy.Lt t ≡ true → misses ts k t ≡ false
no_branch ts k t h =
    let e = symbol_of sy.Lt t h in
    ap (λ w. (Rattle.kl_parse.specs.Grammar.number_at w && not (heads is_number (drop k ts))) || (Rattle.kl_parse.specs.Grammar.text_at w && not (heads is_text (drop k ts)))) e

abbrev a_number : Token
a_number = record { what = tok.Int (Rattle.std.proofs.Common.pos 0); from = 0; to = 0 }

abbrev a_text : Token
a_text = record { what = tok.Text []; from = 0; to = 0 }

some_missing : (l : List Token) → (t : Token) × (((is_number t && not (heads is_number l)) || (is_text t && not (heads is_text l))) ≡ true)
some_missing [] = (a_number, refl)
some_missing (x ∷ l) = by x.what refl
  where
    at_number : (w : Tok) → Rattle.kl_parse.specs.Grammar.number_at w ≡ false → x.what ≡ w → (t : Token) × (((is_number t && not (is_number x)) || (is_text t && not (is_text x))) ≡ true)
    at_number w h e = (a_number, ap (λ b. not b || (false && not (is_text x))) (ap Rattle.kl_parse.specs.Grammar.number_at e ∙ h))

    by : (w : Tok) → x.what ≡ w → (t : Token) × (((is_number t && not (is_number x)) || (is_text t && not (is_text x))) ≡ true)
    by (tok.Int n) e = (a_text, ap (λ z. (false && not (Rattle.kl_parse.specs.Grammar.number_at z)) || not (Rattle.kl_parse.specs.Grammar.text_at z)) e)
    by (tok.Text z) e = at_number (tok.Text z) refl e
    by (tok.Word z) e = at_number (tok.Word z) refl e
    by (tok.Sym z) e = at_number (tok.Sym z) refl e
    by tok.Big e = at_number tok.Big refl e

has_missing : (ts : List Token) → Has (Missing (misses ts) left_out)
has_missing ts n = let g = some_missing (drop n ts) in (left_out, g.0 ∷ [], (g.0, refl, refl, g.1))

-- ---- nested at most so deep

abbrev BranchOr : List Token → ℕ → Phrase Token Branch
BranchOr ts n = Or (Missing (misses ts) left_out) (ABranch (opens n) (PatInside n) (Begins ts n whole))

on_never : {A : Type 0} (kinds : List ℕ) → On (among kinds) (Never {A = A})
on_never kinds n a u v s = absurd s

pub has_reads : (n : ℕ) (s : Sort) → Has (Reads n s)
has_reads zero s = has_sort s false Never Never Never Never Never Never
has_reads (suc n) s = has_sort s true (ReadsPat n) (Reads n whole) (Reads n negated) (Reads n signed) (Reads n added) (ABranch (opens n) (PatInside n) (Reads n whole))

unsigned_reads : (n : ℕ) → Has (Unsigned (Reads n signed))
unsigned_reads zero = has_unsigned false Never Never Never Never Never Never
unsigned_reads (suc n) = has_unsigned true (ReadsPat n) (Reads n whole) (Reads n negated) (Reads n signed) (Reads n added) (ABranch (opens n) (PatInside n) (Reads n whole))

on_reads : (n : ℕ) → On (among whole_kinds) (Reads n whole)
on_reads zero = on_whole false Never Never Never Never Never Never
on_reads (suc n) = on_whole true (ReadsPat n) (Reads n whole) (Reads n negated) (Reads n signed) (Reads n added) (ABranch (opens n) (PatInside n) (Reads n whole))

signed_reads : (n : ℕ) → On (among un_kinds) (Reads n signed)
signed_reads zero = on_un false Never Never Never Never Never Never
signed_reads (suc n) = on_un true (ReadsPat n) (Reads n whole) (Reads n negated) (Reads n signed) (Reads n added) (ABranch (opens n) (PatInside n) (Reads n whole))

pub leads_reads : (n : ℕ) (s : Sort) → Each Leads (Reads n s)
leads_reads zero s = leads_sort false Never Never Never Never Never Never (nothing_there Leads) (nothing_there Leads) (nothing_there Leads) (nothing_there Leads) (nothing_there Leads) (on_never whole_kinds) s
leads_reads (suc n) s = leads_sort true (ReadsPat n) (Reads n whole) (Reads n negated) (Reads n signed) (Reads n added) (ABranch (opens n) (PatInside n) (Reads n whole)) (to_leads (ReadsPat n) (passes_reads_pat n)) (leads_reads n whole) (leads_reads n negated) (leads_reads n signed) (leads_reads n added) (on_reads n) s

pub has_begins : (ts : List Token) (n : ℕ) (s : Sort) → Has (Begins ts n s)
has_begins ts zero s = has_sort s false Never Never Never Never Never Never
has_begins ts (suc n) s = has_sort s true (ReadsPat n) (Begins ts n whole) (Begins ts n negated) (Begins ts n signed) (Begins ts n added) (BranchOr ts n)

unsigned_begins : (ts : List Token) (n : ℕ) → Has (Unsigned (Begins ts n signed))
unsigned_begins ts zero = has_unsigned false Never Never Never Never Never Never
unsigned_begins ts (suc n) = has_unsigned true (ReadsPat n) (Begins ts n whole) (Begins ts n negated) (Begins ts n signed) (Begins ts n added) (BranchOr ts n)

on_begins : (ts : List Token) (n : ℕ) → On (among whole_kinds) (Begins ts n whole)
on_begins ts zero = on_whole false Never Never Never Never Never Never
on_begins ts (suc n) = on_whole true (ReadsPat n) (Begins ts n whole) (Begins ts n negated) (Begins ts n signed) (Begins ts n added) (BranchOr ts n)

signed_begins : (ts : List Token) (n : ℕ) → On (among un_kinds) (Begins ts n signed)
signed_begins ts zero = on_un false Never Never Never Never Never Never
signed_begins ts (suc n) = on_un true (ReadsPat n) (Begins ts n whole) (Begins ts n negated) (Begins ts n signed) (Begins ts n added) (BranchOr ts n)

leads_begins : (ts : List Token) (n : ℕ) (s : Sort) → Each Leads (Begins ts n s)
leads_begins ts zero s = leads_sort false Never Never Never Never Never Never (nothing_there Leads) (nothing_there Leads) (nothing_there Leads) (nothing_there Leads) (nothing_there Leads) (on_never whole_kinds) s
leads_begins ts (suc n) s = leads_sort true (ReadsPat n) (Begins ts n whole) (Begins ts n negated) (Begins ts n signed) (Begins ts n added) (BranchOr ts n) (to_leads (ReadsPat n) (passes_reads_pat n)) (leads_begins ts n whole) (leads_begins ts n negated) (leads_begins ts n signed) (leads_begins ts n added) (on_begins ts n) s

has_or : (ts : List Token) (n : ℕ) → Has (BranchOr ts n)
has_or ts n = has_left (Missing (misses ts) left_out) (ABranch (opens n) (PatInside n) (Begins ts n whole)) (has_missing ts)

-- ---- a generator's front is no condition's, a function's none of another body

-- a pattern before a sign
signed_pat : (n m : ℕ) (a : Pattern) (u : List Token) (s : Sym) → Before (ReadsPat n) (Symbol s) m a u → (y : List Token) × (t : Token) × (u ≡ y ++ t ∷ []) × ReadsPat n m a y × IsSymbol s t tt
signed_pat n m a u s (y, v, e, h, (t, et, ht)) = (y, t, e ∙ ap (λ z. y ++ z) et, h, ht)

module _ (N n : ℕ) (E W : Phrase Token Expr) (e : Reader Token Expr) (leads : Each Leads E) (good : Good N E W (Stops (among goes_whole)) e) where
  pub apart_qual : Apart N (d.drawn (d.pat_by N bad n)) (made qual.Cond (d.condition e))
  apart_qual m ts a c r s le eq h =
      let q = made_of qual.Cond (d.condition e ts) c s h in
      let x = sound_ok (good_followed (among d.after_qual) good (stop d.after_qual goes_whole refl)) m ts s q.0 le q.1 in
      let p = sound_ok {C = Free} (closes sy.Draw (good_pat_same N n) (λ v h. tt)) m ts r a le eq in
      let f = signed_pat n m a p.0 sy.Draw p.2 in
      never_both (ReadsPat n) E (passes_reads_pat n) leads m m a q.0 ts f.0 r x.0 s f.1 (draws f.1 f.4) f.3 (p.1 ∙ ap (λ z. z ++ r) f.2) x.2 x.1 (ends_qual s (followed_by (among d.after_qual) e ts s q.0 q.1))

  pub apart_body : Apart N (d.parameter (d.pat_by N bad n)) (made constant_of (d.plain_body e))
  apart_body m ts a c r s le eq h =
      let q = made_of constant_of (d.plain_body e ts) c s h in
      let x = sound_ok (good_followed (is_symbol sy.Semi) good (stop (one_symbol sy.Semi) goes_whole refl)) m ts s q.0 le q.1 in
      let p = sound_ok {C = Free} (closes sy.Arrow (good_pat_same N n) (λ v h. tt)) m ts r a le eq in
      let f = signed_pat n m a p.0 sy.Arrow p.2 in
      never_both (ReadsPat n) E (passes_reads_pat n) leads m m a q.0 ts f.0 r x.0 s f.1 (arrows f.1 f.4) f.3 (p.1 ∙ ap (λ z. z ++ r) f.2) x.2 x.1 (ends_body s (followed_by (is_symbol sy.Semi) e ts s q.0 q.1))

-- ---- what begins a text

abbrev pub up : ℕ → ℕ
up n = suc (suc n)

flat_pat : (N n : ℕ) (s : Sym) (ts : List Token) → Flat (d.pat_before (d.pat_by N bad n) s ts)
flat_pat N n s = flat_of (plain_pat_before bad N n s)

wide : {A : Type 0} {N : ℕ} {S W V : Phrase Token A} {C : List Token → Type 0} {p : Reader Token A} → To W V → Good N S W C p → Good N S V C p
wide to g = good_same (λ n a u s. s) (λ n a u s. s) to g

pub front_sort : (N : ℕ) (ts : List Token) (n : ℕ) (s : Sort) → Good N (Reads n s) (Begins ts n s) (Stops (among (goes_of s))) (d.reads_by N bad n s)
unfolding d.reads_by d.begins_by
front_sort N ts zero s = good_sort N false false (λ i. i) Never Never Never Never Never Never Never Never Never Never Never Never (d.never bad) (d.never bad) (d.never bad) (d.never bad) (d.never bad) (d.never bad) no no no no no no no no no no no no (on_never whole_kinds) (on_never un_kinds) no no no s
front_sort N ts (suc n) s = good_sort N true true (λ i. i) (ReadsPat n) (ReadsPat n) (Reads n whole) (Reads n negated) (Reads n signed) (Reads n added) (Begins ts n whole) (Begins ts n negated) (Begins ts n signed) (Begins ts n added) (ABranch (opens n) (PatInside n) (Reads n whole)) (BranchOr ts n) (d.pat_by N bad n) (d.reads_by N bad n whole) (d.reads_by N bad n negated) (d.reads_by N bad n signed) (d.reads_by N bad n added) (d.branch N bad (opens n) (d.inside_by N bad n) (d.reads_by N bad n whole))
    (λ i. good_pat_same N n) (λ i. front_sort N ts n whole) (λ i. front_sort N ts n negated) (λ i. front_sort N ts n signed) (λ i. front_sort N ts n added) (λ i. wide (λ m a u z. inr z) (good_way N n (opens n) (PatInside n) (Reads n whole) (Begins ts n whole) (d.reads_by N bad n whole) (λ i. i) (inside_same N n) (has_inside n) (front_sort N ts n whole) (has_begins ts n whole)))
    (λ i. has_reads_pat n) (λ i. has_begins ts n whole) (λ i. has_begins ts n negated) (λ i. has_begins ts n added) (λ i. unsigned_begins ts n) (λ i. has_or ts n) (on_reads n) (signed_reads n)
    (λ i. flat_pat N n sy.Draw) (λ i. flat_of (plain_condition bad N (d.reads_by N bad n whole) (d.reads_by N bad n whole) (plain_reads bad N n whole))) (λ i. apart_qual N n (Reads n whole) (Begins ts n whole) (d.reads_by N bad n whole) (leads_reads n whole) (front_sort N ts n whole)) s

pub loose_sort : (N : ℕ) (ts : List Token) (n : ℕ) (s : Sort) → Good N (Begins ts n s) (Begins ts n s) (Stops (among (goes_of s))) (d.begins_by N ts n s)
unfolding d.reads_by d.begins_by
loose_sort N ts zero s = good_sort N false false (λ i. i) Never Never Never Never Never Never Never Never Never Never Never Never (d.never bad) (d.never bad) (d.never bad) (d.never bad) (d.never bad) (d.never bad) no no no no no no no no no no no no (on_never whole_kinds) (on_never un_kinds) no no no s
loose_sort N ts (suc n) s = good_sort N true true (λ i. i) (ReadsPat n) (ReadsPat n) (Begins ts n whole) (Begins ts n negated) (Begins ts n signed) (Begins ts n added) (Begins ts n whole) (Begins ts n negated) (Begins ts n signed) (Begins ts n added) (BranchOr ts n) (BranchOr ts n) (d.pat_by N bad n) (d.begins_by N ts n whole) (d.begins_by N ts n negated) (d.begins_by N ts n signed) (d.begins_by N ts n added) (d.branch_or N ts (d.branch N bad (opens n) (d.inside_by N bad n) (d.begins_by N ts n whole)))
    (λ i. good_pat_same N n) (λ i. loose_sort N ts n whole) (λ i. loose_sort N ts n negated) (λ i. loose_sort N ts n signed) (λ i. loose_sort N ts n added) (λ i. good_missing (misses ts) left_out (is_symbol sy.Lt) (no_branch ts) (good_way N n (opens n) (PatInside n) (Begins ts n whole) (Begins ts n whole) (d.begins_by N ts n whole) (λ i. i) (inside_same N n) (has_inside n) (loose_sort N ts n whole) (has_begins ts n whole)) (on_way n (Begins ts n whole)))
    (λ i. has_reads_pat n) (λ i. has_begins ts n whole) (λ i. has_begins ts n negated) (λ i. has_begins ts n added) (λ i. unsigned_begins ts n) (λ i. has_or ts n) (on_begins ts n) (signed_begins ts n)
    (λ i. flat_pat N n sy.Draw) (λ i. flat_of (plain_condition bad N (d.begins_by N ts n whole) (d.begins_by N ts n whole) (plain_begins N ts n whole))) (λ i. apart_qual N n (Begins ts n whole) (Begins ts n whole) (d.begins_by N ts n whole) (leads_begins ts n whole) (loose_sort N ts n whole)) s

-- and a whole one two deeper

pub up_sort : (N : ℕ) (n : ℕ) (s : Sort) → Good N (Reads n s) (Reads (up n) s) (Stops (among (goes_of s))) (d.reads_by N bad n s)
unfolding d.reads_by d.begins_by
up_sort N zero s = good_sort N false true (λ i. refl) Never (ReadsPat 1) Never Never Never Never (Reads 1 whole) (Reads 1 negated) (Reads 1 signed) (Reads 1 added) Never (ABranch true (ReadsPat 0) (Reads 1 whole)) (d.never bad) (d.never bad) (d.never bad) (d.never bad) (d.never bad) (d.never bad) no no no no no no no no no no no no (on_never whole_kinds) (on_never un_kinds) no no no s
up_sort N (suc n) s = good_sort N true true (λ i. i) (ReadsPat n) (ReadsPat (up n)) (Reads n whole) (Reads n negated) (Reads n signed) (Reads n added) (Reads (up n) whole) (Reads (up n) negated) (Reads (up n) signed) (Reads (up n) added) (ABranch (opens n) (PatInside n) (Reads n whole)) (ABranch true (ReadsPat (suc n)) (Reads (up n) whole)) (d.pat_by N bad n) (d.reads_by N bad n whole) (d.reads_by N bad n negated) (d.reads_by N bad n signed) (d.reads_by N bad n added) (d.branch N bad (opens n) (d.inside_by N bad n) (d.reads_by N bad n whole))
    (λ i. good_pat_up N n) (λ i. up_sort N n whole) (λ i. up_sort N n negated) (λ i. up_sort N n signed) (λ i. up_sort N n added) (λ i. good_way N n true (ReadsPat (suc n)) (Reads n whole) (Reads (up n) whole) (d.reads_by N bad n whole) (λ i. refl) (inside_up N n) (λ i. has_reads_pat (suc n)) (up_sort N n whole) (has_reads (up n) whole))
    (λ i. has_reads_pat (up n)) (λ i. has_reads (up n) whole) (λ i. has_reads (up n) negated) (λ i. has_reads (up n) added) (λ i. unsigned_reads (up n)) (λ i. has_branch (ReadsPat (suc n)) (Reads (up n) whole) (has_reads_pat (suc n)) (has_reads (up n) whole)) (on_reads n) (signed_reads n)
    (λ i. flat_pat N n sy.Draw) (λ i. flat_of (plain_condition bad N (d.reads_by N bad n whole) (d.reads_by N bad n whole) (plain_reads bad N n whole))) (λ i. apart_qual N n (Reads n whole) (Reads (up n) whole) (d.reads_by N bad n whole) (leads_reads n whole) (up_sort N n whole)) s

-- ---- programs

has_body : (P : Phrase Token Pattern) (E : Phrase Token Expr) → Has E → Has (Body P E)
has_body P E he = has_right (Made function_of (Then (Before P (Symbol sy.Arrow)) E)) (Made constant_of E) (has_made constant_of E he)

abbrev Rest : Phrase Token Pattern → Phrase Token Expr → Phrase Token (Option Pattern × Expr)
Rest P E = Before (Body P E) (Symbol sy.Semi)

has_rest : (P : Phrase Token Pattern) (E : Phrase Token Expr) → Has E → Has (Behind (Symbol sy.Equals) (Rest P E))
has_rest P E he = has_behind (Symbol sy.Equals) (Rest P E) (has_symbol sy.Equals) (has_before (Body P E) (Symbol sy.Semi) (has_body P E he) (has_symbol sy.Semi))

has_end : (E : Phrase Token Expr) → Has E → Has (Before E (Symbol sy.Semi))
has_end E he = has_before E (Symbol sy.Semi) he (has_symbol sy.Semi)

-- no expression begins with `define`
no_define : (w : List Token) → Heads (among whole_kinds) w → Stops (is_key key.Define) w
no_define = stop whole_kinds (one_key key.Define) refl

module _ (N n : ℕ) (PW : Phrase Token Pattern) (gp : Good N (ReadsPat n) PW Free (d.pat_by N bad n)) (E W : Phrase Token Expr) (e : Reader Token Expr) (ge : Good N E W (Stops (among goes_whole)) e) (has_e : Has W) (on_e : On (among whole_kinds) E) (leads : Each Leads E) (pl : Plains e e) where
  pub good_body : Good N (Body (ReadsPat n) E) (Body PW W) (Heads (is_symbol sy.Semi)) (d.body (d.pat_by N bad n) e)
  unfolding d.body
  good_body =
      good_decide function_of e (flat_pat N n sy.Arrow) (flat_of (plain_constant bad N e e pl)) (good_made (good_both {C = Free} (closes sy.Arrow gp (λ v h. tt)) (good_follow (Heads (is_symbol sy.Semi)) (stop (one_symbol sy.Semi) goes_whole refl) ge) has_e (λ k b y v r h. tt)))
      (good_made (good_followed (is_symbol sy.Semi) ge (stop (one_symbol sy.Semi) goes_whole refl))) (apart_body N n E W e leads ge)

  good_decl : Good N (ADecl (ReadsPat n) E) (ADecl PW W) Free (d.decl N (d.pat_by N bad n) e)
  good_decl = good_made (past_key key.Define (good_both {C = Free} good_name (past sy.Equals (closes sy.Semi good_body (λ v h. h)) (has_before (Body PW W) (Symbol sy.Semi) (has_body PW W has_e) (has_symbol sy.Semi))) (has_rest PW W has_e) (λ k b y v r h. tt)) (has_then Name (Behind (Symbol sy.Equals) (Rest PW W)) has_name (has_rest PW W has_e)))

  on_decl : On (is_key key.Define) (ADecl (ReadsPat n) E)
  on_decl = on_made (is_key key.Define) decl_of (Behind (Key key.Define) (Then Name (Behind (Symbol sy.Equals) (Rest (ReadsPat n) E)))) (on_behind (is_key key.Define) (Key key.Define) (Then Name (Behind (Symbol sy.Equals) (Rest (ReadsPat n) E))) (on_key key.Define))

  on_end : On (among whole_kinds) (Before E (Symbol sy.Semi))
  on_end k x u v (y, z, eq, s, r) = rw (eq, append_assoc) (on_e k x y (z ++ v) s)

  pub good_program : Good N (AProgram (ReadsPat n) E) (AProgram PW W) Free (d.read_program N (d.pat_by N bad n) e)
  unfolding d.read_program
  good_program = good_made (good_both {C = Stops (is_key key.Define)} (good_many {C = Free} good_decl on_decl (λ w h. tt) (λ v h. (tt, h))) (closes sy.Semi ge (stop (one_symbol sy.Semi) goes_whole refl)) (has_end W has_e) (meets_on Free no_define on_end))

has_a_program : (P : Phrase Token Pattern) (E : Phrase Token Expr) → Has E → Has (AProgram P E)
has_a_program P E he = has_made program_of (Then (Many (ADecl P E)) (Before E (Symbol sy.Semi))) (has_then (Many (ADecl P E)) (Before E (Symbol sy.Semi)) (has_many (ADecl P E)) (has_end E he))

pub has_program : (n : ℕ) → Has (ReadsProgram n)
has_program n = has_a_program (ReadsPat n) (Reads n whole) (has_reads n whole)

pub has_front : (ts : List Token) (n : ℕ) → Has (BeginsProgram ts n)
has_front ts n = has_a_program (ReadsPat n) (Begins ts n whole) (has_begins ts n whole)

pub program_up : (N n : ℕ) → Good N (ReadsProgram n) (ReadsProgram (up n)) Free (d.program_by N bad n)
program_up N n = good_program N n (ReadsPat (up n)) (good_pat_up N n) (Reads n whole) (Reads (up n) whole) (d.reads_by N bad n whole) (up_sort N n whole) (has_reads (up n) whole) (on_reads n) (leads_reads n whole) (plain_reads bad N n whole)

pub body_up : (N n : ℕ) → Good N (Body (ReadsPat n) (Reads n whole)) (Body (ReadsPat (up n)) (Reads (up n) whole)) (Heads (is_symbol sy.Semi)) (d.body (d.pat_by N bad n) (d.reads_by N bad n whole))
body_up N n = good_body N n (ReadsPat (up n)) (good_pat_up N n) (Reads n whole) (Reads (up n) whole) (d.reads_by N bad n whole) (up_sort N n whole) (has_reads (up n) whole) (on_reads n) (leads_reads n whole) (plain_reads bad N n whole)

pub program_front : (ts : List Token) (N n : ℕ) → Good N (ReadsProgram n) (BeginsProgram ts n) Free (d.program_by N bad n)
program_front ts N n = good_program N n (ReadsPat n) (good_pat_same N n) (Reads n whole) (Begins ts n whole) (d.reads_by N bad n whole) (front_sort N ts n whole) (has_begins ts n whole) (on_reads n) (leads_reads n whole) (plain_reads bad N n whole)

pub program_loose : (ts : List Token) (N n : ℕ) → Good N (BeginsProgram ts n) (BeginsProgram ts n) Free (d.begins_program N ts n)
program_loose ts N n = good_program N n (ReadsPat n) (good_pat_same N n) (Begins ts n whole) (Begins ts n whole) (d.begins_by N ts n whole) (loose_sort N ts n whole) (has_begins ts n whole) (on_begins ts n) (leads_begins ts n whole) (plain_begins N ts n whole)
