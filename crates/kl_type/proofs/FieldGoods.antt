-- Fields, no two with one label, are read as their phrase says.
use Rattle.std.proofs.Common.{◌≡◌, ℕ, zero, suc, ◌+◌, ◌<◌, List, [], ◌++◌, length, inl, inr, if◌then◌else◌, refl, sym, ap, subst, ◌∙◌, append_assoc, length-append, arith}
use Rattle.kl_lex.specs.declared.token.Sym.TheVariants as sy
use Rattle.kl_lex.specs.declared.token.Placed.{Placed}
use Rattle.kl_phrase.specs.Words.{heads, Phrase, One, Nothing, Behind, Or, Never}
use Rattle.kl_phrase.specs.Readers.{Why, bad, Out, ok, fail, Reader, after, behind}
use Rattle.kl_phrase.proofs.Theory.{Good, On, Has, To, Chain, good_one, good_nothing, good_both, good_behind, good_chain, good_pick, good_same, same_sound, on_behind, has_behind}
use Rattle.kl_phrase.proofs.Firsts.{Stops, on_then, off_nothing, has_then}
use Rattle.kl_phrase.proofs.Kept.{Keeps, Kept, Takes, keeps_one, takes_one, keeps_nothing, keeps_both, keeps_behind, keeps_chain, keeps_pick, takes_behind}
use Rattle.kl_phrase.proofs.Commit.{keeps_failing}
use Rattle.kl_type.specs.declared.ground.Ty.{Ty}
use Rattle.kl_type.specs.Grammar.{Symbol, IsLabel, put, Field, MoreFields, no_more, one_more, Fields}
use Rattle.kl_type.specs.Descent as d
use Rattle.kl_type.specs.Descent.{is_symbol, is_word, a_symbol, a_label}
use Rattle.kl_type.proofs.TokenLemmas.{decides_label, on_label, has_label, good_symbol, on_symbol, has_symbol}

abbrev pub Free : List Placed → Type 0
Free v = Unit {0}

abbrev pub FieldList : Type 0
FieldList = List (List ℕ × Ty)

-- the same fields, at most so many
abbrev Upto : Phrase Placed Ty → ℕ → FieldList → Phrase Placed FieldList
Upto E zero fields = Never
Upto E (suc k) fields = Or (Chain (Behind (Symbol sy.Comma) (Field E fields)) (λ f. Upto E k (put fields f))) (Nothing fields)

abbrev Next : Phrase Placed Ty → FieldList → Phrase Placed FieldList
Next E fields = Or (Chain (Behind (Symbol sy.Comma) (Field E fields)) (λ f. MoreFields E (put fields f))) (Nothing fields)

next_more : (E : Phrase Placed Ty) (fields : FieldList) → To (Next E fields) (MoreFields E fields)
next_more E fields n all ts (inl (f, u, v, e, s, r)) = subst (λ (z : List Placed). MoreFields E fields n all z) (sym e) (one_more f s r)
next_more E fields n all ts (inr (ea, z)) = subst (λ (y : FieldList). MoreFields E fields n y ts) (sym ea) (subst (λ (y : List Placed). MoreFields E fields n fields y) (sym z) no_more)

upto_more : (E : Phrase Placed Ty) (k : ℕ) (fields : FieldList) → To (Upto E k fields) (MoreFields E fields)
upto_more E zero fields n all ts h = absurd h
upto_more E (suc k) fields n all ts (inl (f, u, v, e, s, r)) = next_more E fields n all ts (inl (f, u, v, e, s, upto_more E k (put fields f) (n + length u) all v r))
upto_more E (suc k) fields n all ts (inr h) = next_more E fields n all ts (inr h)

some : (E : Phrase Placed Ty) (fields : FieldList) (n : ℕ) (f : List ℕ × Ty) (u : List Placed) → Behind (Symbol sy.Comma) (Field E fields) n f u → 0 < length u
some E fields n f u (x, y, e, (t, ex, h), r) = let k : length u ≡ length x + length y = ap length e ∙ length-append x y in let l : length x ≡ 1 = ap length ex in omega arith

more_upto : (E : Phrase Placed Ty) {fields all : FieldList} {n : ℕ} {ts : List Placed} → MoreFields E fields n all ts → (k : ℕ) → length ts < k → Upto E k fields n all ts
more_upto E h zero lt = absurd (omega arith)
more_upto E no_more (suc k) lt = inr (refl, refl)
more_upto E {fields} {all} {n} (one_more {u = u} {v = v} f s r) (suc k) lt =
    let long : length (u ++ v) ≡ length u + length v = length-append u v in
    let least = some E fields n f u s in
    inl (f, u, v, refl, s, more_upto E {fields = put fields f} {all = all} {n = n + length u} {ts = v} r k (omega arith))

pub has_more : (E : Phrase Placed Ty) (fields : FieldList) → Has (MoreFields E fields)
has_more E fields n = (fields, [], no_more)

on_next : (E : Phrase Placed Ty) (fields : FieldList) (K : List ℕ × Ty → Phrase Placed FieldList) → On (is_symbol sy.Comma) (Chain (Behind (Symbol sy.Comma) (Field E fields)) K)
on_next E fields K n x u v (a, y, z, e, s, r) = rw (e, append_assoc) (on_behind (is_symbol sy.Comma) (Symbol sy.Comma) (Field E fields) (on_symbol sy.Comma) n a y (z ++ v) s)

pub on_fields : (E : Phrase Placed Ty) → On is_word (Fields E)
on_fields E n x u v (f, y, z, e, s, r) = rw (e, append_assoc) (on_then is_word (One (IsLabel [])) (Behind (Symbol sy.Colon) E) (on_label []) n f y (z ++ v) s)

good_never : {N : ℕ} {A : Type 0} (W : Phrase Placed A) (C : List Placed → Type 0) → Good N Never W C (λ ts. fail bad ts)
good_never W C = record { sound = λ n ts le. ([], [], ts, refl, refl, refl, inl refl); again = λ n a u v le s h. absurd s; wider = λ n a u s. absurd s }

module _ (W : Phrase Placed Ty) (has_in : Has W) where
  has_field : (fields : FieldList) → Has (Field W fields)
  has_field fields = has_then (One (IsLabel fields)) (Behind (Symbol sy.Colon) W) (has_label fields) (has_behind (Symbol sy.Colon) W (has_symbol sy.Colon) has_in)

  pub has_fields : Has (Fields W)
  has_fields n = let g = has_field [] n in (put [] g.0, g.1 ++ [], (g.0, g.1, [], refl, g.2, no_more))

module _ (N : ℕ) (E W : Phrase Placed Ty) (e : Reader Placed Ty) (good : Good N E W Free e) (has_in : Has W) where
  good_field : (fields : FieldList) → Good N (Field E fields) (Field W fields) Free (d.field e fields)
  good_field fields = good_both {C = Free} (good_one (decides_label fields)) (good_behind (good_symbol sy.Colon Free) good has_in (λ n b y v r h. tt)) (has_behind (Symbol sy.Colon) W (has_symbol sy.Colon) has_in) (λ n b y v r h. tt)

  good_comma : (fields : FieldList) → Good N (Behind (Symbol sy.Comma) (Field E fields)) (Behind (Symbol sy.Comma) (Field W fields)) Free (behind (d.mark sy.Comma) (d.field e fields))
  good_comma fields = good_behind (good_symbol sy.Comma Free) (good_field fields) (has_field W has_in fields) (λ n b y v r h. tt)

  good_upto : (k : ℕ) (fields : FieldList) → Good N (Upto E k fields) (MoreFields W fields) (Stops (is_symbol sy.Comma)) (d.more e k fields)
  good_upto zero fields = good_never (MoreFields W fields) (Stops (is_symbol sy.Comma))
  good_upto (suc k) fields =
      good_same {S = Upto E (suc k) fields} {W = Next W fields} {R = Upto E (suc k) fields} {V = MoreFields W fields} {p = d.more e (suc k) fields} (λ n a u s. s) (λ n a u s. s) (next_more W fields)
      (good_pick (good_chain {K = λ f. Upto E k (put fields f)} {V = λ f. MoreFields W (put fields f)} {k = λ f. d.more e k (put fields f)} (good_comma fields) (λ f. good_upto k (put fields f)) (λ f. has_more W (put fields f)) (λ f n b y v r h. tt)) good_nothing (on_next E fields (λ f. Upto E k (put fields f))) (off_nothing (is_symbol sy.Comma) fields (Stops (is_symbol sy.Comma)) (λ v h. h)))

  wide : {fields all : FieldList} {n : ℕ} {ts : List Placed} → MoreFields E fields n all ts → MoreFields W fields n all ts
  wide no_more = no_more
  wide {fields} {all} {n} (one_more {u = u} f s r) = one_more f ((good_comma fields).wider n f u s) (wide r)

  good_more : (fields : FieldList) → Good N (MoreFields E fields) (MoreFields W fields) (Stops (is_symbol sy.Comma)) (d.others e fields)
  good_more fields = record {
    sound = λ n ts le. same_sound (Upto E (suc (length ts)) fields) (MoreFields W fields) (MoreFields E fields) (MoreFields W fields) n ts (d.more e (suc (length ts)) fields ts) (upto_more E (suc (length ts)) fields) (λ m a u s. s) ((good_upto (suc (length ts)) fields).sound n ts le);
    again = λ n a u v le s h. (good_upto (suc (length (u ++ v))) fields).again n a u v le (more_upto E s (suc (length (u ++ v))) (let k : length (u ++ v) ≡ length u + length v = length-append u v in omega arith)) h;
    wider = λ n a u s. wide s;
  }

  pub good_fields : Good N (Fields E) (Fields W) (Stops (is_symbol sy.Comma)) (d.fields e)
  good_fields = good_chain {S = Field E []} {W = Field W []} {K = λ f. MoreFields E (put [] f)} {V = λ f. MoreFields W (put [] f)} {k = λ f. d.others e (put [] f)} (good_field []) (λ f. good_more (put [] f)) (λ f. has_more W (put [] f)) (λ f n b y v r h. tt)

-- ---- what they answer rests on no token behind the first of the rest

module _ (Q : Why → List Placed → Type 0) (N M : ℕ) (e e' : Reader Placed Ty) (ke : Keeps Q N M e e') where
  pub keeps_field : (fields : FieldList) → Keeps Q N M (d.field e fields) (d.field e' fields)
  keeps_field fields = keeps_both (keeps_one (a_label fields)) (keeps_behind (keeps_one (a_symbol sy.Colon)) ke)

  keeps_comma : (fields : FieldList) → Keeps Q N M (behind (d.mark sy.Comma) (d.field e fields)) (behind (d.mark sy.Comma) (d.field e' fields))
  keeps_comma fields = keeps_behind (keeps_one (a_symbol sy.Comma)) (keeps_field fields)

  pub takes_comma : (fields : FieldList) → Takes (behind (d.mark sy.Comma) (d.field e fields))
  takes_comma fields = takes_behind (takes_one (a_symbol sy.Comma)) (keeps_field fields)

  keeps_upto : (k : ℕ) (fields : FieldList) → Keeps Q N M (d.more e k fields) (d.more e' k fields)
  keeps_upto zero fields = keeps_failing
  keeps_upto (suc k) fields = keeps_pick (keeps_chain (keeps_comma fields) (λ f. keeps_upto k (put fields f))) (keeps_nothing fields)

-- more turns than tokens are enough
module _ (e : Reader Placed Ty) (takes : (fields : FieldList) → Takes (behind (d.mark sy.Comma) (d.field e fields))) where
  pub enough : (k j : ℕ) (fields : FieldList) (ts : List Placed) → length ts < k → length ts < j → d.more e k fields ts ≡ d.more e j fields ts
  enough zero j fields ts lt lt' = absurd (omega arith)
  enough (suc k) zero fields ts lt lt' = absurd (omega arith)
  enough (suc k) (suc j) fields ts lt lt' = ap (λ (o : Out Placed FieldList). if heads (is_symbol sy.Comma) ts then o else ok fields ts) (step (behind (d.mark sy.Comma) (d.field e fields) ts) (λ f r h. takes fields ts f r h) (λ f r a b. enough k j (put fields f) r a b))
    where
      step : (o : Out Placed (List ℕ × Ty)) → ((f : List ℕ × Ty) (r : List Placed) → o ≡ ok f r → length r < length ts) → ((f : List ℕ × Ty) (r : List Placed) → length r < k → length r < j → d.more e k (put fields f) r ≡ d.more e j (put fields f) r) → after {B = FieldList} o (λ f. d.more e k (put fields f)) ≡ after o (λ f. d.more e j (put fields f))
      step (ok f r) h same = let l = h f r refl in same f r (omega arith) (omega arith)
      step (fail w r) h same = refl

module _ (Q : Why → List Placed → Type 0) (N M : ℕ) (e e' : Reader Placed Ty) (ke : Keeps Q N M e e') (ke' : Keeps Q M M e' e') where
  keeps_others : (fields : FieldList) → Keeps Q N M (d.others e fields) (d.others e' fields)
  keeps_others fields = record {
    keeps = λ m l hd eq xs le.
        let k = suc (length (xs ++ m) + length (xs ++ l)) in
        let a : d.more e k fields (xs ++ m) ≡ d.others e fields (xs ++ m) = enough e (takes_comma Q N M e e' ke) k (suc (length (xs ++ m))) fields (xs ++ m) (omega arith) (omega arith) in
        let b : d.more e' k fields (xs ++ l) ≡ d.others e' fields (xs ++ l) = enough e' (takes_comma Q M M e' e' ke') k (suc (length (xs ++ l))) fields (xs ++ l) (omega arith) (omega arith) in
        subst (λ (o : Out Placed FieldList). Kept Q m l o (d.others e' fields (xs ++ l))) a (subst (λ (o : Out Placed FieldList). Kept Q m l (d.more e k fields (xs ++ m)) o) b ((keeps_upto Q N M e e' ke k fields).keeps m l hd eq xs le));
    rests = λ ts. (keeps_upto Q N M e e' ke (suc (length ts)) fields).rests ts;
  }

  pub keeps_fields : Keeps Q N M (d.fields e) (d.fields e')
  keeps_fields = keeps_chain (keeps_field Q N M e e' ke []) (λ f. keeps_others (put [] f))
