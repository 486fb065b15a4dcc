-- What the code's steps say of the descent through expressions.
use Rattle.std.proofs.Common.{◌≡◌, ℕ, zero, suc, ◌<◌, Bool, true, false, IsTrue, List, [], ◌∷◌, ◌++◌, length, Option, Some, None, refl, sym, ap, subst, ◌∙◌, arith}
use Rattle.std.proofs.Math.Path.{fun_ext}
use Rattle.kl_lex.specs.declared.token.Sym.{Sym}
use Rattle.kl_lex.specs.declared.token.Sym.TheVariants as sy
use Rattle.kl_lex.specs.declared.token.Token.{Token}
use Rattle.kl_value.specs.declared.value.Kind.{Kind}
use Rattle.kl_value.specs.declared.value.Kind.TheVariants as kind
use Rattle.kl_value.specs.declared.value.Value.{Value}
use Rattle.kl_lex.specs.declared.keyword.Keyword.TheVariants as key
use Rattle.kl_parse.specs.declared.operator.Level.{Level}
use Rattle.kl_parse.specs.declared.operator.Level.TheVariants as level
use Rattle.kl_phrase.specs.declared.fault.Fault.{Fault}
use Rattle.kl_phrase.specs.declared.fault.Fault.TheVariants as fault
use Rattle.kl_syntax.specs.declared.tree.Word.{Word}
use Rattle.kl_syntax.specs.declared.tree.Op.{Op}
use Rattle.kl_syntax.specs.declared.tree.Pattern.{Pattern}
use Rattle.kl_syntax.specs.declared.tree.Expr.{Expr}
use Rattle.kl_syntax.specs.declared.tree.Expr.TheVariants as expr
use Rattle.kl_syntax.specs.declared.tree.Qual.{Qual}
use Rattle.kl_syntax.specs.declared.tree.Qual.TheVariants as qual
use Rattle.kl_syntax.specs.declared.tree.Branch.{Branch}
use Rattle.kl_phrase.specs.Gives.{Fails}
use Rattle.kl_lex.specs.Brackets.{opener, closer}
use Rattle.kl_phrase.specs.Depth.{opens}
use Rattle.kl_parse.specs.Grammar.{name_of, record_of, rec_of, inject_of, gen_of, case_of, path_of, compare_of, let_of, if_of, branch_of, function_of, constant_of, Sort, whole, negated, signed, added}
use Rattle.kl_parse.specs.Kinds.{among, is_symbol, is_key, label_kinds, constant_kinds, big_kinds, op_kinds, a_constant, an_op, a_symbol}
use Rattle.kl_parse.specs.Descent as d
use Rattle.kl_parse.specs.Descent.{mark, word_mark}
use Rattle.kl_parse.proofs.Kepts.{same_reads, same_pat, same_branch, same_qual, keeps_operand, keeps_field}
use Rattle.kl_parse.proofs.Steps.{Ahead, AheadKey, behind_mark, behind_key, heads_mark, heads_key}
use Rattle.kl_phrase.proofs.Failures.{err_by, fails_after, fails_so}
use Rattle.kl_phrase.specs.Words.{heads}
use Rattle.kl_phrase.specs.Readers.{Why, bad, deep, Out, ok, fail, Reader, after, one, behind, both, made, pick, turns, tails, others}
use Rattle.kl_phrase.specs.Refusals.{opened_by, refused}
use Rattle.kl_phrase.proofs.Kept.{Keeps, Rests, Takes, takes_both, takes_one}
use Rattle.kl_phrase.proofs.Gathered.{Progress, goes_on, stops, part_fails}
use Rattle.kl_phrase.proofs.Exact.{Each}
use Rattle.kl_phrase.proofs.Theory.{no}

-- ---- by depth

pub reads_is : (N n : ℕ) (s : Sort) (ts : List Token) → d.reads N n s ts ≡ d.sort_at N n s ts
unfolding d.reads_by
reads_is N zero s ts = refl
reads_is N (suc n) s ts = refl

-- ---- whole

pub let_deep : (N n : ℕ) (ts more : List Token) → n ≡ 0 → AheadKey key.Let ts more → d.reads N n whole ts ≡ fail deep ts
unfolding d.read_whole
let_deep N n ts more z a = reads_is N n whole ts ∙ ap (λ m. d.sort_at N m whole ts) z ∙ rw (heads_key key.Let ts more a) refl

pub let_at : (N n k : ℕ) (ts more : List Token) → n ≡ suc k → AheadKey key.Let ts more → d.reads N n whole ts ≡ made let_of (d.in_let (d.read_pat N k) (d.reads N k whole)) more
unfolding d.read_whole
let_at N n k ts more z a = reads_is N n whole ts ∙ ap (λ m. d.sort_at N m whole ts) z ∙ rw (heads_key key.Let ts more a) (ap (λ (o : Out Token (Pattern × (Expr × Expr))). after {B = Expr} o (λ x s. ok (let_of x) s)) (behind_key key.Let (d.in_let (d.read_pat N k) (d.reads N k whole)) ts more a))

pub if_deep : (N n : ℕ) (ts more : List Token) → n ≡ 0 → heads (is_key key.Let) ts ≡ false → AheadKey key.If ts more → d.reads N n whole ts ≡ fail deep ts
unfolding d.read_whole
if_deep N n ts more z l a = reads_is N n whole ts ∙ ap (λ m. d.sort_at N m whole ts) z ∙ rw (l, heads_key key.If ts more a) refl

pub if_at : (N n k : ℕ) (ts more : List Token) → n ≡ suc k → heads (is_key key.Let) ts ≡ false → AheadKey key.If ts more → d.reads N n whole ts ≡ made if_of (d.in_if (d.reads N k whole)) more
unfolding d.read_whole
if_at N n k ts more z l a = reads_is N n whole ts ∙ ap (λ m. d.sort_at N m whole ts) z ∙ rw (l, heads_key key.If ts more a) (ap (λ (o : Out Token (Expr × (Expr × Expr))). after {B = Expr} o (λ x s. ok (if_of x) s)) (behind_key key.If (d.in_if (d.reads N k whole)) ts more a))

pub ors_at : (N n : ℕ) (ts : List Token) → heads (is_key key.Let) ts ≡ false → heads (is_key key.If) ts ≡ false → d.reads N n whole ts ≡ d.chain_at N n level.Or ts
unfolding d.read_whole d.ors
ors_at N n ts l i = reads_is N n whole ts ∙ rw (l, i) refl

-- ---- chains

abbrev pub Step : ℕ → ℕ → Level → Reader Token (Op × Expr)
Step N n l = both (one (an_op l)) (d.operand_at N n l)

abbrev pub Others : ℕ → ℕ → Level → List Token → Out Token (List (Op × Expr))
Others N n l rest = others (among (op_kinds l)) (Step N n l) [] rest

pub step_on : (N n : ℕ) (l : Level) (ts more r : List Token) (o : Op) (a : Expr) → one (an_op l) ts ≡ ok o more → d.operand_at N n l more ≡ ok a r → Step N n l ts ≡ ok (o, a) r
step_on N n l ts more r o a e h = rw (e, h) refl

pub step_fails : (N n : ℕ) (l : Level) (whole_list : Out Token (List (Op × Expr))) (found : List (Op × Expr)) (ts more : List Token) (o : Op) (f : Fault Token) → heads (among (op_kinds l)) ts ≡ true → one (an_op l) ts ≡ ok o more → Fails f (d.operand_at N n l more) → Progress (among (op_kinds l)) (Step N n l) whole_list found ts → Fails f whole_list
step_fails N n l whole_list found ts more o f hd e = part_fails (among (op_kinds l)) (Step N n l) (d.operand_at N n l more) whole_list found ts f hd (λ w s h. rw (e, h) refl)

keeps_inside : (N n : ℕ) (s : Sort) → IsTrue (opens n) → Keeps Each N N (d.inside N n s) (d.inside N n s)
keeps_inside N zero s i = no i
keeps_inside N (suc n) s i = same_reads N N n s

keeps_inside_pat : (N n : ℕ) → IsTrue (opens n) → Keeps Each N N (d.pat_inside N n) (d.pat_inside N n)
keeps_inside_pat N zero i = no i
keeps_inside_pat N (suc n) i = same_pat Each N N n

keeps_inside_branch : (N n : ℕ) → IsTrue (opens n) → Keeps Each N N (d.branch_inside N n) (d.branch_inside N n)
keeps_inside_branch N zero i = no i
keeps_inside_branch N (suc n) i = same_branch N N n (same_reads N N n whole)

keeps_inside_qual : (N n : ℕ) → IsTrue (opens n) → Keeps Each N N (d.qualifier (d.pat_inside N n) (d.inside N n whole)) (d.qualifier (d.pat_inside N n) (d.inside N n whole))
keeps_inside_qual N zero i = no i
keeps_inside_qual N (suc n) i = same_qual N N n (same_reads N N n whole)

takes_step : (N n : ℕ) (l : Level) → Takes (Step N n l)
takes_step N n l = takes_both (takes_one (an_op l)) (keeps_operand Each N N (d.pat_inside N n) (d.pat_inside N n) (d.inside N n whole) (d.inside N n negated) (d.inside N n signed) (d.inside N n added) (d.inside N n whole) (d.inside N n negated) (d.inside N n signed) (d.inside N n added) (d.branch_inside N n) (d.branch_inside N n) (opens n) (opens n) (keeps_inside_pat N n) (keeps_inside N n whole) (keeps_inside N n negated) (keeps_inside N n signed) (keeps_inside N n added) (keeps_inside_branch N n) (keeps_inside_qual N n) (λ i. i) (λ r h. refl) l)

pub step_less : (N n : ℕ) (l : Level) (ts more r : List Token) (o : Op) (a : Expr) → one (an_op l) ts ≡ ok o more → d.operand_at N n l more ≡ ok a r → length r < length ts
step_less N n l ts more r o a e h = takes_step N n l ts (o, a) r (step_on N n l ts more r o a e h)

pub step_onward : (N n : ℕ) (l : Level) (whole_list : Out Token (List (Op × Expr))) (found : List (Op × Expr)) (ts more r : List Token) (o : Op) (a : Expr) → heads (among (op_kinds l)) ts ≡ true → one (an_op l) ts ≡ ok o more → d.operand_at N n l more ≡ ok a r → Progress (among (op_kinds l)) (Step N n l) whole_list found ts → Progress (among (op_kinds l)) (Step N n l) whole_list (found ++ (o, a) ∷ []) r
step_onward N n l whole_list found ts more r o a hd e h so = goes_on (among (op_kinds l)) (Step N n l) whole_list found ts r (o, a) hd (step_on N n l ts more r o a e h) (step_less N n l ts more r o a e h) so

pub step_stops : (N n : ℕ) (l : Level) (whole_list : Out Token (List (Op × Expr))) (found : List (Op × Expr)) (ts : List Token) → heads (among (op_kinds l)) ts ≡ false → Progress (among (op_kinds l)) (Step N n l) whole_list found ts → whole_list ≡ ok found ts
step_stops N n l whole_list found ts hd so = stops (among (op_kinds l)) (Step N n l) whole_list found ts hd so

pub operand_or : (N n : ℕ) (ts : List Token) → d.operand_at N n level.Or ts ≡ d.chain_at N n level.And ts
unfolding d.and
operand_or N n ts = refl

pub operand_compare : (N n : ℕ) (ts : List Token) → d.operand_at N n level.Compare ts ≡ d.chain_at N n level.Add ts
unfolding d.add
operand_compare N n ts = refl

pub operand_add : (N n : ℕ) (ts : List Token) → d.operand_at N n level.Add ts ≡ d.chain_at N n level.Mul ts
unfolding d.mul
operand_add N n ts = refl

-- ---- not, comparisons, minus, paths

pub not_deep : (N n : ℕ) (ts more : List Token) → n ≡ 0 → AheadKey key.Not ts more → d.sort_at N n negated ts ≡ fail deep ts
unfolding d.negation
not_deep N n ts more z a = ap (λ m. d.sort_at N m negated ts) z ∙ rw (heads_key key.Not ts more a) refl

pub not_at : (N n k : ℕ) (ts more : List Token) → n ≡ suc k → AheadKey key.Not ts more → d.sort_at N n negated ts ≡ after (d.sort_at N k negated more) (λ x s. ok (expr.Not x) s)
unfolding d.negation
not_at N n k ts more z a = ap (λ m. d.sort_at N m negated ts) z ∙ rw (heads_key key.Not ts more a) (ap (λ (o : Out Token Expr). after {B = Expr} o (λ x s. ok (expr.Not x) s)) (behind_key key.Not (d.reads N k negated) ts more a ∙ reads_is N k negated more))

pub not_none : (N n : ℕ) (ts : List Token) → heads (is_key key.Not) ts ≡ false → d.sort_at N n negated ts ≡ d.compare_at N n ts
unfolding d.negation
not_none N n ts h = rw h refl

pub compare_fails : (N n : ℕ) (ts : List Token) (f : Fault Token) → Fails f (d.operand_at N n level.Compare ts) → Fails f (d.compare_at N n ts)
unfolding d.compare
compare_fails N n ts fault.Memory h = tt
compare_fails N n ts (fault.Bad r) h = rw h refl
compare_fails N n ts (fault.Deep r) h = rw h refl

pub compare_one : (N n : ℕ) (ts rest : List Token) (a : Expr) → d.operand_at N n level.Compare ts ≡ ok a rest → heads (among (op_kinds level.Compare)) rest ≡ false → d.compare_at N n ts ≡ ok a rest
unfolding d.compare
compare_one N n ts rest a e h = rw (e, h) refl

compare_of_two : (a : Expr) (o : Op) (x : Out Token Expr) → after {B = Expr} (after {B = Expr × Option (Op × Expr)} (after {B = Option (Op × Expr)} (after {B = Op × Expr} x (λ b s. ok (o, b) s)) (λ y s. ok (Some y) s)) (λ b s. ok (a, b) s)) (λ y s. ok (compare_of y) s) ≡ after x (λ b s. ok (expr.Chain a ((o, b) ∷ [])) s)
compare_of_two a o (ok b r) = refl
compare_of_two a o (fail w r) = refl

pub compare_two : (N n : ℕ) (ts rest more : List Token) (a : Expr) (o : Op) → d.operand_at N n level.Compare ts ≡ ok a rest → heads (among (op_kinds level.Compare)) rest ≡ true → one (an_op level.Compare) rest ≡ ok o more → d.compare_at N n ts ≡ after (d.operand_at N n level.Compare more) (λ b s. ok (expr.Chain a ((o, b) ∷ [])) s)
unfolding d.compare
compare_two N n ts rest more a o e h i = rw (e, h, i) (compare_of_two a o (d.operand_at N n level.Compare more))

pub compare_ok : (N n : ℕ) (ts rest more r : List Token) (a b : Expr) (o : Op) (l : List (Op × Expr)) → l ≡ (o, b) ∷ [] → d.operand_at N n level.Compare ts ≡ ok a rest → heads (among (op_kinds level.Compare)) rest ≡ true → one (an_op level.Compare) rest ≡ ok o more → d.operand_at N n level.Compare more ≡ ok b r → d.compare_at N n ts ≡ ok (expr.Chain a l) r
compare_ok N n ts rest more r a b o l z e h i j = compare_two N n ts rest more a o e h i ∙ rw j (ap (λ (y : List (Op × Expr)). ok (expr.Chain a y) r) (sym z))

-- what stands behind a minus
abbrev pub Minus : ℕ → ℕ → Reader Token Expr
Minus N n = pick (among big_kinds) d.least_at (opened_by deep (opens n) (made expr.Neg (d.inside N n signed)))

minus_at : (N n : ℕ) (ts more : List Token) → Ahead sy.Sub ts more → d.sort_at N n signed ts ≡ Minus N n more
unfolding d.un
minus_at N n ts more a = rw (heads_mark sy.Sub ts more a) (behind_mark sy.Sub (Minus N n) ts more a)

pub least_found : (N n : ℕ) (ts more r : List Token) (a : Expr) → Ahead sy.Sub ts more → heads (among big_kinds) more ≡ true → d.least_at more ≡ ok a r → d.sort_at N n signed ts ≡ ok a r
least_found N n ts more r a ahead h e = minus_at N n ts more ahead ∙ rw h e

pub minus_deep : (N n : ℕ) (ts more : List Token) → n ≡ 0 → Ahead sy.Sub ts more → heads (among big_kinds) more ≡ false → d.sort_at N n signed ts ≡ fail deep more
minus_deep N n ts more z ahead h = minus_at N n ts more ahead ∙ ap (λ m. Minus N m more) z ∙ rw h refl

pub minus_on : (N n k : ℕ) (ts more : List Token) → n ≡ suc k → Ahead sy.Sub ts more → heads (among big_kinds) more ≡ false → d.sort_at N n signed ts ≡ after (d.sort_at N k signed more) (λ x s. ok (expr.Neg x) s)
minus_on N n k ts more z ahead h = minus_at N n ts more ahead ∙ ap (λ m. Minus N m more) z ∙ rw h (ap (λ (o : Out Token Expr). after {B = Expr} o (λ x s. ok (expr.Neg x) s)) (reads_is N k signed more))

pub minus_none : (N n : ℕ) (ts : List Token) → heads (is_symbol sy.Sub) ts ≡ false → d.sort_at N n signed ts ≡ d.post_at N n ts
unfolding d.un
minus_none N n ts h = rw h refl

pub path_fails : (N n : ℕ) (ts : List Token) (f : Fault Token) → Fails f (d.prim_at N n ts) → Fails f (d.post_at N n ts)
unfolding d.post
path_fails N n ts fault.Memory h = tt
path_fails N n ts (fault.Bad r) h = rw h refl
path_fails N n ts (fault.Deep r) h = rw h refl

path_of_two : (a : Expr) (o : Out Token (List Word)) → after {B = Expr} (after {B = Expr × List Word} o (λ b s. ok (a, b) s)) (λ x r. ok (path_of x) r) ≡ after o (λ l s. ok (path_of (a, l)) s)
path_of_two a (ok x r) = refl
path_of_two a (fail w r) = refl

pub path_first : (N n : ℕ) (ts rest : List Token) (a : Expr) → d.prim_at N n ts ≡ ok a rest → d.post_at N n ts ≡ after (d.labels N rest) (λ l s. ok (path_of (a, l)) s)
unfolding d.post
path_first N n ts rest a e = rw e (path_of_two a (d.labels N rest))

pub path_one : (N n : ℕ) (ts rest r : List Token) (a : Expr) (l : List Word) → d.prim_at N n ts ≡ ok a rest → d.labels N rest ≡ ok l r → length l ≡ 0 → d.post_at N n ts ≡ ok a r
path_one N n ts rest r a [] e h z = path_first N n ts rest a e ∙ rw h refl
path_one N n ts rest r a (x ∷ l) e h z = absurd (omega arith)

pub path_more : (N n : ℕ) (ts rest r : List Token) (a : Expr) (l : List Word) → d.prim_at N n ts ≡ ok a rest → d.labels N rest ≡ ok l r → (length l ≡ 0 → ⊥) → d.post_at N n ts ≡ ok (expr.Path a l) r
path_more N n ts rest r a [] e h z = absurd (z refl)
path_more N n ts rest r a (x ∷ l) e h z = path_first N n ts rest a e ∙ rw h refl

-- ---- prim

pub const_found : (N n : ℕ) (ts r : List Token) (v : Value) → heads (among constant_kinds) ts ≡ true → one a_constant ts ≡ ok v r → d.prim_at N n ts ≡ ok (expr.Const v) r
unfolding d.prim
const_found N n ts r v h e = rw (h, e) refl

pub group_deep : (N n : ℕ) (ts more : List Token) → n ≡ 0 → heads (among constant_kinds) ts ≡ false → Ahead sy.OpenPar ts more → d.prim_at N n ts ≡ fail deep ts
unfolding d.prim
group_deep N n ts more z c a = ap (λ m. d.prim_at N m ts) z ∙ rw (c, heads_mark sy.OpenPar ts more a) refl

pub group_at : (N n k : ℕ) (ts more : List Token) → n ≡ suc k → heads (among constant_kinds) ts ≡ false → Ahead sy.OpenPar ts more → d.prim_at N n ts ≡ d.in_group (d.reads N k whole) more
unfolding d.prim
group_at N n k ts more z c a = ap (λ m. d.prim_at N m ts) z ∙ rw (c, heads_mark sy.OpenPar ts more a) (behind_mark sy.OpenPar (d.in_group (d.reads N k whole)) ts more a)

-- none of the kinds before these
abbrev pub Not2 : List Token → Type 0
Not2 ts = (heads (among constant_kinds) ts ≡ false) × (heads (is_symbol sy.OpenPar) ts ≡ false)

abbrev pub Not3 : List Token → Type 0
Not3 ts = (heads (among constant_kinds) ts ≡ false) × (heads (is_symbol sy.OpenPar) ts ≡ false) × (heads (is_symbol sy.OpenRec) ts ≡ false)

abbrev pub Not4 : List Token → Type 0
Not4 ts = (heads (among constant_kinds) ts ≡ false) × (heads (is_symbol sy.OpenPar) ts ≡ false) × (heads (is_symbol sy.OpenRec) ts ≡ false) × (heads (is_symbol sy.Lt) ts ≡ false)

abbrev pub NoColl : List Token → Type 0
NoColl ts = (heads (is_symbol sy.OpenSet) ts ≡ false) × (heads (is_symbol sy.OpenBag) ts ≡ false) × (heads (is_symbol sy.OpenList) ts ≡ false)

pub rec_deep : (N n : ℕ) (ts more : List Token) → n ≡ 0 → Not2 ts → Ahead sy.OpenRec ts more → d.prim_at N n ts ≡ fail deep ts
unfolding d.prim
rec_deep N n ts more z (c, p) a = ap (λ m. d.prim_at N m ts) z ∙ rw (c, p, heads_mark sy.OpenRec ts more a) refl

signed_is : (N k : ℕ) → d.reads N k signed ≡ d.sort_at N k signed
signed_is N k = fun_ext (λ ts. reads_is N k signed ts)

pub rec_at : (N n k : ℕ) (ts more : List Token) → n ≡ suc k → Not2 ts → Ahead sy.OpenRec ts more → d.prim_at N n ts ≡ d.in_rec N (d.reads N k whole) (d.sort_at N k signed) more
unfolding d.prim
rec_at N n k ts more z (c, p) a =
    ap (λ m. d.prim_at N m ts) z ∙ rw (c, p, heads_mark sy.OpenRec ts more a) (behind_mark sy.OpenRec (d.in_rec N (d.reads N k whole) (d.reads N k signed)) ts more a)
    ∙ ap (λ (u : Reader Token Expr). d.in_rec N (d.reads N k whole) u more) (signed_is N k)

-- the fields of a record, behind the first

tails_rec : (a : Word × Expr) (o : Out Token (List (Word × Expr) × Option Expr)) → after {B = Expr} (after {B = (Word × Expr) × (List (Word × Expr) × Option Expr)} o (λ b s. ok (a, b) s)) (λ x r. ok (record_of x) r) ≡ after (after {B = List (Word × Expr) × Option Expr} o (λ x r. ok ((a ∷ []) ++ x.0, x.1) r)) (λ x s. ok (rec_of x) s)
tails_rec a (ok x r) = refl
tails_rec a (fail w r) = refl

module _ (N : ℕ) (e u : Reader Token Expr) (ts rest : List Token) (a : Word × Expr) (h : heads (among label_kinds) ts ≡ true) (first : d.field N e ts ≡ ok a rest) where
  record_at : d.rec_body N e u ts ≡ after (tails (d.field_turn N e u) (a ∷ []) rest) (λ x s. ok (rec_of x) s)
  record_at = rw (h, first) (tails_rec a (turns (d.field_turn N e u) (suc (length rest)) rest))

  pub record_fails : (f : Fault Token) → Fails f (tails (d.field_turn N e u) (a ∷ []) rest) → Fails f (d.rec_body N e u ts)
  record_fails f i = fails_so f (d.rec_body N e u ts) (after (tails (d.field_turn N e u) (a ∷ []) rest) (λ x s. ok (rec_of x) s)) record_at (fails_after f (tails (d.field_turn N e u) (a ∷ []) rest) (λ x s. ok (rec_of x) s) i)

  pub record_ok : (fs : List (Word × Expr)) (o : Option Expr) (r : List Token) → tails (d.field_turn N e u) (a ∷ []) rest ≡ ok (fs, o) r → d.rec_body N e u ts ≡ ok (rec_of (fs, o)) r
  record_ok fs o r i = record_at ∙ rw i refl

pub inject_deep : (N n : ℕ) (ts more : List Token) → n ≡ 0 → Not3 ts → Ahead sy.Lt ts more → d.prim_at N n ts ≡ fail deep ts
unfolding d.prim
inject_deep N n ts more z (c, p, q) a = ap (λ m. d.prim_at N m ts) z ∙ rw (c, p, q, heads_mark sy.Lt ts more a) refl

added_is : (N k : ℕ) → d.reads N k added ≡ d.chain_at N k level.Add
unfolding d.add
added_is N k = fun_ext (λ ts. reads_is N k added ts)

pub inject_at : (N n k : ℕ) (ts more : List Token) → n ≡ suc k → Not3 ts → Ahead sy.Lt ts more → d.prim_at N n ts ≡ made inject_of (d.in_inject N (d.chain_at N k level.Add)) more
unfolding d.prim
inject_at N n k ts more z (c, p, q) a = ap (λ m. d.prim_at N m ts) z ∙ rw (c, p, q, heads_mark sy.Lt ts more a) (ap (λ (o : Out Token (Word × Expr)). after {B = Expr} o (λ x s. ok (inject_of x) s)) (behind_mark sy.Lt (d.in_inject N (d.reads N k added)) ts more a)) ∙ ap (λ e. made inject_of (d.in_inject N e) more) (added_is N k)

coll_deep_set : (N n : ℕ) (ts more : List Token) → n ≡ 0 → Not4 ts → Ahead sy.OpenSet ts more → d.prim_at N n ts ≡ fail deep ts
unfolding d.prim
coll_deep_set N n ts more z (c, p, q, v) a = ap (λ m. d.prim_at N m ts) z ∙ rw (c, p, q, v, heads_mark sy.OpenSet ts more a) refl

-- no two symbols at once
other : (s r : Sym) → ((t : Token) → is_symbol s t ≡ true → is_symbol r t ≡ false) → (ts more : List Token) → Ahead s ts more → heads (is_symbol r) ts ≡ false
other s r w ts more (t, e, h) = rw e (w t h)

bag_set : (ts more : List Token) → Ahead sy.OpenBag ts more → heads (is_symbol sy.OpenSet) ts ≡ false
bag_set = other sy.OpenBag sy.OpenSet (Rattle.kl_parse.proofs.KindLemmas.without (Rattle.kl_parse.specs.Kinds.one_symbol sy.OpenBag) (Rattle.kl_parse.specs.Kinds.one_symbol sy.OpenSet) refl)

list_set : (ts more : List Token) → Ahead sy.OpenList ts more → heads (is_symbol sy.OpenSet) ts ≡ false
list_set = other sy.OpenList sy.OpenSet (Rattle.kl_parse.proofs.KindLemmas.without (Rattle.kl_parse.specs.Kinds.one_symbol sy.OpenList) (Rattle.kl_parse.specs.Kinds.one_symbol sy.OpenSet) refl)

list_bag : (ts more : List Token) → Ahead sy.OpenList ts more → heads (is_symbol sy.OpenBag) ts ≡ false
list_bag = other sy.OpenList sy.OpenBag (Rattle.kl_parse.proofs.KindLemmas.without (Rattle.kl_parse.specs.Kinds.one_symbol sy.OpenList) (Rattle.kl_parse.specs.Kinds.one_symbol sy.OpenBag) refl)

pub coll_deep : (N n : ℕ) (ts more : List Token) (k : Kind) → n ≡ 0 → Not4 ts → Ahead (opener k) ts more → d.prim_at N n ts ≡ fail deep ts
unfolding d.prim
coll_deep N n ts more kind.Set z l a = coll_deep_set N n ts more z l a
coll_deep N n ts more kind.Bag z (c, p, q, v) a = ap (λ m. d.prim_at N m ts) z ∙ rw (c, p, q, v, bag_set ts more a, heads_mark sy.OpenBag ts more a) refl
coll_deep N n ts more kind.List z (c, p, q, v) a = ap (λ m. d.prim_at N m ts) z ∙ rw (c, p, q, v, list_set ts more a, list_bag ts more a, heads_mark sy.OpenList ts more a) refl

pub coll_at : (N n m : ℕ) (ts more : List Token) (k : Kind) → n ≡ suc m → Not4 ts → Ahead (opener k) ts more → d.prim_at N n ts ≡ d.in_coll (d.read_pat N m) (d.reads N m whole) k more
unfolding d.prim
coll_at N n m ts more kind.Set z (c, p, q, v) a = ap (λ m. d.prim_at N m ts) z ∙ rw (c, p, q, v, heads_mark sy.OpenSet ts more a) (behind_mark sy.OpenSet (d.in_coll (d.read_pat N m) (d.reads N m whole) kind.Set) ts more a)
coll_at N n m ts more kind.Bag z (c, p, q, v) a = ap (λ m. d.prim_at N m ts) z ∙ rw (c, p, q, v, bag_set ts more a, heads_mark sy.OpenBag ts more a) (behind_mark sy.OpenBag (d.in_coll (d.read_pat N m) (d.reads N m whole) kind.Bag) ts more a)
coll_at N n m ts more kind.List z (c, p, q, v) a = ap (λ m. d.prim_at N m ts) z ∙ rw (c, p, q, v, list_set ts more a, list_bag ts more a, heads_mark sy.OpenList ts more a) (behind_mark sy.OpenList (d.in_coll (d.read_pat N m) (d.reads N m whole) kind.List) ts more a)

pub case_deep : (N n : ℕ) (ts more : List Token) → n ≡ 0 → Not4 ts → NoColl ts → AheadKey key.Case ts more → d.prim_at N n ts ≡ fail deep ts
unfolding d.prim
case_deep N n ts more z (c, p, q, v) (x, y, w) a = ap (λ m. d.prim_at N m ts) z ∙ rw (c, p, q, v, x, y, w, heads_key key.Case ts more a) refl

pub case_at : (N n k : ℕ) (ts more : List Token) → n ≡ suc k → Not4 ts → NoColl ts → AheadKey key.Case ts more → d.prim_at N n ts ≡ made case_of (d.in_case (d.reads N k whole) (d.branch_at N k)) more
unfolding d.prim
case_at N n k ts more z (c, p, q, v) (x, y, w) a = ap (λ m. d.prim_at N m ts) z ∙ rw (c, p, q, v, x, y, w, heads_key key.Case ts more a) (ap (λ (o : Out Token (Expr × (List Branch × Option Expr))). after {B = Expr} o (λ x s. ok (case_of x) s)) (behind_key key.Case (d.in_case (d.reads N k whole) (d.branch_at N k)) ts more a))

pub name_at : (N n : ℕ) (ts : List Token) → Not4 ts → NoColl ts → heads (is_key key.Case) ts ≡ false → d.prim_at N n ts ≡ d.named_at N n ts
unfolding d.prim
name_at N n ts (c, p, q, v) (x, y, w) h = rw (c, p, q, v, x, y, w, h) refl

-- ---- a name, and arguments if they come

pub named_fails : (N n : ℕ) (ts : List Token) (f : Fault Token) → Fails f (d.name N ts) → Fails f (d.named_at N n ts)
unfolding d.named
named_fails N n ts fault.Memory h = tt
named_fails N n ts (fault.Bad r) h = rw h refl
named_fails N n ts (fault.Deep r) h = rw h refl

pub named_alone : (N n : ℕ) (ts rest : List Token) (w : Word) → d.name N ts ≡ ok w rest → heads (is_symbol sy.OpenPar) rest ≡ false → d.named_at N n ts ≡ ok (expr.Name w) rest
unfolding d.named
named_alone N n ts rest w e h = rw (e, h) refl

pub named_deep : (N n : ℕ) (ts rest more : List Token) (w : Word) → n ≡ 0 → d.name N ts ≡ ok w rest → Ahead sy.OpenPar rest more → d.named_at N n ts ≡ fail deep rest
unfolding d.named
named_deep N n ts rest more w z e a = ap (λ m. d.named_at N m ts) z ∙ rw (e, heads_mark sy.OpenPar rest more a) refl

named_two : (w : Word) (o : Out Token (List Expr)) → after {B = Expr} (after {B = Word × Option (List Expr)} (after o (λ l r. ok (Some l) r)) (λ b s. ok (w, b) s)) (λ x s. ok (name_of x) s) ≡ after o (λ l s. ok (expr.Call w l) s)
named_two w (ok l r) = refl
named_two w (fail y r) = refl

pub named_args : (N n k : ℕ) (ts rest more : List Token) (w : Word) → n ≡ suc k → d.name N ts ≡ ok w rest → Ahead sy.OpenPar rest more → d.named_at N n ts ≡ after (d.in_args (d.reads N k whole) more) (λ l s. ok (expr.Call w l) s)
unfolding d.named
named_args N n k ts rest more w z e a = ap (λ m. d.named_at N m ts) z ∙ rw (e, heads_mark sy.OpenPar rest more a) (ap (λ (o : Out Token (List Expr)). after {B = Expr} (after {B = Word × Option (List Expr)} (after o (λ l r. ok (Some l) r)) (λ b s. ok (w, b) s)) (λ x s. ok (name_of x) s)) (behind_mark sy.OpenPar (d.in_args (d.reads N k whole)) rest more a) ∙ named_two w (d.in_args (d.reads N k whole) more))

-- ---- collections

module _ (p : Reader Token Pattern) (e : Reader Token Expr) where
  pub coll_none : (k : Kind) (ts more : List Token) → Ahead (closer k) ts more → d.in_coll p e k ts ≡ ok (expr.Coll k []) more
  unfolding d.in_coll
  coll_none k ts more a = rw (heads_mark (closer k) ts more a) (go a)
    where
      go : Ahead (closer k) ts more → after (mark (closer k) ts) (λ _ s. ok (expr.Coll k []) s) ≡ ok (expr.Coll k []) more
      go (t, et, h) = rw (et, h) refl

  coll_two : (o : Out Token Expr) (g : Expr → Reader Token Expr) (m : Reader Token (Unit {0})) → after {B = Expr} (after o g) (λ a r. after {B = Expr} (m r) (λ _ s. ok a s)) ≡ after o (λ x r. after {B = Expr} (g x r) (λ a s. after {B = Expr} (m s) (λ _ z. ok a z)))
  coll_two (ok a r) g m = refl
  coll_two (fail w r) g m = refl

  pub coll_some : (k : Kind) (ts : List Token) → heads (is_symbol (closer k)) ts ≡ false → d.in_coll p e k ts ≡ after (e ts) (λ x r. after (d.beyond p e k x r) (λ a s. after (mark (closer k) s) (λ _ z. ok a z)))
  unfolding d.in_coll
  coll_some k ts h = rw h (coll_two (e ts) (d.beyond p e k) (mark (closer k)))

  gen_two : (a : Pattern) (o : Out Token Expr) → after {B = Qual} (after {B = Pattern × Expr} o (λ b s. ok (a, b) s)) (λ x s. ok (gen_of x) s) ≡ after o (λ b s. ok (qual.Gen a b) s)
  gen_two a (ok b r) = refl
  gen_two a (fail w r) = refl

  pub gen_at : (ts rest : List Token) (a : Pattern) → d.drawn p ts ≡ ok a rest → d.qualifier p e ts ≡ after (e rest) (λ b s. ok (qual.Gen a b) s)
  unfolding d.qualifier
  gen_at ts rest a h = rw h (gen_two a (e rest))

  cond_two : (w : Why) (r : List Token) (o : Out Token Expr) → refused w r (after {B = Qual} o (λ b s. ok (qual.Cond b) s)) ≡ after (refused w r o) (λ b s. ok (qual.Cond b) s)
  cond_two w r (ok b s) = refl
  cond_two w r (fail v s) = refl

  pub cond_at : (ts r : List Token) (w : Why) → d.drawn p ts ≡ fail w r → d.qualifier p e ts ≡ after (refused w r (d.condition e ts)) (λ b s. ok (qual.Cond b) s)
  unfolding d.qualifier
  cond_at ts r w h = rw h (cond_two w r (d.condition e ts))

  function_two : (a : Pattern) (o : Out Token Expr) → after {B = Option Pattern × Expr} (after {B = Pattern × Expr} o (λ b s. ok (a, b) s)) (λ x s. ok (function_of x) s) ≡ after o (λ b s. ok (Some a, b) s)
  function_two a (ok b r) = refl
  function_two a (fail w r) = refl

  pub function_at : (ts rest : List Token) (a : Pattern) → d.parameter p ts ≡ ok a rest → d.body p e ts ≡ after (e rest) (λ b s. ok (Some a, b) s)
  unfolding d.body
  function_at ts rest a h = rw h (function_two a (e rest))

  plain_two : (w : Why) (r : List Token) (o : Out Token Expr) → refused w r (after {B = Option Pattern × Expr} o (λ b s. ok (constant_of b) s)) ≡ after (refused w r o) (λ b s. ok (None, b) s)
  plain_two w r (ok b s) = refl
  plain_two w r (fail v s) = refl

  pub plain_at : (ts r : List Token) (w : Why) → d.parameter p ts ≡ fail w r → d.body p e ts ≡ after (refused w r (d.plain_body e ts)) (λ b s. ok (None, b) s)
  unfolding d.body
  plain_at ts r w h = rw h (plain_two w r (d.plain_body e ts))

-- ---- what follows

-- ---- branches

pub branch_bad : (N n : ℕ) (ts : List Token) (f : Fault Token) → Fails f (mark sy.Lt ts) → Fails f (d.branch_at N n ts)
unfolding d.branch
branch_bad N n ts fault.Memory h = tt
branch_bad N n [] (fault.Bad r) h = let z : Path (Out Token (Unit {0})) (fail bad []) (fail bad r.now) = h in let y : [] ≡ r.now = cc in ap (fail bad) y
branch_bad N n (t ∷ ts) (fault.Bad r) h = go (is_symbol sy.Lt t) refl
  where
    go : (b : Bool) → is_symbol sy.Lt t ≡ b → d.branch_at N n (t ∷ ts) ≡ fail bad r.now
    go true e = absurd (let k : mark sy.Lt (t ∷ ts) ≡ ok tt ts = rw e refl in let z : Path (Out Token (Unit {0})) (ok tt ts) (fail bad r.now) = sym k ∙ h in cc)
    go false e = let k : mark sy.Lt (t ∷ ts) ≡ fail bad (t ∷ ts) = rw e refl in let z : Path (Out Token (Unit {0})) (fail bad (t ∷ ts)) (fail bad r.now) = sym k ∙ h in let y : t ∷ ts ≡ r.now = cc in rw e (ap (fail bad) y)
branch_bad N n [] (fault.Deep r) h = absurd cc
branch_bad N n (t ∷ ts) (fault.Deep r) h = go (is_symbol sy.Lt t) refl
  where
    go : (b : Bool) → is_symbol sy.Lt t ≡ b → d.branch_at N n (t ∷ ts) ≡ fail deep r.now
    go true e = absurd (let k : mark sy.Lt (t ∷ ts) ≡ ok tt ts = rw e refl in let z : Path (Out Token (Unit {0})) (ok tt ts) (fail deep r.now) = sym k ∙ h in cc)
    go false e = absurd (let k : mark sy.Lt (t ∷ ts) ≡ fail bad (t ∷ ts) = rw e refl in let z : Path (Out Token (Unit {0})) (fail bad (t ∷ ts)) (fail deep r.now) = sym k ∙ h in cc)

-- the symbol is there
marked : (s : Sym) (ts more : List Token) → mark s ts ≡ ok tt more → Ahead s ts more
marked s [] more h = absurd cc
marked s (t ∷ ts) more h = go (is_symbol s t) refl
  where
    go : (b : Bool) → is_symbol s t ≡ b → Ahead s (t ∷ ts) more
    go true e = let k : mark s (t ∷ ts) ≡ ok tt ts = rw e refl in let z : Path (Out Token (Unit {0})) (ok tt ts) (ok tt more) = sym k ∙ h in let y : ts ≡ more = cc in (t, ap (λ w. t ∷ w) y, e)
    go false e = absurd (let k : mark s (t ∷ ts) ≡ fail bad (t ∷ ts) = rw e refl in let z : Path (Out Token (Unit {0})) (fail bad (t ∷ ts)) (ok tt more) = sym k ∙ h in cc)

pub branch_deep : (N n : ℕ) (ts more : List Token) → n ≡ 0 → mark sy.Lt ts ≡ ok tt more → d.branch_at N n ts ≡ fail deep ts
unfolding d.branch
branch_deep N n ts more z h = ap (λ m. d.branch_at N m ts) z ∙ rw (heads_mark sy.Lt ts more (marked sy.Lt ts more h)) refl

branch_two : (x : Out Token (Word × Pattern)) (g : Reader Token Expr) → after {B = Branch} (after {B = (Word × Pattern) × Expr} x (λ a r. after (g r) (λ b s. ok (a, b) s))) (λ y s. ok (branch_of y) s) ≡ after x (λ a r. after (g r) (λ b s. ok (branch_of (a, b)) s))
branch_two (ok a r) g = go (g r)
  where
    go : (o : Out Token Expr) → after {B = Branch} (after {B = (Word × Pattern) × Expr} o (λ b s. ok (a, b) s)) (λ y s. ok (branch_of y) s) ≡ after o (λ b s. ok (branch_of (a, b)) s)
    go (ok b s) = refl
    go (fail w s) = refl
branch_two (fail w r) g = refl

pub branch_here : (N n k : ℕ) (ts more : List Token) → n ≡ suc k → mark sy.Lt ts ≡ ok tt more → d.branch_at N n ts ≡ after (d.in_variant N (d.read_pat N k) more) (λ a r. after (behind (mark sy.Arrow) (d.reads N n whole) r) (λ b s. ok (branch_of (a, b)) s))
unfolding d.branch
branch_here N n k ts more z h =
    let one : d.branch_at N (suc k) ts ≡ after (d.in_variant N (d.read_pat N k) more) (λ a r. after (behind (mark sy.Arrow) (d.reads N (suc k) whole) r) (λ b s. ok (branch_of (a, b)) s)) =
    rw (heads_mark sy.Lt ts more (marked sy.Lt ts more h)) (ap (λ (o : Out Token (Word × Pattern)). after {B = Branch} (after {B = (Word × Pattern) × Expr} o (λ a r. after (behind (mark sy.Arrow) (d.reads N (suc k) whole) r) (λ b s. ok (a, b) s))) (λ y s. ok (branch_of y) s)) (behind_mark sy.Lt (d.in_variant N (d.read_pat N k)) ts more (marked sy.Lt ts more h)) ∙ branch_two (d.in_variant N (d.read_pat N k) more) (behind (mark sy.Arrow) (d.reads N (suc k) whole))) in
    ap (λ m. d.branch_at N m ts) z ∙ one ∙ ap (λ m. after (d.in_variant N (d.read_pat N k) more) (λ a r. after (behind (mark sy.Arrow) (d.reads N m whole) r) (λ b s. ok (branch_of (a, b)) s))) (sym z)

module _ (N n k : ℕ) (ts more rest : List Token) (a : Word × Pattern) (z : n ≡ suc k) (h : mark sy.Lt ts ≡ ok tt more) (v : d.in_variant N (d.read_pat N k) more ≡ ok a rest) where
  pub branch_arrow : d.branch_at N n ts ≡ after (behind (mark sy.Arrow) (d.reads N n whole) rest) (λ b s. ok (branch_of (a, b)) s)
  branch_arrow = branch_here N n k ts more z h ∙ rw v refl

pub variant_in_branch_fails : (N n k : ℕ) (ts more : List Token) (f : Fault Token) → n ≡ suc k → mark sy.Lt ts ≡ ok tt more → Fails f (d.in_variant N (d.read_pat N k) more) → Fails f (d.branch_at N n ts)
variant_in_branch_fails N n k ts more f z h i = err_by f (d.branch_at N n ts) (d.in_variant N (d.read_pat N k) more) (λ a r. after (behind (mark sy.Arrow) (d.reads N n whole) r) (λ b s. ok (branch_of (a, b)) s)) (branch_here N n k ts more z h) i

-- ---- a collection, step by step

module _ (p : Reader Token Pattern) (e : Reader Token Expr) (k : Kind) (ts : List Token) (s : Sym) (is : s ≡ closer k) where
  pub coll_empty : (l : List Expr) (more : List Token) → l ≡ [] → Ahead s ts more → d.in_coll p e k ts ≡ ok (expr.Coll k l) more
  coll_empty l more z a = coll_none p e k ts more (subst (λ (r : Sym). Ahead r ts more) is a) ∙ ap (λ y. ok (expr.Coll k y) more) (sym z)

  module _ (miss : heads (is_symbol s) ts ≡ false) where
    opened_coll : d.in_coll p e k ts ≡ after (e ts) (λ x r. after (d.beyond p e k x r) (λ a s. after (mark (closer k) s) (λ _ z. ok a z)))
    opened_coll = coll_some p e k ts (subst (λ (r : Sym). heads (is_symbol r) ts ≡ false) is miss)

    pub coll_first_fails : (f : Fault Token) → Fails f (e ts) → Fails f (d.in_coll p e k ts)
    coll_first_fails f h = err_by f (d.in_coll p e k ts) (e ts) (λ x r. after (d.beyond p e k x r) (λ a s. after (mark (closer k) s) (λ _ z. ok a z))) opened_coll h

    module _ (a : Expr) (rest : List Token) (first : e ts ≡ ok a rest) where
      coll_beyond : d.in_coll p e k ts ≡ after (d.beyond p e k a rest) (λ a s. after (mark (closer k) s) (λ _ z. ok a z))
      coll_beyond = opened_coll ∙ rw first refl

      pub coll_beyond_fails : (f : Fault Token) → Fails f (d.beyond p e k a rest) → Fails f (d.in_coll p e k ts)
      coll_beyond_fails f h = err_by f (d.in_coll p e k ts) (d.beyond p e k a rest) (λ a s. after (mark (closer k) s) (λ _ z. ok a z)) coll_beyond h

      module _ (b : Expr) (more : List Token) (found : d.beyond p e k a rest ≡ ok b more) (r : Sym) (also : r ≡ closer k) where
        pub coll_close : d.in_coll p e k ts ≡ after (mark r more) (λ _ z. ok b z)
        coll_close = coll_beyond ∙ rw found (ap (λ (q : Sym). after {B = Expr} (mark q more) (λ _ z. ok b z)) (sym also))

-- ---- what is left is a rest

pub rests_whole : (N n : ℕ) (ts : List Token) → Rests ts (d.reads N n whole ts)
rests_whole N n ts = (same_reads N N n whole).rests ts

pub rests_field : (N n : ℕ) (ts : List Token) → Rests ts (d.field N (d.reads N n whole) ts)
rests_field N n ts = (keeps_field Each N N (d.reads N n whole) (d.reads N n whole) (same_reads N N n whole)).rests ts

pub rests_qual : (N n : ℕ) (ts : List Token) → Rests ts (d.qualifier (d.read_pat N n) (d.reads N n whole) ts)
rests_qual N n ts = (same_qual N N n (same_reads N N n whole)).rests ts

pub rests_branch : (N n : ℕ) (ts : List Token) → Rests ts (d.branch_at N n ts)
rests_branch N n ts = (same_branch N N n (same_reads N N n whole)).rests ts
