-- What the descent answers rests on no token behind the first of the rest, nor on the depth, unless it is too small.
use Rattle.std.proofs.Common.{◌≡◌, ℕ, zero, suc, ◌≤◌, Bool, true, false, IsTrue, List, [], ◌∷◌, Some, None as Nil, refl, ap, ◌∙◌, arith}
use Rattle.kl_lex.specs.declared.token.Sym.{Sym}
use Rattle.kl_lex.specs.declared.token.Sym.TheVariants as sy
use Rattle.kl_lex.specs.declared.token.Token.{Token}
use Rattle.kl_value.specs.declared.value.Kind.{Kind}
use Rattle.kl_value.specs.declared.value.Kind.TheVariants as kind
use Rattle.kl_lex.specs.declared.keyword.Keyword.{Keyword}
use Rattle.kl_lex.specs.declared.keyword.Keyword.TheVariants as key
use Rattle.kl_parse.specs.declared.operator.Level.{Level}
use Rattle.kl_parse.specs.declared.operator.Level.TheVariants as level
use Rattle.kl_syntax.specs.declared.tree.Expr.{Expr}
use Rattle.kl_syntax.specs.declared.tree.Expr.TheVariants as expr
use Rattle.kl_syntax.specs.declared.tree.Qual.TheVariants as qual
use Rattle.kl_syntax.specs.declared.tree.Pattern.{Pattern}
use Rattle.kl_syntax.specs.declared.tree.Pattern.TheVariants as pattern
use Rattle.kl_syntax.specs.declared.tree.Tail.TheVariants as tail
use Rattle.kl_syntax.specs.declared.tree.Branch.{Branch}
use Rattle.kl_parse.specs.Lexemes.{word_of}
use Rattle.kl_parse.proofs.Plains.{plain_pat_before, plain_reads, plain_condition, plain_constant}
use Rattle.kl_parse.proofs.Reading.{apart_qual, apart_body, up_sort, leads_reads, up}
use Rattle.kl_lex.specs.Brackets.{opener, closer}
use Rattle.kl_phrase.specs.Depth.{opens}
use Rattle.kl_parse.specs.Grammar.{is_of, variant_of, shape_of, name_of, record_of, inject_of, gen_of, comp_of, case_of, path_of, chain_of, compare_of, let_of, if_of, branch_of, function_of, constant_of, decl_of, program_of, Sort, whole, negated, signed, added, Reads}
use Rattle.kl_parse.specs.Kinds.{among, is_symbol, a_symbol, a_key, a_label, a_name, a_constant, a_least, a_negative, an_op}
use Rattle.kl_parse.specs.Descent as d
use Rattle.kl_phrase.specs.Readers.{Why, bad, deep, Reader, made, both, behind, before}
use Rattle.kl_phrase.specs.Refusals.{worse}
use Rattle.kl_phrase.proofs.Kept.{Keeps, keeps_one, takes_one, keeps_nothing, keeps_made, keeps_both, keeps_behind, keeps_before, keeps_chain, keeps_numbered, keeps_pick, keeps_opened, keeps_opening, keeps_many, keeps_parted, takes_both, takes_behind, takes_made}
use Rattle.kl_phrase.proofs.Tails.{keeps_tailed}
use Rattle.kl_phrase.proofs.Commit.{Apart, keeps_followed, keeps_failing}
use Rattle.kl_phrase.proofs.Deciding.{Splits, keeps_opened_by, keeps_decide}
use Rattle.kl_phrase.proofs.Plain.{Plains, plain}
use Rattle.kl_phrase.proofs.Exact.{IsBad, Each}
use Rattle.kl_phrase.proofs.Theory.{no}

module _ (Q : Why → List Token → Type 0) (N M : ℕ) where
  keeps_mark : (s : Sym) → Keeps Q N M (d.mark s) (d.mark s)
  keeps_mark s = keeps_one (a_symbol s)

  keeps_key : (k : Keyword) → Keeps Q N M (d.word_mark k) (d.word_mark k)
  keeps_key k = keeps_one (a_key k)

  pub keeps_label : Keeps Q N M (d.label N) (d.label M)
  keeps_label = keeps_made word_of (keeps_numbered (keeps_one a_label))

  pub keeps_name : Keeps Q N M (d.name N) (d.name M)
  keeps_name = keeps_made word_of (keeps_numbered (keeps_one a_name))

  keeps_simple : Keeps Q N M (d.simple N) (d.simple M)
  unfolding d.simple
  keeps_simple =
      keeps_pick (keeps_made pattern.Bind (keeps_behind (keeps_mark sy.Bind) keeps_name))
      (keeps_pick (keeps_made (λ _. pattern.Any) (keeps_mark sy.Any))
      (keeps_pick (keeps_made is_of (keeps_numbered (keeps_behind (keeps_mark sy.Sub) (keeps_one a_negative))))
      (keeps_pick (keeps_made is_of (keeps_numbered (keeps_one a_constant))) (keeps_made pattern.Same keeps_name))))

  keeps_others : Keeps Q N M (d.others N) (d.others M)
  keeps_others = keeps_behind (keeps_mark sy.Dots) (keeps_pick (keeps_made tail.Rest (keeps_behind (keeps_mark sy.Bind) keeps_name)) (keeps_nothing tail.Open))

  module _ (p p' : Reader Token Pattern) (kp : Keeps Q N M p p') where
    pub keeps_pat_field : Keeps Q N M (d.pat_field N p) (d.pat_field M p')
    keeps_pat_field = keeps_both keeps_label (keeps_behind (keeps_mark sy.Eq) kp)

    keeps_shape : Keeps Q N M (d.shape N p) (d.shape M p')
    keeps_shape =
        keeps_pick (keeps_made shape_of (keeps_both keeps_pat_field (keeps_tailed (is_symbol sy.Comma) (is_symbol sy.Dots) (keeps_mark sy.Comma) (takes_one (a_symbol sy.Comma)) keeps_pat_field keeps_others)))
        (keeps_pick (keeps_made (pattern.Rec []) keeps_others) (keeps_nothing (pattern.Rec [] tail.Exact)))

    keeps_variant : Keeps Q N M (d.pat_variant N p) (d.pat_variant M p')
    keeps_variant = keeps_behind (keeps_mark sy.Lt) (keeps_before keeps_pat_field (keeps_mark sy.Gt))

keeps_pat_by : (w : Why) (Q : Why → List Token → Type 0) (N M : ℕ) (p p' : Reader Token Pattern) (may can : Bool) → (IsTrue may → Keeps Q N M p p') → (IsTrue may → IsTrue can) → ((r : List Token) → Q w r → may ≡ can) → Keeps Q N M (d.pat N p w may) (d.pat M p' w can)
unfolding d.pat
keeps_pat_by w Q N M p p' may can k i j = keeps_pick (keeps_opened_by w may can i j (λ h. keeps_made variant_of (keeps_variant Q N M p p' (k h)))) (keeps_pick (keeps_opened_by w may can i j (λ h. keeps_behind (keeps_mark Q N M sy.OpenRec) (keeps_before (keeps_shape Q N M p p' (k h)) (keeps_mark Q N M sy.CloseRec)))) (keeps_simple Q N M))

pub more_pat : (N M n k : ℕ) → n ≤ k → Keeps IsBad N M (d.read_pat N n) (d.read_pat M k)
unfolding d.pat_by
more_pat N M zero zero le = keeps_pat_by deep IsBad N M (d.never deep) (d.never deep) false false no (λ i. i) (λ r h. absurd h)
more_pat N M zero (suc k) le = keeps_pat_by deep IsBad N M (d.never deep) (d.read_pat M k) false true no (λ i. refl) (λ r h. absurd h)
more_pat N M (suc n) zero le = absurd (omega arith)
more_pat N M (suc n) (suc k) le = keeps_pat_by deep IsBad N M (d.read_pat N n) (d.read_pat M k) true true (λ i. more_pat N M n k (omega arith)) (λ i. i) (λ r h. absurd h)

-- at one depth all failures are kept
pub same_pat_by : (Q : Why → List Token → Type 0) (w : Why) (N M n : ℕ) → Keeps Q N M (d.pat_by N w n) (d.pat_by M w n)
unfolding d.pat_by
same_pat_by Q w N M zero = keeps_pat_by w Q N M (d.never w) (d.never w) false false no (λ i. i) (λ r h. refl)
same_pat_by Q w N M (suc n) = keeps_pat_by w Q N M (d.pat_by N w n) (d.pat_by M w n) true true (λ i. same_pat_by Q w N M n) (λ i. i) (λ r h. refl)

pub same_pat : (Q : Why → List Token → Type 0) (N M n : ℕ) → Keeps Q N M (d.read_pat N n) (d.read_pat M n)
same_pat Q N M n = same_pat_by Q deep N M n

-- ---- expressions

module _ (Q : Why → List Token → Type 0) (N M : ℕ) where
  module _ (e e' : Reader Token Expr) (ke : Keeps Q N M e e') where
    keeps_args : Keeps Q N M (d.in_args e) (d.in_args e')
    keeps_args = keeps_before (keeps_parted (is_symbol sy.Comma) (keeps_mark Q N M sy.Comma) (takes_one (a_symbol sy.Comma)) ke) (keeps_mark Q N M sy.ClosePar)

    keeps_group : Keeps Q N M (d.in_group e) (d.in_group e')
    keeps_group = keeps_before ke (keeps_mark Q N M sy.ClosePar)

    pub keeps_field : Keeps Q N M (d.field N e) (d.field M e')
    keeps_field = keeps_both (keeps_label Q N M) (keeps_behind (keeps_mark Q N M sy.Eq) ke)

    keeps_rec : (u u' : Reader Token Expr) → Keeps Q N M u u' → Keeps Q N M (d.in_rec N e u) (d.in_rec M e' u')
    keeps_rec u u' ku =
        keeps_before
        (keeps_pick (keeps_made record_of (keeps_both keeps_field (keeps_tailed (is_symbol sy.Comma) (is_symbol sy.Dots) (keeps_mark Q N M sy.Comma) (takes_one (a_symbol sy.Comma)) keeps_field (keeps_behind (keeps_mark Q N M sy.Dots) (keeps_pick keeps_failing ku))))) (keeps_nothing (expr.Rec [])))
        (keeps_mark Q N M sy.CloseRec)

    keeps_inject : Keeps Q N M (d.in_inject N e) (d.in_inject M e')
    keeps_inject = keeps_before keeps_field (keeps_mark Q N M sy.Gt)

    keeps_otherwise : Keeps Q N M (d.otherwise e) (d.otherwise e')
    keeps_otherwise = keeps_pick (keeps_made Some (keeps_behind (keeps_key Q N M key.Otherwise) ke)) (keeps_nothing Nil)

    keeps_if : Keeps Q N M (d.in_if e) (d.in_if e')
    keeps_if = keeps_both (keeps_before ke (keeps_key Q N M key.Then)) (keeps_both (keeps_before ke (keeps_key Q N M key.Else)) ke)

    keeps_case : (b b' : Reader Token Branch) → Keeps Q N M b b' → Keeps Q N M (d.in_case e b) (d.in_case e' b')
    keeps_case b b' kb = keeps_both (keeps_before ke (keeps_key Q N M key.Of)) (keeps_both (keeps_parted (is_symbol sy.Comma) (keeps_mark Q N M sy.Comma) (takes_one (a_symbol sy.Comma)) kb) (keeps_before keeps_otherwise (keeps_key Q N M key.End)))

    module _ (p p' : Reader Token Pattern) (kp : Keeps Q N M p p') (kq : Keeps Q N M (d.qualifier p e) (d.qualifier p' e')) where
      keeps_beyond : (k : Kind) (first : Expr) → Keeps Q N M (d.beyond p e k first) (d.beyond p' e' k first)
      keeps_beyond k first =
          keeps_pick (keeps_made (λ found. comp_of k (first, found)) (keeps_behind (keeps_mark Q N M sy.Bar) (keeps_parted (is_symbol sy.Comma) (keeps_mark Q N M sy.Comma) (takes_one (a_symbol sy.Comma)) kq)))
          (keeps_made (λ more. expr.Coll k (first ∷ more)) (keeps_many (keeps_behind (keeps_mark Q N M sy.Comma) ke) (takes_behind (takes_one (a_symbol sy.Comma)) ke)))

      keeps_coll : (k : Kind) → Keeps Q N M (d.coll p e k) (d.coll p' e' k)
      unfolding d.in_coll
      keeps_coll k = keeps_behind (keeps_mark Q N M (opener k)) (keeps_before (keeps_pick (keeps_nothing (expr.Coll k [])) (keeps_chain ke (keeps_beyond k))) (keeps_mark Q N M (closer k)))

      keeps_let : Keeps Q N M (d.in_let p e) (d.in_let p' e')
      keeps_let = keeps_both (keeps_before kp (keeps_mark Q N M sy.Equals)) (keeps_both (keeps_before ke (keeps_key Q N M key.In)) ke)

  keeps_named : (e e' : Reader Token Expr) (may can : Bool) → (IsTrue may → Keeps Q N M e e') → (IsTrue may → IsTrue can) → ((r : List Token) → Q deep r → may ≡ can) → Keeps Q N M (d.named N deep may e) (d.named M deep can e')
  unfolding d.named
  keeps_named e e' may can ke i j = keeps_made name_of (keeps_both (keeps_name Q N M) (keeps_opening i j (λ h. keeps_made Some (keeps_behind (keeps_mark Q N M sy.OpenPar) (keeps_args e e' (ke h)))) (keeps_nothing Nil)))

  pub keeps_labels : Keeps Q N M (d.labels N) (d.labels M)
  keeps_labels = keeps_many (keeps_behind (keeps_mark Q N M sy.Dot) (keeps_label Q N M)) (takes_behind (takes_one (a_symbol sy.Dot)) (keeps_label Q N M))

  keeps_chained : (l : Level) (p p' : Reader Token Expr) → Keeps Q N M p p' → Keeps Q N M (d.chained l p) (d.chained l p')
  keeps_chained l p p' k = keeps_made chain_of (keeps_both k (keeps_many (keeps_both (keeps_one (an_op l)) k) (takes_both (takes_one (an_op l)) k)))

  pub keeps_branch : (p p' : Reader Token Pattern) (e e' : Reader Token Expr) (may can : Bool) → (IsTrue may → Keeps Q N M p p') → Keeps Q N M e e' → (IsTrue may → IsTrue can) → ((r : List Token) → Q deep r → may ≡ can) → Keeps Q N M (d.branch N deep may p e) (d.branch M deep can p' e')
  unfolding d.branch
  keeps_branch p p' e e' may can kp ke i j = keeps_pick (keeps_opened may can i j (λ h. keeps_made branch_of (keeps_both (keeps_variant Q N M p p' (kp h)) (keeps_behind (keeps_mark Q N M sy.Arrow) ke)))) keeps_failing

  module _ (p p' : Reader Token Pattern) (e n u a e' n' u' a' : Reader Token Expr) (b b' : Reader Token Branch) (may can : Bool)
      (kp : IsTrue may → Keeps Q N M p p') (ke : IsTrue may → Keeps Q N M e e') (kn : IsTrue may → Keeps Q N M n n') (ku : IsTrue may → Keeps Q N M u u') (ka : IsTrue may → Keeps Q N M a a') (kb : IsTrue may → Keeps Q N M b b') (kq : IsTrue may → Keeps Q N M (d.qualifier p e) (d.qualifier p' e'))
      (i : IsTrue may → IsTrue can) (j : (r : List Token) → Q deep r → may ≡ can) where
    pub keeps_prim : Keeps Q N M (d.prim N deep may p e n u a b) (d.prim M deep can p' e' n' u' a' b')
    unfolding d.prim
    keeps_prim =
        keeps_pick (keeps_made expr.Const (keeps_one a_constant))
        (keeps_opening i j (λ h. keeps_behind (keeps_mark Q N M sy.OpenPar) (keeps_group e e' (ke h)))
        (keeps_opening i j (λ h. keeps_behind (keeps_mark Q N M sy.OpenRec) (keeps_rec e e' (ke h) u u' (ku h)))
        (keeps_opening i j (λ h. keeps_made inject_of (keeps_behind (keeps_mark Q N M sy.Lt) (keeps_inject a a' (ka h))))
        (keeps_opening i j (λ h. keeps_coll e e' (ke h) p p' (kp h) (kq h) kind.Set)
        (keeps_opening i j (λ h. keeps_coll e e' (ke h) p p' (kp h) (kq h) kind.Bag)
        (keeps_opening i j (λ h. keeps_coll e e' (ke h) p p' (kp h) (kq h) kind.List)
        (keeps_opening i j (λ h. keeps_made case_of (keeps_behind (keeps_key Q N M key.Case) (keeps_case e e' (ke h) b b' (kb h)))) (keeps_named e e' may can ke i j))))))))

    pub keeps_post : Keeps Q N M (d.post N deep may p e n u a b) (d.post M deep can p' e' n' u' a' b')
    unfolding d.post
    keeps_post = keeps_made path_of (keeps_both keeps_prim keeps_labels)

    keeps_un : Keeps Q N M (d.un N deep may p e n u a b) (d.un M deep can p' e' n' u' a' b')
    unfolding d.un
    keeps_un = keeps_pick (keeps_behind (keeps_mark Q N M sy.Sub) (keeps_pick (keeps_made expr.Const (keeps_one a_least)) (keeps_opened may can i j (λ h. keeps_made expr.Neg (ku h))))) keeps_post

    keeps_mul : Keeps Q N M (d.mul N deep may p e n u a b) (d.mul M deep can p' e' n' u' a' b')
    unfolding d.mul
    keeps_mul = keeps_chained level.Mul (d.un N deep may p e n u a b) (d.un M deep can p' e' n' u' a' b') keeps_un

    keeps_add : Keeps Q N M (d.add N deep may p e n u a b) (d.add M deep can p' e' n' u' a' b')
    unfolding d.add
    keeps_add = keeps_chained level.Add (d.mul N deep may p e n u a b) (d.mul M deep can p' e' n' u' a' b') keeps_mul

    keeps_compare : Keeps Q N M (d.compare N deep may p e n u a b) (d.compare M deep can p' e' n' u' a' b')
    unfolding d.compare
    keeps_compare = keeps_made compare_of (keeps_both keeps_add (keeps_pick (keeps_made Some (keeps_both (keeps_one (an_op level.Compare)) keeps_add)) (keeps_nothing Nil)))

    keeps_not : Keeps Q N M (d.negation N deep may p e n u a b) (d.negation M deep can p' e' n' u' a' b')
    unfolding d.negation
    keeps_not = keeps_opening i j (λ h. keeps_made expr.Not (keeps_behind (keeps_key Q N M key.Not) (kn h))) keeps_compare

    keeps_and : Keeps Q N M (d.and N deep may p e n u a b) (d.and M deep can p' e' n' u' a' b')
    unfolding d.and
    keeps_and = keeps_chained level.And (d.negation N deep may p e n u a b) (d.negation M deep can p' e' n' u' a' b') keeps_not

    keeps_ors : Keeps Q N M (d.ors N deep may p e n u a b) (d.ors M deep can p' e' n' u' a' b')
    unfolding d.ors
    keeps_ors = keeps_chained level.Or (d.and N deep may p e n u a b) (d.and M deep can p' e' n' u' a' b') keeps_and

    keeps_whole : Keeps Q N M (d.read_whole N deep may p e n u a b) (d.read_whole M deep can p' e' n' u' a' b')
    unfolding d.read_whole
    keeps_whole = keeps_opening i j (λ h. keeps_made let_of (keeps_behind (keeps_key Q N M key.Let) (keeps_let e e' (ke h) p p' (kp h) (kq h)))) (keeps_opening i j (λ h. keeps_made if_of (keeps_behind (keeps_key Q N M key.If) (keeps_if e e' (ke h)))) keeps_ors)

    pub keeps_operand : (l : Level) → Keeps Q N M (d.operand N deep may p e n u a b l) (d.operand M deep can p' e' n' u' a' b' l)
    keeps_operand level.Or = keeps_and
    keeps_operand level.And = keeps_not
    keeps_operand level.Compare = keeps_add
    keeps_operand level.Add = keeps_mul
    keeps_operand level.Mul = keeps_un

    keeps_sort : (s : Sort) → Keeps Q N M (d.of_sort N deep may p e n u a b s) (d.of_sort M deep can p' e' n' u' a' b' s)
    keeps_sort whole = keeps_whole
    keeps_sort negated = keeps_not
    keeps_sort signed = keeps_un
    keeps_sort added = keeps_add

-- ---- qualifiers and bodies

-- the descent reads no more than the plain readers
apart_deep : {A C : Type 0} {N : ℕ} {p q : Reader Token A} {e f : Reader Token C} → Plains p q → Plains e f → Apart N q f → Apart N p e
apart_deep {A} {C} {N} {p} {q} {e} {f} hp he apart n ts x y r s le ep ee = apart n ts x y r s le (hp.plains ts ∙ ap plain ep) (he.plains ts ∙ ap plain ee)

apart_quals : (M n : ℕ) → Apart M (d.drawn (d.read_pat M n)) (made qual.Cond (d.condition (d.reads M n whole)))
apart_quals M n = apart_deep (plain_pat_before deep M n sy.Draw) (plain_condition deep M (d.reads M n whole) (d.reads_by M bad n whole) (plain_reads deep M n whole)) (apart_qual M n (Reads n whole) (Reads (up n) whole) (d.reads_by M bad n whole) (leads_reads n whole) (up_sort M n whole))

apart_bodies : (M n : ℕ) → Apart M (d.parameter (d.read_pat M n)) (made constant_of (d.plain_body (d.reads M n whole)))
apart_bodies M n = apart_deep (plain_pat_before deep M n sy.Arrow) (plain_constant deep M (d.reads M n whole) (d.reads_by M bad n whole) (plain_reads deep M n whole)) (apart_body M n (Reads n whole) (Reads (up n) whole) (d.reads_by M bad n whole) (leads_reads n whole) (up_sort M n whole))

splits_bad : Splits {T = Token} IsBad
splits_bad = record { splits = λ w v r s z q. go w v r s z q }
  where
    go : (w v : Why) (r s z : List Token) → IsBad (worse w v) z → IsBad w r × IsBad v s
    go bad bad r s z q = (tt, tt)
    go bad deep r s z q = absurd q
    go deep v r s z q = absurd q

splits_each : Splits {T = Token} Each
splits_each = record { splits = λ w v r s z q. (tt, tt) }

module _ (Q : Why → List Token → Type 0) (sp : Splits Q) (N M n k : ℕ) (kp : Keeps Q N M (d.read_pat N n) (d.read_pat M k)) (ke : Keeps Q N M (d.reads N n whole) (d.reads M k whole)) where
  keeps_qual : Keeps Q N M (d.qualifier (d.read_pat N n) (d.reads N n whole)) (d.qualifier (d.read_pat M k) (d.reads M k whole))
  unfolding d.qualifier
  keeps_qual = keeps_decide sp gen_of (keeps_before kp (keeps_mark Q N M sy.Draw)) ke (keeps_made qual.Cond (keeps_followed (among d.after_qual) ke)) (apart_quals M k)

  keeps_body : Keeps Q N M (d.body (d.read_pat N n) (d.reads N n whole)) (d.body (d.read_pat M k) (d.reads M k whole))
  unfolding d.body
  keeps_body = keeps_decide sp function_of (keeps_before kp (keeps_mark Q N M sy.Arrow)) ke (keeps_made constant_of (keeps_followed (is_symbol sy.Semi) ke)) (apart_bodies M k)

pub more_qual : (N M n k : ℕ) → n ≤ k → Keeps IsBad N M (d.reads N n whole) (d.reads M k whole) → Keeps IsBad N M (d.qualifier (d.read_pat N n) (d.reads N n whole)) (d.qualifier (d.read_pat M k) (d.reads M k whole))
more_qual N M n k le ke = keeps_qual IsBad splits_bad N M n k (more_pat N M n k le) ke

pub same_qual : (N M n : ℕ) → Keeps Each N M (d.reads N n whole) (d.reads M n whole) → Keeps Each N M (d.qualifier (d.read_pat N n) (d.reads N n whole)) (d.qualifier (d.read_pat M n) (d.reads M n whole))
same_qual N M n ke = keeps_qual Each splits_each N M n n (same_pat Each N M n) ke

more_body : (N M n k : ℕ) → n ≤ k → Keeps IsBad N M (d.reads N n whole) (d.reads M k whole) → Keeps IsBad N M (d.body (d.read_pat N n) (d.reads N n whole)) (d.body (d.read_pat M k) (d.reads M k whole))
more_body N M n k le ke = keeps_body IsBad splits_bad N M n k (more_pat N M n k le) ke

pub same_body : (N M n : ℕ) → Keeps Each N M (d.reads N n whole) (d.reads M n whole) → Keeps Each N M (d.body (d.read_pat N n) (d.reads N n whole)) (d.body (d.read_pat M n) (d.reads M n whole))
same_body N M n ke = keeps_body Each splits_each N M n n (same_pat Each N M n) ke

-- ---- nested at most so deep

more_inside : (N M n k : ℕ) → n ≤ k → IsTrue (opens n) → Keeps IsBad N M (d.pat_inside N n) (d.pat_inside M k)
more_inside N M zero k le i = no i
more_inside N M (suc n) zero le i = absurd (omega arith)
more_inside N M (suc n) (suc k) le i = more_pat N M n k (omega arith)

opens_more : (n k : ℕ) → n ≤ k → IsTrue (opens n) → IsTrue (opens k)
opens_more zero k le i = no i
opens_more (suc n) zero le i = absurd (omega arith)
opens_more (suc n) (suc k) le i = refl

more_branch : (N M n k : ℕ) → n ≤ k → Keeps IsBad N M (d.reads N n whole) (d.reads M k whole) → Keeps IsBad N M (d.branch_at N n) (d.branch_at M k)
more_branch N M n k le ke = keeps_branch IsBad N M (d.pat_inside N n) (d.pat_inside M k) (d.reads N n whole) (d.reads M k whole) (opens n) (opens k) (more_inside N M n k le) ke (opens_more n k le) (λ r h. absurd h)

more_some : (N M n k : ℕ) → n ≤ k → ((s : Sort) → Keeps IsBad N M (d.reads N n s) (d.reads M k s)) → (s : Sort) → Keeps IsBad N M (d.of_sort N deep true (d.read_pat N n) (d.reads N n whole) (d.reads N n negated) (d.reads N n signed) (d.reads N n added) (d.branch_at N n) s) (d.of_sort M deep true (d.read_pat M k) (d.reads M k whole) (d.reads M k negated) (d.reads M k signed) (d.reads M k added) (d.branch_at M k) s)
more_some N M n k le h s = keeps_sort IsBad N M (d.read_pat N n) (d.read_pat M k) (d.reads N n whole) (d.reads N n negated) (d.reads N n signed) (d.reads N n added) (d.reads M k whole) (d.reads M k negated) (d.reads M k signed) (d.reads M k added) (d.branch_at N n) (d.branch_at M k) true true (λ i. more_pat N M n k le) (λ i. h whole) (λ i. h negated) (λ i. h signed) (λ i. h added) (λ i. more_branch N M n k le (h whole)) (λ i. more_qual N M n k le (h whole)) (λ i. i) (λ r q. absurd q) s

pub more_reads : (N M n k : ℕ) → n ≤ k → (s : Sort) → Keeps IsBad N M (d.reads N n s) (d.reads M k s)
unfolding d.reads_by
more_reads N M zero zero le s = keeps_sort IsBad N M (d.never deep) (d.never deep) (d.never deep) (d.never deep) (d.never deep) (d.never deep) (d.never deep) (d.never deep) (d.never deep) (d.never deep) (d.never deep) (d.never deep) false false no no no no no no no (λ i. i) (λ r q. absurd q) s
more_reads N M zero (suc k) le s = keeps_sort IsBad N M (d.never deep) (d.read_pat M k) (d.never deep) (d.never deep) (d.never deep) (d.never deep) (d.reads M k whole) (d.reads M k negated) (d.reads M k signed) (d.reads M k added) (d.never deep) (d.branch_at M k) false true no no no no no no no no (λ r q. absurd q) s
more_reads N M (suc n) zero le s = absurd (omega arith)
more_reads N M (suc n) (suc k) le s = more_some N M n k (omega arith) (more_reads N M n k (omega arith)) s

same_inside : (Q : Why → List Token → Type 0) (N M n : ℕ) → IsTrue (opens n) → Keeps Q N M (d.pat_inside N n) (d.pat_inside M n)
same_inside Q N M zero i = no i
same_inside Q N M (suc n) i = same_pat Q N M n

pub same_branch : (N M n : ℕ) → Keeps Each N M (d.reads N n whole) (d.reads M n whole) → Keeps Each N M (d.branch_at N n) (d.branch_at M n)
same_branch N M n ke = keeps_branch Each N M (d.pat_inside N n) (d.pat_inside M n) (d.reads N n whole) (d.reads M n whole) (opens n) (opens n) (same_inside Each N M n) ke (λ i. i) (λ r h. refl)

same_some : (N M n : ℕ) → ((s : Sort) → Keeps Each N M (d.reads N n s) (d.reads M n s)) → (s : Sort) → Keeps Each N M (d.of_sort N deep true (d.read_pat N n) (d.reads N n whole) (d.reads N n negated) (d.reads N n signed) (d.reads N n added) (d.branch_at N n) s) (d.of_sort M deep true (d.read_pat M n) (d.reads M n whole) (d.reads M n negated) (d.reads M n signed) (d.reads M n added) (d.branch_at M n) s)
same_some N M n h s = keeps_sort Each N M (d.read_pat N n) (d.read_pat M n) (d.reads N n whole) (d.reads N n negated) (d.reads N n signed) (d.reads N n added) (d.reads M n whole) (d.reads M n negated) (d.reads M n signed) (d.reads M n added) (d.branch_at N n) (d.branch_at M n) true true (λ i. same_pat Each N M n) (λ i. h whole) (λ i. h negated) (λ i. h signed) (λ i. h added) (λ i. same_branch N M n (h whole)) (λ i. same_qual N M n (h whole)) (λ i. i) (λ r q. refl) s

pub same_reads : (N M n : ℕ) (s : Sort) → Keeps Each N M (d.reads N n s) (d.reads M n s)
unfolding d.reads_by
same_reads N M zero s = keeps_sort Each N M (d.never deep) (d.never deep) (d.never deep) (d.never deep) (d.never deep) (d.never deep) (d.never deep) (d.never deep) (d.never deep) (d.never deep) (d.never deep) (d.never deep) false false no no no no no no no (λ i. i) (λ r q. refl) s
same_reads N M (suc n) s = same_some N M n (same_reads N M n) s

-- ---- programs

module _ (Q : Why → List Token → Type 0) (N M n k : ℕ) (ke : Keeps Q N M (d.reads N n whole) (d.reads M k whole)) (kb : Keeps Q N M (d.body (d.read_pat N n) (d.reads N n whole)) (d.body (d.read_pat M k) (d.reads M k whole))) where
  pub keeps_rest : Keeps Q N M (both (d.name N) (behind (d.mark sy.Equals) (before (d.body (d.read_pat N n) (d.reads N n whole)) (d.mark sy.Semi)))) (both (d.name M) (behind (d.mark sy.Equals) (before (d.body (d.read_pat M k) (d.reads M k whole)) (d.mark sy.Semi))))
  keeps_rest = keeps_both (keeps_name Q N M) (keeps_behind (keeps_mark Q N M sy.Equals) (keeps_before kb (keeps_mark Q N M sy.Semi)))

  keeps_program : Keeps Q N M (d.program N n) (d.program M k)
  unfolding d.read_program
  keeps_program =
      keeps_made program_of (keeps_both (keeps_many (keeps_made decl_of (keeps_behind (keeps_key Q N M key.Define) keeps_rest)) (takes_made (behind (d.word_mark key.Define) (both (d.name N) (behind (d.mark sy.Equals) (before (d.body (d.read_pat N n) (d.reads N n whole)) (d.mark sy.Semi))))) decl_of (takes_behind (takes_one (a_key key.Define)) keeps_rest))) (keeps_before ke (keeps_mark Q N M sy.Semi)))

pub more_program : (N M n k : ℕ) → n ≤ k → Keeps IsBad N M (d.program N n) (d.program M k)
more_program N M n k le = keeps_program IsBad N M n k (more_reads N M n k le whole) (more_body N M n k le (more_reads N M n k le whole))

pub same_program : (N M n : ℕ) → Keeps Each N M (d.program N n) (d.program M n)
same_program N M n = keeps_program Each N M n n (same_reads N M n whole) (same_body N M n (same_reads N M n whole))
