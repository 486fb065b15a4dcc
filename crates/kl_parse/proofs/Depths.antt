-- What nests too deep stands behind as many tokens as may nest in one another.
use Rattle.std.proofs.Common.{ℕ, zero, suc, Bool, true, false, IsTrue, [], ◌∷◌, Some, None, refl, sym, subst, ◌∙◌, ◌≡◌}
use Rattle.kl_lex.specs.declared.token.Sym.{Sym}
use Rattle.kl_lex.specs.declared.token.Sym.TheVariants as sy
use Rattle.kl_lex.specs.declared.token.Token.{Token}
use Rattle.kl_lex.specs.declared.keyword.Keyword.{Keyword}
use Rattle.kl_lex.specs.declared.keyword.Keyword.TheVariants as key
use Rattle.kl_value.specs.declared.value.Kind.{Kind}
use Rattle.kl_value.specs.declared.value.Kind.TheVariants as kind
use Rattle.kl_parse.specs.declared.operator.Level.{Level}
use Rattle.kl_parse.specs.declared.operator.Level.TheVariants as level
use Rattle.kl_syntax.specs.declared.tree.Pattern.{Pattern}
use Rattle.kl_syntax.specs.declared.tree.Pattern.TheVariants as pattern
use Rattle.kl_syntax.specs.declared.tree.Tail.TheVariants as tail
use Rattle.kl_syntax.specs.declared.tree.Expr.{Expr}
use Rattle.kl_syntax.specs.declared.tree.Expr.TheVariants as expr
use Rattle.kl_syntax.specs.declared.tree.Qual.TheVariants as qual
use Rattle.kl_syntax.specs.declared.tree.Branch.{Branch}
use Rattle.kl_lex.specs.Brackets.{opener, closer}
use Rattle.kl_phrase.specs.Depth.{opens}
use Rattle.kl_parse.specs.Lexemes.{word_of}
use Rattle.kl_parse.specs.Grammar.{is_of, variant_of, shape_of, name_of, record_of, inject_of, gen_of, comp_of, case_of, path_of, chain_of, compare_of, let_of, if_of, branch_of, function_of, constant_of, decl_of, program_of, Sort, whole, negated, signed, added}
use Rattle.kl_parse.specs.Kinds.{among, is_symbol, a_symbol, a_key, a_label, a_name, a_constant, a_least, a_negative, an_op, big_kinds}
use Rattle.kl_parse.specs.Descent as d
use Rattle.kl_phrase.specs.Readers.{deep, Reader, made, both, behind, pick}
use Rattle.kl_phrase.specs.Refusals.{opened_by}
use Rattle.kl_phrase.proofs.Theory.{no}
use Rattle.kl_phrase.proofs.Deepening.{Deepens, deepens_one, deepens_nothing, deepens_numbered, deepens_chain, deepens_made, deepens_both, deepens_behind, deepens_before, deepens_past, deepens_pick, deepens_failing, deepens_opened, deepens_many, deepens_parted, deepens_tailed, deepens_followed, deepens_decide}

module _ (N n : ℕ) where
  mark : (s : Sym) → Deepens n (d.mark s)
  mark s = deepens_one (a_symbol s)

  word_mark : (k : Keyword) → Deepens n (d.word_mark k)
  word_mark k = deepens_one (a_key k)

  label : Deepens n (d.label N)
  label = deepens_made word_of (deepens_numbered N (deepens_one a_label))

  name : Deepens n (d.name N)
  name = deepens_made word_of (deepens_numbered N (deepens_one a_name))

  labels : Deepens n (d.labels N)
  labels = deepens_many (deepens_behind (mark sy.Dot) label)

  simple : Deepens n (d.simple N)
  unfolding d.simple
  simple =
      deepens_pick (deepens_made pattern.Bind (deepens_behind (mark sy.Bind) name))
      (deepens_pick (deepens_made (λ _. pattern.Any) (mark sy.Any))
      (deepens_pick (deepens_made is_of (deepens_numbered N (deepens_behind (mark sy.Sub) (deepens_one a_negative))))
      (deepens_pick (deepens_made is_of (deepens_numbered N (deepens_one a_constant))) (deepens_made pattern.Same name))))

  others : Deepens n (d.others N)
  others = deepens_behind (mark sy.Dots) (deepens_pick (deepens_made tail.Rest (deepens_behind (mark sy.Bind) name)) (deepens_nothing tail.Open))

  module _ (p : Reader Token Pattern) (h : Deepens n p) where
    pat_field : Deepens n (d.pat_field N p)
    pat_field = deepens_both label (deepens_behind (mark sy.Eq) h)

    in_shape : Deepens n (d.in_shape N p)
    in_shape = deepens_before (deepens_pick (deepens_made shape_of (deepens_both pat_field (deepens_tailed (is_symbol sy.Comma) (is_symbol sy.Dots) (mark sy.Comma) pat_field others))) (deepens_pick (deepens_made (pattern.Rec []) others) (deepens_nothing (pattern.Rec [] tail.Exact)))) (mark sy.CloseRec)

    in_variant : Deepens n (d.in_variant N p)
    in_variant = deepens_before pat_field (mark sy.Gt)

  chained : (l : Level) {p : Reader Token Expr} → Deepens n p → Deepens n (d.chained l p)
  chained l h = deepens_made chain_of (deepens_both h (deepens_many (deepens_both (deepens_one (an_op l)) h)))

  module _ (e : Reader Token Expr) (he : Deepens n e) where
    exprs : Deepens n (d.exprs e)
    exprs = deepens_parted (is_symbol sy.Comma) (mark sy.Comma) he

    in_args : Deepens n (d.in_args e)
    in_args = deepens_before exprs (mark sy.ClosePar)

    in_group : Deepens n (d.in_group e)
    in_group = deepens_before he (mark sy.ClosePar)

    expr_before : (k : Keyword) → Deepens n (d.expr_before e k)
    expr_before k = deepens_before he (word_mark k)

    field : Deepens n (d.field N e)
    field = deepens_both label (deepens_behind (mark sy.Eq) he)

    in_rec : (u : Reader Token Expr) → Deepens n u → Deepens n (d.in_rec N e u)
    in_rec u hu = deepens_before (deepens_pick (deepens_made record_of (deepens_both field (deepens_tailed (is_symbol sy.Comma) (is_symbol sy.Dots) (mark sy.Comma) field (deepens_behind (mark sy.Dots) (deepens_pick deepens_failing hu))))) (deepens_nothing (expr.Rec []))) (mark sy.CloseRec)

    in_inject : Deepens n (d.in_inject N e)
    in_inject = deepens_before field (mark sy.Gt)

    in_if : Deepens n (d.in_if e)
    in_if = deepens_both (expr_before key.Then) (deepens_both (expr_before key.Else) he)

    in_case : (b : Reader Token Branch) → Deepens n b → Deepens n (d.in_case e b)
    in_case b hb = deepens_both (expr_before key.Of) (deepens_both (deepens_parted (is_symbol sy.Comma) (mark sy.Comma) hb) (deepens_before (deepens_pick (deepens_made Some (deepens_behind (word_mark key.Otherwise) he)) (deepens_nothing None)) (word_mark key.End)))

    module _ (p : Reader Token Pattern) (hp : Deepens n p) where
      qualifier : Deepens n (d.qualifier p e)
      unfolding d.qualifier
      qualifier = deepens_decide gen_of (deepens_before hp (mark sy.Draw)) he (deepens_made qual.Cond (deepens_followed (among d.after_qual) he))

      pub deep_body : Deepens n (d.body p e)
      unfolding d.body
      deep_body = deepens_decide function_of (deepens_before hp (mark sy.Arrow)) he (deepens_made constant_of (deepens_followed (is_symbol sy.Semi) he))

      beyond : (k : Kind) (first : Expr) → Deepens n (d.beyond p e k first)
      beyond k first = deepens_pick (deepens_made (λ found. comp_of k (first, found)) (deepens_behind (mark sy.Bar) (deepens_parted (is_symbol sy.Comma) (mark sy.Comma) qualifier))) (deepens_made (λ more. expr.Coll k (first ∷ more)) (deepens_many (deepens_behind (mark sy.Comma) he)))

      in_coll : (k : Kind) → Deepens n (d.in_coll p e k)
      unfolding d.in_coll
      in_coll k = deepens_before (deepens_pick (deepens_nothing (expr.Coll k [])) (deepens_chain he (beyond k))) (mark (closer k))

      in_let : Deepens n (d.in_let p e)
      in_let = deepens_both (deepens_before hp (mark sy.Equals)) (deepens_both (expr_before key.In) he)

-- what stands in brackets, m deep, stands one deeper with them
module _ (N m : ℕ) where
  step : {A : Type 0} (s : Sym) {p : Reader Token A} → Deepens m p → Deepens (suc m) (behind (d.mark s) p)
  step s h = deepens_past (a_symbol s) h

  step_key : {A : Type 0} (k : Keyword) {p : Reader Token A} → Deepens m p → Deepens (suc m) (behind (d.word_mark k) p)
  step_key k h = deepens_past (a_key k) h

-- the readers of one depth: n where nesting may go on, m inside
module _ (N n : ℕ) (may : Bool) (m : ℕ) (shut : may ≡ false → n ≡ 0) (is : IsTrue may → n ≡ suc m) where
  behind_at : {A : Type 0} (s : Sym) {p : Reader Token A} → IsTrue may → Deepens m p → Deepens n (behind (d.mark s) p)
  behind_at {A} s {p} i h = subst (λ k. Deepens k (behind (d.mark s) p)) (sym (is i)) (step N m s h)

  behind_key : {A : Type 0} (k : Keyword) {p : Reader Token A} → IsTrue may → Deepens m p → Deepens n (behind (d.word_mark k) p)
  behind_key {A} k {p} i h = subst (λ j. Deepens j (behind (d.word_mark k) p)) (sym (is i)) (step_key N m k h)

  pat : (p : Reader Token Pattern) → (IsTrue may → Deepens m p) → Deepens n (d.pat N p deep may)
  unfolding d.pat
  pat p h = deepens_pick (deepens_opened may {p = made variant_of (d.pat_variant N p)} (λ i. deepens_made variant_of (behind_at sy.Lt i (in_variant N m p (h i)))) shut) (deepens_pick (deepens_opened may {p = behind (d.mark sy.OpenRec) (d.in_shape N p)} (λ i. behind_at sy.OpenRec i (in_shape N m p (h i))) shut) (simple N n))

  named : (e : Reader Token Expr) → (IsTrue may → Deepens m e) → Deepens n (d.named N deep may e)
  unfolding d.named
  named e he = deepens_made name_of (deepens_both (name N n) (deepens_pick (deepens_opened may {p = made Some (behind (d.mark sy.OpenPar) (d.in_args e))} (λ i. deepens_made Some (behind_at sy.OpenPar i (in_args N m e (he i)))) shut) (deepens_nothing None)))

  module _ (p : Reader Token Pattern) (e x u a : Reader Token Expr) (b : Reader Token Branch) (hp : IsTrue may → Deepens m p) (he : IsTrue may → Deepens m e) (hx : IsTrue may → Deepens m x) (hu : IsTrue may → Deepens m u) (ha : IsTrue may → Deepens m a) (hb : IsTrue may → Deepens m b) where
    coll : (k : Kind) → Deepens n (opened_by deep may (d.coll p e k))
    coll k = deepens_opened may {p = d.coll p e k} (λ i. behind_at (opener k) i (in_coll N m e (he i) p (hp i) k)) shut

    prim : Deepens n (d.prim N deep may p e x u a b)
    unfolding d.prim
    prim =
        deepens_pick (deepens_made expr.Const (deepens_one a_constant))
        (deepens_pick (deepens_opened may {p = behind (d.mark sy.OpenPar) (d.in_group e)} (λ i. behind_at sy.OpenPar i (in_group N m e (he i))) shut)
        (deepens_pick (deepens_opened may {p = behind (d.mark sy.OpenRec) (d.in_rec N e u)} (λ i. behind_at sy.OpenRec i (in_rec N m e (he i) u (hu i))) shut)
        (deepens_pick (deepens_opened may {p = made inject_of (behind (d.mark sy.Lt) (d.in_inject N a))} (λ i. deepens_made inject_of (behind_at sy.Lt i (in_inject N m a (ha i)))) shut)
        (deepens_pick (coll kind.Set)
        (deepens_pick (coll kind.Bag)
        (deepens_pick (coll kind.List)
        (deepens_pick (deepens_opened may {p = made case_of (behind (d.word_mark key.Case) (d.in_case e b))} (λ i. deepens_made case_of (behind_key key.Case i (in_case N m e (he i) b (hb i)))) shut) (named e he))))))))

    post : Deepens n (d.post N deep may p e x u a b)
    unfolding d.post
    post = deepens_made path_of (deepens_both prim (labels N n))

    -- behind the minus as many stand as before it, and the minus
    minus : Deepens n (behind (d.mark sy.Sub) (pick (among big_kinds) d.least_at (opened_by deep may (made expr.Neg u))))
    minus = by may refl
      where
        by : (c : Bool) → may ≡ c → Deepens n (behind (d.mark sy.Sub) (pick (among big_kinds) d.least_at (opened_by deep may (made expr.Neg u))))
        by true z = behind_at sy.Sub z (deepens_pick (deepens_made expr.Const (deepens_one a_least)) (deepens_opened may {p = made expr.Neg u} (λ i. deepens_made expr.Neg (hu i)) (λ f. absurd (let k : true ≡ false = sym z ∙ f in cc))))
        by false z = deepens_behind (mark N n sy.Sub) (deepens_pick (deepens_made expr.Const (deepens_one a_least)) (deepens_opened may {p = made expr.Neg u} (λ i. absurd (let k : true ≡ false = sym i ∙ z in cc)) shut))

    un : Deepens n (d.un N deep may p e x u a b)
    unfolding d.un
    un = deepens_pick minus post

    mul : Deepens n (d.mul N deep may p e x u a b)
    unfolding d.mul
    mul = chained N n level.Mul un

    add : Deepens n (d.add N deep may p e x u a b)
    unfolding d.add
    add = chained N n level.Add mul

    compare : Deepens n (d.compare N deep may p e x u a b)
    unfolding d.compare
    compare = deepens_made compare_of (deepens_both add (deepens_pick (deepens_made Some (deepens_both (deepens_one (an_op level.Compare)) add)) (deepens_nothing None)))

    negation : Deepens n (d.negation N deep may p e x u a b)
    unfolding d.negation
    negation = deepens_pick (deepens_opened may {p = made expr.Not (behind (d.word_mark key.Not) x)} (λ i. deepens_made expr.Not (behind_key key.Not i (hx i))) shut) compare

    conjunction : Deepens n (d.and N deep may p e x u a b)
    unfolding d.and
    conjunction = chained N n level.And negation

    ors : Deepens n (d.ors N deep may p e x u a b)
    unfolding d.ors
    ors = chained N n level.Or conjunction

    read_whole : Deepens n (d.read_whole N deep may p e x u a b)
    unfolding d.read_whole
    read_whole = deepens_pick (deepens_opened may {p = made let_of (behind (d.word_mark key.Let) (d.in_let p e))} (λ i. deepens_made let_of (behind_key key.Let i (in_let N m e (he i) p (hp i)))) shut) (deepens_pick (deepens_opened may {p = made if_of (behind (d.word_mark key.If) (d.in_if e))} (λ i. deepens_made if_of (behind_key key.If i (in_if N m e (he i)))) shut) ors)

    of_sort : (s : Sort) → Deepens n (d.of_sort N deep may p e x u a b s)
    of_sort whole = read_whole
    of_sort negated = negation
    of_sort signed = un
    of_sort added = add

never_suc : true ≡ false → {A : Type 0} → A
never_suc e = absurd cc

pub deep_pat : (N n : ℕ) → Deepens n (d.read_pat N n)
unfolding d.pat_by
deep_pat N zero = pat N 0 false 0 (λ e. refl) no (d.never deep) no
deep_pat N (suc n) = pat N (suc n) true n (λ e. never_suc e) (λ i. refl) (d.read_pat N n) (λ i. deep_pat N n)

-- a branch nests one deeper in its brackets than behind its arrow
deep_branch : (N n : ℕ) (e : Reader Token Expr) → Deepens n e → Deepens n (d.branch N deep (opens n) (d.pat_inside N n) e)
unfolding d.branch
deep_branch N zero e he = deepens_pick (deepens_opened false {p = made branch_of (both (d.pat_variant N (d.never deep)) (behind (d.mark sy.Arrow) e))} no (λ z. refl)) deepens_failing
deep_branch N (suc n) e he = deepens_pick (deepens_opened true (λ i. deepens_made branch_of (deepens_both (step N n sy.Lt (in_variant N n (d.read_pat N n) (deep_pat N n))) (deepens_behind (mark N (suc n) sy.Arrow) he))) (λ z. never_suc z)) deepens_failing

pub deep_reads : (N n : ℕ) (s : Sort) → Deepens n (d.reads N n s)
unfolding d.reads_by
deep_reads N zero s = of_sort N 0 false 0 (λ e. refl) no (d.never deep) (d.never deep) (d.never deep) (d.never deep) (d.never deep) (d.never deep) no no no no no no s
deep_reads N (suc n) s = of_sort N (suc n) true n (λ e. never_suc e) (λ i. refl) (d.read_pat N n) (d.reads N n whole) (d.reads N n negated) (d.reads N n signed) (d.reads N n added) (d.branch N deep (opens n) (d.pat_inside N n) (d.reads N n whole)) (λ i. deep_pat N n) (λ i. deep_reads N n whole) (λ i. deep_reads N n negated) (λ i. deep_reads N n signed) (λ i. deep_reads N n added) (λ i. deep_branch N n (d.reads N n whole) (deep_reads N n whole)) s

pub deep_program : (N n : ℕ) → Deepens n (d.program N n)
unfolding d.read_program
deep_program N n = deepens_made program_of (deepens_both (deepens_many (deepens_made decl_of (deepens_behind (word_mark N n key.Define) (deepens_both (name N n) (deepens_behind (mark N n sy.Equals) (deepens_before (deep_body N n (d.reads N n whole) (deep_reads N n whole) (d.read_pat N n) (deep_pat N n)) (mark N n sy.Semi))))))) (deepens_before (deep_reads N n whole) (mark N n sy.Semi)))
