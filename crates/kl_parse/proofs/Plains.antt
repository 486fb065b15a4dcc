-- Beside each reader of the descent goes a plain one, which answers the same, but no failure of depth.
use Rattle.std.proofs.Common.{ℕ, zero, suc, Bool, true, false, List, [], ◌∷◌, Some, None}
use Rattle.kl_lex.specs.declared.token.Sym.{Sym}
use Rattle.kl_lex.specs.declared.token.Sym.TheVariants as sy
use Rattle.kl_lex.specs.declared.token.Token.{Token}
use Rattle.kl_lex.specs.declared.keyword.Keyword.{Keyword}
use Rattle.kl_lex.specs.declared.keyword.Keyword.TheVariants as key
use Rattle.kl_value.specs.declared.value.Kind.{Kind}
use Rattle.kl_value.specs.declared.value.Kind.TheVariants as kind
use Rattle.kl_parse.specs.declared.operator.Level.{Level}
use Rattle.kl_parse.specs.declared.operator.Level.TheVariants as level
use Rattle.kl_syntax.specs.declared.tree.Pattern.{Pattern}
use Rattle.kl_syntax.specs.declared.tree.Pattern.TheVariants as pattern
use Rattle.kl_syntax.specs.declared.tree.Tail.TheVariants as tail
use Rattle.kl_syntax.specs.declared.tree.Expr.{Expr}
use Rattle.kl_syntax.specs.declared.tree.Expr.TheVariants as expr
use Rattle.kl_syntax.specs.declared.tree.Qual.TheVariants as qual
use Rattle.kl_syntax.specs.declared.tree.Branch.{Branch}
use Rattle.kl_lex.specs.Brackets.{opener, closer}
use Rattle.kl_phrase.specs.Depth.{opens}
use Rattle.kl_parse.specs.Lexemes.{word_of}
use Rattle.kl_parse.specs.Grammar.{is_of, variant_of, shape_of, name_of, record_of, inject_of, gen_of, comp_of, case_of, path_of, chain_of, compare_of, let_of, if_of, branch_of, misses, left_out, function_of, constant_of, decl_of, program_of, Sort, whole, negated, signed, added}
use Rattle.kl_parse.specs.Kinds.{among, is_symbol, a_symbol, a_key, a_label, a_name, a_constant, a_least, a_negative, an_op}
use Rattle.kl_parse.specs.Descent as d
use Rattle.kl_phrase.specs.Readers.{Why, bad, Reader, made}
use Rattle.kl_phrase.specs.Refusals.{may_miss}
use Rattle.kl_phrase.proofs.Plain.{Plains, plain_one, plain_nothing, plain_numbered, plain_chain, plain_made, plain_both, plain_behind, plain_before, plain_pick, plain_choose, plain_failing, plain_opened_by, plain_many, plain_parted, plain_tailed, plain_followed, plain_decide}

module _ (v : Why) (N : ℕ) where
  mark : (s : Sym) → Plains (d.mark s) (d.mark s)
  mark s = plain_one (a_symbol s)

  word_mark : (k : Keyword) → Plains (d.word_mark k) (d.word_mark k)
  word_mark k = plain_one (a_key k)

  label : Plains (d.label N) (d.label N)
  label = plain_made word_of (plain_numbered N (plain_one a_label))

  name : Plains (d.name N) (d.name N)
  name = plain_made word_of (plain_numbered N (plain_one a_name))

  labels : Plains (d.labels N) (d.labels N)
  labels = plain_many (plain_behind (mark sy.Dot) label)

  simple : Plains (d.simple N) (d.simple N)
  unfolding d.simple
  simple =
      plain_pick (plain_made pattern.Bind (plain_behind (mark sy.Bind) name))
      (plain_pick (plain_made (λ _. pattern.Any) (mark sy.Any))
      (plain_pick (plain_made is_of (plain_numbered N (plain_behind (mark sy.Sub) (plain_one a_negative))))
      (plain_pick (plain_made is_of (plain_numbered N (plain_one a_constant))) (plain_made pattern.Same name))))

  others : Plains (d.others N) (d.others N)
  others = plain_behind (mark sy.Dots) (plain_pick (plain_made tail.Rest (plain_behind (mark sy.Bind) name)) (plain_nothing tail.Open))

  module _ (p q : Reader Token Pattern) (h : Plains p q) where
    pat_field : Plains (d.pat_field N p) (d.pat_field N q)
    pat_field = plain_both label (plain_behind (mark sy.Eq) h)

    in_shape : Plains (d.in_shape N p) (d.in_shape N q)
    in_shape = plain_before (plain_pick (plain_made shape_of (plain_both pat_field (plain_tailed (is_symbol sy.Comma) (is_symbol sy.Dots) (mark sy.Comma) pat_field others))) (plain_pick (plain_made (pattern.Rec []) others) (plain_nothing (pattern.Rec [] tail.Exact)))) (mark sy.CloseRec)

    pat_variant : Plains (d.pat_variant N p) (d.pat_variant N q)
    pat_variant = plain_behind (mark sy.Lt) (plain_before pat_field (mark sy.Gt))

    pat : (may : Bool) → Plains (d.pat N p v may) (d.pat N q bad may)
    unfolding d.pat
    pat may = plain_pick (plain_opened_by v may (plain_made variant_of pat_variant)) (plain_pick (plain_opened_by v may (plain_behind (mark sy.OpenRec) in_shape)) simple)

  pub plain_pat : (n : ℕ) → Plains (d.pat_by N v n) (d.pat_by N bad n)
  unfolding d.pat_by
  plain_pat zero = pat (d.never v) (d.never bad) (plain_failing v) false
  plain_pat (suc n) = pat (d.pat_by N v n) (d.pat_by N bad n) (plain_pat n) true

  pub plain_inside : (n : ℕ) → Plains (d.inside_by N v n) (d.inside_by N bad n)
  plain_inside zero = plain_failing v
  plain_inside (suc n) = plain_pat n

  pub plain_pat_before : (n : ℕ) (s : Sym) → Plains (d.pat_before (d.pat_by N v n) s) (d.pat_before (d.pat_by N bad n) s)
  plain_pat_before n s = plain_before (plain_pat n) (mark s)

  chained : (l : Level) {p q : Reader Token Expr} → Plains p q → Plains (d.chained l p) (d.chained l q)
  chained l h = plain_made chain_of (plain_both h (plain_many (plain_both (plain_one (an_op l)) h)))

  module _ (e e' : Reader Token Expr) (he : Plains e e') where
    exprs : Plains (d.exprs e) (d.exprs e')
    exprs = plain_parted (is_symbol sy.Comma) (mark sy.Comma) he

    expr_before : (k : Keyword) → Plains (d.expr_before e k) (d.expr_before e' k)
    expr_before k = plain_before he (word_mark k)

    field : Plains (d.field N e) (d.field N e')
    field = plain_both label (plain_behind (mark sy.Eq) he)

    in_rec : (u u' : Reader Token Expr) → Plains u u' → Plains (d.in_rec N e u) (d.in_rec N e' u')
    in_rec u u' hu = plain_before (plain_pick (plain_made record_of (plain_both field (plain_tailed (is_symbol sy.Comma) (is_symbol sy.Dots) (mark sy.Comma) field (plain_behind (mark sy.Dots) (plain_pick (plain_failing bad) hu))))) (plain_nothing (expr.Rec []))) (mark sy.CloseRec)

    in_if : Plains (d.in_if e) (d.in_if e')
    in_if = plain_both (expr_before key.Then) (plain_both (expr_before key.Else) he)

    in_case : (b b' : Reader Token Branch) → Plains b b' → Plains (d.in_case e b) (d.in_case e' b')
    in_case b b' hb = plain_both (expr_before key.Of) (plain_both (plain_parted (is_symbol sy.Comma) (mark sy.Comma) hb) (plain_before (plain_pick (plain_made Some (plain_behind (word_mark key.Otherwise) he)) (plain_nothing None)) (word_mark key.End)))

    named : (may : Bool) → Plains (d.named N v may e) (d.named N bad may e')
    unfolding d.named
    named may = plain_made name_of (plain_both name (plain_pick (plain_opened_by v may (plain_made Some (plain_behind (mark sy.OpenPar) (plain_before exprs (mark sy.ClosePar))))) (plain_nothing None)))

    pub plain_condition : Plains (made qual.Cond (d.condition e)) (made qual.Cond (d.condition e'))
    plain_condition = plain_made qual.Cond (plain_followed (among d.after_qual) he)

    pub plain_constant : Plains (made constant_of (d.plain_body e)) (made constant_of (d.plain_body e'))
    plain_constant = plain_made constant_of (plain_followed (is_symbol sy.Semi) he)

    module _ (p p' : Reader Token Pattern) (hp : Plains p p') where
      qualifier : Plains (d.qualifier p e) (d.qualifier p' e')
      unfolding d.qualifier
      qualifier = plain_decide gen_of (plain_before hp (mark sy.Draw)) he plain_condition

      pub plain_body : Plains (d.body p e) (d.body p' e')
      unfolding d.body
      plain_body = plain_decide function_of (plain_before hp (mark sy.Arrow)) he plain_constant

      beyond : (k : Kind) (first : Expr) → Plains (d.beyond p e k first) (d.beyond p' e' k first)
      beyond k first = plain_pick (plain_made (λ found. comp_of k (first, found)) (plain_behind (mark sy.Bar) (plain_parted (is_symbol sy.Comma) (mark sy.Comma) qualifier))) (plain_made (λ more. expr.Coll k (first ∷ more)) (plain_many (plain_behind (mark sy.Comma) he)))

      coll : (k : Kind) → Plains (d.coll p e k) (d.coll p' e' k)
      unfolding d.in_coll
      coll k = plain_behind (mark (opener k)) (plain_before (plain_pick (plain_nothing (expr.Coll k [])) (plain_chain he (beyond k))) (mark (closer k)))

      in_let : Plains (d.in_let p e) (d.in_let p' e')
      in_let = plain_both (plain_before hp (mark sy.Equals)) (plain_both (expr_before key.In) he)

      branch : (may : Bool) → Plains (d.branch N v may p e) (d.branch N bad may p' e')
      unfolding d.branch
      branch may = plain_pick (plain_opened_by v may (plain_made branch_of (plain_both (pat_variant p p' hp) (plain_behind (mark sy.Arrow) he)))) (plain_failing bad)

  module _ (may : Bool) (p p' : Reader Token Pattern) (e n u a e' n' u' a' : Reader Token Expr) (b b' : Reader Token Branch) (hp : Plains p p') (he : Plains e e') (hn : Plains n n') (hu : Plains u u') (ha : Plains a a') (hb : Plains b b') where
    prim : Plains (d.prim N v may p e n u a b) (d.prim N bad may p' e' n' u' a' b')
    unfolding d.prim
    prim =
        plain_pick (plain_made expr.Const (plain_one a_constant))
        (plain_pick (plain_opened_by v may (plain_behind (mark sy.OpenPar) (plain_before he (mark sy.ClosePar))))
        (plain_pick (plain_opened_by v may (plain_behind (mark sy.OpenRec) (in_rec e e' he u u' hu)))
        (plain_pick (plain_opened_by v may (plain_made inject_of (plain_behind (mark sy.Lt) (plain_before (field a a' ha) (mark sy.Gt)))))
        (plain_pick (plain_opened_by v may (coll e e' he p p' hp kind.Set))
        (plain_pick (plain_opened_by v may (coll e e' he p p' hp kind.Bag))
        (plain_pick (plain_opened_by v may (coll e e' he p p' hp kind.List))
        (plain_pick (plain_opened_by v may (plain_made case_of (plain_behind (word_mark key.Case) (in_case e e' he b b' hb)))) (named e e' he may))))))))

    post : Plains (d.post N v may p e n u a b) (d.post N bad may p' e' n' u' a' b')
    unfolding d.post
    post = plain_made path_of (plain_both prim labels)

    un : Plains (d.un N v may p e n u a b) (d.un N bad may p' e' n' u' a' b')
    unfolding d.un
    un = plain_pick (plain_behind (mark sy.Sub) (plain_pick (plain_made expr.Const (plain_one a_least)) (plain_opened_by v may (plain_made expr.Neg hu)))) post

    mul : Plains (d.mul N v may p e n u a b) (d.mul N bad may p' e' n' u' a' b')
    unfolding d.mul
    mul = chained level.Mul un

    add : Plains (d.add N v may p e n u a b) (d.add N bad may p' e' n' u' a' b')
    unfolding d.add
    add = chained level.Add mul

    compare : Plains (d.compare N v may p e n u a b) (d.compare N bad may p' e' n' u' a' b')
    unfolding d.compare
    compare = plain_made compare_of (plain_both add (plain_pick (plain_made Some (plain_both (plain_one (an_op level.Compare)) add)) (plain_nothing None)))

    negation : Plains (d.negation N v may p e n u a b) (d.negation N bad may p' e' n' u' a' b')
    unfolding d.negation
    negation = plain_pick (plain_opened_by v may (plain_made expr.Not (plain_behind (word_mark key.Not) hn))) compare

    conjunction : Plains (d.and N v may p e n u a b) (d.and N bad may p' e' n' u' a' b')
    unfolding d.and
    conjunction = chained level.And negation

    ors : Plains (d.ors N v may p e n u a b) (d.ors N bad may p' e' n' u' a' b')
    unfolding d.ors
    ors = chained level.Or conjunction

    read_whole : Plains (d.read_whole N v may p e n u a b) (d.read_whole N bad may p' e' n' u' a' b')
    unfolding d.read_whole
    read_whole = plain_pick (plain_opened_by v may (plain_made let_of (plain_behind (word_mark key.Let) (in_let e e' he p p' hp)))) (plain_pick (plain_opened_by v may (plain_made if_of (plain_behind (word_mark key.If) (in_if e e' he)))) ors)

    of_sort : (s : Sort) → Plains (d.of_sort N v may p e n u a b s) (d.of_sort N bad may p' e' n' u' a' b' s)
    of_sort whole = read_whole
    of_sort negated = negation
    of_sort signed = un
    of_sort added = add

  pub plain_reads : (n : ℕ) (s : Sort) → Plains (d.reads_by N v n s) (d.reads_by N bad n s)
  unfolding d.reads_by
  plain_reads zero s = of_sort false (d.never v) (d.never bad) (d.never v) (d.never v) (d.never v) (d.never v) (d.never bad) (d.never bad) (d.never bad) (d.never bad) (d.never v) (d.never bad) (plain_failing v) (plain_failing v) (plain_failing v) (plain_failing v) (plain_failing v) (plain_failing v) s
  plain_reads (suc n) s = of_sort true (d.pat_by N v n) (d.pat_by N bad n) (d.reads_by N v n whole) (d.reads_by N v n negated) (d.reads_by N v n signed) (d.reads_by N v n added) (d.reads_by N bad n whole) (d.reads_by N bad n negated) (d.reads_by N bad n signed) (d.reads_by N bad n added) (d.branch N v (opens n) (d.inside_by N v n) (d.reads_by N v n whole)) (d.branch N bad (opens n) (d.inside_by N bad n) (d.reads_by N bad n whole))
      (plain_pat n) (plain_reads n whole) (plain_reads n negated) (plain_reads n signed) (plain_reads n added) (branch (d.reads_by N v n whole) (d.reads_by N bad n whole) (plain_reads n whole) (d.inside_by N v n) (d.inside_by N bad n) (plain_inside n) (opens n)) s

  program : (p p' : Reader Token Pattern) (e e' : Reader Token Expr) → Plains p p' → Plains e e' → Plains (d.read_program N p e) (d.read_program N p' e')
  unfolding d.read_program
  program p p' e e' hp he = plain_made program_of (plain_both (plain_many (plain_made decl_of (plain_behind (word_mark key.Define) (plain_both name (plain_behind (mark sy.Equals) (plain_before (plain_body e e' he p p' hp) (mark sy.Semi))))))) (plain_before he (mark sy.Semi)))

  pub plain_program : (n : ℕ) → Plains (d.program_by N v n) (d.program_by N bad n)
  plain_program n = program (d.pat_by N v n) (d.pat_by N bad n) (d.reads_by N v n whole) (d.reads_by N bad n whole) (plain_pat n) (plain_reads n whole)

-- where branches may be left out each failure is plain
pub plain_begins : (N : ℕ) (ts : List Token) (n : ℕ) (s : Sort) → Plains (d.begins_by N ts n s) (d.begins_by N ts n s)
unfolding d.begins_by
plain_begins N ts zero s = of_sort bad N false (d.never bad) (d.never bad) (d.never bad) (d.never bad) (d.never bad) (d.never bad) (d.never bad) (d.never bad) (d.never bad) (d.never bad) (d.never bad) (d.never bad) (plain_failing bad) (plain_failing bad) (plain_failing bad) (plain_failing bad) (plain_failing bad) (plain_failing bad) s
plain_begins N ts (suc n) s = of_sort bad N true (d.pat_by N bad n) (d.pat_by N bad n) (d.begins_by N ts n whole) (d.begins_by N ts n negated) (d.begins_by N ts n signed) (d.begins_by N ts n added) (d.begins_by N ts n whole) (d.begins_by N ts n negated) (d.begins_by N ts n signed) (d.begins_by N ts n added) (d.branch_or N ts (d.branch N bad (opens n) (d.inside_by N bad n) (d.begins_by N ts n whole))) (d.branch_or N ts (d.branch N bad (opens n) (d.inside_by N bad n) (d.begins_by N ts n whole)))
    (plain_pat bad N n) (plain_begins N ts n whole) (plain_begins N ts n negated) (plain_begins N ts n signed) (plain_begins N ts n added) (plain_choose (may_miss (misses ts) N) (plain_one (λ t. Some left_out)) (branch bad N (d.begins_by N ts n whole) (d.begins_by N ts n whole) (plain_begins N ts n whole) (d.inside_by N bad n) (d.inside_by N bad n) (plain_inside bad N n) (opens n))) s
