-- With branches left out nothing else is answered, where none is left out before the place.
use Rattle.std.proofs.Common.{ℕ, zero, suc, Bool, true, false, List, [], ◌∷◌, Some, None}
use Rattle.kl_lex.specs.declared.token.Sym.{Sym}
use Rattle.kl_lex.specs.declared.token.Sym.TheVariants as sy
use Rattle.kl_lex.specs.declared.token.Token.{Token}
use Rattle.kl_lex.specs.declared.keyword.Keyword.{Keyword}
use Rattle.kl_lex.specs.declared.keyword.Keyword.TheVariants as key
use Rattle.kl_value.specs.declared.value.Kind.{Kind}
use Rattle.kl_value.specs.declared.value.Kind.TheVariants as kind
use Rattle.kl_parse.specs.declared.operator.Level.{Level}
use Rattle.kl_parse.specs.declared.operator.Level.TheVariants as level
use Rattle.kl_syntax.specs.declared.tree.Pattern.{Pattern}
use Rattle.kl_syntax.specs.declared.tree.Expr.{Expr}
use Rattle.kl_syntax.specs.declared.tree.Expr.TheVariants as expr
use Rattle.kl_syntax.specs.declared.tree.Qual.TheVariants as qual
use Rattle.kl_syntax.specs.declared.tree.Branch.{Branch}
use Rattle.kl_lex.specs.Brackets.{opener, closer}
use Rattle.kl_phrase.specs.Depth.{opens}
use Rattle.kl_parse.specs.Grammar.{name_of, record_of, inject_of, gen_of, comp_of, case_of, path_of, chain_of, compare_of, let_of, if_of, branch_of, left_out, misses, function_of, constant_of, decl_of, program_of, Sort, whole, negated, signed, added}
use Rattle.kl_parse.specs.Kinds.{among, is_symbol, a_symbol, a_key, a_constant, a_least, an_op}
use Rattle.kl_parse.specs.Descent as d
use Rattle.kl_parse.proofs.Kepts.{keeps_label, keeps_name, keeps_labels, same_pat_by}
use Rattle.kl_phrase.specs.Readers.{bad, Reader}
use Rattle.kl_phrase.specs.Refusals.{may_miss, missed}
use Rattle.kl_phrase.proofs.Exact.{IsBad}
use Rattle.kl_phrase.proofs.Rests.{Leaves, leaves_one, leaves_chain, leaves_nothing, leaves_failing}
use Rattle.kl_phrase.proofs.Agreeing.{Agrees, agrees_same, agrees_nothing, agrees_chain, agrees_made, agrees_both, agrees_behind, agrees_before, agrees_pick, agrees_opened, agrees_many, agrees_parted, agrees_tailed, agrees_followed, agrees_decide, agrees_hole}

module _ (N : ℕ) (hole : List Token → Bool) (h : ℕ) where
  mark : (s : Sym) → Agrees hole h (d.mark s) (d.mark s)
  mark s = agrees_same (leaves_one (a_symbol s))

  word_mark : (k : Keyword) → Agrees hole h (d.word_mark k) (d.word_mark k)
  word_mark k = agrees_same (leaves_one (a_key k))

  label : Agrees hole h (d.label N) (d.label N)
  label = agrees_same (record { leaves = (keeps_label IsBad N N).rests })

  name : Agrees hole h (d.name N) (d.name N)
  name = agrees_same (record { leaves = (keeps_name IsBad N N).rests })

  labels : Agrees hole h (d.labels N) (d.labels N)
  labels = agrees_same (record { leaves = (keeps_labels IsBad N N).rests })

  leaves_pat : (n : ℕ) → Leaves (d.pat_by N bad n)
  leaves_pat n = record { leaves = (same_pat_by IsBad bad N N n).rests }

  leaves_inside : (n : ℕ) → Leaves (d.inside_by N bad n)
  leaves_inside zero = leaves_failing bad
  leaves_inside (suc n) = leaves_pat n

  leaves_before : (s : Sym) (p : Reader Token Pattern) → Leaves p → Leaves (d.pat_before p s)
  leaves_before s p l = leaves_chain l (λ a. leaves_chain (leaves_one (a_symbol s)) (λ _. leaves_nothing a))

  chained : (l : Level) {p q : Reader Token Expr} → Agrees hole h p q → Agrees hole h (d.chained l p) (d.chained l q)
  chained l a = agrees_made chain_of (agrees_both a (agrees_many (agrees_both (agrees_same (leaves_one (an_op l))) a)))

  module _ (e e' : Reader Token Expr) (he : Agrees hole h e e') where
    exprs : Agrees hole h (d.exprs e) (d.exprs e')
    exprs = agrees_parted (is_symbol sy.Comma) (mark sy.Comma) he

    expr_before : (k : Keyword) → Agrees hole h (d.expr_before e k) (d.expr_before e' k)
    expr_before k = agrees_before he (word_mark k)

    field : Agrees hole h (d.field N e) (d.field N e')
    field = agrees_both label (agrees_behind (mark sy.Eq) he)

    in_rec : (u u' : Reader Token Expr) → Agrees hole h u u' → Agrees hole h (d.in_rec N e u) (d.in_rec N e' u')
    in_rec u u' hu = agrees_before (agrees_pick (agrees_made record_of (agrees_both field (agrees_tailed (is_symbol sy.Comma) (is_symbol sy.Dots) (mark sy.Comma) field (agrees_behind (mark sy.Dots) (agrees_pick (agrees_same (leaves_failing bad)) hu))))) (agrees_nothing (expr.Rec []))) (mark sy.CloseRec)

    in_if : Agrees hole h (d.in_if e) (d.in_if e')
    in_if = agrees_both (expr_before key.Then) (agrees_both (expr_before key.Else) he)

    in_case : (b b' : Reader Token Branch) → Agrees hole h b b' → Agrees hole h (d.in_case e b) (d.in_case e' b')
    in_case b b' hb = agrees_both (expr_before key.Of) (agrees_both (agrees_parted (is_symbol sy.Comma) (mark sy.Comma) hb) (agrees_before (agrees_pick (agrees_made Some (agrees_behind (word_mark key.Otherwise) he)) (agrees_nothing None)) (word_mark key.End)))

    named : (may : Bool) → Agrees hole h (d.named N bad may e) (d.named N bad may e')
    unfolding d.named
    named may = agrees_made name_of (agrees_both name (agrees_pick (agrees_opened bad may (λ i. agrees_made Some (agrees_behind (mark sy.OpenPar) (agrees_before exprs (mark sy.ClosePar))))) (agrees_nothing None)))

    module _ (p : Reader Token Pattern) (lp : Leaves p) where
      qualifier : Agrees hole h (d.qualifier p e) (d.qualifier p e')
      unfolding d.qualifier
      qualifier = agrees_decide gen_of (leaves_before sy.Draw p lp) he (agrees_made qual.Cond (agrees_followed (among d.after_qual) he))

      body : Agrees hole h (d.body p e) (d.body p e')
      unfolding d.body
      body = agrees_decide function_of (leaves_before sy.Arrow p lp) he (agrees_made constant_of (agrees_followed (is_symbol sy.Semi) he))

      beyond : (k : Kind) (first : Expr) → Agrees hole h (d.beyond p e k first) (d.beyond p e' k first)
      beyond k first = agrees_pick (agrees_made (λ found. comp_of k (first, found)) (agrees_behind (mark sy.Bar) (agrees_parted (is_symbol sy.Comma) (mark sy.Comma) qualifier))) (agrees_made (λ more. expr.Coll k (first ∷ more)) (agrees_many (agrees_behind (mark sy.Comma) he)))

      coll : (k : Kind) → Agrees hole h (d.coll p e k) (d.coll p e' k)
      unfolding d.in_coll
      coll k = agrees_behind (mark (opener k)) (agrees_before (agrees_pick (agrees_nothing (expr.Coll k [])) (agrees_chain he (beyond k))) (mark (closer k)))

      in_let : Agrees hole h (d.in_let p e) (d.in_let p e')
      in_let = agrees_both (agrees_same (leaves_before sy.Equals p lp)) (agrees_both (expr_before key.In) he)

      branch : (may : Bool) → Agrees hole h (d.branch N bad may p e) (d.branch N bad may p e')
      unfolding d.branch
      branch may = agrees_pick (agrees_opened bad may (λ i. agrees_made branch_of (agrees_both (agrees_behind (mark sy.Lt) (agrees_before (agrees_both label (agrees_behind (mark sy.Eq) (agrees_same lp))) (mark sy.Gt))) (agrees_behind (mark sy.Arrow) he)))) (agrees_same (leaves_failing bad))

  module _ (may : Bool) (p : Reader Token Pattern) (e n u a e' n' u' a' : Reader Token Expr) (b b' : Reader Token Branch) (lp : Leaves p) (he : Agrees hole h e e') (hn : Agrees hole h n n') (hu : Agrees hole h u u') (ha : Agrees hole h a a') (hb : Agrees hole h b b') where
    prim : Agrees hole h (d.prim N bad may p e n u a b) (d.prim N bad may p e' n' u' a' b')
    unfolding d.prim
    prim =
        agrees_pick (agrees_same (leaves_chain (leaves_one a_constant) (λ v. leaves_nothing (expr.Const v))))
        (agrees_pick (agrees_opened bad may (λ i. agrees_behind (mark sy.OpenPar) (agrees_before he (mark sy.ClosePar))))
        (agrees_pick (agrees_opened bad may (λ i. agrees_behind (mark sy.OpenRec) (in_rec e e' he u u' hu)))
        (agrees_pick (agrees_opened bad may (λ i. agrees_made inject_of (agrees_behind (mark sy.Lt) (agrees_before (field a a' ha) (mark sy.Gt)))))
        (agrees_pick (agrees_opened bad may (λ i. coll e e' he p lp kind.Set))
        (agrees_pick (agrees_opened bad may (λ i. coll e e' he p lp kind.Bag))
        (agrees_pick (agrees_opened bad may (λ i. coll e e' he p lp kind.List))
        (agrees_pick (agrees_opened bad may (λ i. agrees_made case_of (agrees_behind (word_mark key.Case) (in_case e e' he b b' hb)))) (named e e' he may))))))))

    post : Agrees hole h (d.post N bad may p e n u a b) (d.post N bad may p e' n' u' a' b')
    unfolding d.post
    post = agrees_made path_of (agrees_both prim labels)

    un : Agrees hole h (d.un N bad may p e n u a b) (d.un N bad may p e' n' u' a' b')
    unfolding d.un
    un = agrees_pick (agrees_behind (mark sy.Sub) (agrees_pick (agrees_same (leaves_chain (leaves_one a_least) (λ v. leaves_nothing (expr.Const v)))) (agrees_opened bad may (λ i. agrees_made expr.Neg hu)))) post

    mul : Agrees hole h (d.mul N bad may p e n u a b) (d.mul N bad may p e' n' u' a' b')
    unfolding d.mul
    mul = chained level.Mul un

    add : Agrees hole h (d.add N bad may p e n u a b) (d.add N bad may p e' n' u' a' b')
    unfolding d.add
    add = chained level.Add mul

    compare : Agrees hole h (d.compare N bad may p e n u a b) (d.compare N bad may p e' n' u' a' b')
    unfolding d.compare
    compare = agrees_made compare_of (agrees_both add (agrees_pick (agrees_made Some (agrees_both (agrees_same (leaves_one (an_op level.Compare))) add)) (agrees_nothing None)))

    negation : Agrees hole h (d.negation N bad may p e n u a b) (d.negation N bad may p e' n' u' a' b')
    unfolding d.negation
    negation = agrees_pick (agrees_opened bad may (λ i. agrees_made expr.Not (agrees_behind (word_mark key.Not) hn))) compare

    conjunction : Agrees hole h (d.and N bad may p e n u a b) (d.and N bad may p e' n' u' a' b')
    unfolding d.and
    conjunction = chained level.And negation

    ors : Agrees hole h (d.ors N bad may p e n u a b) (d.ors N bad may p e' n' u' a' b')
    unfolding d.ors
    ors = chained level.Or conjunction

    read_whole : Agrees hole h (d.read_whole N bad may p e n u a b) (d.read_whole N bad may p e' n' u' a' b')
    unfolding d.read_whole
    read_whole = agrees_pick (agrees_opened bad may (λ i. agrees_made let_of (agrees_behind (word_mark key.Let) (in_let e e' he p lp)))) (agrees_pick (agrees_opened bad may (λ i. agrees_made if_of (agrees_behind (word_mark key.If) (in_if e e' he)))) ors)

    of_sort : (s : Sort) → Agrees hole h (d.of_sort N bad may p e n u a b s) (d.of_sort N bad may p e' n' u' a' b' s)
    of_sort whole = read_whole
    of_sort negated = negation
    of_sort signed = un
    of_sort added = add

module _ (N : ℕ) (ts : List Token) (h : ℕ) where
  abbrev gap : List Token → Bool
  gap = may_miss (misses ts) N

  agrees_reads : (n : ℕ) (s : Sort) → Agrees gap h (d.reads_by N bad n s) (d.begins_by N ts n s)
  unfolding d.reads_by d.begins_by
  agrees_reads zero s = of_sort N gap h false (d.never bad) (d.never bad) (d.never bad) (d.never bad) (d.never bad) (d.never bad) (d.never bad) (d.never bad) (d.never bad) (d.never bad) (d.never bad) (leaves_failing bad) (agrees_same (leaves_failing bad)) (agrees_same (leaves_failing bad)) (agrees_same (leaves_failing bad)) (agrees_same (leaves_failing bad)) (agrees_same (leaves_failing bad)) s
  agrees_reads (suc n) s = of_sort N gap h true (d.pat_by N bad n) (d.reads_by N bad n whole) (d.reads_by N bad n negated) (d.reads_by N bad n signed) (d.reads_by N bad n added) (d.begins_by N ts n whole) (d.begins_by N ts n negated) (d.begins_by N ts n signed) (d.begins_by N ts n added) (d.branch N bad (opens n) (d.inside_by N bad n) (d.reads_by N bad n whole)) (d.branch_or N ts (d.branch N bad (opens n) (d.inside_by N bad n) (d.begins_by N ts n whole)))
      (leaves_pat N gap h n) (agrees_reads n whole) (agrees_reads n negated) (agrees_reads n signed) (agrees_reads n added) (agrees_hole (missed left_out) (branch N gap h (d.reads_by N bad n whole) (d.begins_by N ts n whole) (agrees_reads n whole) (d.inside_by N bad n) (leaves_inside N gap h n) (opens n))) s

  pub agrees_program : (n : ℕ) → Agrees gap h (d.program_by N bad n) (d.begins_program N ts n)
  unfolding d.read_program
  agrees_program n = agrees_made program_of (agrees_both (agrees_many (agrees_made decl_of (agrees_behind (word_mark N gap h key.Define) (agrees_both (name N gap h) (agrees_behind (mark N gap h sy.Equals) (agrees_before (body N gap h (d.reads_by N bad n whole) (d.begins_by N ts n whole) (agrees_reads n whole) (d.pat_by N bad n) (leaves_pat N gap h n)) (mark N gap h sy.Semi))))))) (agrees_before (agrees_reads n whole) (mark N gap h sy.Semi)))
