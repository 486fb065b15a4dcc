use Rattle.std.proofs.Common.{◌+◌, get_or, refl, rules, arith}
use Rattle.kl_core.specs.declared.term.Term.{the_lemmas}
use Rattle.kl_joins.proofs.Lowerings.{LowersTerm, LowersPart, terms_lowered, parts_lowered, case_term_lowered, term_rec_lowered, term_union_lowered, term_ext_lowered, term_if_lowered, term_let_lowered}
use Rattle.kl_joins.proofs.Fronts.{unvisited_more, unvisited_item}
use Rattle.kl_joins.proofs.Pairing.{item_paired, list_paired}
use Rattle.kl_joins.proofs.lowering.+lower_term.Goals as goal

pub lower_terms-terms-preserved : goal.lower_terms-terms-preserved
lower_terms-terms-preserved t c = record {
  unvisited = unvisited_more c.slice_mut-terms.result.now c.terms.terms c.terms.i _ c.terms.invariant.unvisited;
  walked = λ n e.
      let x = get_or c.terms.terms c.terms.i c.index-terms-i.result in
      item_paired (LowersTerm n) c.slice_mut-terms.result.now c.terms.terms c.terms.i x c.lower_term.new.term c.terms-test.true c.terms.auto.terms
      (unvisited_item c.slice_mut-terms.result.now c.terms.terms c.terms.i c.index-terms-i.result c.terms-test.true c.terms.invariant.unvisited) (c.terms.invariant.walked n e) (c.lower_term.ensures n e);
}

pub lower_terms-returns : goal.lower_terms-returns
lower_terms-returns t c n e =
    terms_lowered n c.args.terms.now _ (list_paired (LowersTerm n) c.args.terms.now c.slice_mut-terms.result.now c.terms.terms c.terms.i c.slice_mut-terms.ensures.value c.terms-test.false c.terms.auto.terms (c.terms.invariant.walked n e))

pub lower_parts-parts-preserved : goal.lower_parts-parts-preserved
lower_parts-parts-preserved t c = record {
  unvisited = unvisited_more c.slice_mut-parts.result.now c.parts.parts c.parts.i _ c.parts.invariant.unvisited;
  walked = λ n e.
      let x = get_or c.parts.parts c.parts.i c.index-parts-i.result in
      item_paired (LowersPart n) c.slice_mut-parts.result.now c.parts.parts c.parts.i x (x.0, c.lower_term.new.term) c.parts-test.true c.parts.auto.parts
      (unvisited_item c.slice_mut-parts.result.now c.parts.parts c.parts.i c.index-parts-i.result c.parts-test.true c.parts.invariant.unvisited) (c.parts.invariant.walked n e) (refl, c.lower_term.ensures n e);
}

pub lower_parts-returns : goal.lower_parts-returns
lower_parts-returns t c n e =
    parts_lowered n c.args.parts.now _ (list_paired (LowersPart n) c.args.parts.now c.slice_mut-parts.result.now c.parts.parts c.parts.i c.slice_mut-parts.ensures.value c.parts-test.false c.parts.auto.parts (c.parts.invariant.walked n e))

pub lower_term-returns-in-Rec : goal.lower_term-returns-in-Rec
lower_term-returns-in-Rec t c n e = term_rec_lowered n c.args.term.now _ c.in-Rec.fields c.lower_parts.new.parts _ c.in-Rec.is (first_of (search rules, search (rules, the_lemmas), search (rules, the_lemmas, c.in-Rec.is))) c.in-Rec.fields-is (c.lower_parts.ensures n e)

pub lower_term-returns-in-Case : goal.lower_term-returns-in-Case
lower_term-returns-in-Case t c n e = case_term_lowered n c.args.term.now _ c.in-Case.a _ c.lower_term_box-in-Case.new.part c.in-Case.branches _ c.lower_parts-in-Case.new.parts c.in-Case.other _ c.lower_last.new.other c.in-Case.is (first_of (search rules, search (rules, the_lemmas), search (rules, the_lemmas, c.in-Case.is))) c.in-Case.a-is c.in-Case.branches-is c.in-Case.other-is (c.lower_term_box-in-Case.ensures n e) (c.lower_parts-in-Case.ensures (n + 1) (omega arith)) (c.lower_last.ensures n e)

pub lower_term-returns-in-Union : goal.lower_term-returns-in-Union
lower_term-returns-in-Union t c n e = term_union_lowered n c.args.term.now _ c.in-Union.a c.in-Union.b c.lower_term_box-in-Union.new.part c.lower_term_box-in-Union-2.new.part _ _ c.in-Union.is (first_of (search rules, search (rules, the_lemmas), search (rules, the_lemmas, c.in-Union.is))) c.in-Union.a-is c.in-Union.b-is (c.lower_term_box-in-Union.ensures n e) (c.lower_term_box-in-Union-2.ensures n e)

pub lower_term-returns-in-Ext : goal.lower_term-returns-in-Ext
lower_term-returns-in-Ext t c n e = term_ext_lowered n c.in-Ext.field-0 c.args.term.now _ c.in-Ext.body c.in-Ext.source c.lower_term_under.new.part c.lower_term_box-in-Ext.new.part _ _ c.in-Ext.is (first_of (search rules, search (rules, the_lemmas), search (rules, the_lemmas, c.in-Ext.is))) c.in-Ext.body-is c.in-Ext.source-is (c.lower_term_under.ensures n e) (c.lower_term_box-in-Ext.ensures n e)

pub lower_term-returns-in-If : goal.lower_term-returns-in-If
lower_term-returns-in-If t c n e = term_if_lowered n c.args.term.now _ c.in-If.a c.in-If.b c.in-If.c c.lower_term_box-in-If.new.part c.lower_term_box-in-If-2.new.part c.lower_term_box-in-If-3.new.part _ _ _ c.in-If.is (first_of (search rules, search (rules, the_lemmas), search (rules, the_lemmas, c.in-If.is))) c.in-If.a-is c.in-If.b-is c.in-If.c-is (c.lower_term_box-in-If.ensures n e) (c.lower_term_box-in-If-2.ensures n e) (c.lower_term_box-in-If-3.ensures n e)

pub lower_term-returns-in-Let : goal.lower_term-returns-in-Let
lower_term-returns-in-Let t c n e = term_let_lowered n c.args.term.now _ c.in-Let.a c.in-Let.b c.lower_term_box-in-Let.new.part c.lower_term_under-in-Let.new.part _ _ c.in-Let.is (first_of (search rules, search (rules, the_lemmas), search (rules, the_lemmas, c.in-Let.is))) c.in-Let.a-is c.in-Let.b-is (c.lower_term_box-in-Let.ensures n e) (c.lower_term_under-in-Let.ensures n e)
