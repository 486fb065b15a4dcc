use Rattle.std.proofs.Common.{◌+◌, ◌∙◌, length, Ok, refl, ap, rules, arith}
use Rattle.std.specs.Option.{option_copied}
use Rattle.kl_core.specs.declared.term.Term.{the_lemmas}
use Rattle.kl_core.specs.Trees.{Proj, Inj, Union, Ext, Let, view}
use Rattle.kl_core.proofs.Views.{view_Proj, view_Inj, view_Union, view_Ext, view_Let}
use Rattle.kl_rewrite.proofs.Trails.{passed_over}
use Rattle.kl_rewrite.proofs.Parts.{parts_behind, term_stepped, term_searched}
use Rattle.kl_rewrite.proofs.Forms.{none_ok, no_leaf, made_ok, made_open, prim_ok, prim_open, record_ok, record_open, one_Proj, one_Inj, one_open, one_ok, two_Union, two_Ext, two_Let, two_open, two_next, two_ok, if_open, if_next, if_last, if_ok, case_open, case_branches, case_other, case_ok, rest_open, rest_ok, no_rest}
use Rattle.kl_rewrite.proofs.Lists.{rest_lent, terms_begun, terms_open, terms_passed, terms_steps, terms_ended, fields_begun, fields_open, fields_passed, fields_steps, fields_ended}
use Rattle.kl_rewrite.proofs.search.Search.+step.Goals as goal

pub step-parts-requires : goal.step-parts-requires
step-parts-requires t c = (
  search (rules, the_lemmas, arith),
  parts_behind c.args.level c.args.term.now c.here.new.term c.in_ok-here.field-0 c.args.trail.now c.args.self.now c.here.new.self c.requires.traced
      c.if-branch.false c.in_ok-here.ensures.found (ap (λ p. p.items) c.here.ensures.path),
)

pub step-returns-then-branch : goal.step-returns-then-branch
step-returns-then-branch t c =
    term_stepped c.args.level c.args.term.now c.here.new.term c.in_ok-here.field-0 c.args.self.now c.here.new.self c.if-branch.true (ap (λ p. p.items) c.here.ensures.path ∙ c.requires.traced.path) c.in_ok-here.ensures.found

pub step-returns : goal.step-returns
step-returns t c =
    term_searched c.args.level c.args.term.now c.here.new.term (view c.parts.new.term) c.in_ok-here.field-0 c.args.trail.now c.parts.result c.args.self.now c.here.new.self c.parts.new.self c.requires.traced c.if-branch.false
    c.in_ok-here.ensures.found c.parts.ensures

pub at-returns-in-None : goal.at-returns-in-None
at-returns-in-None t c = passed_over c.args.level c.args.number (view c.args.part.now) c.args.trail.now (option_copied c.trail_in.result) c.args.self.now c.requires.ready c.trail_in.ensures (ap option_copied c.in-None.is)

pub parts-returns-in-Var : goal.parts-returns-in-Var
parts-returns-in-Var t c = none_ok c.args.level (view c.args.term.now) c.args.trail.now c.args.self.now c.requires.ready (no_leaf c.args.term.now c.in-Var.is)

pub parts-returns-in-Var-2 : goal.parts-returns-in-Var-2
parts-returns-in-Var-2 t c = none_ok c.args.level (view c.args.term.now) c.args.trail.now c.args.self.now c.requires.ready (no_leaf c.args.term.now c.in-Var.is)

pub parts-returns-in-Var-3 : goal.parts-returns-in-Var-3
parts-returns-in-Var-3 t c = none_ok c.args.level (view c.args.term.now) c.args.trail.now c.args.self.now c.requires.ready (no_leaf c.args.term.now c.in-Var.is)

pub parts-part-requires : goal.parts-part-requires
parts-part-requires t c = (
  search (rules, the_lemmas, arith),
  one_open (Proj c.in-Proj.field-0) (one_Proj c.in-Proj.field-0) c.args.level c.args.term.now c.in-Proj.a _ c.args.trail.now c.args.self.now
      (ap view c.in-Proj.is ∙ view_Proj c.in-Proj.field-0 c.in-Proj.a) c.in-Proj.a-is c.requires.ready,
)

pub parts-returns-in-Proj : goal.parts-returns-in-Proj
parts-returns-in-Proj t c =
    one_ok (Proj c.in-Proj.field-0) (one_Proj c.in-Proj.field-0) c.args.level c.args.term.now c.in-Proj.a _ c.args.trail.now c.args.self.now
    (ap view c.in-Proj.is ∙ view_Proj c.in-Proj.field-0 c.in-Proj.a) c.in-Proj.a-is c.requires.ready _ c.part.new.part c.part.result c.part.new.self
    (ap view (first_of (search rules, search (rules, the_lemmas), search (rules, the_lemmas, c.in-Proj.is))) ∙ view_Proj c.in-Proj.field-0 c.part.new.part) c.part.ensures

pub parts-part-requires-in-Inj : goal.parts-part-requires-in-Inj
parts-part-requires-in-Inj t c = (
  search (rules, the_lemmas, arith),
  one_open (Inj c.in-Inj.field-0) (one_Inj c.in-Inj.field-0) c.args.level c.args.term.now c.in-Inj.a _ c.args.trail.now c.args.self.now
      (ap view c.in-Inj.is ∙ view_Inj c.in-Inj.field-0 c.in-Inj.a) c.in-Inj.a-is c.requires.ready,
)

pub parts-returns-in-Inj : goal.parts-returns-in-Inj
parts-returns-in-Inj t c =
    one_ok (Inj c.in-Inj.field-0) (one_Inj c.in-Inj.field-0) c.args.level c.args.term.now c.in-Inj.a _ c.args.trail.now c.args.self.now (ap view c.in-Inj.is ∙ view_Inj c.in-Inj.field-0 c.in-Inj.a)
    c.in-Inj.a-is c.requires.ready _ c.part-in-Inj.new.part c.part-in-Inj.result c.part-in-Inj.new.self
    (ap view (first_of (search rules, search (rules, the_lemmas), search (rules, the_lemmas, c.in-Inj.is))) ∙ view_Inj c.in-Inj.field-0 c.part-in-Inj.new.part) c.part-in-Inj.ensures

pub parts-all-requires : goal.parts-all-requires
parts-all-requires t c =
    (search (rules, the_lemmas, arith), made_open c.args.level c.args.term.now c.in-Make.field-0 c.in-Make.terms _ c.args.trail.now c.args.self.now c.in-Make.is c.in-Make.terms-is c.requires.ready)

pub parts-returns-in-Make : goal.parts-returns-in-Make
parts-returns-in-Make t c =
    made_ok c.args.level c.args.term.now _ c.in-Make.field-0 c.in-Make.terms c.all.new.terms _ c.all.result c.args.self.now c.all.new.self c.in-Make.is
    (first_of (search rules, search (rules, the_lemmas), search (rules, the_lemmas, c.in-Make.is))) c.in-Make.terms-is c.all.ensures

pub parts-all-requires-in-Prim : goal.parts-all-requires-in-Prim
parts-all-requires-in-Prim t c =
    (search (rules, the_lemmas, arith), prim_open c.args.level c.args.term.now c.in-Prim.field-0 c.in-Prim.terms _ c.args.trail.now c.args.self.now c.in-Prim.is c.in-Prim.terms-is c.requires.ready)

pub parts-returns-in-Prim : goal.parts-returns-in-Prim
parts-returns-in-Prim t c =
    prim_ok c.args.level c.args.term.now _ c.in-Prim.field-0 c.in-Prim.terms c.all-in-Prim.new.terms _ c.all-in-Prim.result c.args.self.now c.all-in-Prim.new.self c.in-Prim.is
    (first_of (search rules, search (rules, the_lemmas), search (rules, the_lemmas, c.in-Prim.is))) c.in-Prim.terms-is c.all-in-Prim.ensures

pub parts-labelled-requires : goal.parts-labelled-requires
parts-labelled-requires t c =
    (search (rules, the_lemmas, arith), (omega arith, record_open c.args.level c.args.term.now c.in-Rec.fields _ c.args.trail.now c.args.self.now c.in-Rec.is c.in-Rec.fields-is c.requires.ready))

pub parts-returns-in-Rec : goal.parts-returns-in-Rec
parts-returns-in-Rec t c =
    record_ok c.args.level c.args.term.now _ c.in-Rec.fields c.labelled.new.parts _ c.labelled.result c.args.self.now c.labelled.new.self c.in-Rec.is
    (first_of (search rules, search (rules, the_lemmas), search (rules, the_lemmas, c.in-Rec.is))) c.in-Rec.fields-is c.labelled.ensures

pub parts-part-first-requires : goal.parts-part-first-requires
parts-part-first-requires t c = (
  search (rules, the_lemmas, arith),
  two_open Union two_Union c.args.level c.args.term.now c.in-Union.a c.in-Union.b _ _ c.args.trail.now c.args.self.now
      (ap view c.in-Union.is ∙ view_Union c.in-Union.a c.in-Union.b) c.in-Union.a-is c.in-Union.b-is c.requires.ready,
)

pub parts-next-requires : goal.parts-next-requires
parts-next-requires t c = (
  search (rules, the_lemmas, arith),
  two_next Union two_Union c.args.level c.args.term.now c.in-Union.a c.in-Union.b _ _ c.args.trail.now c.args.self.now
      (ap view c.in-Union.is ∙ view_Union c.in-Union.a c.in-Union.b) c.in-Union.a-is c.in-Union.b-is c.requires.ready c.part-first.new.part c.part-first.result c.part-first.new.self
      c.part-first.ensures,
)

pub parts-returns-in-Union : goal.parts-returns-in-Union
parts-returns-in-Union t c =
    two_ok Union two_Union c.args.level c.args.term.now c.in-Union.a c.in-Union.b _ _ c.args.trail.now c.args.self.now (ap view c.in-Union.is ∙ view_Union c.in-Union.a c.in-Union.b) c.in-Union.a-is
    c.in-Union.b-is c.requires.ready c.part-first.new.part c.part-first.result c.part-first.new.self c.part-first.ensures _ c.next.new.part c.next.result c.next.new.self
    (ap view (first_of (search rules, search (rules, the_lemmas), search (rules, the_lemmas, c.in-Union.is))) ∙ view_Union c.part-first.new.part c.next.new.part) c.next.ensures

pub parts-part-first-requires-in-Ext : goal.parts-part-first-requires-in-Ext
parts-part-first-requires-in-Ext t c = (
  search (rules, the_lemmas, arith),
  two_open (Ext c.in-Ext.field-0) (two_Ext c.in-Ext.field-0) c.args.level c.args.term.now c.in-Ext.body c.in-Ext.source _ _ c.args.trail.now c.args.self.now
      (ap view c.in-Ext.is ∙ view_Ext c.in-Ext.field-0 c.in-Ext.body c.in-Ext.source) c.in-Ext.body-is c.in-Ext.source-is c.requires.ready,
)

pub parts-next-requires-in-Ext : goal.parts-next-requires-in-Ext
parts-next-requires-in-Ext t c = (
  search (rules, the_lemmas, arith),
  two_next (Ext c.in-Ext.field-0) (two_Ext c.in-Ext.field-0) c.args.level c.args.term.now c.in-Ext.body c.in-Ext.source _ _ c.args.trail.now c.args.self.now
      (ap view c.in-Ext.is ∙ view_Ext c.in-Ext.field-0 c.in-Ext.body c.in-Ext.source) c.in-Ext.body-is c.in-Ext.source-is c.requires.ready c.part-first-in-Ext.new.part c.part-first-in-Ext.result
      c.part-first-in-Ext.new.self c.part-first-in-Ext.ensures,
)

pub parts-returns-in-Ext : goal.parts-returns-in-Ext
parts-returns-in-Ext t c =
    two_ok (Ext c.in-Ext.field-0) (two_Ext c.in-Ext.field-0) c.args.level c.args.term.now c.in-Ext.body c.in-Ext.source _ _ c.args.trail.now c.args.self.now
    (ap view c.in-Ext.is ∙ view_Ext c.in-Ext.field-0 c.in-Ext.body c.in-Ext.source) c.in-Ext.body-is c.in-Ext.source-is c.requires.ready c.part-first-in-Ext.new.part c.part-first-in-Ext.result
    c.part-first-in-Ext.new.self c.part-first-in-Ext.ensures _ c.next-in-Ext.new.part c.next-in-Ext.result c.next-in-Ext.new.self
    (ap view (first_of (search rules, search (rules, the_lemmas), search (rules, the_lemmas, c.in-Ext.is))) ∙ view_Ext c.in-Ext.field-0 c.part-first-in-Ext.new.part c.next-in-Ext.new.part) c.next-in-Ext.ensures

pub parts-part-first-requires-in-Let : goal.parts-part-first-requires-in-Let
parts-part-first-requires-in-Let t c = (
  search (rules, the_lemmas, arith),
  two_open Let two_Let c.args.level c.args.term.now c.in-Let.a c.in-Let.b _ _ c.args.trail.now c.args.self.now
      (ap view c.in-Let.is ∙ view_Let c.in-Let.a c.in-Let.b) c.in-Let.a-is c.in-Let.b-is c.requires.ready,
)

pub parts-next-requires-in-Let : goal.parts-next-requires-in-Let
parts-next-requires-in-Let t c = (
  search (rules, the_lemmas, arith),
  two_next Let two_Let c.args.level c.args.term.now c.in-Let.a c.in-Let.b _ _ c.args.trail.now c.args.self.now
      (ap view c.in-Let.is ∙ view_Let c.in-Let.a c.in-Let.b) c.in-Let.a-is c.in-Let.b-is c.requires.ready c.part-first-in-Let.new.part c.part-first-in-Let.result c.part-first-in-Let.new.self
      c.part-first-in-Let.ensures,
)

pub parts-returns-in-Let : goal.parts-returns-in-Let
parts-returns-in-Let t c =
    two_ok Let two_Let c.args.level c.args.term.now c.in-Let.a c.in-Let.b _ _ c.args.trail.now c.args.self.now (ap view c.in-Let.is ∙ view_Let c.in-Let.a c.in-Let.b) c.in-Let.a-is c.in-Let.b-is
    c.requires.ready c.part-first-in-Let.new.part c.part-first-in-Let.result c.part-first-in-Let.new.self c.part-first-in-Let.ensures _ c.next-in-Let.new.part c.next-in-Let.result
    c.next-in-Let.new.self
    (ap view (first_of (search rules, search (rules, the_lemmas), search (rules, the_lemmas, c.in-Let.is))) ∙ view_Let c.part-first-in-Let.new.part c.next-in-Let.new.part) c.next-in-Let.ensures

pub parts-part-first-requires-in-If : goal.parts-part-first-requires-in-If
parts-part-first-requires-in-If t c =
    (search (rules, the_lemmas, arith), if_open c.args.level c.args.term.now c.in-If.a c.in-If.b c.in-If.c _ _ _ c.args.trail.now c.args.self.now c.in-If.is c.in-If.a-is c.in-If.b-is c.in-If.c-is c.requires.ready)

pub parts-next-second-requires : goal.parts-next-second-requires
parts-next-second-requires t c = (
  search (rules, the_lemmas, arith),
  if_next c.args.level c.args.term.now c.in-If.a c.in-If.b c.in-If.c _ _ _ c.args.trail.now c.args.self.now c.in-If.is c.in-If.a-is c.in-If.b-is c.in-If.c-is
      c.requires.ready c.part-first-in-If.new.part c.part-first-in-If.result c.part-first-in-If.new.self c.part-first-in-If.ensures,
)

pub parts-next-requires-in-If : goal.parts-next-requires-in-If
parts-next-requires-in-If t c = (
  search (rules, the_lemmas, arith),
  if_last c.args.level c.args.term.now c.in-If.a c.in-If.b c.in-If.c _ _ _ c.args.trail.now c.args.self.now c.in-If.is c.in-If.a-is c.in-If.b-is c.in-If.c-is
      c.requires.ready c.part-first-in-If.new.part c.part-first-in-If.result c.part-first-in-If.new.self c.part-first-in-If.ensures c.next-second.new.part c.next-second.result c.next-second.new.self
      c.next-second.ensures,
)

pub parts-returns-in-If : goal.parts-returns-in-If
parts-returns-in-If t c =
    if_ok c.args.level c.args.term.now c.in-If.a c.in-If.b c.in-If.c _ _ _ c.args.trail.now c.args.self.now c.in-If.is c.in-If.a-is c.in-If.b-is c.in-If.c-is c.requires.ready
    c.part-first-in-If.new.part c.part-first-in-If.result c.part-first-in-If.new.self c.part-first-in-If.ensures c.next-second.new.part c.next-second.result c.next-second.new.self
    c.next-second.ensures _ c.next-in-If.new.part c.next-in-If.result c.next-in-If.new.self
    (first_of (search rules, search (rules, the_lemmas), search (rules, the_lemmas, c.in-If.is))) c.next-in-If.ensures

pub parts-part-subject-requires : goal.parts-part-subject-requires
parts-part-subject-requires t c = (
  search (rules, the_lemmas, arith),
  case_open c.args.level c.args.term.now c.in-Case.a _ c.in-Case.branches _ c.in-Case.other _ c.args.trail.now c.args.self.now c.in-Case.is c.in-Case.a-is
      c.in-Case.branches-is c.in-Case.other-is c.requires.ready,
)

pub parts-labelled-branch-requires : goal.parts-labelled-branch-requires
parts-labelled-branch-requires t c = (
  search (rules, the_lemmas, arith),
  (
    omega arith,
    case_branches c.args.level c.args.term.now c.in-Case.a _ c.in-Case.branches _ c.in-Case.other _ c.args.trail.now c.args.self.now c.in-Case.is
        c.in-Case.a-is c.in-Case.branches-is c.in-Case.other-is c.requires.ready c.part-subject.new.part c.part-subject.result c.part-subject.new.self c.part-subject.ensures,
  ),
)

pub parts-other-requires : goal.parts-other-requires
parts-other-requires t c = (
  search (rules, the_lemmas, arith),
  case_other c.args.level c.args.term.now c.in-Case.a _ c.in-Case.branches _ c.in-Case.other _ c.args.trail.now c.args.self.now c.in-Case.is c.in-Case.a-is
      c.in-Case.branches-is c.in-Case.other-is c.requires.ready c.part-subject.new.part c.part-subject.result c.part-subject.new.self c.part-subject.ensures c.labelled-branch.new.parts
      c.labelled-branch.result c.labelled-branch.new.self c.labelled-branch.ensures _ (ap (λ n. n + 1) (ap length c.slice-count.ensures)),
)

pub parts-returns-in-Case : goal.parts-returns-in-Case
parts-returns-in-Case t c =
    case_ok c.args.level c.args.term.now c.in-Case.a _ c.in-Case.branches _ c.in-Case.other _ c.args.trail.now c.args.self.now c.in-Case.is c.in-Case.a-is c.in-Case.branches-is c.in-Case.other-is
    c.requires.ready c.part-subject.new.part c.part-subject.result c.part-subject.new.self c.part-subject.ensures c.labelled-branch.new.parts c.labelled-branch.result c.labelled-branch.new.self
    c.labelled-branch.ensures _ (ap (λ n. n + 1) (ap length c.slice-count.ensures))
    _ c.other.new.other c.other.result c.other.new.self (first_of (search rules, search (rules, the_lemmas), search (rules, the_lemmas, c.in-Case.is))) c.other.ensures

pub other-at-requires : goal.other-at-requires
other-at-requires t c = (
  search (rules, the_lemmas, arith),
  rest_open c.args.level c.args.number c.args.other.now c.in-Some.part _ c.args.trail.now c.args.before c.args.self.now c.in-Some.is
      (c.get_mut.ensures.value ∙ c.in-Some.part-is) (c.in_ok-before.was ∙ ap Ok c.if-branch.false) c.requires.ready,
)

pub other-returns-in-Some : goal.other-returns-in-Some
other-returns-in-Some t c =
    rest_ok c.args.level c.args.number c.args.other.now c.in-Some.part _ c.args.trail.now c.args.before c.args.self.now c.in-Some.is (c.get_mut.ensures.value ∙ c.in-Some.part-is)
    (c.in_ok-before.was ∙ ap Ok c.if-branch.false) c.requires.ready (view c.at.new.part) _ c.at.result c.at.new.self refl c.at.ensures

pub other-returns-in-None : goal.other-returns-in-None
other-returns-in-None t c =
    no_rest c.args.level c.args.number c.args.other.now _ c.args.before c.args.trail.now c.args.self.now c.in-None.is (c.in_ok-before.was ∙ ap Ok c.if-branch.false) c.in-None.is c.requires.ready

pub all-terms-init : goal.all-terms-init
all-terms-init t c =
    record { unvisited = (refl, λ k d l. refl); passed = terms_begun c.args.level c.args.terms.now c.slice_mut-terms.result.now c.args.trail.now c.args.self.now c.requires.ready }

pub all-at-requires : goal.all-at-requires
all-at-requires t c = (
  search (rules, the_lemmas, arith),
  terms_open c.args.level c.args.terms.now c.slice_mut-terms.result.now c.args.self.now c.slice_mut-terms.ensures.value c.terms.terms c.terms.i c.terms.self
      c.terms.auto.terms c.terms.invariant.passed c.index-terms-i.result c.terms-test.true c.args.trail.now c.requires.ready,
)

pub all-terms-preserved : goal.all-terms-preserved
all-terms-preserved t c =
    record {
      unvisited = rest_lent c.slice_mut-terms.result.now c.terms.terms c.terms.i c.at.new.part c.terms.invariant.unvisited.0 c.terms.invariant.unvisited.1;
      passed = terms_passed c.args.level c.args.terms.now c.slice_mut-terms.result.now c.args.self.now c.slice_mut-terms.ensures.value c.terms.terms c.terms.i c.terms.self c.terms.auto.terms
          c.terms.invariant.passed c.index-terms-i.result c.terms-test.true c.in_ok-at.field-0 c.at.new.part c.at.new.self c.if-branch.false c.in_ok-at.ensures;
    }

pub all-returns-then-branch : goal.all-returns-then-branch
all-returns-then-branch t c =
    terms_steps c.args.level c.args.terms.now c.slice_mut-terms.result.now c.args.self.now c.slice_mut-terms.ensures.value c.terms.terms c.terms.i c.terms.self c.terms.auto.terms
    c.terms.invariant.passed c.index-terms-i.result c.terms-test.true c.in_ok-at.field-0 c.at.new.part c.at.new.self c.if-branch.true c.in_ok-at.ensures

pub all-returns : goal.all-returns
all-returns t c =
    terms_ended c.args.level c.args.terms.now c.slice_mut-terms.result.now c.args.self.now c.slice_mut-terms.ensures.value c.terms.terms c.terms.i c.terms.self c.terms.auto.terms c.terms.invariant.passed c.terms-test.false

pub labelled-parts-init : goal.labelled-parts-init
labelled-parts-init t c =
    record
    { unvisited = (refl, λ k d l. refl); passed = fields_begun c.args.level c.args.number c.args.parts.now c.slice_mut-parts.result.now c.args.trail.now c.args.before c.args.self.now (c.in_ok-before.was ∙ ap Ok c.if-branch.false) c.requires.ready }

pub labelled-at-requires : goal.labelled-at-requires
labelled-at-requires t c = (
  search (rules, the_lemmas, arith),
  fields_open c.args.level c.args.number c.args.parts.now c.slice_mut-parts.result.now c.args.self.now c.slice_mut-parts.ensures.value c.parts.parts c.parts.i
      c.parts.self c.parts.auto.parts c.parts.invariant.passed c.args.before (c.in_ok-before.was ∙ ap Ok c.if-branch.false) c.index-parts-i.result c.parts-test.true c.args.trail.now c.requires.ready,
)

pub labelled-parts-preserved : goal.labelled-parts-preserved
labelled-parts-preserved t c =
    record {
      unvisited = rest_lent c.slice_mut-parts.result.now c.parts.parts c.parts.i _ c.parts.invariant.unvisited.0 c.parts.invariant.unvisited.1;
      passed = fields_passed c.args.level c.args.number c.args.parts.now c.slice_mut-parts.result.now c.args.self.now c.slice_mut-parts.ensures.value c.parts.parts c.parts.i c.parts.self
          c.parts.auto.parts c.parts.invariant.passed c.args.before (c.in_ok-before.was ∙ ap Ok c.if-branch.false) c.index-parts-i.result c.parts-test.true c.in_ok-at.field-0 c.at.new.part c.at.new.self
          c.if-branch-2.false c.in_ok-at.ensures;
    }

pub labelled-returns-then-branch-2 : goal.labelled-returns-then-branch-2
labelled-returns-then-branch-2 t c =
    fields_steps c.args.level c.args.number c.args.parts.now c.slice_mut-parts.result.now c.args.self.now c.slice_mut-parts.ensures.value c.parts.parts c.parts.i c.parts.self c.parts.auto.parts
    c.parts.invariant.passed c.args.before (c.in_ok-before.was ∙ ap Ok c.if-branch.false) c.index-parts-i.result c.parts-test.true c.in_ok-at.field-0 c.at.new.part c.at.new.self _ c.if-branch-2.true
    c.in_ok-at.ensures refl

pub labelled-returns : goal.labelled-returns
labelled-returns t c =
    fields_ended c.args.level c.args.number c.args.parts.now c.slice_mut-parts.result.now c.args.self.now c.slice_mut-parts.ensures.value c.parts.parts c.parts.i c.parts.self c.parts.auto.parts
    c.parts.invariant.passed c.args.before (c.in_ok-before.was ∙ ap Ok c.if-branch.false) _ c.parts-test.false refl
