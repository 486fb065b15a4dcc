use Rattle.std.proofs.Common.{rules, arith, subst, sym, ◌+◌, ◌≤◌, ◌^◌}
use Rattle.kl_core.specs.Trees.{view}
use Rattle.kl_core.specs.Positions.{InRange, shift_of}
use Rattle.kl_core.specs.declared.term.Term.{the_lemmas}
use Rattle.kl_core.proofs.Made.{made, made_of_two, made_of_three}
use Rattle.kl_core.proofs.Raising.{fit_Rec, fit_Proj, fit_Inj, case_fit, fit_branches, fit_other, fit_rest, fit_Make, fit_Union, fit_Ext, fit_If, fit_Let, fit_Prim, raise_Rec, raise_Proj, raise_Inj, raise_Case, raise_nothing, raise_Make, raise_Union, raise_Ext, raise_If, raise_Let, raise_Prim, copied}
use Rattle.kl_core.proofs.moving.+raise.Goals as goal

pub raise-raise_fields-requires : goal.raise-raise_fields-requires
raise-raise_fields-requires t c = (search (rules, the_lemmas, arith), fit_Rec _ _ _ _ _ c.in-Rec.is c.slice.ensures c.requires.fits)

pub raise-raise_box-requires : goal.raise-raise_box-requires
raise-raise_box-requires t c = (search (rules, the_lemmas, arith), fit_Proj _ _ _ _ _ c.in-Proj.is c.requires.fits)

pub raise-raise_box-requires-in-Inj : goal.raise-raise_box-requires-in-Inj
raise-raise_box-requires-in-Inj t c = (search (rules, the_lemmas, arith), fit_Inj _ _ _ _ _ c.in-Inj.is c.requires.fits)

pub raise-raise_box-requires-in-Case : goal.raise-raise_box-requires-in-Case
raise-raise_box-requires-in-Case t c = (search (rules, the_lemmas, arith), (case_fit _ _ _ _ _ _ c.in-Case.is c.requires.fits).0)

pub raise-raise_branches-requires : goal.raise-raise_branches-requires
raise-raise_branches-requires t c = (search (rules, the_lemmas, arith), fit_branches _ _ _ _ _ _ _ c.in-Case.is c.slice-in-Case.ensures c.requires.fits)

pub raise-raise_other-requires : goal.raise-raise_other-requires
raise-raise_other-requires t c = (search (rules, the_lemmas, arith), fit_other _ _ _ _ _ _ c.in-Case.is c.requires.fits)

pub raise-raise_all-requires : goal.raise-raise_all-requires
raise-raise_all-requires t c = (search (rules, the_lemmas, arith), fit_Make _ _ _ _ _ _ c.in-Make.is c.slice-in-Make.ensures c.requires.fits)

pub raise-raise_box-requires-in-Union : goal.raise-raise_box-requires-in-Union
raise-raise_box-requires-in-Union t c = (search (rules, the_lemmas, arith), (fit_Union _ _ _ _ _ c.in-Union.is c.requires.fits).0)

pub raise-raise_box-requires-in-Union-2 : goal.raise-raise_box-requires-in-Union-2
raise-raise_box-requires-in-Union-2 t c = (search (rules, the_lemmas, arith), (fit_Union _ _ _ _ _ c.in-Union.is c.requires.fits).1)

pub raise-raise_body-requires : goal.raise-raise_body-requires
raise-raise_body-requires t c = (search (rules, the_lemmas, arith), (fit_Ext _ _ _ _ _ _ c.in-Ext.is c.requires.fits).0)

pub raise-raise_box-requires-in-Ext : goal.raise-raise_box-requires-in-Ext
raise-raise_box-requires-in-Ext t c = (search (rules, the_lemmas, arith), (fit_Ext _ _ _ _ _ _ c.in-Ext.is c.requires.fits).1)

pub raise-raise_box-requires-in-If : goal.raise-raise_box-requires-in-If
raise-raise_box-requires-in-If t c = (search (rules, the_lemmas, arith), (fit_If _ _ _ _ _ _ c.in-If.is c.requires.fits).0)

pub raise-raise_box-requires-in-If-2 : goal.raise-raise_box-requires-in-If-2
raise-raise_box-requires-in-If-2 t c = (search (rules, the_lemmas, arith), (fit_If _ _ _ _ _ _ c.in-If.is c.requires.fits).1)

pub raise-raise_box-requires-in-If-3 : goal.raise-raise_box-requires-in-If-3
raise-raise_box-requires-in-If-3 t c = (search (rules, the_lemmas, arith), (fit_If _ _ _ _ _ _ c.in-If.is c.requires.fits).2)

pub raise-raise_box-requires-in-Let : goal.raise-raise_box-requires-in-Let
raise-raise_box-requires-in-Let t c = (search (rules, the_lemmas, arith), (fit_Let _ _ _ _ _ c.in-Let.is c.requires.fits).0)

pub raise-raise_body-requires-in-Let : goal.raise-raise_body-requires-in-Let
raise-raise_body-requires-in-Let t c = (search (rules, the_lemmas, arith), (fit_Let _ _ _ _ _ c.in-Let.is c.requires.fits).1)

pub raise-raise_all-requires-in-Prim : goal.raise-raise_all-requires-in-Prim
raise-raise_all-requires-in-Prim t c = (search (rules, the_lemmas, arith), fit_Prim _ _ _ _ _ _ c.in-Prim.is c.slice-in-Prim.ensures c.requires.fits)

pub raise-returns-in-Rec : goal.raise-returns-in-Rec
raise-returns-in-Rec t c = made _ _ _ _ _ c.record.ensures c.raise_fields.ensures (λ qs h. raise_Rec _ _ _ _ _ _ c.in-Rec.is c.slice.ensures h)

pub raise-returns-in-Proj : goal.raise-returns-in-Proj
raise-returns-in-Proj t c = made _ _ _ _ _ c.projection.ensures c.raise_box.ensures (λ x h. raise_Proj _ _ _ _ _ _ c.in-Proj.is h)

pub raise-returns-in-Inj : goal.raise-returns-in-Inj
raise-returns-in-Inj t c = made _ _ _ _ _ c.injection.ensures c.raise_box-in-Inj.ensures (λ x h. raise_Inj _ _ _ _ _ _ c.in-Inj.is h)

pub raise-returns-in-Case : goal.raise-returns-in-Case
raise-returns-in-Case t c = made_of_three _ _ _ _ _ _ _ _ _ c.case.ensures c.raise_box-in-Case.ensures c.raise_branches.ensures c.raise_other.ensures (λ x qs d g h i. raise_Case _ _ _ _ _ _ _ _ _ _ c.in-Case.is g c.slice-in-Case.ensures h i)

pub raise-returns-in-Make : goal.raise-returns-in-Make
raise-returns-in-Make t c = made _ _ _ _ _ c.collection.ensures c.raise_all.ensures (λ us h. raise_Make _ _ _ _ _ _ _ c.in-Make.is c.slice-in-Make.ensures h)

pub raise-returns-in-Union : goal.raise-returns-in-Union
raise-returns-in-Union t c = made_of_two _ c.raise_box-in-Union.result c.raise_box-in-Union-2.result c.union.result _ _ _ c.union.ensures c.raise_box-in-Union.ensures c.raise_box-in-Union-2.ensures (λ x y h i. raise_Union _ _ _ _ _ _ _ c.in-Union.is h i)

pub raise-returns-in-Ext : goal.raise-returns-in-Ext
raise-returns-in-Ext t c = made_of_two _ c.raise_body.result c.raise_box-in-Ext.result c.extension.result _ _ _ c.extension.ensures c.raise_body.ensures c.raise_box-in-Ext.ensures (λ x y h i. raise_Ext _ _ _ _ _ _ _ _ c.in-Ext.is h i)

pub raise-returns-in-If : goal.raise-returns-in-If
raise-returns-in-If t c = made_of_three _ _ _ _ _ _ _ _ _ c.test.ensures c.raise_box-in-If.ensures c.raise_box-in-If-2.ensures c.raise_box-in-If-3.ensures (λ x y z h i j. raise_If _ _ _ _ _ _ _ _ _ c.in-If.is h i j)

pub raise-returns-in-Let : goal.raise-returns-in-Let
raise-returns-in-Let t c = made_of_two _ c.raise_box-in-Let.result c.raise_body-in-Let.result c.binding.result _ _ _ c.binding.ensures c.raise_box-in-Let.ensures c.raise_body-in-Let.ensures (λ x y h i. raise_Let _ _ _ _ _ _ _ c.in-Let.is h i)

pub raise-returns-in-Prim : goal.raise-returns-in-Prim
raise-returns-in-Prim t c = made _ _ _ _ _ c.primitive.ensures c.raise_all-in-Prim.ensures (λ us h. raise_Prim _ _ _ _ _ _ _ c.in-Prim.is c.slice-in-Prim.ensures h)

pub raise_other-raise-requires : goal.raise_other-raise-requires
raise_other-raise-requires t c = (search (rules, the_lemmas, arith), fit_rest _ _ _ _ _ c.in-Some.is c.get.ensures c.requires.fits)

pub raise_other-returns-in-None : goal.raise_other-returns-in-None
raise_other-returns-in-None t c = raise_nothing _ _ _ c.in-None.is

pub raise_branches-raise_under-requires : goal.raise_branches-raise_under-requires
unfolding Rattle.kl_core.specs.declared.term.Term.TheBlock.the_depth
raise_branches-raise_under-requires t c =
    let fits = subst (λ p. InRange (shift_of (view p.1) (c.args.from + 1) c.args.by)) (sym c.branch-item.is) (c.requires.fits c.loop-branch.branch-index c.branch-item.result c.loop-branch-test.true) in
    (search (rules, the_lemmas, arith), fits)

pub raise_fields-raise-requires : goal.raise_fields-raise-requires
unfolding Rattle.kl_core.specs.declared.term.Term.TheBlock.the_depth
raise_fields-raise-requires t c =
    let fits = subst (λ p. InRange (shift_of (view p.1) c.args.from c.args.by)) (sym c.field-item.is) (c.requires.fits c.loop-field.field-index c.field-item.result c.loop-field-test.true) in
    (search (rules, the_lemmas, arith), fits)

pub raise_under-returns-in-None : goal.raise_under-returns-in-None
raise_under-returns-in-None t c =
    let past : 2 ^ 32 ≤ c.args.from + 1 = omega (arith, c.in-None.ensures) in
    copied _ _ _ _ past c.requires.fits c.copy.ensures
