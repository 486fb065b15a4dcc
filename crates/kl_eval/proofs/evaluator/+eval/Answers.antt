use Rattle.std.proofs.Common.{◌≡◌, length, true, false, refl, sym, ap, rules, arith}
use Rattle.kl_core.specs.declared.term.Term.{the_lemmas}
use Rattle.kl_outcome.specs.Outcome.{done, over, fine, overflow, flow}
use Rattle.kl_eval.proofs.Forms.{body_fine, body_past, body_starts, call_arity, call_both, call_former_stop, call_latter_stop, call_only, call_only_stop, each_ends, each_goes, each_lost, each_none, each_over, each_refused, each_sense, each_starts, evals_copied, evals_lent, evals_part, fields_ends, fields_goes, fields_lost, fields_sense, fields_starts, fields_stops, first_there, fits_both, fits_only, found, items_done, loop_lost, loop_refused, missing, no_branch, over_gives, sense_body, sense_bound, sense_branch, sense_first, sense_former, sense_inj, sense_items, sense_latter, sense_make, sense_only, sense_other_at, sense_picked, sense_prim, sense_proj, sense_rec, sense_second, sense_source, sense_subject, sense_test, sense_var, source_ready, source_there, source_whole, there_field, value_branch, value_case_stop, value_tested, value_tested_stop, test_told, second_told, value_join, look_tested, look_tested_stop, value_inj, value_inj_stop, value_let, value_let_stop, value_loop, value_make, value_other_at, value_prim, value_proj, value_proj_stop, value_rec, value_rec_stop, value_source, value_source_stop, value_union_first, value_var, variant_there}
use Rattle.kl_eval.proofs.Emitting.{body_sense_whole, body_added, body_stops, into_tested, into_tested_stop, into_none, into_one, into_one_stop, look_prim, sense_of, sense_told, truth_told, test_sense, whole_there, whole_picked, whole_bound, into_let, into_let_stop}
use Rattle.kl_ask.proofs.Worlds.{moved_none}
use Rattle.kl_eval.proofs.evaluator.+eval.Goals as goal

pub value-variable-requires : goal.value-variable-requires
value-variable-requires g t c = sense_var _ _ _ _ c.in-Var.is (c.requires.0, c.requires.1, c.requires.2, c.requires.3)

pub value-returns-in-Var : goal.value-returns-in-Var
value-returns-in-Var g t c = value_var _ _ _ _ _ _ c.in-Var.is c.variable.ensures c.copy.ensures

pub value-returns-in-Ok : goal.value-returns-in-Ok
value-returns-in-Ok g t c = value_source _ _ _ c.in-Source.is _ (g.T.Seen.world c.args.tables.now) _ c.in-Ok.ensures

pub value-returns-in-Source : goal.value-returns-in-Source
value-returns-in-Source g t c = value_source_stop _ _ _ c.in-Source.is _ _ (g.T.Seen.world c.args.tables.now) _ c.in-Err.ensures c.outside.ensures

pub value-each_field-requires : goal.value-each_field-requires
value-each_field-requires g t c κs within = (search (rules, the_lemmas, arith), (within, sense_rec _ _ _ _ c.in-Rec.is c.slice.ensures (g.T.Seen.world c.args.tables.now) c.requires))

pub value-returns-in-Ok-each_field : goal.value-returns-in-Ok-each_field
value-returns-in-Ok-each_field g t c = value_rec _ _ _ _ c.in-Rec.is c.slice.ensures _ _ _ _ c.of.ensures c.in-Ok-each_field.ensures

pub value-returns-in-Rec : goal.value-returns-in-Rec
value-returns-in-Rec g t c = value_rec_stop _ _ _ _ c.in-Rec.is c.slice.ensures _ _ _ _ c.in-Err-each_field.ensures c.outside-in-Err-each_field.ensures

pub value-look-requires : goal.value-look-requires
value-look-requires g t c κs within = (search (rules, the_lemmas, arith), (within, sense_proj _ _ _ _ _ (g.T.Seen.world c.args.tables.now) c.in-Proj.is c.get.ensures c.requires))

pub value-field-requires : goal.value-field-requires
value-field-requires g t c = there_field _ _ _ _ _ _ _ _ _ _ c.in-Proj.is refl c.get.ensures c.get-in-Ok-look.ensures c.requires c.in-Ok-look.ensures

pub value-returns-in-Ok-look : goal.value-returns-in-Ok-look
value-returns-in-Ok-look g t c = value_proj _ _ _ _ _ _ _ _ _ _ _ _ c.in-Proj.is refl c.get.ensures c.get-in-Ok-look.ensures c.field.ensures c.in-Ok-look.ensures c.copy-in-Ok-look.ensures

pub value-returns-in-Proj : goal.value-returns-in-Proj
value-returns-in-Proj g t c = value_proj_stop _ _ _ _ _ _ _ _ _ _ c.in-Proj.is refl c.get.ensures c.in-Err-look.ensures c.outside-in-Err-look.ensures

pub value-owned-requires : goal.value-owned-requires
value-owned-requires g t c κs within = (search (rules, the_lemmas, arith), (within, sense_inj _ _ _ _ _ _ c.in-Inj.is refl c.get-in-Inj.ensures (g.T.Seen.world c.args.tables.now) c.requires))

pub value-returns-in-Ok-inside : goal.value-returns-in-Ok-inside
value-returns-in-Ok-inside g t c = value_inj _ _ _ _ _ _ c.in-Inj.is refl c.get-in-Inj.ensures _ _ _ _ (evals_part _ _ _ _ _ _ c.owned.ensures c.in-Ok-inside.ensures) c.tag.ensures

pub value-returns-in-Inj : goal.value-returns-in-Inj
value-returns-in-Inj g t c = value_inj_stop _ _ _ _ _ _ c.in-Inj.is refl c.get-in-Inj.ensures _ _ _ _ (evals_part _ _ _ _ _ _ c.owned.ensures c.in-Err-inside.ensures) c.outside-in-Err-inside.ensures

pub value-look-requires-in-Case : goal.value-look-requires-in-Case
value-look-requires-in-Case g t c κs within = (search (rules, the_lemmas, arith), (within, sense_subject _ _ _ _ _ _ _ c.in-Case.is c.get-in-Case.ensures refl (g.T.Seen.world c.args.tables.now) c.requires))

pub value-variant-requires : goal.value-variant-requires
value-variant-requires g t c = variant_there _ _ _ _ _ _ _ c.in-Case.is c.get-in-Case.ensures refl _ _ _ _ c.get-in-Ok-look-2.ensures c.requires c.in-Ok-look-2.ensures

pub value-value-requires : goal.value-value-requires
value-value-requires g t c κs within = (search (rules, the_lemmas, arith), (within, let f = found _ _ _ _ _ _ c.slice-in-Ok-look-2.ensures c.slice-in-Some.ensures c.in-Some.ensures.place c.in-Some.ensures.within c.index-slice-at.is in sense_branch _ _ _ _ _ _ _ c.in-Case.is c.get-in-Case.ensures refl _ _ _ _ _ _ c.get-in-Ok-look-2.ensures c.variant.ensures c.requires c.in-Ok-look-2.ensures _ _ f.0 f.1))

pub value-returns-in-Some : goal.value-returns-in-Some
value-returns-in-Some g t c = let f = found _ _ _ _ _ _ c.slice-in-Ok-look-2.ensures c.slice-in-Some.ensures c.in-Some.ensures.place c.in-Some.ensures.within c.index-slice-at.is in value_branch _ _ _ _ _ _ _ c.in-Case.is c.get-in-Case.ensures refl _ _ _ _ _ _ _ _ _ _ c.get-in-Ok-look-2.ensures c.variant.ensures f.0 f.1 c.in-Ok-look-2.ensures c.value.ensures

pub value-value-requires-in-Some-other : goal.value-value-requires-in-Some-other
value-value-requires-in-Some-other g t c κs within = (search (rules, the_lemmas, arith), (within, sense_other_at _ _ _ _ _ _ _ c.in-Case.is c.get-in-Case.ensures refl _ _ _ _ _ _ c.get-in-Ok-look-2.ensures c.variant.ensures c.requires c.in-Ok-look-2.ensures _ _ (missing _ _ _ c.slice-in-Ok-look-2.ensures c.in-None.ensures.place) c.in-Some-other.is c.get-in-Some-other.ensures))

pub value-returns-in-Some-other : goal.value-returns-in-Some-other
value-returns-in-Some-other g t c = value_other_at _ _ _ _ _ _ _ c.in-Case.is c.get-in-Case.ensures refl _ _ _ _ _ _ _ _ _ _ c.get-in-Ok-look-2.ensures c.variant.ensures (missing _ _ _ c.slice-in-Ok-look-2.ensures c.in-None.ensures.place) c.in-Some-other.is c.get-in-Some-other.ensures c.in-Ok-look-2.ensures c.value-in-Some-other.ensures

pub value-returns-in-Case : goal.value-returns-in-Case
value-returns-in-Case g t c = value_case_stop _ _ _ _ _ _ _ c.in-Case.is c.get-in-Case.ensures refl _ _ _ _ c.in-Err-look-2.ensures c.outside-in-Err-look-2.ensures

pub value-each-requires : goal.value-each-requires
value-each-requires g t c κs within = (search (rules, the_lemmas, arith), (within, sense_make _ _ _ _ _ c.in-Make.is c.slice-in-Make.ensures (g.T.Seen.world c.args.tables.now) c.requires))

pub value-returns-in-Make : goal.value-returns-in-Make
value-returns-in-Make g t c = value_make _ _ _ _ _ c.in-Make.is c.slice-in-Make.ensures _ _ _ _ c.each.ensures c.gather.ensures

pub value-value-requires-in-Union : goal.value-value-requires-in-Union
value-value-requires-in-Union g t c κs within = (search (rules, the_lemmas, arith), (within, sense_first _ _ _ _ _ c.in-Union.is c.get-in-Union.ensures (g.T.Seen.world c.args.tables.now) c.requires))

pub value-returns-in-Union : goal.value-returns-in-Union
value-returns-in-Union g t c = value_union_first _ _ _ _ _ c.in-Union.is c.get-in-Union.ensures _ _ _ c.in-Err-value.ensures

pub value-lent-requires : goal.value-lent-requires
value-lent-requires g t c = let s = sense_source _ _ _ _ _ _ _ c.in-Ext.is refl c.get-in-Ext.ensures (g.T.Seen.world c.args.tables.now) c.requires in (_, (s.0, s.1, s.2, s.3))

pub value-parts_of-requires : goal.value-parts_of-requires
value-parts_of-requires g t c = source_whole _ _ _ _ _ _ _ c.in-Ext.is refl c.get-in-Ext.ensures _ (g.T.Seen.world c.args.tables.now) c.requires (c.in-Some-lent.ensures.value _ _)

pub value-draw-requires : goal.value-draw-requires
value-draw-requires g t c κs within = (search (rules, the_lemmas, arith), (within, sense_items _ _ _ _ _ _ _ c.in-Ext.is c.get-in-Some-lent.ensures c.get-in-Ext.ensures (done _) _ fine (g.T.Seen.world c.args.tables.now) _ (moved_none _) (items_done _ _ _ c.parts_of.ensures.reads) c.requires (c.in-Some-lent.ensures.value _ _)))

pub value-returns-in-Some-lent : goal.value-returns-in-Some-lent
value-returns-in-Some-lent g t c = value_loop _ _ _ _ _ _ _ c.in-Ext.is c.get-in-Some-lent.ensures c.get-in-Ext.ensures (done _) _ fine _ _ _ _ _ (moved_none _) (λ n. refl) (items_done _ _ _ c.parts_of.ensures.reads) (c.in-Some-lent.ensures.value _ _) c.draw.ensures c.gather-in-Some-lent.ensures

pub value-value-requires-in-None-lent : goal.value-value-requires-in-None-lent
value-value-requires-in-None-lent g t c κs within = (search (rules, the_lemmas, arith), (within, sense_source _ _ _ _ _ _ _ c.in-Ext.is refl c.get-in-None-lent.ensures (g.T.Seen.world c.args.tables.now) c.requires))

pub value-parts_of-requires-in-Ok-value-2 : goal.value-parts_of-requires-in-Ok-value-2
value-parts_of-requires-in-Ok-value-2 g t c = source_whole _ _ _ _ _ _ _ c.in-Ext.is refl c.get-in-None-lent.ensures _ _ c.requires c.in-Ok-value-2.ensures.gives

pub value-draw-requires-in-Ok-value-2 : goal.value-draw-requires-in-Ok-value-2
value-draw-requires-in-Ok-value-2 g t c κs within = (search (rules, the_lemmas, arith), (within, sense_items _ _ _ _ _ _ _ c.in-Ext.is c.get-in-Ok-value-2.ensures c.get-in-None-lent.ensures (done _) _ fine _ _ c.in-Ok-value-2.ensures.moved (items_done _ _ _ c.parts_of-in-Ok-value-2.ensures.reads) c.requires c.in-Ok-value-2.ensures.gives))

pub value-returns-in-Ok-value-2 : goal.value-returns-in-Ok-value-2
value-returns-in-Ok-value-2 g t c = value_loop _ _ _ _ _ _ _ c.in-Ext.is c.get-in-Ok-value-2.ensures c.get-in-None-lent.ensures (done _) _ fine _ _ _ _ _ c.in-Ok-value-2.ensures.moved c.in-Ok-value-2.ensures.still (items_done _ _ _ c.parts_of-in-Ok-value-2.ensures.reads) c.in-Ok-value-2.ensures.gives c.draw-in-Ok-value-2.ensures c.gather-in-Ok-value-2.ensures

pub value-look-requires-in-Let : goal.value-look-requires-in-Let
value-look-requires-in-Let g t c κs within = (search (rules, the_lemmas, arith), (within, sense_bound _ _ _ _ _ c.in-Let.is c.get-in-Let.ensures (g.T.Seen.world c.args.tables.now) c.requires))

pub value-returns-in-Let : goal.value-returns-in-Let
value-returns-in-Let g t c = value_let_stop _ _ _ _ _ c.in-Let.is c.get-in-Let.ensures _ _ _ _ c.in-Err-look-3.ensures c.outside-in-Err-look-3.ensures

pub value-call-requires : goal.value-call-requires
value-call-requires g t c κs within = (search (rules, the_lemmas, arith), (within, sense_prim _ _ _ _ _ c.in-Prim.is c.slice-in-Prim.ensures (g.T.Seen.world c.args.tables.now) c.requires))

pub value-returns-in-Ok-call : goal.value-returns-in-Ok-call
value-returns-in-Ok-call g t c = value_prim _ _ _ _ _ c.in-Prim.is c.slice-in-Prim.ensures _ _ _ c.in-Ok-call.ensures

pub look-lent-requires : goal.look-lent-requires
look-lent-requires g t c = (_, (c.requires.0, c.requires.1, c.requires.2, c.requires.3))

pub look-returns-in-Some : goal.look-returns-in-Some
look-returns-in-Some g t c = evals_lent _ _ _ _ (λ S T. c.in-Some.ensures.value S T)

pub look-compared-requires : goal.look-compared-requires
look-compared-requires g t c = (g.T.Seen.world c.args.tables.now, c.requires)

pub look-returns-in-Some-compared : goal.look-returns-in-Some-compared
look-returns-in-Some-compared g t c = evals_lent _ _ _ _ (λ S T. c.in-Some-compared.ensures S T)

pub each-owned-requires : goal.each-owned-requires
each-owned-requires g t c κs within = (search (rules, the_lemmas, arith), (within, each_sense _ _ _ _ _ _ _ _ c.terms-test.true c.term-item.is c.terms.invariant))

pub each-returns-in-Err-push : goal.each-returns-in-Err-push
each-returns-in-Err-push g t c = each_lost _ _ _ _ _ _ _ _ c.terms-test.true c.term-item.is c.terms.invariant _ _ _ _ c.in-Ok-owned.ensures c.in-Err-push.ensures

pub each-terms-preserved : goal.each-terms-preserved
each-terms-preserved g t c = each_goes _ _ _ _ _ _ _ _ c.terms-test.true c.term-item.is c.terms.invariant _ _ _ c.in-Ok-owned.ensures c.in-Ok-push.ensures

pub each-returns : goal.each-returns
each-returns g t c = each_ends _ _ _ _ _ _ _ c.terms-test.false c.terms.invariant

pub each_field-owned-requires : goal.each_field-owned-requires
each_field-owned-requires g t c κs within = (search (rules, the_lemmas, arith), (within, fields_sense _ _ _ _ _ _ _ _ c.parts-test.true c.part-item.is c.parts.invariant))

pub each_field-returns-in-Err-push_field : goal.each_field-returns-in-Err-push_field
each_field-returns-in-Err-push_field g t c = fields_lost _ _ _ _ _ _ _ _ c.parts-test.true c.part-item.is c.parts.invariant _ _ _ _ (evals_part _ _ _ _ _ _ c.owned.ensures c.in-Ok-inside.ensures) c.in-Err-push_field.ensures

pub each_field-parts-preserved : goal.each_field-parts-preserved
each_field-parts-preserved g t c = fields_goes _ _ _ _ _ _ _ _ c.parts-test.true c.part-item.is c.parts.invariant _ _ _ (evals_part _ _ _ _ _ _ c.owned.ensures c.in-Ok-inside.ensures) c.in-Ok-push_field.ensures

pub each_field-returns-in-Err-inside : goal.each_field-returns-in-Err-inside
each_field-returns-in-Err-inside g t c = fields_stops _ _ _ _ _ _ _ _ c.parts-test.true c.part-item.is c.parts.invariant _ _ (evals_part _ _ _ _ _ _ c.owned.ensures c.in-Err-inside.ensures)

pub each_field-returns : goal.each_field-returns
each_field-returns g t c = fields_ends _ _ _ _ _ _ _ c.parts-test.false c.parts.invariant

pub draw-returns-then-past : goal.draw-returns-then-past
draw-returns-then-past g t c = body_past _ _ _ _ _ _ _ _ _ c.drawn-test.false c.if-past.true c.drawn.invariant

pub draw-returns-else-past : goal.draw-returns-else-past
draw-returns-else-past g t c = body_fine _ _ _ _ _ _ _ _ _ c.drawn-test.false c.if-past.false c.drawn.invariant

pub value-draw-requires-in-Over : goal.value-draw-requires-in-Over
value-draw-requires-in-Over g t c κs within = (search (rules, the_lemmas, arith), (within, sense_items _ _ _ _ _ _ _ c.in-Ext.is c.get-in-Over.ensures c.get-in-None-lent.ensures (over _) _ overflow _ _ c.in-Err-value-2.ensures.moved (ap (λ q. flow q overflow) (sym c.deref.ensures.value)) c.requires (over_gives _ _ _ _ _ _ c.in-Over.is c.in-Err-value-2.ensures)))

pub value-returns-in-Over : goal.value-returns-in-Over
value-returns-in-Over g t c = value_loop _ _ _ _ _ _ _ c.in-Ext.is c.get-in-Over.ensures c.get-in-None-lent.ensures (over _) _ overflow _ _ _ _ _ c.in-Err-value-2.ensures.moved c.in-Err-value-2.ensures.still (ap (λ q. flow q overflow) (sym c.deref.ensures.value)) (over_gives _ _ _ _ _ _ c.in-Over.is c.in-Err-value-2.ensures) c.draw-in-Over.ensures c.gather-in-Over.ensures

pub each-returns-in-Over : goal.each-returns-in-Over
each-returns-in-Over g t c = each_over _ _ _ _ _ _ _ _ c.terms-test.true c.term-item.is c.terms.invariant _ _ _ _ c.in-Over.is c.in-Err-owned.ensures refl

pub each-returns-in-NoMemory : goal.each-returns-in-NoMemory
each-returns-in-NoMemory g t c = each_none _ _ _ _ _ _ _ _ c.terms-test.true c.term-item.is c.terms.invariant _ _ c.in-Err-owned.ensures

pub each-terms-init : goal.each-terms-init
each-terms-init g t c = each_starts _ _ _ _ c.in-Ok.ensures.items c.requires

pub each_field-parts-init : goal.each_field-parts-init
each_field-parts-init g t c = fields_starts _ _ _ _ c.in-Ok.ensures.items c.requires

pub draw-drawn-init : goal.draw-drawn-init
draw-drawn-init g t c = body_starts _ _ _ _ _ _ c.new-items.ensures.items c.requires

pub value-returns-in-Ext : goal.value-returns-in-Ext
value-returns-in-Ext g t c = loop_lost _ _ _ _ _ _ _ c.in-Ext.is refl c.get-in-None-lent.ensures _ _ _ c.in-Err-value-2.ensures

pub value-unreachable-requires : goal.value-unreachable-requires
value-unreachable-requires g t c = no_branch _ _ _ _ _ _ _ c.in-Case.is c.get-in-Case.ensures refl _ _ _ _ _ _ c.get-in-Ok-look-2.ensures c.variant.ensures c.requires c.in-Ok-look-2.ensures (missing _ _ _ c.slice-in-Ok-look-2.ensures c.in-None.ensures.place) c.in-None-other.is

pub call-look-requires : goal.call-look-requires
call-look-requires g t c κs within = (search (rules, the_lemmas, arith), (within, sense_only _ _ _ _ (g.T.Seen.world c.args.tables.now) c.if-terms-eq1.true c.index-terms-0.is c.requires))

pub call-apply-requires-clause-fits : goal.call-apply-requires-clause-fits
call-apply-requires-clause-fits g t c = (fits_only _ _ _ _ _ c.if-terms-eq1.true c.index-terms-0.is _ _ c.requires c.in-Ok.ensures).0

pub call-apply-requires-clause-canonical : goal.call-apply-requires-clause-canonical
call-apply-requires-clause-canonical g t c = (fits_only _ _ _ _ _ c.if-terms-eq1.true c.index-terms-0.is _ _ c.requires c.in-Ok.ensures).1

pub call-returns-in-Ok : goal.call-returns-in-Ok
call-returns-in-Ok g t c = call_only _ _ _ _ _ c.if-terms-eq1.true c.index-terms-0.is _ _ _ c.in-Ok.ensures c.apply.ensures

pub call-returns-in-Err : goal.call-returns-in-Err
call-returns-in-Err g t c = call_only_stop _ _ _ _ _ c.if-terms-eq1.true c.index-terms-0.is _ _ c.in-Err.ensures

pub call-look-requires-then-terms-eq2 : goal.call-look-requires-then-terms-eq2
call-look-requires-then-terms-eq2 g t c κs within = (search (rules, the_lemmas, arith), (within, sense_former _ _ _ _ (g.T.Seen.world c.args.tables.now) c.if-terms-eq2.true c.index-terms-0-then-terms-eq2.is c.requires))

pub call-look-requires-in-Ok-look : goal.call-look-requires-in-Ok-look
call-look-requires-in-Ok-look g t c κs within = (search (rules, the_lemmas, arith), (within, sense_latter _ _ _ _ _ (g.T.Seen.world c.args.tables.now) c.if-terms-eq2.true c.index-terms-0-then-terms-eq2.is c.index-terms-1.is _ c.in-Ok-look.ensures.moved c.requires))

pub call-apply-requires-in-Ok-look-2-clause-fits : goal.call-apply-requires-in-Ok-look-2-clause-fits
call-apply-requires-in-Ok-look-2-clause-fits g t c = (fits_both _ _ _ _ _ (g.T.Seen.world c.args.tables.now) c.if-terms-eq2.true c.index-terms-0-then-terms-eq2.is c.index-terms-1.is _ _ _ _ c.requires c.in-Ok-look.ensures c.in-Ok-look-2.ensures).0

pub call-apply-requires-in-Ok-look-2-clause-canonical : goal.call-apply-requires-in-Ok-look-2-clause-canonical
call-apply-requires-in-Ok-look-2-clause-canonical g t c = (fits_both _ _ _ _ _ (g.T.Seen.world c.args.tables.now) c.if-terms-eq2.true c.index-terms-0-then-terms-eq2.is c.index-terms-1.is _ _ _ _ c.requires c.in-Ok-look.ensures c.in-Ok-look-2.ensures).1

pub call-returns-in-Ok-look-2 : goal.call-returns-in-Ok-look-2
call-returns-in-Ok-look-2 g t c = call_both _ _ _ _ _ (g.T.Seen.world c.args.tables.now) c.if-terms-eq2.true c.index-terms-0-then-terms-eq2.is c.index-terms-1.is _ _ _ _ _ c.in-Ok-look.ensures c.in-Ok-look-2.ensures c.apply-in-Ok-look-2.ensures

pub call-returns-in-Err-look-2 : goal.call-returns-in-Err-look-2
call-returns-in-Err-look-2 g t c = call_latter_stop _ _ _ _ _ (g.T.Seen.world c.args.tables.now) c.if-terms-eq2.true c.index-terms-0-then-terms-eq2.is c.index-terms-1.is _ _ _ _ c.in-Ok-look.ensures c.in-Err-look-2.ensures

pub call-returns-in-Err-look : goal.call-returns-in-Err-look
call-returns-in-Err-look g t c = call_former_stop _ _ _ _ _ _ _ c.if-terms-eq2.true c.index-terms-0-then-terms-eq2.is c.in-Err-look.ensures

pub call-unreachable-requires : goal.call-unreachable-requires
call-unreachable-requires g t c = call_arity _ _ _ (g.T.Seen.world c.args.tables.now) c.requires c.if-terms-eq1.false c.if-terms-eq2.false

pub value-table-requires-clause-ready : goal.value-table-requires-clause-ready
value-table-requires-clause-ready g t c = source_ready _ _ _ c.in-Source.is (g.T.Seen.world c.args.tables.now) c.requires

pub value-table-requires-clause-there : goal.value-table-requires-clause-there
value-table-requires-clause-there g t c = source_there _ _ _ c.in-Source.is (g.T.Seen.world c.args.tables.now) c.requires

pub value-returns-in-Driver : goal.value-returns-in-Driver
value-returns-in-Driver g t c = loop_refused _ _ _ _ _ _ _ c.in-Ext.is refl c.get-in-None-lent.ensures _ _ _ _ _ c.in-Driver.is c.in-Err-value-2.ensures

pub each-returns-in-Driver : goal.each-returns-in-Driver
each-returns-in-Driver g t c = each_refused _ _ _ _ _ _ _ _ c.terms-test.true c.term-item.is c.terms.invariant _ _ _ _ c.in-Driver.is c.in-Err-owned.ensures

pub draw-emit-requires : goal.draw-emit-requires
draw-emit-requires g t c κs within = (search (rules, the_lemmas, arith), (within, body_sense_whole _ _ _ _ _ _ _ _ _ _ c.drawn-test.true c.item-item.is c.drawn.invariant))

pub draw-drawn-preserved : goal.draw-drawn-preserved
draw-drawn-preserved g t c = body_added _ _ _ _ _ _ _ _ _ _ c.drawn-test.true c.item-item.is c.drawn.invariant _ _ c.in-Ok.ensures

pub draw-returns-in-Err : goal.draw-returns-in-Err
draw-returns-in-Err g t c = body_stops _ _ _ _ _ _ _ _ _ _ c.drawn-test.true c.item-item.is c.drawn.invariant _ _ _ _ c.in-Err.ensures c.behind.ensures

pub emit-returns-then-is_empty : goal.emit-returns-then-is_empty
emit-returns-then-is_empty g t c =
    let none : length c.slice-terms.result.now ≡ 0 = search rules in
    into_none _ _ _ _ _ c.in-Make.is c.slice-terms.ensures _ _ _ none refl

pub emit_other-returns-in-Ok : goal.emit_other-returns-in-Ok
emit_other-returns-in-Ok g t c = into_one _ _ _ _ _ c.in-Make.is c.slice-terms.ensures _ c.if-terms-eq1.true c.index-terms-0.is _ _ _ _ _ _ (evals_part _ _ _ _ _ _ c.owned.ensures c.in-Ok.ensures) c.push.ensures

pub emit_other-returns-in-Err : goal.emit_other-returns-in-Err
emit_other-returns-in-Err g t c = into_one_stop _ _ _ _ _ c.in-Make.is c.slice-terms.ensures _ c.if-terms-eq1.true c.index-terms-0.is _ _ _ _ _ _ (evals_part _ _ _ _ _ _ c.owned.ensures c.in-Err.ensures) c.outside.ensures refl

pub emit_whole-append-requires : goal.emit_whole-append-requires
emit_whole-append-requires g t c = whole_there _ _ _ _ _ c.requires c.in-Ok.ensures

pub look_made-returns-in-Ok : goal.look_made-returns-in-Ok
look_made-returns-in-Ok g t c = look_prim _ _ _ _ _ c.in-Prim.is c.slice.ensures _ _ _ c.in-Ok.ensures

pub look_made-returns-in-Err : goal.look_made-returns-in-Err
look_made-returns-in-Err g t c = look_prim _ _ _ _ _ c.in-Prim.is c.slice.ensures _ _ _ c.in-Err.ensures

pub emit_other-look-requires : goal.emit_other-look-requires
emit_other-look-requires g t c κs within = (search (rules, the_lemmas, arith), (within, sense_bound _ _ _ _ _ c.in-Let.is c.get.ensures (g.T.Seen.world c.args.tables.now) (sense_of _ _ _ c.requires)))

pub emit_other-returns-in-Err-look : goal.emit_other-returns-in-Err-look
emit_other-returns-in-Err-look g t c = into_let_stop _ _ _ _ _ c.in-Let.is c.get.ensures _ _ _ _ _ _ c.in-Err-look.ensures c.outside-in-Err-look.ensures refl

pub owned-lent-requires : goal.owned-lent-requires
owned-lent-requires g t c = (_, (c.requires.0, c.requires.1, c.requires.2, c.requires.3))

pub owned-returns-in-Some : goal.owned-returns-in-Some
owned-returns-in-Some g t c = evals_copied _ _ _ _ _ (λ S T. c.in-Some.ensures.value S T) c.copy.ensures

pub value-value-requires-in-Ok-value : goal.value-value-requires-in-Ok-value
value-value-requires-in-Ok-value g t c κs within = (search (rules, the_lemmas, arith), (within, sense_second _ _ _ _ _ c.in-Union.is c.get-in-Union.ensures _ _ _ c.get-in-Ok-value.ensures c.in-Ok-value.ensures.moved c.requires))

pub value-join-requires-clause-first : goal.value-join-requires-clause-first
value-join-requires-clause-first g t c = first_there _ _ _ _ _ c.in-Union.is c.get-in-Union.ensures _ _ _ c.requires c.in-Ok-value.ensures

pub value-join-requires-clause-second : goal.value-join-requires-clause-second
value-join-requires-clause-second g t c = second_told _ _ _ _ _ c.in-Union.is c.get-in-Union.ensures _ _ _ _ _ c.get-in-Ok-value.ensures c.in-Ok-value.ensures.moved c.requires c.value-in-Ok-value.ensures

pub value-returns-in-Ok-value : goal.value-returns-in-Ok-value
value-returns-in-Ok-value g t c = value_join _ _ _ _ _ c.in-Union.is c.get-in-Union.ensures _ _ _ _ _ _ _ c.get-in-Ok-value.ensures c.in-Ok-value.ensures c.value-in-Ok-value.ensures c.join.ensures

pub value-look-requires-in-If : goal.value-look-requires-in-If
value-look-requires-in-If g t c κs within = (search (rules, the_lemmas, arith), (within, sense_test _ _ _ _ _ _ c.in-If.is c.get-in-If.ensures (g.T.Seen.world c.args.tables.now) c.requires))

pub value-truth-requires : goal.value-truth-requires
value-truth-requires g t c = test_told _ _ _ _ _ _ c.in-If.is c.get-in-If.ensures _ _ _ c.requires c.look-in-If.ensures

pub value-value-requires-then-yes : goal.value-value-requires-then-yes
value-value-requires-then-yes g t c κs within = (search (rules, the_lemmas, arith), (within, sense_picked _ _ _ _ _ _ c.in-If.is c.get-in-If.ensures _ true _ _ c.get-then-yes.ensures c.look-in-If.ensures.moved c.requires))

pub value-returns-then-yes : goal.value-returns-then-yes
value-returns-then-yes g t c = value_tested _ _ _ _ _ _ c.in-If.is c.get-in-If.ensures _ true _ _ _ _ _ _ c.get-then-yes.ensures c.if-yes.true c.in-Ok-truth.ensures c.look-in-If.ensures c.value-then-yes.ensures

pub value-value-requires-else-yes : goal.value-value-requires-else-yes
value-value-requires-else-yes g t c κs within = (search (rules, the_lemmas, arith), (within, sense_picked _ _ _ _ _ _ c.in-If.is c.get-in-If.ensures _ false _ _ c.get-else-yes.ensures c.look-in-If.ensures.moved c.requires))

pub value-returns-in-Ok-truth : goal.value-returns-in-Ok-truth
value-returns-in-Ok-truth g t c = value_tested _ _ _ _ _ _ c.in-If.is c.get-in-If.ensures _ false _ _ _ _ _ _ c.get-else-yes.ensures c.if-yes.false c.in-Ok-truth.ensures c.look-in-If.ensures c.value-else-yes.ensures

pub value-returns-in-If : goal.value-returns-in-If
value-returns-in-If g t c = value_tested_stop _ _ _ _ _ _ c.in-If.is c.get-in-If.ensures _ _ _ _ _ c.in-Err-truth.ensures c.look-in-If.ensures c.outside-in-Err-truth.ensures

pub value-value_within-requires : goal.value-value_within-requires
value-value_within-requires g t c κs within = (search (rules, the_lemmas, arith), (within, sense_body _ _ _ _ _ c.in-Let.is c.get-in-Let.ensures _ _ _ _ _ c.get-in-Ok-look-3.ensures refl c.requires c.in-Ok-look-3.ensures))

pub value-returns-in-Ok-look-3 : goal.value-returns-in-Ok-look-3
value-returns-in-Ok-look-3 g t c = value_let _ _ _ _ _ c.in-Let.is c.get-in-Let.ensures _ _ _ _ _ _ _ c.get-in-Ok-look-3.ensures refl c.in-Ok-look-3.ensures c.value_within.ensures

pub emit_tested-holds-requires : goal.emit_tested-holds-requires
emit_tested-holds-requires g t c κs within = (search (rules, the_lemmas, arith), (within, test_sense _ _ _ _ _ _ c.in-If.is c.get.ensures (g.T.Seen.world c.args.tables.now) c.requires))

pub holds-look-requires : goal.holds-look-requires
holds-look-requires g t c κs within = (search (rules, the_lemmas, arith), (within, sense_told _ _ _ c.requires))

pub holds-truth-requires : goal.holds-truth-requires
holds-truth-requires g t c = truth_told _ _ _ _ _ c.requires c.look.ensures

pub holds-returns : goal.holds-returns
holds-returns g t c = (_, c.look.ensures, c.truth.ensures)

pub emit_tested-emit-requires : goal.emit_tested-emit-requires
emit_tested-emit-requires g t c κs within = (search (rules, the_lemmas, arith), (within, whole_picked _ _ _ _ _ _ c.in-If.is c.get.ensures _ true _ _ c.get-then-yes.ensures c.in-Ok.ensures.1.moved c.requires))

pub emit_tested-returns-then-yes : goal.emit_tested-returns-then-yes
emit_tested-returns-then-yes g t c = into_tested _ _ _ _ _ _ c.in-If.is c.get.ensures _ true _ _ _ _ _ _ _ _ c.get-then-yes.ensures c.if-yes.true c.in-Ok.ensures.2 c.in-Ok.ensures.1 c.emit.ensures

pub emit_tested-emit-requires-else-yes : goal.emit_tested-emit-requires-else-yes
emit_tested-emit-requires-else-yes g t c κs within = (search (rules, the_lemmas, arith), (within, whole_picked _ _ _ _ _ _ c.in-If.is c.get.ensures _ false _ _ c.get-else-yes.ensures c.in-Ok.ensures.1.moved c.requires))

pub emit_tested-returns-else-yes : goal.emit_tested-returns-else-yes
emit_tested-returns-else-yes g t c = into_tested _ _ _ _ _ _ c.in-If.is c.get.ensures _ false _ _ _ _ _ _ _ _ c.get-else-yes.ensures c.if-yes.false c.in-Ok.ensures.2 c.in-Ok.ensures.1 c.emit-else-yes.ensures

pub emit_tested-returns-in-Err : goal.emit_tested-returns-in-Err
emit_tested-returns-in-Err g t c = into_tested_stop _ _ _ _ _ _ c.in-If.is c.get.ensures _ _ _ _ _ _ _ c.in-Err.ensures.2 c.in-Err.ensures.1 c.outside.ensures refl

pub emit_other-emit_within-requires : goal.emit_other-emit_within-requires
emit_other-emit_within-requires g t c κs within = (search (rules, the_lemmas, arith), (within, whole_bound _ _ _ _ _ c.in-Let.is c.get.ensures _ _ _ _ _ c.get-in-Ok-look.ensures refl c.requires c.in-Ok-look.ensures))

pub emit_other-returns-in-Ok-look : goal.emit_other-returns-in-Ok-look
emit_other-returns-in-Ok-look g t c = into_let _ _ _ _ _ c.in-Let.is c.get.ensures _ _ _ _ _ _ _ _ _ c.get-in-Ok-look.ensures refl c.in-Ok-look.ensures c.emit_within.ensures

pub look_made-look-requires : goal.look_made-look-requires
look_made-look-requires g t c κs within = (search (rules, the_lemmas, arith), (within, sense_test _ _ _ _ _ _ c.in-If.is c.get.ensures (g.T.Seen.world c.args.tables.now) c.requires))

pub look_made-truth-requires : goal.look_made-truth-requires
look_made-truth-requires g t c = test_told _ _ _ _ _ _ c.in-If.is c.get.ensures _ _ _ c.requires c.look.ensures

pub look_made-look-requires-then-yes : goal.look_made-look-requires-then-yes
look_made-look-requires-then-yes g t c κs within = (search (rules, the_lemmas, arith), (within, sense_picked _ _ _ _ _ _ c.in-If.is c.get.ensures _ true _ _ c.get-then-yes.ensures c.look.ensures.moved c.requires))

pub look_made-look-requires-else-yes : goal.look_made-look-requires-else-yes
look_made-look-requires-else-yes g t c κs within = (search (rules, the_lemmas, arith), (within, sense_picked _ _ _ _ _ _ c.in-If.is c.get.ensures _ false _ _ c.get-else-yes.ensures c.look.ensures.moved c.requires))

pub look_made-returns-then-yes : goal.look_made-returns-then-yes
look_made-returns-then-yes g t c = look_tested _ _ _ _ _ _ c.in-If.is c.get.ensures _ true _ _ _ _ _ _ c.get-then-yes.ensures c.if-yes.true c.in-Ok-truth.ensures c.look.ensures c.look-then-yes.ensures

pub look_made-returns-else-yes : goal.look_made-returns-else-yes
look_made-returns-else-yes g t c = look_tested _ _ _ _ _ _ c.in-If.is c.get.ensures _ false _ _ _ _ _ _ c.get-else-yes.ensures c.if-yes.false c.in-Ok-truth.ensures c.look.ensures c.look-else-yes.ensures

pub look_made-returns-in-Err-truth : goal.look_made-returns-in-Err-truth
look_made-returns-in-Err-truth g t c = look_tested_stop _ _ _ _ _ _ c.in-If.is c.get.ensures _ _ _ _ c.in-Err-truth.ensures c.look.ensures
