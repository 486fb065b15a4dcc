use Rattle.std.proofs.Common.{ap, ◌∙◌}
use Rattle.kl_syntax.specs.declared.tree.Word.{Word}
use Rattle.kl_ho.specs.Growing.{scope_of}
use Rattle.kl_ho.proofs.Renaming.{insert_first, catch_pattern, any_pattern, same_pattern, is_pattern, rec_pattern, inj_pattern, pats_step, pats_done, names_rec, names_step}
use Rattle.kl_ho.proofs.expanding.+pattern.Goals as goal

pub new_fields-loop-field-preserved : goal.new_fields-loop-field-preserved
new_fields-loop-field-preserved t c = (
  pats_step c.args.t.now.base.now (scope_of c.args.t.now.base.now c.args.outside.now) c.args.fields.now _ c.loop-field.field-index c.field-item.result c.in_ok-label.label c.in_ok-new_pattern.field-0 _ _ c.loop-field.made.items _
      c.loop-field-test.true c.field-item.is c.in_ok-push.ensures.items c.in_ok-label.ensures c.in_ok-new_pattern.ensures.becomes c.loop-field.invariant.0,
  names_step c.args.fields.now c.loop-field.field-index c.field-item.result _ _ _ c.loop-field-test.true c.field-item.is c.in_ok-new_pattern.ensures.vars c.loop-field.invariant.1,
)

pub new_fields-returns-clause-made : goal.new_fields-returns-clause-made
new_fields-returns-clause-made t c =
    pats_done c.args.t.now.base.now (scope_of c.args.t.now.base.now c.args.outside.now) c.args.fields.now _ c.loop-field.field-index _ c.loop-field.made.items _ c.loop-field-test.false c.of.ensures c.loop-field.invariant.0

pub new_pattern-returns-in_ok-insert-in-Bind-clause-becomes : goal.new_pattern-returns-in_ok-insert-in-Bind-clause-becomes
new_pattern-returns-in_ok-insert-in-Bind-clause-becomes t c =
    catch_pattern c.args.t.now.base.now (scope_of c.args.t.now.base.now c.args.outside.now) c.args.pattern.now _ c.word_of.result _ _ c.in-Bind.is (ap (λ (w : Word). w.text) c.word_of.ensures ∙ c.in_ok-text-in-Bind.ensures)
    (insert_first _ _ _ _ c.in_ok-insert-in-Bind.ensures.items c.in_ok-dup-in-Bind.ensures)

pub new_pattern-returns-in-Any-clause-becomes : goal.new_pattern-returns-in-Any-clause-becomes
new_pattern-returns-in-Any-clause-becomes t c = any_pattern c.args.t.now.base.now _ c.args.pattern.now _ c.in-Any.is

pub new_pattern-returns-in_ok-renamed-in-Same-clause-becomes : goal.new_pattern-returns-in_ok-renamed-in-Same-clause-becomes
new_pattern-returns-in_ok-renamed-in-Same-clause-becomes t c = same_pattern c.args.t.now.base.now _ c.args.pattern.now _ _ _ c.in-Same.is c.in_ok-renamed-in-Same.ensures

pub new_pattern-returns-in_ok-dup-in-Is-clause-becomes : goal.new_pattern-returns-in_ok-dup-in-Is-clause-becomes
new_pattern-returns-in_ok-dup-in-Is-clause-becomes t c = is_pattern c.args.t.now.base.now _ c.args.pattern.now _ _ _ _ _ c.in-Is.is c.in_ok-dup-in-Is.ensures

pub new_pattern-returns-in_ok-tail-in-Rec-clause-becomes : goal.new_pattern-returns-in_ok-tail-in-Rec-clause-becomes
new_pattern-returns-in_ok-tail-in-Rec-clause-becomes t c =
    rec_pattern c.args.t.now.base.now (scope_of c.args.t.now.base.now c.args.outside.now) c.args.pattern.now _ _ _ _ _ _ _ c.in-Rec.is (rw c.slice.ensures at c.in_ok-fields-in-Rec.ensures.made) c.in_ok-tail-in-Rec.ensures.becomes

pub new_pattern-returns-in_ok-tail-in-Rec-clause-vars : goal.new_pattern-returns-in_ok-tail-in-Rec-clause-vars
new_pattern-returns-in_ok-tail-in-Rec-clause-vars t c = names_rec c.args.pattern.now _ _ _ _ _ c.in-Rec.is (rw c.slice.ensures at c.in_ok-fields-in-Rec.ensures.vars) c.in_ok-tail-in-Rec.ensures.vars

pub new_pattern-returns-in_ok-new-in-Inj-clause-becomes : goal.new_pattern-returns-in_ok-new-in-Inj-clause-becomes
new_pattern-returns-in_ok-new-in-Inj-clause-becomes t c =
    inj_pattern c.args.t.now.base.now (scope_of c.args.t.now.base.now c.args.outside.now) c.args.pattern.now _ _ _ _ _ _ _ c.in-Inj.is c.in_ok-label-in-Inj.ensures c.in_ok-new-in-Inj.ensures (rw c.get.ensures at c.in_ok-inner-in-Inj.ensures.becomes)
