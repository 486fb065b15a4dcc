use Rattle.std.proofs.Common.{[], sym, ◌∙◌}
use Rattle.kl_ho.proofs.Renaming.{rest_step, rest_next, rest_done, rest_names_step, rest_names_next}
use Rattle.kl_ho.proofs.expanding.new_rest.Goals as goal
use Rattle.kl_ho.proofs.expanding.new_rest.Goals.{then-not-is_among+in_ok-label+in_ok-new_pattern+in_ok-push, else-not-is_among}

pub loop-field-preserved : goal.loop-field-preserved
loop-field-preserved c =
    elim c.if-not-is_among.branch [
      | then-not-is_among+in_ok-label+in_ok-new_pattern+in_ok-push w ↦
          rw (w.vars-is, w.made-is) (
            rest_step c.args.t.now.base.now [] c.args.labels.now c.args.fields.now _ c.loop-field.field-index c.field-item.result w.in_ok-label.label w.in_ok-new_pattern.field-0 _ _ c.loop-field.made.items _
                c.loop-field-test.true c.field-item.is (sym c.is_among.ensures ∙ w.if-not-is_among.true) w.in_ok-push.ensures.items w.in_ok-label.ensures w.in_ok-new_pattern.ensures.becomes c.loop-field.invariant.0,
            rest_names_step c.args.labels.now c.args.fields.now c.loop-field.field-index c.field-item.result _ _ _ c.loop-field-test.true c.field-item.is (sym c.is_among.ensures ∙ w.if-not-is_among.true) w.in_ok-new_pattern.ensures.vars c.loop-field.invariant.1,
          )
      | else-not-is_among w ↦
          rw (w.vars-is, w.made-is) (
            rest_next c.args.t.now.base.now [] c.args.labels.now c.args.fields.now _ c.loop-field.field-index c.field-item.result _ c.loop-field.made.items c.loop-field-test.true c.field-item.is (sym c.is_among.ensures ∙ w.if-not-is_among.false) c.loop-field.invariant.0,
            rest_names_next c.args.labels.now c.args.fields.now c.loop-field.field-index c.field-item.result _ _ c.loop-field-test.true c.field-item.is (sym c.is_among.ensures ∙ w.if-not-is_among.false) c.loop-field.invariant.1,
          )
    ]

pub returns-clause-made : goal.returns-clause-made
returns-clause-made c = rest_done c.args.t.now.base.now [] c.args.labels.now c.args.fields.now _ c.loop-field.field-index _ c.loop-field.made.items _ c.loop-field-test.false c.of.ensures c.loop-field.invariant.0
