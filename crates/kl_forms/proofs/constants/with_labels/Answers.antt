use Rattle.kl_forms.proofs.RowShapes.{labels_start, labels_turn, labels_end}
use Rattle.kl_forms.proofs.constants.with_labels.Goals as goal

pub loop-i-init : goal.loop-i-init
loop-i-init c = labels_start _ c.args.fields.now c.args.types.now c.in_ok-all.ensures.items

pub loop-i-preserved : goal.loop-i-preserved
loop-i-preserved c = labels_turn _ _ c.args.fields.now c.args.types.now c.loop-i.i c.index-fields-i.result _ c.loop-i-test.true c.requires.size c.in_ok-label.ensures c.in_ok-push.ensures.items c.loop-i.invariant

pub returns : goal.returns
returns c = labels_end _ c.args.fields.now c.args.types.now c.loop-i.i c.loop-i-test.false c.loop-i.invariant
