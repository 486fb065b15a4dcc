use Rattle.kl_infer.proofs.Naming.{labels_start, labels_more, labels_done}
use Rattle.kl_infer.proofs.patterns.labelled.Goals as goal

pub fields-init : goal.fields-init
fields-init g c = labels_start _ _ _ c.in_ok-all.ensures.items

pub fields-preserved : goal.fields-preserved
fields-preserved g c = labels_more (λ f. f.0.text) _ _ _ _ c.fields.i c.index-fields-i.result _ _ c.requires c.fields-test.true c.index-fields-i.is c.index-fields-i.is c.in_ok-dup.ensures c.in_ok-push.ensures.items c.fields.invariant

pub returns : goal.returns
returns g c = labels_done (λ f. f.0.text) _ _ _ c.fields.i c.fields-test.false c.fields.invariant
