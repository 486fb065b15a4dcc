use Rattle.kl_type.specs.Ground.{rec}
use Rattle.kl_forms.proofs.OverRows.{label_opens, label_refuses}
use Rattle.kl_forms.proofs.records.new_field.Goals as goal

pub returns-then-not-holds : goal.returns-then-not-holds
returns-then-not-holds c = label_refuses rec _ _ _ _ c.args.label.now _ c.args.want _ _ c.requires.fine c.requires.there c.in_ok-item.ensures c.in_ok-fields.ensures.items c.in_ok-dup.ensures c.in_ok-holds.ensures c.if-not-holds.true

pub returns : goal.returns
returns c = label_opens rec _ _ _ _ c.args.label.now _ c.args.want _ _ c.requires.fine c.requires.there c.in_ok-item.ensures c.in_ok-fields.ensures.items c.in_ok-dup.ensures c.in_ok-holds.ensures c.if-not-holds.false
