use Rattle.kl_forms.proofs.Looking.{end_opens, end_refuses}
use Rattle.kl_forms.proofs.records.at_end.Goals as goal

pub returns-then-not-holds : goal.returns-then-not-holds
returns-then-not-holds c = end_refuses _ _ _ _ c.args.label.now _ c.args.end _ _ c.requires.fine c.requires.there c.in_ok-item.ensures c.in_ok-fields.ensures.items c.in_ok-dup.ensures c.in_ok-holds.ensures c.if-not-holds.true

pub returns : goal.returns
returns c = end_opens _ _ _ _ c.args.label.now _ c.args.end _ _ c.requires.fine c.requires.there c.in_ok-item.ensures c.in_ok-fields.ensures.items c.in_ok-dup.ensures c.in_ok-holds.ensures c.if-not-holds.false
