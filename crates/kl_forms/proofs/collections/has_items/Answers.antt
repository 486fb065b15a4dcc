use Rattle.kl_forms.proofs.Opening.{items_known}
use Rattle.kl_forms.proofs.collections.has_items.Goals as goal

pub returns : goal.returns
returns c = items_known _ _ _ _ _ _ _ c.args.kind c.requires.fine c.requires.item_there c.requires.there c.in_ok-number.ensures c.in_ok-holds.ensures
