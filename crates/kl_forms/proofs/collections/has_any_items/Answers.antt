use Rattle.kl_forms.proofs.Opening.{items_any}
use Rattle.kl_forms.proofs.collections.has_any_items.Goals as goal

pub returns : goal.returns
returns c = items_any _ _ _ _ _ _ _ c.requires.fine c.requires.item_there c.requires.there c.in_ok-kind.ensures c.in_ok-holds.ensures
