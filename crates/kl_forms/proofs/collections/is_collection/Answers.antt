use Rattle.kl_rows.specs.declared.cell.TypeNode.TheVariants.{Coll}
use Rattle.kl_forms.proofs.Opening.{says_type}
use Rattle.kl_forms.proofs.collections.is_collection.Goals as goal

pub returns : goal.returns
returns c = says_type _ _ _ _ _ _ (Coll c.args.kind c.args.item) c.requires.fine (record { placed = (c.requires.kind_there, c.requires.item_there); tidy = tt }) c.requires.there c.in_ok-all.ensures c.in_ok-holds.ensures
