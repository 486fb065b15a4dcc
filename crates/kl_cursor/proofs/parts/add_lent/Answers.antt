use Rattle.kl_cursor.proofs.EmitCode.{copied_collection, copied_whole}
use Rattle.kl_cursor.proofs.parts.add_lent.Goals as goal

pub add_whole-requires : goal.add_whole-requires
add_whole-requires c = copied_collection _ _ c.copy.ensures c.requires

pub returns-in-Items : goal.returns-in-Items
returns-in-Items c = copied_whole _ _ _ _ _ c.copy.ensures c.add_whole.ensures
