use Rattle.kl_forms.proofs.Looking.{record_row, in_record}
use Rattle.kl_forms.proofs.records.field_of.Goals as goal

pub in_row-requires-clause-there : goal.in_row-requires-clause-there
in_row-requires-clause-there c = record_row _ _ _ _ c.node.ensures c.in-Rec.is

pub returns-in_ok-found-in-Rec : goal.returns-in_ok-found-in-Rec
returns-in_ok-found-in-Rec c = in_record _ _ _ _ _ _ _ c.node.ensures c.in-Rec.is c.in_ok-found-in-Rec.ensures
