use Rattle.kl_core.proofs.Made.{made}
use Rattle.kl_ship.proofs.PackedTerms.{whole_Rec}
use Rattle.kl_ship.proofs.one_row.whole_row.Goals as goal

pub returns : goal.returns
returns c = made _ _ _ _ _ c.record.ensures c.row_fields.ensures (λ ps h. whole_Rec c.args.shown.now.columns.items c.deref.result.now c.args.shown.now.all.items c.args.table c.args.at _ _ ps c.requires.there c.index.ensures c.slice-labels.ensures c.deref.ensures.value h)
