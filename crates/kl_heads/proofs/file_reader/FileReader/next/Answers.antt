use Rattle.std.proofs.Common.{Ok, ap, ◌∙◌}
use Rattle.kl_heads.proofs.FilePieces.{end_here, item_fault, item_goes_on, item_here, refusal_as}
use Rattle.kl_heads.proofs.file_reader.FileReader.next.Goals as goal

pub returns-in-Ok-Value-clause-reads : goal.returns-in-Ok-Value-clause-reads
returns-in-Ok-Value-clause-reads g c = item_here _ _ _ _ _ c.pieces.invariant c.requires.behind c.item_held.result c.item_held.ensures c.in-Ok-Value.value (c.in-Ok-Value.is ∙ ap Ok c.in-Ok-Value.field-0-is)

pub returns-in-Ok-End-clause-reads : goal.returns-in-Ok-End-clause-reads
returns-in-Ok-End-clause-reads g c = end_here _ _ _ _ _ c.pieces.invariant c.requires.behind c.item_held.result c.item_held.ensures (c.in-Ok-End.is ∙ ap Ok c.in-Ok-End.field-0-is)

pub pieces-preserved : goal.pieces-preserved
pieces-preserved g c = item_goes_on _ _ _ _ _ c.pieces.invariant c.requires.behind c.item_held.result c.item_held.ensures (c.in-Ok-NeedMore.is ∙ ap Ok c.in-Ok-NeedMore.field-0-is) _ _ c.in-Ok.ensures

pub returns-in-Err-fetch-clause-reads : goal.returns-in-Err-fetch-clause-reads
returns-in-Err-fetch-clause-reads g c =
    item_fault _ _ _ _ _ c.pieces.invariant c.requires.behind c.item_held.result c.item_held.ensures (c.in-Ok-NeedMore.is ∙ ap Ok c.in-Ok-NeedMore.field-0-is) _ _ c.in-Err-fetch.error c.in-Err-fetch.ensures

pub returns-in-Err-clause-reads : goal.returns-in-Err-clause-reads
returns-in-Err-clause-reads g c =
    refusal_as _ _ _ _ _ c.pieces.invariant c.requires.behind c.item_held.result c.item_held.ensures c.in-Err.error c.file_error.result c.file_error.ensures c.in-Err.is
