use Rattle.std.proofs.Common.{Ok, ap, ◌∙◌}
use Rattle.kl_heads.proofs.FilePieces.{head_fault, head_goes_on, head_here, items_here, refused_as}
use Rattle.kl_heads.proofs.file_reader.FileReader.head.Goals as goal

pub returns-in-Ok-Head : goal.returns-in-Ok-Head
returns-in-Ok-Head g c = head_here _ _ _ _ _ c.pieces.invariant c.head_held.result c.head_held.ensures c.in-Ok-Head.ty c.in-Ok-Head.field-0-1 (c.in-Ok-Head.is ∙ ap Ok c.in-Ok-Head.field-0-is)

pub returns-in-Ok-Items : goal.returns-in-Ok-Items
returns-in-Ok-Items g c = items_here _ _ _ _ _ c.pieces.invariant c.head_held.result c.head_held.ensures (c.in-Ok-Items.is ∙ ap Ok c.in-Ok-Items.field-0-is)

pub pieces-preserved : goal.pieces-preserved
pieces-preserved g c = head_goes_on _ _ _ _ _ c.pieces.invariant c.head_held.result c.head_held.ensures (c.in-Ok-Unknown.is ∙ ap Ok c.in-Ok-Unknown.field-0-is) _ _ c.in-Ok.ensures

pub returns-in-Err-fetch : goal.returns-in-Err-fetch
returns-in-Err-fetch g c = head_fault _ _ _ _ _ c.pieces.invariant c.head_held.result c.head_held.ensures (c.in-Ok-Unknown.is ∙ ap Ok c.in-Ok-Unknown.field-0-is) _ _ c.in-Err-fetch.error c.in-Err-fetch.ensures

pub returns-in-Err : goal.returns-in-Err
returns-in-Err g c = refused_as _ _ _ _ _ c.pieces.invariant c.head_held.result c.head_held.ensures c.in-Err.error c.file_error.result c.file_error.ensures c.in-Err.is
