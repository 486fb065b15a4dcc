use Rattle.kl_why.proofs.Explained.{bytes_there}
use Rattle.kl_why.proofs.source.bytes_of.Goals as goal

pub returns-in-Ok-Bytes : goal.returns-in-Ok-Bytes
returns-in-Ok-Bytes g c = bytes_there _ _ _ _ _ (rw (c.slice.ensures, c.in-Ok-Bytes.field-0-is) at c.in-Ok-Bytes.ensures)
