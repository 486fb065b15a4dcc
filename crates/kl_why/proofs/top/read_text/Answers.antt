use Rattle.kl_why.proofs.Explained.{long_there, text_there}
use Rattle.kl_why.proofs.top.read_text.Goals as goal

pub returns-in-Ok-Bytes-clause-text : goal.returns-in-Ok-Bytes-clause-text
returns-in-Ok-Bytes-clause-text g c = text_there _ _ _ _ (rw (c.slice.ensures, c.in-Ok-Bytes.field-0-is) at c.in-Ok-Bytes.ensures)

pub returns-in_ok-dup-in-Ok-TooLong-clause-text : goal.returns-in_ok-dup-in-Ok-TooLong-clause-text
returns-in_ok-dup-in-Ok-TooLong-clause-text g c =
    (c.in_ok-dup-in-Ok-TooLong.ensures, long_there _ _ _ (rw (c.slice.ensures, c.in-Ok-TooLong.field-0-is) at c.in-Ok-TooLong.ensures))
