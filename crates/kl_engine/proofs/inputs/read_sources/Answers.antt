use Rattle.kl_engine.proofs.FileAnswers.{no_sources, sources_long, sources_read}
use Rattle.kl_engine.proofs.inputs.read_sources.Goals as goal

pub returns-in-None : goal.returns-in-None
returns-in-None g c = rw c.in-None.is (no_sources _ _ _ c.new.ensures.items)

pub returns-in-Ok-Bytes : goal.returns-in-Ok-Bytes
returns-in-Ok-Bytes g c =
    rw c.in-Some.is (sources_read _ _ _ _ c.in-Ok-Bytes.text _ (rw (c.slice.ensures, c.in-Ok-Bytes.field-0-is) at c.in-Ok-Bytes.ensures) c.slice-in-Ok-Bytes.ensures c.catalogue_of.result c.catalogue_of.ensures)

pub returns-in-Ok-TooLong : goal.returns-in-Ok-TooLong
returns-in-Ok-TooLong g c = rw c.in-Some.is (sources_long _ _ _ _ (rw (c.slice.ensures, c.in-Ok-TooLong.field-0-is) at c.in-Ok-TooLong.ensures))
