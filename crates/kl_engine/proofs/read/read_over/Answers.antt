use Rattle.kl_engine.proofs.DoneLemmas.{reads_names}
use Rattle.kl_engine.proofs.read.read_over.Goals as goal

pub returns-in-Ok : goal.returns-in-Ok
returns-in-Ok c = reads_names c.deref.result.now c.in-Ok.names.items _ _ c.read_program.result c.deref.ensures.value c.in-Ok.ensures c.read_program.ensures
