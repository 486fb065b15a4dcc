use Rattle.kl_engine.specs.declared.top.Purpose.TheVariants as purpose
use Rattle.kl_engine.proofs.ProgramLemmas.{does_same, program_does, program_refused}
use Rattle.kl_engine.proofs.top.do_check.Goals as goal

pub returns-in-Ok : goal.returns-in-Ok
returns-in-Ok g c = program_does purpose.Check _ _ _ c.in-Ok.inputs _ _ _ _ _ c.in-Ok.ensures (does_same _ _ purpose.Check _ _ _ _ _ c.slice-in-Ok.ensures c.slice.ensures (c.check.ensures _ _))

pub returns-in-Err : goal.returns-in-Err
returns-in-Err g c = program_refused purpose.Check _ _ _ c.in-Err.fault _ _ c.in-Err.ensures
