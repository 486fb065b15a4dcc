use Rattle.kl_outside.proofs.SinkLemmas.{writes_stopped, writes_then}
use Rattle.kl_tidy.proofs.top.write_lines.Goals as goal

pub returns-in-Err : goal.returns-in-Err
returns-in-Err g c = writes_stopped {T = Unit {0}} {U = Unit {0}} c.args.notes.now c.args.line.now c.in-Err.stop _ _ c.in-Err.ensures

pub returns-in-Ok : goal.returns-in-Ok
returns-in-Ok g c = writes_then c.args.notes.now c.args.line.now c.in-Ok.field-0 c.write_whole-in-Ok.result _ _ _ c.in-Ok.ensures c.write_whole-in-Ok.ensures
