use Rattle.std.specs.List.{flat_map}
use Rattle.kl_outside.proofs.SinkLemmas.{writes_then, writes_stopped}
use Rattle.kl_engine.specs.Stats.{totals_text, scan_line}
use Rattle.kl_engine.proofs.stats.write_counts.Goals as goal

pub returns-in-Ok : goal.returns-in-Ok
returns-in-Ok g c =
    writes_then (totals_text c.args.trace.now c.args.handed) (flat_map scan_line c.args.trace.now.starts) c.in-Ok.field-0 c.write_starts.result _ _ _ c.in-Ok.ensures (rw c.slice.ensures at c.write_starts.ensures)

pub returns-in-Err : goal.returns-in-Err
returns-in-Err g c = writes_stopped (totals_text c.args.trace.now c.args.handed) (flat_map scan_line c.args.trace.now.starts) c.in-Err.stop _ _ c.in-Err.ensures
