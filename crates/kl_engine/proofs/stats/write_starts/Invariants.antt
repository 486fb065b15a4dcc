use Rattle.kl_engine.specs.Stats.{scan_line}
use Rattle.kl_engine.proofs.FaultLemmas.{Wrote}
use Rattle.kl_engine.proofs.stats.write_starts.Given as goal

abbrev pub invariant-scans : goal.invariant-scans
invariant-scans g l = Wrote scan_line l.starts l.scan-index (g.E.Sink.state l.initial.err) (g.E.Sink.state l.err)
