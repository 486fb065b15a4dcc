use Rattle.std.proofs.Common.{◌≡◌}
use Rattle.kl_run.proofs.Traces.{entries}
use Rattle.kl_run.proofs.tracing.trace_of.Given as goal

abbrev pub invariant-scans : goal.invariant-scans
invariant-scans l = l.starts.items ≡ entries l.number
