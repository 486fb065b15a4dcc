use Rattle.std.proofs.Common.{arith}
use Rattle.kl_scans.proofs.Counted.{counted, uncounted}
use Rattle.kl_scans.proofs.counting.count_start.Goals as goal

pub returns-then-number-starts : goal.returns-then-number-starts
returns-then-number-starts c = counted _ _ _ _ c.slice_mut-starts.ensures.value c.if-number-starts.true c.saturating_add-entry.ensures

pub returns-else-number-starts : goal.returns-else-number-starts
returns-else-number-starts c = uncounted _ _ _ c.slice_mut-starts.ensures.value (omega (arith, c.if-number-starts.false))
