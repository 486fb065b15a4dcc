use Rattle.std.proofs.Common.{◌≡◌, take}
use Rattle.kl_columns.specs.Headers.{rising}
use Rattle.kl_columns.proofs.columns.in_order.Given as goal

abbrev pub invariant-loop-label : goal.invariant-loop-label
invariant-loop-label l = l.found.keys ≡ rising (take l.label-index l.labels)
