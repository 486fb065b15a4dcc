use Rattle.std.proofs.Common.{◌≡◌, true, take}
use Rattle.std.specs.List.{list_all}
use Rattle.kl_exchange.specs.Machine.{is_plain}
use Rattle.kl_exchange.proofs.spans.plain_bytes.Given as goal

abbrev pub invariant-loop-i : goal.invariant-loop-i
invariant-loop-i l = list_all is_plain (take l.i l.bytes) ≡ true
