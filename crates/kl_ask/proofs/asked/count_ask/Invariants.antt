use Rattle.std.proofs.Common.{◌≡◌, ◌++◌, take, drop}
use Rattle.kl_ask.specs.Asked.{with_ask}
use Rattle.kl_ask.proofs.asked.count_ask.Given as goal

abbrev pub invariant-loop-i : goal.invariant-loop-i
invariant-loop-i l = record { same : l.asked.items ≡ l.fn.asked.items; rest : with_ask l.ask l.fn.asked.items ≡ take l.i l.fn.asked.items ++ with_ask l.ask (drop l.i l.fn.asked.items) }
