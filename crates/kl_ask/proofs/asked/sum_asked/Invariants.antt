use Rattle.std.proofs.Common.{◌≡◌, ◌<◌, ◌+◌, ◌-◌, ◌^◌, min, drop}
use Rattle.kl_ask.specs.Asked.{all_times}
use Rattle.kl_ask.proofs.asked.sum_asked.Given as goal

abbrev pub invariant-loop-kept : goal.invariant-loop-kept
invariant-loop-kept l = record { total : min (all_times l.asked) (2 ^ 64 - 1) ≡ min (l.sum + all_times (drop l.kept-index l.asked)) (2 ^ 64 - 1); fits : l.sum < 2 ^ 64 }
