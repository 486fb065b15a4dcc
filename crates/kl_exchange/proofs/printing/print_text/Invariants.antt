use Rattle.std.proofs.Common.{◌++◌, ◌≤◌, ◌-◌, length, take, codes}
use Rattle.std.specs.List.{flat_map}
use Rattle.kl_value.specs.Written.{byte_text}
use Rattle.kl_exchange.specs.Printing.{Prints}
use Rattle.kl_exchange.proofs.printing.print_text.Given as goal

abbrev pub invariant-runs : goal.invariant-runs
invariant-runs g l = record {
  within : l.at ≤ length l.text;
  printed :
      Prints (codes "\"" ++ flat_map byte_text (take l.at l.text)) (g.S.Sink.state l.fn.sink) l.fn.page.bytes.items l.fn.page.stop
      (g.S.Sink.state l.sink) l.page.bytes.items l.page.stop;
}

abbrev pub decreases-runs : goal.decreases-runs
decreases-runs g l = length l.text - l.at
