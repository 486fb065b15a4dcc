use Rattle.std.proofs.Common.{◌≡◌, true, take}
use Rattle.std.specs.List.{list_all}
use Rattle.kl_exchange.specs.Grammar.{is_blank}
use Rattle.kl_json.proofs.scan.blanks.Given as goal

abbrev pub invariant-loop-i : goal.invariant-loop-i
invariant-loop-i l = list_all is_blank (take l.i l.bytes) ≡ true
