use Rattle.std.proofs.Common.{◌+◌, ◌<◌, [], ◌∷◌, ◌++◌, length, length-drop, take, sym, ap, arith, take_all}
use Rattle.std.specs.List.{flat_map}
use Rattle.kl_value.specs.Written.{byte_text}
use Rattle.kl_exchange.proofs.Printed.{then, shown}
use Rattle.kl_exchange.proofs.TextLemmas.{bytes_more, run_printed}
use Rattle.kl_exchange.proofs.printing.print_text.Goals as goal

pub runs-init : goal.runs-init
runs-init g c = record { within = omega arith; printed = c.put.ensures }

pub runs-preserved : goal.runs-preserved
runs-preserved g c =
    let count = c.plain_bytes-count.ensures in record {
      within = omega (arith, count.within, length-drop c.runs.at c.args.text.now, c.runs.invariant.within);
      printed = shown (34 ∷ flat_map byte_text (take (c.runs.at + c.plain_bytes-count.result) c.args.text.now))
          (run_printed c.args.text.now c.runs.at c.plain_bytes-count.result c.runs.invariant.within count.all)
          (then c.runs.invariant.printed c.put-in-runs.ensures);
    }

pub runs-preserved-then-count-eq0 : goal.runs-preserved-then-count-eq0
runs-preserved-then-count-eq0 g c =
    let within : c.runs.at < length c.args.text.now = c.runs-test.true in record {
      within = omega arith;
      printed = shown (34 ∷ flat_map byte_text (take (c.runs.at + 1) c.args.text.now)) (ap (λ t. 34 ∷ t) (bytes_more c.args.text.now c.runs.at within))
          (then c.runs.invariant.printed c.print_byte.ensures);
    }

pub returns : goal.returns
returns g c =
    shown (34 ∷ (flat_map byte_text c.args.text.now ++ 34 ∷ []))
    (ap (λ t. 34 ∷ (flat_map byte_text t ++ 34 ∷ [])) (sym (take_all c.runs.at c.args.text.now c.runs-test.false)))
    (then c.runs.invariant.printed c.put-2.ensures)
