use Rattle.std.proofs.Common.{◌∙◌, refl, sym, ap, arith}
use Rattle.kl_exchange.specs.Machine.{with_digit}
use Rattle.kl_exchange.proofs.SpanLemmas.{digits_more}
use Rattle.kl_exchange.proofs.spans.more_digits.Goals as goal

pub digits-preserved : goal.digits-preserved
digits-preserved c = record {
  within = omega arith;
  met = digits_more c.args.machine.now c.args.bytes.now c.digits.at c.in-Digits.negative c.digits.magnitude c.in-Some.longer (omega arith)
      (sym c.if-is_ascii_digit.ensures.value) (c.in-Some.ensures ∙ ap (with_digit c.in-Digits.negative c.digits.magnitude) c.digit_of.ensures) c.digits.invariant.met;
  same = refl;
}
