use Rattle.std.proofs.Common.{◌≡◌, ◌<◌, ◌+◌, ◌*◌, ◌^◌, pos, Some, true, length, get_or, take, w64, sym, ap, ◌∙◌, arith}
use mir.Val.{to_z}
use Rattle.std.specs.Char.{is_ascii_digit}
use Rattle.std.specs.Str.{all_ascii_digits}
use Rattle.std.specs.Str.Parse.{digits_value}
use Rattle.std.proofs.lemmas.Bool.Decides.{nat_tests}
use Rattle.std.proofs.lemmas.Grind.{common_steps}
use Rattle.std.proofs.lemmas.Int.{ints}
use Rattle.std.proofs.lemmas.Int.Digits.{digits_value_more}
use Rattle.kl_flat.proofs.Digits.{digit_is, digit_range, digits_more, digits_write}
use Rattle.kl_flat.proofs.cells.short_number.Goals as goal

pub loop-byte-preserved : goal.loop-byte-preserved
loop-byte-preserved c =
    let bs = c.args.bytes.now in
    let i = c.loop-byte.byte-index in
    let digit : is_ascii_digit (get_or bs i 0) ≡ true = sym c.if-not-is_ascii_digit.ensures.value in
    let range = digit_range (get_or bs i 0) digit in
    record {
      value = (λ j. c.loop-byte.invariant.value j * 10 + sym (digit_is (get_or bs i 0) digit) j) ∙ sym (digits_value_more 10 bs i c.loop-byte-test.true);
      digits = digits_more bs i c.loop-byte-test.true c.loop-byte.invariant.digits digit;
      small = omega (arith, c.if-number-ge-MOST_BEFORE.false, range.0, range.1);
    }

pub returns : goal.returns
returns c =
    let bs = c.args.bytes.now in
    let all : take c.loop-byte.byte-index c.args.bytes.now ≡ c.args.bytes.now = grind (arith, common_steps) in
    let some : 0 < length c.args.bytes.now = grind (arith, nat_tests) in
    let value = c.loop-byte.invariant.value ∙ ap (digits_value 10) all in
    let small : digits_value 10 c.args.bytes.now < 2 ^ 63 = omega (arith, value, c.loop-byte.invariant.small) in
    let number : to_z w64 c.loop-byte.number ≡ pos c.loop-byte.number = omega (arith, ints, c.loop-byte.invariant.small) in
    ap Some number ∙ ap (λ n. Some (pos n)) value ∙ digits_write bs some (ap all_ascii_digits (sym all) ∙ c.loop-byte.invariant.digits) small
