use Rattle.std.proofs.Common.{arith}
use Rattle.kl_lex.proofs.Readings.{value_more}
use Rattle.kl_lex.proofs.number.value_of.Goals as goal

pub returns-in_err-checked_mul : goal.returns-in_err-checked_mul
returns-in_err-checked_mul c =
    let (step, below) = value_more c.args.digits.now c.digits.digit-index c.requires c.digits-test.true in
    rw c.from_residual.ensures (omega (arith, c.digits.invariant, c.in_err-checked_mul.ensures))

pub returns-in_err-value : goal.returns-in_err-value
returns-in_err-value c =
    let (step, below) = value_more c.args.digits.now c.digits.digit-index c.requires c.digits-test.true in
    rw c.from_residual-in_err-value.ensures (omega (arith, c.digits.invariant, c.in_ok-checked_mul.ensures, c.in_err-value.ensures))

pub digits-preserved : goal.digits-preserved
digits-preserved c =
    let (step, below) = value_more c.args.digits.now c.digits.digit-index c.requires c.digits-test.true in
    omega (arith, c.digits.invariant, c.in_ok-checked_mul.ensures, c.in_ok-value.ensures)
