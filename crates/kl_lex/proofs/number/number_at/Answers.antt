use Rattle.std.proofs.Common.{arith}
use Rattle.kl_lex.specs.Spelling.{IsNumber}
use Rattle.kl_lex.specs.Lexing.{Longest}
use Rattle.kl_lex.proofs.Fronts.{cut}
use Rattle.kl_lex.proofs.Readings.{unspelled, number_longest, number_spelled, number_unspelled}
use Rattle.kl_lex.proofs.number.number_at.Goals as goal
use Rattle.kl_lex.proofs.number.number_at.Goals.{After-split_at}

digits : (c : After-split_at) → IsNumber c.split_at.result.0.now × Longest c.args.bytes.now c.split_at.result.0.now c.split_at.result.1.now
digits c =
    number_longest c.args.bytes.now c.split_at.result.0.now c.split_at.result.1.now c.requires
    (rw c.digit_run.ensures.value at c.split_at.ensures.front)
    (cut c.args.bytes.now c.split_at.result.0.now c.split_at.result.1.now c.digit_run.result c.split_at.ensures.front c.split_at.ensures.back)

pub value_of-requires : goal.value_of-requires
value_of-requires c = (digits (goal.at.value_of-requires c).After-split_at).0.1

pub returns-in_err-value_of : goal.returns-in_err-value_of
returns-in_err-value_of c =
    let (one, longest) = digits (goal.at.returns-in_err-value_of c).After-split_at in
    rw c.from_residual.ensures (unspelled c.args.bytes.now _ _ longest (number_unspelled _ one (omega (arith, c.in_err-value_of.ensures))))

pub returns-in_err-what : goal.returns-in_err-what
returns-in_err-what c =
    let (one, longest) = digits (goal.at.returns-in_err-what c).After-split_at in
    rw c.from_residual-in_err-what.ensures (unspelled c.args.bytes.now _ _ longest (number_unspelled _ one (omega (arith, c.in_ok-value_of.ensures, c.in_err-what.ensures))))

pub returns : goal.returns
returns c =
    let (one, longest) = digits (goal.at.returns c).After-split_at in
    record {
      lexeme = c.split_at.result.0.now;
      longest = longest;
      spelled = number_spelled c.in_ok-what.what _ one (rw c.in_ok-value_of.ensures at c.in_ok-what.ensures);
    }
