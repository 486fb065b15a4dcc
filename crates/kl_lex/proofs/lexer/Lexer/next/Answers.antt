use Rattle.std.proofs.Common.{refl, rules, arith}
use Rattle.kl_lex.specs.Lexing.{Starts}
use Rattle.kl_lex.proofs.Placings.{full}
use Rattle.kl_lex.proofs.Sequence.{gap_shorter, starts_shorter}
use Rattle.kl_lex.proofs.lexer.Lexer.next.Goals as goal

pub overflow_sub-from : goal.overflow_sub-from
overflow_sub-from c = omega (arith, gap_shorter c.skip_blank-rest.ensures.gap, c.requires)

pub overflow_sub-to : goal.overflow_sub-to
overflow_sub-to c =
    let started : Starts c.skip_blank-rest.result.now c.in-Some.what c.in-Some.after.now = rw c.in-Some.is at c.in_ok-token_at.ensures in
    omega (arith, gap_shorter c.skip_blank-rest.ensures.gap, c.requires, starts_shorter c.skip_blank-rest.result.now c.in-Some.what c.in-Some.after.now started)

pub returns-in-None : goal.returns-in-None
returns-in-None c =
    (c.skip_blank-rest.result.now, c.skip_blank-rest.ensures.gap, c.skip_blank-rest.ensures.due (full c.skip_blank-rest.result.now (search rules)), rw c.in-None.is at c.in_ok-token_at.ensures, omega (arith, gap_shorter c.skip_blank-rest.ensures.gap, c.requires))

pub returns-in-Some : goal.returns-in-Some
returns-in-Some c =
    let started : Starts c.skip_blank-rest.result.now c.in-Some.what c.in-Some.after.now = rw c.in-Some.is at c.in_ok-token_at.ensures in
    let shorter = starts_shorter c.skip_blank-rest.result.now c.in-Some.what c.in-Some.after.now started in
    let gap = gap_shorter c.skip_blank-rest.ensures.gap in
    (c.skip_blank-rest.result.now, c.skip_blank-rest.ensures.gap, record { starts = started; from = omega (arith, c.requires); to = omega (arith, c.requires) }, refl)
