use Rattle.std.proofs.Common.{◌∙◌, sym}
use Rattle.kl_why.proofs.Beginnings.{begins_nowhere, begins_there, other_next, semi_next}
use Rattle.kl_why.proofs.tokens.part_byte.Goals as goal
use Rattle.kl_why.proofs.tokens.part_byte.Goals.{then-is_semi, else-is_semi}

pub returns-then-left-eq0 : goal.returns-then-left-eq0
returns-then-left-eq0 c =
    begins_there c.args.tokens.now c.loop-token.token-index c.token-item.result c.loop-token-test.true c.token-item.is c.args.end c.args.number
    c.loop-token.left c.if-left-eq0.true c.loop-token.invariant

pub loop-token-preserved : goal.loop-token-preserved
loop-token-preserved c =
    elim c.if-is_semi.branch [
      | then-is_semi w ↦
          semi_next c.args.tokens.now c.loop-token.token-index c.token-item.result c.loop-token-test.true c.token-item.is c.loop-token.left _ _ w.left-is
          c.if-left-eq0.false (sym c.is_semi.ensures ∙ w.if-is_semi.true) c.loop-token.invariant
      | else-is_semi w ↦
          other_next c.args.tokens.now c.loop-token.token-index c.token-item.result c.loop-token-test.true c.token-item.is c.loop-token.left _ _ w.left-is
          c.if-left-eq0.false (sym c.is_semi.ensures ∙ w.if-is_semi.false) c.loop-token.invariant
    ]

pub returns : goal.returns
returns c = begins_nowhere c.args.tokens.now c.args.end c.args.number c.loop-token.left c.loop-token.token-index c.loop-token-test.false c.loop-token.invariant
