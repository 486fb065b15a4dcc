use Rattle.std.proofs.Common.{sym}
use Rattle.kl_lex.specs.Blank.{hash, none}
use Rattle.kl_lex.proofs.Fronts.{first_and_rest, begins}
use Rattle.kl_lex.proofs.Sequence.{gap_more, white_gap, comment_gap}
use Rattle.kl_lex.proofs.lexer.skip_blank.Goals as goal

pub gap-init : goal.gap-init
gap-init c = none

pub gap-preserved-then-is_white : goal.gap-preserved-then-is_white
gap-preserved-then-is_white c =
    gap_more c.gap.invariant (white_gap c.gap.rest.now _ _ (first_and_rest c.gap.rest.now c.in-len1-up.len_at_least) (sym c.if-is_white.ensures))

pub gap-preserved : goal.gap-preserved
gap-preserved c =
    gap_more c.gap.invariant (comment_gap c.gap.rest.now _ _ (begins c.gap.rest.now hash c.in-len1-up.len_at_least c.if-first-eq35.true) c.skip_line-rest.ensures)
