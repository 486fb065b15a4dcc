use Rattle.std.proofs.Common.{length}
use Rattle.kl_lex.specs.Blank.{Gap}
use Rattle.kl_lex.proofs.lexer.skip_blank.Given as goal

abbrev pub decreases-gap : goal.decreases-gap
decreases-gap l = length l.rest

abbrev pub invariant-gap : goal.invariant-gap
invariant-gap l = Gap l.bytes l.rest
