use Rattle.std.proofs.Common.{arith}
use Rattle.kl_engine.proofs.RewriteLemmas.{within_small}
use Rattle.kl_engine.proofs.run.rewritten.Goals as goal

pub rewrite-requires-clause-within : goal.rewrite-requires-clause-within
rewrite-requires-clause-within c = (omega (arith, c.requires.small.0), c.requires.small.1)

pub returns-then-on-clause-small : goal.returns-then-on-clause-small
returns-then-on-clause-small c = within_small _ c.rewrite.ensures.stays_within

pub returns-else-on-clause-small : goal.returns-else-on-clause-small
returns-else-on-clause-small c = omega (arith, c.requires.small.0)
