use Rattle.std.proofs.Common.{reverse, refl, arith}
use Rattle.kl_core.specs.Trees.{view}
use Rattle.kl_rewrite.proofs.Parts.{still_beyond}
use Rattle.kl_rewrite.proofs.search.Search.here.Goals as goal

pub returns-then-is_beyond-clause-found : goal.returns-then-is_beyond-clause-found
returns-then-is_beyond-clause-found c = (
  refl,
  record { room = refl; least = c.requires.traced.least; lower = omega arith },
  still_beyond c.args.self.now.allowance.calm c.args.level (view c.args.term.now) (reverse c.args.trail.now) c.requires.traced.settled (c.is_beyond.ensures c.if-is_beyond.true),
)
