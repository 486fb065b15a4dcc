use Rattle.kl_rewrite.proofs.Trails.{trail_past}
use Rattle.kl_rewrite.proofs.search.trail_in.Goals as goal

pub returns-then-number-trail : goal.returns-then-number-trail
returns-then-number-trail c = trail_past c.args.number c.args.trail.now c.if-is_empty.ensures c.if-number-trail.true
