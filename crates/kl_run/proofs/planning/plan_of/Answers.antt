use Rattle.kl_run.proofs.Shipped.{sources_made, proper_made}
use Rattle.kl_run.proofs.planning.plan_of.Goals as goal

pub ship-requires-clause-sources : goal.ship-requires-clause-sources
ship-requires-clause-sources g c = sources_made _ c.args.sources.now c.in_ok-ships.ships.items _ c.requires.placed c.in_ok-ships.ensures c.deref.ensures.value

pub ship-requires-clause-proper : goal.ship-requires-clause-proper
ship-requires-clause-proper g c = proper_made _ c.args.sources.now c.in_ok-ships.ships.items _ c.requires.placed c.in_ok-ships.ensures c.deref.ensures.value
