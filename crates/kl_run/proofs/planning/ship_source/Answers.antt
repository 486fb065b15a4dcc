use Rattle.kl_run.proofs.Shipped.{source_made}
use Rattle.kl_run.proofs.planning.ship_source.Goals as goal

pub returns : goal.returns
returns g c = source_made _ _ c.args.source.now c.index.result.now _ _ _ c.requires.placed c.index.ensures c.abilities_boxed-abilities.ensures c.in_ok-dup.ensures c.in_ok-dup-2.ensures
