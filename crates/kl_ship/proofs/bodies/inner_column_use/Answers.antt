use Rattle.kl_ship.proofs.BodyParts.{inner_column}
use Rattle.kl_ship.proofs.bodies.inner_column_use.Goals as goal

pub returns-else-eq : goal.returns-else-eq
returns-else-eq c = inner_column c.args.join.now _ c.in-Some.is c.args.label.now _ _ c.eq.ensures c.if-eq.false c.column_use.ensures
