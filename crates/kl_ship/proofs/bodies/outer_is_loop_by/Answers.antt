use Rattle.kl_ship.proofs.BodyParts.{outer_no_loop}
use Rattle.kl_ship.proofs.bodies.outer_is_loop_by.Goals as goal

pub returns-in_default : goal.returns-in_default
returns-in_default c = outer_no_loop c.args.join.now c.args.driver c.args.kind _ c.slice.ensures c.in_default.len_at_least
