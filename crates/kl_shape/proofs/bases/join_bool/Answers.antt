use Rattle.std.proofs.Common.{◌∙◌, sym}
use Rattle.kl_shape.proofs.Joins.{bool_may, bool_not}
use Rattle.kl_shape.proofs.ShapeLemmas.{sound-Bool}
use Rattle.kl_shape.proofs.bases.join_bool.Goals as goal

pub returns-then-may_be_bool : goal.returns-then-may_be_bool
returns-then-may_be_bool c = record { joins = bool_may c.args.shape.now (sym c.may_be_bool.ensures ∙ c.if-may_be_bool.true); sound = sound-Bool }

pub returns-else-may_be_bool : goal.returns-else-may_be_bool
returns-else-may_be_bool c = record { joins = bool_not c.args.shape.now (sym c.may_be_bool.ensures ∙ c.if-may_be_bool.false); sound = tt }
