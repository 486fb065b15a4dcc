use Rattle.std.proofs.Common.{◌∙◌, sym}
use Rattle.kl_shape.proofs.Joins.{int_may, int_not}
use Rattle.kl_shape.proofs.ShapeLemmas.{sound-Int}
use Rattle.kl_shape.proofs.bases.join_int.Goals as goal

pub returns-then-may_be_int : goal.returns-then-may_be_int
returns-then-may_be_int c = record { joins = int_may c.args.shape.now (sym c.may_be_int.ensures ∙ c.if-may_be_int.true); sound = sound-Int }

pub returns-else-may_be_int : goal.returns-else-may_be_int
returns-else-may_be_int c = record { joins = int_not c.args.shape.now (sym c.may_be_int.ensures ∙ c.if-may_be_int.false); sound = tt }
