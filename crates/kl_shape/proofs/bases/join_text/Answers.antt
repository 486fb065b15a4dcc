use Rattle.std.proofs.Common.{◌∙◌, sym}
use Rattle.kl_shape.proofs.Joins.{text_may, text_not}
use Rattle.kl_shape.proofs.ShapeLemmas.{sound-Str}
use Rattle.kl_shape.proofs.bases.join_text.Goals as goal

pub returns-then-may_be_text : goal.returns-then-may_be_text
returns-then-may_be_text c = record { joins = text_may c.args.shape.now (sym c.may_be_text.ensures ∙ c.if-may_be_text.true); sound = sound-Str }

pub returns-else-may_be_text : goal.returns-else-may_be_text
returns-else-may_be_text c = record { joins = text_not c.args.shape.now (sym c.may_be_text.ensures ∙ c.if-may_be_text.false); sound = tt }
