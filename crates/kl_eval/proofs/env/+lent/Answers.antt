use Rattle.std.proofs.Common.{refl}
use Rattle.kl_eval.proofs.Forms.{sense_var, lent_there, come_var, come_proj}
use Rattle.kl_eval.proofs.env.+lent.Goals as goal

pub variable-requires : goal.variable-requires
variable-requires t c = sense_var _ _ _ _ c.in-Var.is c.requires.1

pub returns-in-Var-clause-value : goal.returns-in-Var-clause-value
returns-in-Var-clause-value t c = λ S T. come_var _ _ _ _ c.in-Var.is c.variable.ensures S T

pub field-requires : goal.field-requires
field-requires t c = lent_there _ _ _ _ _ _ _ c.in-Proj.is refl c.get.ensures c.requires (λ S T. c.in-Some.ensures.value S T)

pub returns-in-Some-clause-value : goal.returns-in-Some-clause-value
returns-in-Some-clause-value t c = λ S T. come_proj S T _ _ _ _ _ _ c.in-Proj.is refl c.get.ensures _ _ c.field.ensures (c.in-Some.ensures.value S T)
