use Rattle.kl_cursor.proofs.EmitCode.{lends_var, tells_plain}
use Rattle.kl_cursor.proofs.ValueCode.{code_plain_sense, code_var_sense}
use Rattle.kl_cursor.proofs.parts.lent.Goals as goal

pub lent_plain-requires-clause-plain : goal.lent_plain-requires-clause-plain
lent_plain-requires-clause-plain c = (code_plain_sense _ _ _ _ c.in-Plain.is c.requires.1).0

pub lent_plain-requires-clause-sense : goal.lent_plain-requires-clause-sense
lent_plain-requires-clause-sense c = (code_plain_sense _ _ _ _ c.in-Plain.is c.requires.1).1

pub variable-requires : goal.variable-requires
variable-requires c = code_var_sense _ _ _ c.requires.0 c.in-Var.is c.requires.1

pub returns-in-Plain-clause-value : goal.returns-in-Plain-clause-value
returns-in-Plain-clause-value c = tells_plain (λ v. v.now) _ _ _ _ c.in-Plain.is c.lent_plain.ensures.value

pub returns-in-Var-clause-value : goal.returns-in-Var-clause-value
returns-in-Var-clause-value c = lends_var _ _ _ _ c.in-Var.is c.variable.ensures
