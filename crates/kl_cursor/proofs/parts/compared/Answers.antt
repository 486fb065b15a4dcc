use Rattle.kl_value.specs.declared.value.Value.TheVariants as value
use Rattle.kl_scans.specs.Running.{session}
use Rattle.kl_cursor.proofs.EmitCode.{tells_plain}
use Rattle.kl_cursor.proofs.ValueCode.{code_plain_sense}
use Rattle.kl_cursor.proofs.parts.compared.Goals as goal

pub compared_plain-requires : goal.compared_plain-requires
compared_plain-requires c = (session c.requires.0, code_plain_sense _ _ _ _ c.in-Plain.is c.requires.1)

pub returns-in-Plain : goal.returns-in-Plain
returns-in-Plain c = tells_plain (λ yes. value.Bool yes) _ _ _ _ c.in-Plain.is c.compared_plain.ensures
