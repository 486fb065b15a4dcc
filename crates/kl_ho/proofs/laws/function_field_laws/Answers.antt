use Rattle.kl_ho.proofs.Fields.{same_parts_first}
use Rattle.kl_ho.specs.Functions.{first_functions, no_fields}
use Rattle.kl_ho.proofs.laws.function_field_laws.Goals as goal

pub returns : goal.returns
returns c = record { unique = λ fields also ds sources h k. same_parts_first fields also ds (first_functions sources) no_fields h k }
