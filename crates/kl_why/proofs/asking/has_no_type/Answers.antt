use Rattle.kl_infer.specs.Inferred.{types_of}
use Rattle.kl_why.proofs.Findings.{no_type}
use Rattle.kl_why.proofs.asking.has_no_type.Goals as goal

pub returns-in-Err-IllTyped : goal.returns-in-Err-IllTyped
returns-in-Err-IllTyped c =
    λ yes. no_type c.args.names.now (types_of c.args.types.now) c.args.text.now c.in-Ok.read _ c.in-Ok.ensures (rw c.in-Err-IllTyped.field-0-is at c.in-Err-IllTyped.ensures.refused)
