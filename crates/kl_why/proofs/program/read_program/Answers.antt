use Rattle.std.proofs.Common.{refl}
use Rattle.kl_infer.specs.Inferred.{types_of}
use Rattle.kl_why.proofs.Findings.{read_unfit}
use Rattle.kl_why.proofs.program.read_program.Goals as goal

pub returns-in-Ok : goal.returns-in-Ok
returns-in-Ok c =
    read_unfit c.args.names.now (types_of c.args.types.now) c.args.text.now c.in-Ok.field-0 _ _ c.slice.ensures refl c.in-Ok.ensures
    c.in-Err-judge.refusal c.in-Err-judge.ensures
