use Rattle.std.proofs.Common.{◌≡◌, rules}
use Rattle.kl_tools.specs.Texts.{catalogue_text}
use Rattle.kl_engine.proofs.FileAnswers.{made_refused}
use Rattle.kl_engine.proofs.inputs.made_inputs.Goals as goal

pub returns-in-Err-catalogue_of : goal.returns-in-Err-catalogue_of
returns-in-Err-catalogue_of g c = λ files.
    let same : c.slice.result.now ≡ catalogue_text c.args.seed c.args.size = search rules in
    made_refused c.args.seed c.args.size _ files c.slice.result.now c.in-Err-catalogue_of.fault same c.in-Err-catalogue_of.ensures
