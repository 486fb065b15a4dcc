use Rattle.std.proofs.Common.{◌∙◌}
use Rattle.std.proofs.lemmas.Result.{IfOk-weaker}
use Rattle.clap.specs.Words.{found_of}
use Rattle.kl_words.proofs.Reading.{at_none, at_some}
use Rattle.kl_words.proofs.read.path.Goals as goal

pub returns-in-Some-clause-path : goal.returns-in-Some-clause-path
returns-in-Some-clause-path c =
    IfOk-weaker c.text.result _ _ (λ r e. e ∙ at_some (found_of c.args.matches.now) c.args.id.now _ c.in-Some.ensures) c.text.ensures.copy

pub returns-in-None-clause-path : goal.returns-in-None-clause-path
returns-in-None-clause-path c =
    IfOk-weaker c.text-in-None.result _ _ (λ r e. e ∙ at_none (found_of c.args.matches.now) c.args.id.now c.in-None.ensures) c.text-in-None.ensures.copy
