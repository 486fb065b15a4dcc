use Rattle.std.proofs.Common.{◌∙◌, ap, Some}
use Rattle.clap.specs.Words.{found_of}
use Rattle.clap.proofs.WalkLemmas.{first_value-rows}
use Rattle.kl_words.proofs.read.optional_path.Goals as goal

pub returns-in_ok-text-in-Some-clause-path : goal.returns-in_ok-text-in-Some-clause-path
returns-in_ok-text-in-Some-clause-path c =
    ap Some c.in_ok-text-in-Some.ensures.copy ∙ (c.in-Some.ensures ∙ first_value-rows (found_of c.args.matches.now) c.args.id.now)

pub returns-in-None-clause-path : goal.returns-in-None-clause-path
returns-in-None-clause-path c = c.in-None.ensures ∙ first_value-rows (found_of c.args.matches.now) c.args.id.now
