use Rattle.std.proofs.Common.{◌∙◌}
use Rattle.std.specs.Str.Parse.{ParsesBool}
use Rattle.clap.specs.Words.{found_of}
use Rattle.kl_words.proofs.Reading.{flag_reads}
use Rattle.kl_words.proofs.read.flag.Goals as goal

pub returns : goal.returns
returns c = c.unwrap_or.ensures ∙ flag_reads _ (λ bs r. ParsesBool bs r)
    (found_of c.args.matches.now) c.args.id.now c.get_one.result (λ u x g. g) c.get_one.ensures.none c.get_one.ensures.value
