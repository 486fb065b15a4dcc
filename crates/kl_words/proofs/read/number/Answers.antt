use Rattle.std.specs.Str.Parse.{ExplainsUnsignedError, HasUnsignedDigitsIfOk, ParsesUnsigned}
use Rattle.clap.specs.Words.{found_of}
use Rattle.kl_words.proofs.Reading.{number_reads}
use Rattle.kl_words.proofs.read.number.Goals as goal

pub returns : goal.returns
returns c = number_reads _ (λ bs r. ParsesUnsigned 32 10 bs r × ExplainsUnsignedError 10 bs r × HasUnsignedDigitsIfOk bs r)
    (found_of c.args.matches.now) c.args.id.now c.get_one.result (λ u x g. g.0) c.get_one.ensures.none c.get_one.ensures.value
