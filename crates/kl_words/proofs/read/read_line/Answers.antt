use Rattle.std.proofs.Common.{map, string_bytes}
use Rattle.clap.specs.Words.{app_of}
use Rattle.kl_words.proofs.Reading.{read_not, read_well}
use Rattle.kl_words.proofs.read.read_line.Goals as goal

pub returns-in-Ok-clause-ok : goal.returns-in-Ok-clause-ok
returns-in-Ok-clause-ok c =
    read_well (app_of c.args.line) (map string_bytes c.args.words.now) c.in-Ok.matches c.requires (c.in-Ok.ensures.kinds c.requires) c.in-Ok.ensures.matches

pub returns-in-Err-clause-usage : goal.returns-in-Err-clause-usage
returns-in-Err-clause-usage c e =
    read_not (app_of c.args.line) (map string_bytes c.args.words.now) c.in-Err.error (c.in-Err.ensures.kinds c.requires)
    (λ z. let memory = c.refusal.ensures.memory z in cc)
