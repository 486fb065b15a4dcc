use Rattle.kl_functions.specs.Occurrences.{names_of}
use Rattle.kl_functions.specs.Plainly.{other_names}
use Rattle.kl_functions.proofs.Naming.{record_names}
use Rattle.kl_functions.proofs.programs.others.Goals as goal

pub returns-in-Rec : goal.returns-in-Rec
returns-in-Rec c = record_names (λ v. names_of v.items) (λ p. other_names c.args.labels.now p) c.others_in.result c.args.pattern.now c.in-Rec.fields c.slice.result.now c.in-Rec.tail c.in-Rec.is c.slice.ensures c.others_in.ensures
