use Rattle.kl_functions.proofs.Occurring.{shape_found}
use Rattle.kl_functions.proofs.occurrences.Parameter.+pattern.Goals as goal

pub pattern-returns-in-Rec : goal.pattern-returns-in-Rec
pattern-returns-in-Rec t c = shape_found _ _ c.patterns.result c.args.pattern.now _ _ _ _ _ c.in-Rec.is c.slice.ensures c.patterns.ensures
