use Rattle.kl_desugar.proofs.Naming.{shape_named}
use Rattle.kl_desugar.proofs.reach.+pattern.Goals as goal

pub pattern_names-returns-in-Rec : goal.pattern_names-returns-in-Rec
pattern_names-returns-in-Rec t c = shape_named _ _ _ _ _ _ _ c.in-Rec.is c.slice.ensures c.patterns_names.ensures
