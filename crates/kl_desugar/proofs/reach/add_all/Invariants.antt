use Rattle.std.proofs.Common.{drop}
use Rattle.kl_desugar.proofs.Naming.{Adding}
use Rattle.kl_desugar.proofs.reach.add_all.Given as goal

abbrev pub invariant-words : goal.invariant-words
invariant-words l = Adding (drop l.word-index l.words) l.names l.words l.initial.names
