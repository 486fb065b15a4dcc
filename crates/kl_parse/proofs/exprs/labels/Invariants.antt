use Rattle.std.proofs.Common.{[], length}
use Rattle.kl_lex.specs.declared.token.Sym.TheVariants.{Dot}
use Rattle.kl_phrase.specs.Readers.{behind, others}
use Rattle.kl_phrase.proofs.Gathered.{Progress}
use Rattle.kl_parse.specs.Kinds.{is_symbol}
use Rattle.kl_parse.specs.Descent.{mark, label}
use Rattle.kl_parse.proofs.exprs.labels.Given as goal

abbrev pub invariant-labels : goal.invariant-labels
invariant-labels l = Progress (is_symbol Dot) (behind (mark Dot) (label l.total)) (others (is_symbol Dot) (behind (mark Dot) (label l.total)) [] l.tokens) l.found.items l.rest

abbrev pub decreases-labels : goal.decreases-labels
decreases-labels l = length l.rest
