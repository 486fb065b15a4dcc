use Rattle.std.proofs.Common.{[], length}
use Rattle.kl_phrase.specs.Readers.{others}
use Rattle.kl_phrase.proofs.Gathered.{Progress}
use Rattle.kl_type.specs.Descent.{reads}
use Rattle.kl_catalogue.specs.Descent.{is_source, entry}
use Rattle.kl_catalogue.proofs.reading.entries.Given as goal

abbrev pub invariant-entries : goal.invariant-entries
invariant-entries l = Progress is_source (entry (reads 256)) (others is_source (entry (reads 256)) [] l.tokens) l.found.items l.rest

abbrev pub decreases-entries : goal.decreases-entries
decreases-entries l = length l.rest
