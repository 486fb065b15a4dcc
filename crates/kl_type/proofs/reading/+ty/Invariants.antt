use Rattle.std.proofs.Common.{◌+◌, ◌*◌, length}
use Rattle.kl_type.specs.Descent.{reads, fields}
use Rattle.kl_type.proofs.Steps.{Progress}
use Rattle.kl_type.proofs.reading.+ty.Given as goal

abbrev pub decreases-read : goal.decreases-read
decreases-read l = 20 * l.depth + 0

abbrev pub decreases-field : goal.decreases-field
decreases-field l = 20 * l.depth + 1

abbrev pub decreases-coll_rest : goal.decreases-coll_rest
decreases-coll_rest l = 20 * l.depth + 1

abbrev pub decreases-fields : goal.decreases-fields
decreases-fields l = 20 * l.depth + 2

abbrev pub decreases-rec_rest : goal.decreases-rec_rest
decreases-rec_rest l = 20 * l.depth + 3

abbrev pub decreases-var_rest : goal.decreases-var_rest
decreases-var_rest l = 20 * l.depth + 3

abbrev pub invariant-fields-fields : goal.invariant-fields-fields
invariant-fields-fields l = Progress (reads l.depth) (fields (reads l.depth) l.tokens) l.found.entries l.rest

abbrev pub decreases-fields-fields : goal.decreases-fields-fields
decreases-fields-fields l = length l.rest
