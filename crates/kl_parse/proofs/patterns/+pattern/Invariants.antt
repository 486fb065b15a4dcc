use Rattle.std.proofs.Common.{◌+◌, ◌*◌, ◌∷◌, [], length}
use Rattle.kl_phrase.specs.Readers.{tails}
use Rattle.kl_phrase.proofs.Tails.{Going}
use Rattle.kl_parse.specs.Descent.{read_pat, pat_turn}
use Rattle.kl_parse.proofs.patterns.+pattern.Given as goal

abbrev pub decreases-pattern : goal.decreases-pattern
decreases-pattern l = 20 * l.depth + 0

abbrev pub decreases-pattern_before : goal.decreases-pattern_before
decreases-pattern_before l = 20 * l.depth + 1

abbrev pub decreases-pat_field : goal.decreases-pat_field
decreases-pat_field l = 20 * l.depth + 1

abbrev pub decreases-variant_rest : goal.decreases-variant_rest
decreases-variant_rest l = 20 * l.depth + 2

abbrev pub decreases-more_fields : goal.decreases-more_fields
decreases-more_fields l = 20 * l.depth + 2

abbrev pub decreases-shape : goal.decreases-shape
decreases-shape l = 20 * l.depth + 3

abbrev pub decreases-shape_rest : goal.decreases-shape_rest
decreases-shape_rest l = 20 * l.depth + 4

abbrev pub invariant-more_fields-fields : goal.invariant-more_fields-fields
invariant-more_fields-fields l = Going (pat_turn l.total (read_pat l.total l.depth)) (tails (pat_turn l.total (read_pat l.total l.depth)) (l.fn.first ∷ []) l.tokens) l.found.items l.rest

abbrev pub decreases-more_fields-fields : goal.decreases-more_fields-fields
decreases-more_fields-fields l = length l.rest
