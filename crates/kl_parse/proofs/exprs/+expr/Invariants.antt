use Rattle.std.proofs.Common.{◌+◌, ◌*◌, ◌∷◌, [], length}
use Rattle.kl_lex.specs.declared.token.Sym.TheVariants.{Comma}
use Rattle.kl_phrase.specs.Readers.{both, behind, one, others, tails}
use Rattle.kl_phrase.proofs.Tails.{Going}
use Rattle.kl_phrase.proofs.Gathered.{Progress}
use Rattle.kl_parse.specs.Grammar.{whole, signed}
use Rattle.kl_parse.specs.Kinds.{among, is_symbol, op_kinds, an_op}
use Rattle.kl_parse.specs.Descent.{mark, read_pat, reads, field_turn, sort_at, qualifier, branch_at, operand_at}
use Rattle.kl_parse.proofs.Ranks.{rank}
use Rattle.kl_parse.proofs.exprs.+expr.Given as goal

abbrev pub decreases-named : goal.decreases-named
decreases-named l = 40 * l.depth + 0

abbrev pub decreases-primary : goal.decreases-primary
decreases-primary l = 40 * l.depth + 1

abbrev pub decreases-path : goal.decreases-path
decreases-path l = 40 * l.depth + 2

abbrev pub decreases-signed : goal.decreases-signed
decreases-signed l = 40 * l.depth + 3

abbrev pub decreases-operand : goal.decreases-operand
decreases-operand l = 40 * l.depth + rank l.level

abbrev pub decreases-more_steps : goal.decreases-more_steps
decreases-more_steps l = 40 * l.depth + (rank l.level + 1)

abbrev pub decreases-chain : goal.decreases-chain
decreases-chain l = 40 * l.depth + (rank l.level + 2)

abbrev pub decreases-comparison : goal.decreases-comparison
decreases-comparison l = 40 * l.depth + 13

abbrev pub decreases-negation : goal.decreases-negation
decreases-negation l = 40 * l.depth + 14

abbrev pub decreases-expr : goal.decreases-expr
decreases-expr l = 40 * l.depth + 21

abbrev pub decreases-group_rest : goal.decreases-group_rest
decreases-group_rest l = 40 * l.depth + 22

abbrev pub decreases-field : goal.decreases-field
decreases-field l = 40 * l.depth + 22

abbrev pub decreases-condition : goal.decreases-condition
decreases-condition l = 40 * l.depth + 22

abbrev pub decreases-otherwise : goal.decreases-otherwise
decreases-otherwise l = 40 * l.depth + 23

abbrev pub decreases-if_rest : goal.decreases-if_rest
decreases-if_rest l = 40 * l.depth + 24

abbrev pub decreases-let_rest : goal.decreases-let_rest
decreases-let_rest l = 40 * l.depth + 24

abbrev pub decreases-more_exprs : goal.decreases-more_exprs
decreases-more_exprs l = 40 * l.depth + 22

abbrev pub decreases-inject_rest : goal.decreases-inject_rest
decreases-inject_rest l = 40 * l.depth + 22

abbrev pub decreases-more_fields : goal.decreases-more_fields
decreases-more_fields l = 40 * l.depth + 23

abbrev pub decreases-rec_rest : goal.decreases-rec_rest
decreases-rec_rest l = 40 * l.depth + 25

abbrev pub decreases-args_rest : goal.decreases-args_rest
decreases-args_rest l = 40 * l.depth + 23

abbrev pub decreases-qualifier : goal.decreases-qualifier
decreases-qualifier l = 40 * l.depth + 23

abbrev pub decreases-more_qualifiers : goal.decreases-more_qualifiers
decreases-more_qualifiers l = 40 * l.depth + 24

abbrev pub decreases-qualifiers : goal.decreases-qualifiers
decreases-qualifiers l = 40 * l.depth + 25

abbrev pub decreases-beyond : goal.decreases-beyond
decreases-beyond l = 40 * l.depth + 26

abbrev pub decreases-coll_rest : goal.decreases-coll_rest
decreases-coll_rest l = 40 * l.depth + 27

abbrev pub decreases-branch : goal.decreases-branch
decreases-branch l = 40 * l.depth + 23

abbrev pub decreases-more_branches : goal.decreases-more_branches
decreases-more_branches l = 40 * l.depth + 24

abbrev pub decreases-case_rest : goal.decreases-case_rest
decreases-case_rest l = 40 * l.depth + 26

abbrev pub invariant-more_exprs-exprs : goal.invariant-more_exprs-exprs
invariant-more_exprs-exprs l = Progress (is_symbol Comma) (behind (mark Comma) (reads l.total l.depth whole)) (others (is_symbol Comma) (behind (mark Comma) (reads l.total l.depth whole)) (l.fn.first ∷ []) l.tokens) l.found.items l.rest

abbrev pub decreases-more_exprs-exprs : goal.decreases-more_exprs-exprs
decreases-more_exprs-exprs l = length l.rest

abbrev pub invariant-more_fields-fields : goal.invariant-more_fields-fields
invariant-more_fields-fields l = Going (field_turn l.total (reads l.total l.depth whole) (sort_at l.total l.depth signed)) (tails (field_turn l.total (reads l.total l.depth whole) (sort_at l.total l.depth signed)) (l.fn.first ∷ []) l.tokens) l.found.items l.rest

abbrev pub decreases-more_fields-fields : goal.decreases-more_fields-fields
decreases-more_fields-fields l = length l.rest

abbrev pub invariant-more_qualifiers-quals : goal.invariant-more_qualifiers-quals
invariant-more_qualifiers-quals l = Progress (is_symbol Comma) (behind (mark Comma) (qualifier (read_pat l.total l.depth) (reads l.total l.depth whole))) (others (is_symbol Comma) (behind (mark Comma) (qualifier (read_pat l.total l.depth) (reads l.total l.depth whole))) (l.fn.first ∷ []) l.tokens) l.found.items l.rest

abbrev pub decreases-more_qualifiers-quals : goal.decreases-more_qualifiers-quals
decreases-more_qualifiers-quals l = length l.rest

abbrev pub invariant-more_branches-branches : goal.invariant-more_branches-branches
invariant-more_branches-branches l = Progress (is_symbol Comma) (behind (mark Comma) (branch_at l.total l.depth)) (others (is_symbol Comma) (behind (mark Comma) (branch_at l.total l.depth)) (l.fn.first ∷ []) l.tokens) l.found.items l.rest

abbrev pub decreases-more_branches-branches : goal.decreases-more_branches-branches
decreases-more_branches-branches l = length l.rest

abbrev pub invariant-more_steps-steps : goal.invariant-more_steps-steps
invariant-more_steps-steps l = Progress (among (op_kinds l.level)) (both (one (an_op l.level)) (operand_at l.total l.depth l.level)) (others (among (op_kinds l.level)) (both (one (an_op l.level)) (operand_at l.total l.depth l.level)) [] l.tokens) l.found.items l.rest

abbrev pub decreases-more_steps-steps : goal.decreases-more_steps-steps
decreases-more_steps-steps l = length l.rest

abbrev pub decreases-expr_before : goal.decreases-expr_before
decreases-expr_before l = 40 * l.depth + 22

abbrev pub decreases-call_rest : goal.decreases-call_rest
decreases-call_rest l = 40 * l.depth + 24

abbrev pub decreases-rec_body : goal.decreases-rec_body
decreases-rec_body l = 40 * l.depth + 24

abbrev pub decreases-unsigned : goal.decreases-unsigned
decreases-unsigned l = 40 * l.depth + 4

abbrev pub decreases-injected : goal.decreases-injected
decreases-injected l = 40 * l.depth + 21

abbrev pub decreases-branch_rest : goal.decreases-branch_rest
decreases-branch_rest l = 40 * l.depth + 22

abbrev pub decreases-case_end : goal.decreases-case_end
decreases-case_end l = 40 * l.depth + 24

abbrev pub decreases-branches : goal.decreases-branches
decreases-branches l = 40 * l.depth + 25
