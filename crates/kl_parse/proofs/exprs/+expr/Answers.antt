use Rattle.std.proofs.Common.{rules, ◌-◌, ◌∷◌, [], arith, refl, sym, ap, ◌∙◌}
use Rattle.std.proofs.lemmas.Result.{err_from_is_err_and}
use Rattle.kl_lex.specs.declared.token.Sym.TheVariants.{Comma}
use Rattle.kl_parse.specs.declared.operator.Level.TheVariants.{Compare}
use Rattle.kl_syntax.specs.declared.tree.Expr.TheVariants as expr
use Rattle.kl_syntax.specs.declared.tree.Qual.TheVariants as qual
use Rattle.kl_phrase.specs.Readers.{ok, bad, deep, behind, others, tails}
use Rattle.kl_phrase.specs.Refusals.{refused}
use Rattle.kl_phrase.proofs.Gathered.{stops}
use Rattle.kl_parse.specs.Grammar.{whole, negated, signed, path_of}
use Rattle.kl_parse.specs.Kinds.{is_symbol}
use Rattle.kl_parse.specs.Descent.{mark, read_pat, reads, labels, field, field_turn, unsigned, qualifier, branch_at, operand_at, sort_at, compare_at, post_at, drawn, condition}
use Rattle.kl_parse.proofs.Steps.{less, onward, fails_on, item_on, item_breaks, dots_end, dots_break, list_end}
use Rattle.kl_phrase.proofs.Failures.{err_by, is_bad, is_deep}
use Rattle.kl_parse.proofs.ExprSteps.{let_deep, let_at, if_deep, if_at, ors_at, Others, step_fails, step_less, step_onward, step_stops, operand_or, operand_compare, operand_add, not_deep, not_at, not_none, compare_fails, compare_one, compare_two, compare_ok, gen_at, cond_at, least_found, minus_deep, minus_on, minus_none, path_fails, path_first, path_one, path_more, const_found, group_deep, group_at, rec_deep, rec_at, record_fails, record_ok, inject_deep, inject_at, coll_deep, coll_at, case_deep, case_at, name_at, named_fails, named_alone, named_deep, named_args, branch_bad, branch_deep, variant_in_branch_fails, branch_arrow, coll_empty, coll_first_fails, coll_beyond_fails, coll_close, rests_whole, rests_field, rests_qual, rests_branch}
use Rattle.kl_parse.proofs.exprs.+expr.Goals as goal

pub branch-returns-in_err-inner : goal.branch-returns-in_err-inner
branch-returns-in_err-inner t c =
    let p = err_from_is_err_and c.from_residual.result c.from_residual.ensures.1 in
    rw (p.1, p.2) (branch_bad c.args.total c.args.depth c.args.tokens.now c.in_err-inner.field-0.0 c.in_err-inner.ensures)

pub branch-returns-then-depth-eq0 : goal.branch-returns-then-depth-eq0
branch-returns-then-depth-eq0 t c = branch_deep c.args.total c.args.depth c.args.tokens.now c.in_ok-inner.inner.now c.if-depth-eq0.true c.in_ok-inner.ensures

pub branch-returns-in_err-label : goal.branch-returns-in_err-label
branch-returns-in_err-label t c =
    let p = err_from_is_err_and c.from_residual-in_err-label.result c.from_residual-in_err-label.ensures.1 in
    rw (p.1, p.2) (variant_in_branch_fails c.args.total c.args.depth (c.args.depth - 1) c.args.tokens.now c.in_ok-inner.inner.now c.in_err-label.field-0.0 (omega arith) c.in_ok-inner.ensures c.in_err-label.ensures)

pub branch-returns : goal.branch-returns
branch-returns t c = rw (branch_arrow c.args.total c.args.depth (c.args.depth - 1) c.args.tokens.now c.in_ok-inner.inner.now c.in_ok-label.rest.now (c.in_ok-label.label, c.in_ok-label.pat) (omega arith) c.in_ok-inner.ensures c.in_ok-label.ensures) c.branch_rest.ensures

pub coll_rest-returns-in-Some : goal.coll_rest-returns-in-Some
coll_rest-returns-in-Some t c = rw (coll_empty (read_pat c.args.total c.args.depth) (reads c.args.total c.args.depth whole) c.args.kind c.args.tokens.now c.closer.result c.closer.ensures c.of.result c.in-Some.rest.now (search rules) c.in-Some.ensures) c.boxed.ensures

pub coll_rest-returns-in_err-first : goal.coll_rest-returns-in_err-first
coll_rest-returns-in_err-first t c =
    let p = err_from_is_err_and c.from_residual.result c.from_residual.ensures.1 in
    rw (p.1, p.2) (coll_first_fails (read_pat c.args.total c.args.depth) (reads c.args.total c.args.depth whole) c.args.kind c.args.tokens.now c.closer.result c.closer.ensures c.in_default.ensures c.in_err-first.field-0.0 c.in_err-first.ensures)

pub coll_rest-returns-in_err-found : goal.coll_rest-returns-in_err-found
coll_rest-returns-in_err-found t c =
    let p = err_from_is_err_and c.from_residual-in_err-found.result c.from_residual-in_err-found.ensures.1 in
    rw (p.1, p.2) (coll_beyond_fails (read_pat c.args.total c.args.depth) (reads c.args.total c.args.depth whole) c.args.kind c.args.tokens.now c.closer.result c.closer.ensures c.in_default.ensures c.in_ok-first.first c.in_ok-first.rest.now c.in_ok-first.ensures c.in_err-found.field-0.0 c.in_err-found.ensures)

pub coll_rest-returns : goal.coll_rest-returns
coll_rest-returns t c = rw (coll_close (read_pat c.args.total c.args.depth) (reads c.args.total c.args.depth whole) c.args.kind c.args.tokens.now c.closer.result c.closer.ensures c.in_default.ensures c.in_ok-first.first c.in_ok-first.rest.now c.in_ok-first.ensures c.in_ok-found.found c.in_ok-found.rest.now c.in_ok-found.ensures c.closer-2.result c.closer-2.ensures) c.closed.ensures

pub comparison-returns-in_err-first : goal.comparison-returns-in_err-first
comparison-returns-in_err-first t c =
    let p = err_from_is_err_and c.from_residual.result c.from_residual.ensures.1 in
    rw (p.1, p.2) (compare_fails c.args.total c.args.depth c.args.tokens.now c.in_err-first.field-0.0 c.in_err-first.ensures)

pub comparison-returns-in_err-second-in-Some : goal.comparison-returns-in_err-second-in-Some
comparison-returns-in_err-second-in-Some t c =
    let p = err_from_is_err_and c.from_residual-in_err-second-in-Some.result c.from_residual-in_err-second-in-Some.ensures.1 in
    rw (p.1, p.2) (err_by c.in_err-second-in-Some.field-0.0 (compare_at c.args.total c.args.depth c.args.tokens.now) (operand_at c.args.total c.args.depth Compare c.in-Some.after.now) (λ b s. ok (expr.Chain c.in_ok-first.first ((c.in-Some.op, b) ∷ [])) s) (compare_two c.args.total c.args.depth c.args.tokens.now c.in_ok-first.rest.now c.in-Some.after.now c.in_ok-first.first c.in-Some.op c.in_ok-first.ensures c.in-Some.ensures.0 c.in-Some.ensures.1) c.in_err-second-in-Some.ensures)

pub comparison-returns-in-None : goal.comparison-returns-in-None
comparison-returns-in-None t c = compare_one c.args.total c.args.depth c.args.tokens.now c.in_ok-first.rest.now c.in_ok-first.first c.in_ok-first.ensures c.in-None.ensures

pub comparison-returns-in_ok-second-in-Some : goal.comparison-returns-in_ok-second-in-Some
comparison-returns-in_ok-second-in-Some t c = rw (compare_ok c.args.total c.args.depth c.args.tokens.now c.in_ok-first.rest.now c.in-Some.after.now c.in_ok-second-in-Some.rest.now c.in_ok-first.first c.in_ok-second-in-Some.second c.in-Some.op ((c.in-Some.op, c.in_ok-second-in-Some.second) ∷ []) refl c.in_ok-first.ensures c.in-Some.ensures.0 c.in-Some.ensures.1 c.in_ok-second-in-Some.ensures) c.compared.ensures

pub expr-returns-then-depth-eq0 : goal.expr-returns-then-depth-eq0
expr-returns-then-depth-eq0 t c = let_deep c.args.total c.args.depth c.args.tokens.now c.in-Some.rest.now c.if-depth-eq0.true c.in-Some.ensures

pub expr-returns-in-Some : goal.expr-returns-in-Some
expr-returns-in-Some t c = rw (let_at c.args.total c.args.depth (c.args.depth - 1) c.args.tokens.now c.in-Some.rest.now (omega arith) c.in-Some.ensures) c.let_rest.ensures

pub expr-returns-then-depth-eq0-2 : goal.expr-returns-then-depth-eq0-2
expr-returns-then-depth-eq0-2 t c = if_deep c.args.total c.args.depth c.args.tokens.now c.in-Some-eat_word.rest.now c.if-depth-eq0-2.true c.in_default.ensures c.in-Some-eat_word.ensures

pub expr-returns-in-Some-eat_word : goal.expr-returns-in-Some-eat_word
expr-returns-in-Some-eat_word t c = rw (if_at c.args.total c.args.depth (c.args.depth - 1) c.args.tokens.now c.in-Some-eat_word.rest.now (omega arith) c.in_default.ensures c.in-Some-eat_word.ensures) c.if_rest.ensures

pub expr-returns : goal.expr-returns
expr-returns t c = rw (ors_at c.args.total c.args.depth c.args.tokens.now c.in_default.ensures c.in_default-eat_word.ensures) c.chain.ensures

pub more_branches-returns-in_err-next : goal.more_branches-returns-in_err-next
more_branches-returns-in_err-next t c =
    let p = err_from_is_err_and c.from_residual-in_err-next.result c.from_residual-in_err-next.ensures.1 in
    rw (p.1, p.2) (fails_on Comma (branch_at c.args.total c.args.depth) (others (is_symbol Comma) (behind (mark Comma) (branch_at c.args.total c.args.depth)) (c.args.first ∷ []) c.args.tokens.now) c.branches.found.items c.branches.rest.now c.in-Some.after.now c.in_err-next.field-0.0 c.in-Some.ensures c.in_err-next.ensures c.branches.invariant)

pub more_branches-branches-smaller : goal.more_branches-branches-smaller
more_branches-branches-smaller t c = less Comma (branch_at c.args.total c.args.depth) c.branches.rest.now c.in-Some.after.now c.in_ok-next.after.now c.in_ok-next.next (rests_branch c.args.total c.args.depth) c.in-Some.ensures c.in_ok-next.ensures

pub more_branches-branches-preserved : goal.more_branches-branches-preserved
more_branches-branches-preserved t c = rw c.in_ok-push-2.ensures.items (onward Comma (branch_at c.args.total c.args.depth) (rests_branch c.args.total c.args.depth) (others (is_symbol Comma) (behind (mark Comma) (branch_at c.args.total c.args.depth)) (c.args.first ∷ []) c.args.tokens.now) c.branches.found.items c.branches.rest.now c.in-Some.after.now c.in_ok-next.after.now c.in_ok-next.next c.in-Some.ensures c.in_ok-next.ensures c.branches.invariant)

pub more_branches-returns : goal.more_branches-returns
more_branches-returns t c = rw c.of.ensures (stops (is_symbol Comma) (behind (mark Comma) (branch_at c.args.total c.args.depth)) (others (is_symbol Comma) (behind (mark Comma) (branch_at c.args.total c.args.depth)) (c.args.first ∷ []) c.args.tokens.now) c.branches.found.items c.branches.rest.now c.in_default.ensures c.branches.invariant)

pub more_exprs-returns-in_err-next : goal.more_exprs-returns-in_err-next
more_exprs-returns-in_err-next t c =
    let p = err_from_is_err_and c.from_residual-in_err-next.result c.from_residual-in_err-next.ensures.1 in
    rw (p.1, p.2) (fails_on Comma (reads c.args.total c.args.depth whole) (others (is_symbol Comma) (behind (mark Comma) (reads c.args.total c.args.depth whole)) (c.args.first ∷ []) c.args.tokens.now) c.exprs.found.items c.exprs.rest.now c.in-Some.after.now c.in_err-next.field-0.0 c.in-Some.ensures c.in_err-next.ensures c.exprs.invariant)

pub more_exprs-exprs-smaller : goal.more_exprs-exprs-smaller
more_exprs-exprs-smaller t c = less Comma (reads c.args.total c.args.depth whole) c.exprs.rest.now c.in-Some.after.now c.in_ok-next.after.now c.in_ok-next.next (rests_whole c.args.total c.args.depth) c.in-Some.ensures c.in_ok-next.ensures

pub more_exprs-exprs-preserved : goal.more_exprs-exprs-preserved
more_exprs-exprs-preserved t c = rw (c.in_ok-push-2.ensures.items, c.into_inner-in-Some.ensures) (onward Comma (reads c.args.total c.args.depth whole) (rests_whole c.args.total c.args.depth) (others (is_symbol Comma) (behind (mark Comma) (reads c.args.total c.args.depth whole)) (c.args.first ∷ []) c.args.tokens.now) c.exprs.found.items c.exprs.rest.now c.in-Some.after.now c.in_ok-next.after.now c.in_ok-next.next c.in-Some.ensures c.in_ok-next.ensures c.exprs.invariant)

pub more_exprs-returns : goal.more_exprs-returns
more_exprs-returns t c = rw c.of.ensures (stops (is_symbol Comma) (behind (mark Comma) (reads c.args.total c.args.depth whole)) (others (is_symbol Comma) (behind (mark Comma) (reads c.args.total c.args.depth whole)) (c.args.first ∷ []) c.args.tokens.now) c.exprs.found.items c.exprs.rest.now c.in_default.ensures c.exprs.invariant)

pub rec_body-returns-in_err-fields : goal.rec_body-returns-in_err-fields
rec_body-returns-in_err-fields t c =
    let p = err_from_is_err_and c.from_residual-in_err-fields.result c.from_residual-in_err-fields.ensures.1 in
    rw (p.1, p.2) (record_fails c.args.total (reads c.args.total c.args.depth whole) (sort_at c.args.total c.args.depth signed) c.args.tokens.now c.in_ok-first.rest.now c.in_ok-first.first (search rules) c.in_ok-first.ensures c.in_err-fields.field-0.0 c.in_err-fields.ensures)

pub rec_body-returns : goal.rec_body-returns
rec_body-returns t c =
    rw (record_ok c.args.total (reads c.args.total c.args.depth whole) (sort_at c.args.total c.args.depth signed) c.args.tokens.now c.in_ok-first.rest.now c.in_ok-first.first (search rules) c.in_ok-first.ensures c.in_ok-fields.fields c.in_ok-fields.base c.in_ok-fields.rest.now c.in_ok-fields.ensures) c.record.ensures

pub more_fields-returns-in_err-base : goal.more_fields-returns-in_err-base
more_fields-returns-in_err-base t c =
    let p = err_from_is_err_and c.from_residual-in_err-base.result c.from_residual-in_err-base.ensures.1 in
    rw (p.1, p.2) (dots_break (field c.args.total (reads c.args.total c.args.depth whole)) (unsigned (sort_at c.args.total c.args.depth signed)) (tails (field_turn c.args.total (reads c.args.total c.args.depth whole) (sort_at c.args.total c.args.depth signed)) (c.args.first ∷ []) c.args.tokens.now) c.fields.found.items c.fields.rest.now c.in-Some.after.now c.in-Some-eat.after.now c.in_err-base.field-0.0 c.in-Some.ensures c.in-Some-eat.ensures c.in_err-base.ensures c.fields.invariant)

pub more_fields-returns-in-Some-eat : goal.more_fields-returns-in-Some-eat
more_fields-returns-in-Some-eat t c =
    rw c.of.ensures (dots_end (field c.args.total (reads c.args.total c.args.depth whole)) (unsigned (sort_at c.args.total c.args.depth signed)) (tails (field_turn c.args.total (reads c.args.total c.args.depth whole) (sort_at c.args.total c.args.depth signed)) (c.args.first ∷ []) c.args.tokens.now) c.fields.found.items c.fields.rest.now c.in-Some.after.now c.in-Some-eat.after.now c.in_ok-base.after.now c.in_ok-base.base c.in-Some.ensures c.in-Some-eat.ensures c.in_ok-base.ensures c.fields.invariant)

pub more_fields-returns-in_err-next : goal.more_fields-returns-in_err-next
more_fields-returns-in_err-next t c =
    let p = err_from_is_err_and c.from_residual-in_err-next.result c.from_residual-in_err-next.ensures.1 in
    rw (p.1, p.2) (item_breaks (field c.args.total (reads c.args.total c.args.depth whole)) (unsigned (sort_at c.args.total c.args.depth signed)) (tails (field_turn c.args.total (reads c.args.total c.args.depth whole) (sort_at c.args.total c.args.depth signed)) (c.args.first ∷ []) c.args.tokens.now) c.fields.found.items c.fields.rest.now c.in-Some.after.now c.in_err-next.field-0.0 c.in-Some.ensures c.in_default-eat.ensures c.in_err-next.ensures c.fields.invariant)

pub more_fields-fields-smaller : goal.more_fields-fields-smaller
more_fields-fields-smaller t c = less Comma (field c.args.total (reads c.args.total c.args.depth whole)) c.fields.rest.now c.in-Some.after.now c.in_ok-next.after.now c.in_ok-next.next (rests_field c.args.total c.args.depth) c.in-Some.ensures c.in_ok-next.ensures

pub more_fields-fields-preserved : goal.more_fields-fields-preserved
more_fields-fields-preserved t c =
    rw c.in_ok-push-2.ensures.items (item_on (field c.args.total (reads c.args.total c.args.depth whole)) (unsigned (sort_at c.args.total c.args.depth signed)) (tails (field_turn c.args.total (reads c.args.total c.args.depth whole) (sort_at c.args.total c.args.depth signed)) (c.args.first ∷ []) c.args.tokens.now) c.fields.found.items c.fields.rest.now (rests_field c.args.total c.args.depth) c.in-Some.after.now c.in_ok-next.after.now c.in_ok-next.next c.in-Some.ensures c.in_default-eat.ensures c.in_ok-next.ensures c.fields.invariant)

pub more_fields-returns : goal.more_fields-returns
more_fields-returns t c =
    rw c.of-2.ensures (list_end (field c.args.total (reads c.args.total c.args.depth whole)) (unsigned (sort_at c.args.total c.args.depth signed)) (tails (field_turn c.args.total (reads c.args.total c.args.depth whole) (sort_at c.args.total c.args.depth signed)) (c.args.first ∷ []) c.args.tokens.now) c.fields.found.items c.fields.rest.now c.in_default.ensures c.fields.invariant)

pub more_qualifiers-quals-smaller : goal.more_qualifiers-quals-smaller
more_qualifiers-quals-smaller t c = less Comma (qualifier (read_pat c.args.total c.args.depth) (reads c.args.total c.args.depth whole)) c.quals.rest.now c.in-Some.after.now c.in_ok-next.after.now c.in_ok-next.next (rests_qual c.args.total c.args.depth) c.in-Some.ensures c.in_ok-next.ensures

pub more_qualifiers-quals-preserved : goal.more_qualifiers-quals-preserved
more_qualifiers-quals-preserved t c = rw c.in_ok-push-2.ensures.items (onward Comma (qualifier (read_pat c.args.total c.args.depth) (reads c.args.total c.args.depth whole)) (rests_qual c.args.total c.args.depth) (others (is_symbol Comma) (behind (mark Comma) (qualifier (read_pat c.args.total c.args.depth) (reads c.args.total c.args.depth whole))) (c.args.first ∷ []) c.args.tokens.now) c.quals.found.items c.quals.rest.now c.in-Some.after.now c.in_ok-next.after.now c.in_ok-next.next c.in-Some.ensures c.in_ok-next.ensures c.quals.invariant)

pub more_qualifiers-returns : goal.more_qualifiers-returns
more_qualifiers-returns t c = rw c.of.ensures (stops (is_symbol Comma) (behind (mark Comma) (qualifier (read_pat c.args.total c.args.depth) (reads c.args.total c.args.depth whole))) (others (is_symbol Comma) (behind (mark Comma) (qualifier (read_pat c.args.total c.args.depth) (reads c.args.total c.args.depth whole))) (c.args.first ∷ []) c.args.tokens.now) c.quals.found.items c.quals.rest.now c.in_default.ensures c.quals.invariant)

pub more_steps-returns-in_err-next : goal.more_steps-returns-in_err-next
more_steps-returns-in_err-next t c =
    let p = err_from_is_err_and c.from_residual.result c.from_residual.ensures.1 in
    rw (p.1, p.2) (step_fails c.args.total c.args.depth c.args.level (Others c.args.total c.args.depth c.args.level c.args.tokens.now) c.steps.found.items c.steps.rest.now c.in-Some.after.now c.in-Some.op c.in_err-next.field-0.0 c.in-Some.ensures.0 c.in-Some.ensures.1 c.in_err-next.ensures c.steps.invariant)

pub more_steps-steps-smaller : goal.more_steps-steps-smaller
more_steps-steps-smaller t c = step_less c.args.total c.args.depth c.args.level c.steps.rest.now c.in-Some.after.now c.in_ok-next.after.now c.in-Some.op c.in_ok-next.next c.in-Some.ensures.1 c.in_ok-next.ensures

pub more_steps-steps-preserved : goal.more_steps-steps-preserved
more_steps-steps-preserved t c = rw (c.in_ok-push.ensures.items, c.into_inner.ensures) (step_onward c.args.total c.args.depth c.args.level (Others c.args.total c.args.depth c.args.level c.args.tokens.now) c.steps.found.items c.steps.rest.now c.in-Some.after.now c.in_ok-next.after.now c.in-Some.op c.in_ok-next.next c.in-Some.ensures.0 c.in-Some.ensures.1 c.in_ok-next.ensures c.steps.invariant)

pub more_steps-returns : goal.more_steps-returns
more_steps-returns t c = step_stops c.args.total c.args.depth c.args.level (Others c.args.total c.args.depth c.args.level c.args.tokens.now) c.steps.found.items c.steps.rest.now c.in_default.ensures c.steps.invariant

pub named-returns-in_err-word : goal.named-returns-in_err-word
named-returns-in_err-word t c =
    let p = err_from_is_err_and c.from_residual.result c.from_residual.ensures.1 in
    rw (p.1, p.2) (named_fails c.args.total c.args.depth c.args.tokens.now c.in_err-word.field-0.0 c.in_err-word.ensures)

pub named-returns-then-depth-eq0 : goal.named-returns-then-depth-eq0
named-returns-then-depth-eq0 t c = named_deep c.args.total c.args.depth c.args.tokens.now c.in_ok-word.rest.now c.in-Some.after.now c.in_ok-word.word (omega arith) c.in_ok-word.ensures c.in-Some.ensures

pub named-returns-in-None : goal.named-returns-in-None
named-returns-in-None t c = rw (named_alone c.args.total c.args.depth c.args.tokens.now c.in_ok-word.rest.now c.in_ok-word.word c.in_ok-word.ensures c.in-None.ensures) c.boxed.ensures

pub named-returns-else-depth-eq0 : goal.named-returns-else-depth-eq0
named-returns-else-depth-eq0 t c = rw (named_args c.args.total c.args.depth (c.args.depth - 1) c.args.tokens.now c.in_ok-word.rest.now c.in-Some.after.now c.in_ok-word.word (omega arith) c.in_ok-word.ensures c.in-Some.ensures) c.call_rest.ensures

pub negation-returns-then-depth-eq0 : goal.negation-returns-then-depth-eq0
negation-returns-then-depth-eq0 t c = not_deep c.args.total c.args.depth c.args.tokens.now c.in-Some.rest.now c.if-depth-eq0.true c.in-Some.ensures

pub negation-returns-in_err-inner : goal.negation-returns-in_err-inner
negation-returns-in_err-inner t c =
    let p = err_from_is_err_and c.from_residual.result c.from_residual.ensures.1 in
    rw (p.1, p.2) (err_by c.in_err-inner.field-0.0 (sort_at c.args.total c.args.depth negated c.args.tokens.now) (sort_at c.args.total (c.args.depth - 1) negated c.in-Some.rest.now) (λ x s. ok (expr.Not x) s) (not_at c.args.total c.args.depth (c.args.depth - 1) c.args.tokens.now c.in-Some.rest.now (omega arith) c.in-Some.ensures) c.in_err-inner.ensures)

pub negation-returns-in-Some : goal.negation-returns-in-Some
negation-returns-in-Some t c = rw (not_at c.args.total c.args.depth (c.args.depth - 1) c.args.tokens.now c.in-Some.rest.now (omega arith) c.in-Some.ensures, c.in_ok-inner.ensures) c.boxed.ensures

pub negation-returns : goal.negation-returns
negation-returns t c = rw (not_none c.args.total c.args.depth c.args.tokens.now c.in_default.ensures) c.comparison.ensures

pub operand-returns-in-Or : goal.operand-returns-in-Or
operand-returns-in-Or t c = rw (c.in-Or.is, operand_or c.args.total c.args.depth c.args.tokens.now) c.chain.ensures

pub operand-returns-in-Compare : goal.operand-returns-in-Compare
operand-returns-in-Compare t c = rw (c.in-Compare.is, operand_compare c.args.total c.args.depth c.args.tokens.now) c.chain-in-Compare.ensures

pub operand-returns-in-Add : goal.operand-returns-in-Add
operand-returns-in-Add t c = rw (c.in-Add.is, operand_add c.args.total c.args.depth c.args.tokens.now) c.chain-in-Add.ensures

pub path-returns-in_err-first : goal.path-returns-in_err-first
path-returns-in_err-first t c =
    let p = err_from_is_err_and c.from_residual.result c.from_residual.ensures.1 in
    rw (p.1, p.2) (path_fails c.args.total c.args.depth c.args.tokens.now c.in_err-first.field-0.0 c.in_err-first.ensures)

pub path-returns-in_err-words : goal.path-returns-in_err-words
path-returns-in_err-words t c =
    let p = err_from_is_err_and c.from_residual-in_err-words.result c.from_residual-in_err-words.ensures.1 in
    rw (p.1, p.2) (err_by c.in_err-words.field-0.0 (post_at c.args.total c.args.depth c.args.tokens.now) (labels c.args.total c.in_ok-first.rest.now) (λ l s. ok (path_of (c.in_ok-first.first, l)) s) (path_first c.args.total c.args.depth c.args.tokens.now c.in_ok-first.rest.now c.in_ok-first.first c.in_ok-first.ensures) c.in_err-words.ensures)

pub path-returns-then-is_empty : goal.path-returns-then-is_empty
path-returns-then-is_empty t c = path_one c.args.total c.args.depth c.args.tokens.now c.in_ok-first.rest.now c.in_ok-words.rest.now c.in_ok-first.first c.in_ok-words.words.items c.in_ok-first.ensures c.in_ok-words.ensures (search rules)

pub path-returns : goal.path-returns
path-returns t c = rw (path_more c.args.total c.args.depth c.args.tokens.now c.in_ok-first.rest.now c.in_ok-words.rest.now c.in_ok-first.first c.in_ok-words.words.items c.in_ok-first.ensures c.in_ok-words.ensures (search rules) ∙ ap (λ l. ok (expr.Path c.in_ok-first.first l) c.in_ok-words.rest.now) (sym c.of.ensures)) c.boxed.ensures

pub primary-returns-in-Some : goal.primary-returns-in-Some
primary-returns-in-Some t c = rw (const_found c.args.total c.args.depth c.args.tokens.now c.in-Some.rest.now c.in-Some.value (search rules) (search rules)) c.boxed.ensures

pub primary-returns-then-depth-eq0 : goal.primary-returns-then-depth-eq0
primary-returns-then-depth-eq0 t c = group_deep c.args.total c.args.depth c.args.tokens.now c.in-Some-eat.rest.now c.if-depth-eq0.true (search rules) c.in-Some-eat.ensures

pub primary-returns-in-Some-eat : goal.primary-returns-in-Some-eat
primary-returns-in-Some-eat t c = rw (group_at c.args.total c.args.depth (c.args.depth - 1) c.args.tokens.now c.in-Some-eat.rest.now (omega arith) (search rules) c.in-Some-eat.ensures) c.group_rest.ensures

pub primary-returns-then-depth-eq0-2 : goal.primary-returns-then-depth-eq0-2
primary-returns-then-depth-eq0-2 t c = rec_deep c.args.total c.args.depth c.args.tokens.now c.in-Some-eat-2.rest.now c.if-depth-eq0-2.true ((search rules), c.in_default-eat.ensures) c.in-Some-eat-2.ensures

pub primary-returns-in-Some-eat-2 : goal.primary-returns-in-Some-eat-2
primary-returns-in-Some-eat-2 t c = rw (rec_at c.args.total c.args.depth (c.args.depth - 1) c.args.tokens.now c.in-Some-eat-2.rest.now (omega arith) ((search rules), c.in_default-eat.ensures) c.in-Some-eat-2.ensures) c.rec_rest.ensures

pub primary-returns-then-depth-eq0-3 : goal.primary-returns-then-depth-eq0-3
primary-returns-then-depth-eq0-3 t c = inject_deep c.args.total c.args.depth c.args.tokens.now c.in-Some-eat-3.rest.now c.if-depth-eq0-3.true ((search rules), c.in_default-eat.ensures, c.in_default-eat-2.ensures) c.in-Some-eat-3.ensures

pub primary-returns-in-Some-eat-3 : goal.primary-returns-in-Some-eat-3
primary-returns-in-Some-eat-3 t c = rw (inject_at c.args.total c.args.depth (c.args.depth - 1) c.args.tokens.now c.in-Some-eat-3.rest.now (omega arith) ((search rules), c.in_default-eat.ensures, c.in_default-eat-2.ensures) c.in-Some-eat-3.ensures) c.inject_rest.ensures

pub primary-returns-then-depth-eq0-4 : goal.primary-returns-then-depth-eq0-4
primary-returns-then-depth-eq0-4 t c = coll_deep c.args.total c.args.depth c.args.tokens.now c.in-Some-opened.rest.now c.in-Some-opened.kind c.if-depth-eq0-4.true ((search rules), c.in_default-eat.ensures, c.in_default-eat-2.ensures, c.in_default-eat-3.ensures) c.in-Some-opened.ensures

pub primary-returns-in-Some-opened : goal.primary-returns-in-Some-opened
primary-returns-in-Some-opened t c = rw (coll_at c.args.total c.args.depth (c.args.depth - 1) c.args.tokens.now c.in-Some-opened.rest.now c.in-Some-opened.kind (omega arith) ((search rules), c.in_default-eat.ensures, c.in_default-eat-2.ensures, c.in_default-eat-3.ensures) c.in-Some-opened.ensures) c.coll_rest.ensures

pub primary-returns-then-depth-eq0-5 : goal.primary-returns-then-depth-eq0-5
primary-returns-then-depth-eq0-5 t c = case_deep c.args.total c.args.depth c.args.tokens.now c.in-Some-eat_word.rest.now c.if-depth-eq0-5.true ((search rules), c.in_default-eat.ensures, c.in_default-eat-2.ensures, c.in_default-eat-3.ensures) c.in_default-opened.ensures c.in-Some-eat_word.ensures

pub primary-returns-in-Some-eat_word : goal.primary-returns-in-Some-eat_word
primary-returns-in-Some-eat_word t c = rw (case_at c.args.total c.args.depth (c.args.depth - 1) c.args.tokens.now c.in-Some-eat_word.rest.now (omega arith) ((search rules), c.in_default-eat.ensures, c.in_default-eat-2.ensures, c.in_default-eat-3.ensures) c.in_default-opened.ensures c.in-Some-eat_word.ensures) c.case_rest.ensures

pub primary-returns : goal.primary-returns
primary-returns t c = rw (name_at c.args.total c.args.depth c.args.tokens.now ((search rules), c.in_default-eat.ensures, c.in_default-eat-2.ensures, c.in_default-eat-3.ensures) c.in_default-opened.ensures c.in_default-eat_word.ensures) c.named.ensures

pub qualifier-returns-in_err-source-in-Ok : goal.qualifier-returns-in_err-source-in-Ok
qualifier-returns-in_err-source-in-Ok t c =
    let p = err_from_is_err_and c.from_residual.result c.from_residual.ensures.1 in
    rw (p.1, p.2) (err_by c.in_err-source-in-Ok.field-0.0 (qualifier (read_pat c.args.total c.args.depth) (reads c.args.total c.args.depth whole) c.args.tokens.now) (reads c.args.total c.args.depth whole c.in-Ok.rest.now) (λ b s. ok (qual.Gen c.in-Ok.bound b) s) (gen_at (read_pat c.args.total c.args.depth) (reads c.args.total c.args.depth whole) c.args.tokens.now c.in-Ok.rest.now c.in-Ok.bound c.in-Ok.ensures) c.in_err-source-in-Ok.ensures)

pub qualifier-returns-in_err-found-in-Err-Bad : goal.qualifier-returns-in_err-found-in-Err-Bad
qualifier-returns-in_err-found-in-Err-Bad t c =
    let p = err_from_is_err_and c.from_residual-in_err-found-in-Err-Bad.result c.from_residual-in_err-found-in-Err-Bad.ensures.1 in
    rw (p.1, p.2) (err_by c.in_err-found-in-Err-Bad.field-0.0 (qualifier (read_pat c.args.total c.args.depth) (reads c.args.total c.args.depth whole) c.args.tokens.now) (refused bad c.in-Err-Bad.place.now (condition (reads c.args.total c.args.depth whole) c.args.tokens.now)) (λ b s. ok (qual.Cond b) s) (cond_at (read_pat c.args.total c.args.depth) (reads c.args.total c.args.depth whole) c.args.tokens.now c.in-Err-Bad.place.now bad (is_bad c.in-Err-Bad.field-0 c.in-Err-Bad.place (drawn (read_pat c.args.total c.args.depth) c.args.tokens.now) c.in-Err-Bad.field-0-is c.in-Err-Bad.ensures)) (c.in_err-found-in-Err-Bad.ensures (condition (reads c.args.total c.args.depth whole) c.args.tokens.now) c.condition.ensures))

pub qualifier-returns-in_err-found-in-Err-Deep : goal.qualifier-returns-in_err-found-in-Err-Deep
qualifier-returns-in_err-found-in-Err-Deep t c =
    let p = err_from_is_err_and c.from_residual-in_err-found-in-Err-Deep.result c.from_residual-in_err-found-in-Err-Deep.ensures.1 in
    rw (p.1, p.2) (err_by c.in_err-found-in-Err-Deep.field-0.0 (qualifier (read_pat c.args.total c.args.depth) (reads c.args.total c.args.depth whole) c.args.tokens.now) (refused deep c.in-Err-Deep.place.now (condition (reads c.args.total c.args.depth whole) c.args.tokens.now)) (λ b s. ok (qual.Cond b) s) (cond_at (read_pat c.args.total c.args.depth) (reads c.args.total c.args.depth whole) c.args.tokens.now c.in-Err-Deep.place.now deep (is_deep c.in-Err-Deep.field-0 c.in-Err-Deep.place (drawn (read_pat c.args.total c.args.depth) c.args.tokens.now) c.in-Err-Deep.field-0-is c.in-Err-Deep.ensures)) (c.in_err-found-in-Err-Deep.ensures (condition (reads c.args.total c.args.depth whole) c.args.tokens.now) c.condition-in-Err-Deep.ensures))

pub qualifier-returns-in_ok-source-in-Ok : goal.qualifier-returns-in_ok-source-in-Ok
qualifier-returns-in_ok-source-in-Ok t c = rw (c.into_inner.ensures, c.into_inner-in-Ok.ensures) ((gen_at (read_pat c.args.total c.args.depth) (reads c.args.total c.args.depth whole) c.args.tokens.now c.in-Ok.rest.now c.in-Ok.bound c.in-Ok.ensures) ∙ rw c.in_ok-source-in-Ok.ensures refl)

pub qualifier-returns-in_ok-found-in-Err-Bad : goal.qualifier-returns-in_ok-found-in-Err-Bad
qualifier-returns-in_ok-found-in-Err-Bad t c = rw c.into_inner-in-Err-Bad.ensures ((cond_at (read_pat c.args.total c.args.depth) (reads c.args.total c.args.depth whole) c.args.tokens.now c.in-Err-Bad.place.now bad (is_bad c.in-Err-Bad.field-0 c.in-Err-Bad.place (drawn (read_pat c.args.total c.args.depth) c.args.tokens.now) c.in-Err-Bad.field-0-is c.in-Err-Bad.ensures)) ∙ rw (c.in_ok-found-in-Err-Bad.ensures (condition (reads c.args.total c.args.depth whole) c.args.tokens.now) c.condition.ensures) refl)

pub qualifier-returns-in_ok-found-in-Err-Deep : goal.qualifier-returns-in_ok-found-in-Err-Deep
qualifier-returns-in_ok-found-in-Err-Deep t c = rw c.into_inner-in-Err-Deep.ensures ((cond_at (read_pat c.args.total c.args.depth) (reads c.args.total c.args.depth whole) c.args.tokens.now c.in-Err-Deep.place.now deep (is_deep c.in-Err-Deep.field-0 c.in-Err-Deep.place (drawn (read_pat c.args.total c.args.depth) c.args.tokens.now) c.in-Err-Deep.field-0-is c.in-Err-Deep.ensures)) ∙ rw (c.in_ok-found-in-Err-Deep.ensures (condition (reads c.args.total c.args.depth whole) c.args.tokens.now) c.condition-in-Err-Deep.ensures) refl)

pub signed-returns-in-Some-least : goal.signed-returns-in-Some-least
signed-returns-in-Some-least t c = rw (least_found c.args.total c.args.depth c.args.tokens.now c.in-Some.rest.now c.in-Some-least.rest.now c.in-Some-least.found c.in-Some.ensures c.in-Some-least.ensures.0 c.in-Some-least.ensures.1) c.boxed.ensures

pub signed-returns-then-depth-eq0 : goal.signed-returns-then-depth-eq0
signed-returns-then-depth-eq0 t c = minus_deep c.args.total c.args.depth c.args.tokens.now c.in-Some.rest.now c.if-depth-eq0.true c.in-Some.ensures c.in_default-least.ensures

pub signed-returns-in_err-inner : goal.signed-returns-in_err-inner
signed-returns-in_err-inner t c =
    let p = err_from_is_err_and c.from_residual.result c.from_residual.ensures.1 in
    rw (p.1, p.2) (err_by c.in_err-inner.field-0.0 (sort_at c.args.total c.args.depth signed c.args.tokens.now) (sort_at c.args.total (c.args.depth - 1) signed c.in-Some.rest.now) (λ x s. ok (expr.Neg x) s) (minus_on c.args.total c.args.depth (c.args.depth - 1) c.args.tokens.now c.in-Some.rest.now (omega arith) c.in-Some.ensures c.in_default-least.ensures) c.in_err-inner.ensures)

pub signed-returns-in-Some : goal.signed-returns-in-Some
signed-returns-in-Some t c = rw (minus_on c.args.total c.args.depth (c.args.depth - 1) c.args.tokens.now c.in-Some.rest.now (omega arith) c.in-Some.ensures c.in_default-least.ensures, c.in_ok-inner.ensures) c.boxed-in-Some.ensures

pub signed-returns : goal.signed-returns
signed-returns t c = rw (minus_none c.args.total c.args.depth c.args.tokens.now c.in_default.ensures) c.path.ensures
