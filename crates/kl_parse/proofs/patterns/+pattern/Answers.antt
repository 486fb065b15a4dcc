use Rattle.std.proofs.Common.{rules, ◌-◌, ◌∷◌, [], arith}
use Rattle.std.proofs.lemmas.Result.{err_from_is_err_and}
use Rattle.kl_phrase.specs.Readers.{tails}
use Rattle.kl_parse.specs.Descent.{read_pat, pat_field, pat_turn, rest_name}
use Rattle.kl_parse.proofs.Steps.{variant_deep, variant_fails, variant_ok, shape_deep, shape_at, simple_at, fields_fail, fields_ok, field_less, rests_pat_field, item_on, item_breaks, dots_end, dots_break, list_end}
use Rattle.kl_parse.proofs.patterns.+pattern.Goals as goal

pub pattern-returns-then-depth-eq0 : goal.pattern-returns-then-depth-eq0
pattern-returns-then-depth-eq0 t c = variant_deep c.args.total c.args.depth c.args.tokens.now c.in-Some.rest.now c.if-depth-eq0.true c.in-Some.ensures

pub pattern-returns-in_err-label : goal.pattern-returns-in_err-label
pattern-returns-in_err-label t c =
    let p = err_from_is_err_and c.from_residual.result c.from_residual.ensures.1 in
    rw (p.1, p.2) (variant_fails c.args.total c.args.depth (c.args.depth - 1) c.args.tokens.now c.in-Some.rest.now c.in_err-label.field-0.0 (omega arith) c.in-Some.ensures c.in_err-label.ensures)

pub pattern-returns-in-Some : goal.pattern-returns-in-Some
pattern-returns-in-Some t c =
    variant_ok c.args.total c.args.depth (c.args.depth - 1) c.args.tokens.now c.in-Some.rest.now c.in_ok-label.rest.now c.in_ok-label.label c.in_ok-label.inner (omega arith) c.in-Some.ensures c.in_ok-label.ensures

pub pattern-returns-then-depth-eq0-2 : goal.pattern-returns-then-depth-eq0-2
pattern-returns-then-depth-eq0-2 t c = shape_deep c.args.total c.args.depth c.args.tokens.now c.in-Some-eat.rest.now c.if-depth-eq0-2.true c.in_default.ensures c.in-Some-eat.ensures

pub pattern-returns-in-Some-eat : goal.pattern-returns-in-Some-eat
pattern-returns-in-Some-eat t c =
    rw (shape_at c.args.total c.args.depth (c.args.depth - 1) c.args.tokens.now c.in-Some-eat.rest.now (omega arith) c.in_default.ensures c.in-Some-eat.ensures) c.shape_rest.ensures

pub pattern-returns : goal.pattern-returns
pattern-returns t c = rw (simple_at c.args.total c.args.depth c.args.tokens.now c.in_default.ensures c.in_default-eat.ensures) c.simple.ensures

pub shape-returns-in_err-fields : goal.shape-returns-in_err-fields
shape-returns-in_err-fields t c =
    let p = err_from_is_err_and c.from_residual-in_err-fields.result c.from_residual-in_err-fields.ensures.1 in
    rw (p.1, p.2) (fields_fail c.args.total (read_pat c.args.total c.args.depth) c.args.tokens.now c.in_ok-first.rest.now c.in_ok-first.first c.in_err-fields.field-0.0 (search rules) c.in_ok-first.ensures c.in_err-fields.ensures)

pub shape-returns-then-is_word : goal.shape-returns-then-is_word
shape-returns-then-is_word t c =
    rw c.tail_of.ensures (fields_ok c.args.total (read_pat c.args.total c.args.depth) c.args.tokens.now c.in_ok-first.rest.now c.in_ok-fields.rest.now c.in_ok-first.first c.in_ok-fields.fields c.in_ok-fields.tail (search rules) c.in_ok-first.ensures c.in_ok-fields.ensures)

pub more_fields-returns-in_err-tail : goal.more_fields-returns-in_err-tail
more_fields-returns-in_err-tail t c =
    let p = err_from_is_err_and c.from_residual-in_err-tail.result c.from_residual-in_err-tail.ensures.1 in
    rw (p.1, p.2) (dots_break (pat_field c.args.total (read_pat c.args.total c.args.depth)) (rest_name c.args.total) (tails (pat_turn c.args.total (read_pat c.args.total c.args.depth)) (c.args.first ∷ []) c.args.tokens.now) c.fields.found.items c.fields.rest.now c.in-Some.after.now c.in-Some-eat.after.now c.in_err-tail.field-0.0 c.in-Some.ensures c.in-Some-eat.ensures c.in_err-tail.ensures c.fields.invariant)

pub more_fields-returns-in-Some-eat : goal.more_fields-returns-in-Some-eat
more_fields-returns-in-Some-eat t c =
    rw c.of.ensures (dots_end (pat_field c.args.total (read_pat c.args.total c.args.depth)) (rest_name c.args.total) (tails (pat_turn c.args.total (read_pat c.args.total c.args.depth)) (c.args.first ∷ []) c.args.tokens.now) c.fields.found.items c.fields.rest.now c.in-Some.after.now c.in-Some-eat.after.now c.in_ok-tail.after.now c.in_ok-tail.tail c.in-Some.ensures c.in-Some-eat.ensures c.in_ok-tail.ensures c.fields.invariant)

pub more_fields-returns-in_err-next : goal.more_fields-returns-in_err-next
more_fields-returns-in_err-next t c =
    let p = err_from_is_err_and c.from_residual-in_err-next.result c.from_residual-in_err-next.ensures.1 in
    rw (p.1, p.2) (item_breaks (pat_field c.args.total (read_pat c.args.total c.args.depth)) (rest_name c.args.total) (tails (pat_turn c.args.total (read_pat c.args.total c.args.depth)) (c.args.first ∷ []) c.args.tokens.now) c.fields.found.items c.fields.rest.now c.in-Some.after.now c.in_err-next.field-0.0 c.in-Some.ensures c.in_default-eat.ensures c.in_err-next.ensures c.fields.invariant)

pub more_fields-fields-smaller : goal.more_fields-fields-smaller
more_fields-fields-smaller t c = field_less c.args.total c.args.depth c.fields.rest.now c.in-Some.after.now c.in_ok-next.after.now c.in_ok-next.next c.in-Some.ensures c.in_ok-next.ensures

pub more_fields-fields-preserved : goal.more_fields-fields-preserved
more_fields-fields-preserved t c =
    rw c.in_ok-push-2.ensures.items (item_on (pat_field c.args.total (read_pat c.args.total c.args.depth)) (rest_name c.args.total) (tails (pat_turn c.args.total (read_pat c.args.total c.args.depth)) (c.args.first ∷ []) c.args.tokens.now) c.fields.found.items c.fields.rest.now (rests_pat_field c.args.total c.args.depth) c.in-Some.after.now c.in_ok-next.after.now c.in_ok-next.next c.in-Some.ensures c.in_default-eat.ensures c.in_ok-next.ensures c.fields.invariant)

pub more_fields-returns : goal.more_fields-returns
more_fields-returns t c =
    rw c.of-2.ensures (list_end (pat_field c.args.total (read_pat c.args.total c.args.depth)) (rest_name c.args.total) (tails (pat_turn c.args.total (read_pat c.args.total c.args.depth)) (c.args.first ∷ []) c.args.tokens.now) c.fields.found.items c.fields.rest.now c.in_default.ensures c.fields.invariant)
