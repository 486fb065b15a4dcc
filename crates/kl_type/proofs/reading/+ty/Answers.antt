use Rattle.std.proofs.Common.{◌-◌, arith, ◌∙◌, refl}
use Rattle.std.proofs.lemmas.Result.{err_from_is_err_and}
use Rattle.kl_phrase.specs.Readers.{ok}
use Rattle.kl_type.specs.declared.ground.Ty.TheVariants as ty
use Rattle.kl_type.specs.Descent.{reads, fields, in_coll, in_rec, in_var}
use Rattle.kl_phrase.proofs.Failures.{err_by}
use Rattle.kl_type.proofs.Steps.{starts_at, goes_on_at, fails_on, stops, fields_fail_at, less, coll_deep, coll_at, rec_deep, rec_at, var_deep, var_at, base_at}
use Rattle.kl_type.proofs.reading.+ty.Goals as goal

pub read-returns-then-depth-eq0 : goal.read-returns-then-depth-eq0
read-returns-then-depth-eq0 t c = coll_deep c.args.depth c.in-Some.kind c.args.tokens.now c.in-Some.rest.now c.if-depth-eq0.true c.in-Some.ensures

pub read-returns-in_err-item : goal.read-returns-in_err-item
read-returns-in_err-item t c =
    let p = err_from_is_err_and c.from_residual.result c.from_residual.ensures.1 in
    rw (p.1, p.2) (err_by c.in_err-item.field-0.0 (reads c.args.depth c.args.tokens.now) (in_coll (reads (c.args.depth - 1)) c.in-Some.kind c.in-Some.rest.now) (λ x r. ok (ty.Coll c.in-Some.kind x) r) (coll_at c.args.depth (c.args.depth - 1) c.in-Some.kind c.args.tokens.now c.in-Some.rest.now (omega arith) c.in-Some.ensures) c.in_err-item.ensures)

pub read-returns-in-Some : goal.read-returns-in-Some
read-returns-in-Some t c =
    rw c.in_ok-new.ensures (coll_at c.args.depth (c.args.depth - 1) c.in-Some.kind c.args.tokens.now c.in-Some.rest.now (omega arith) c.in-Some.ensures ∙ rw c.in_ok-item.ensures refl)

pub read-returns-then-depth-eq0-2 : goal.read-returns-then-depth-eq0-2
read-returns-then-depth-eq0-2 t c = rec_deep c.args.depth c.args.tokens.now c.in-Some-eat.rest.now c.if-depth-eq0-2.true c.in_default.ensures c.in-Some-eat.ensures

pub read-returns-in_err-fields : goal.read-returns-in_err-fields
read-returns-in_err-fields t c =
    let p = err_from_is_err_and c.from_residual-in_err-fields.result c.from_residual-in_err-fields.ensures.1 in
    rw (p.1, p.2) (err_by c.in_err-fields.field-0.0 (reads c.args.depth c.args.tokens.now) (in_rec (reads (c.args.depth - 1)) c.in-Some-eat.rest.now) (λ x r. ok (ty.Rec x) r) (rec_at c.args.depth (c.args.depth - 1) c.args.tokens.now c.in-Some-eat.rest.now (omega arith) c.in_default.ensures c.in-Some-eat.ensures) c.in_err-fields.ensures)

pub read-returns-in-Some-eat : goal.read-returns-in-Some-eat
read-returns-in-Some-eat t c =
    rec_at c.args.depth (c.args.depth - 1) c.args.tokens.now c.in-Some-eat.rest.now (omega arith) c.in_default.ensures c.in-Some-eat.ensures ∙ rw c.in_ok-fields.ensures refl

pub read-returns-then-depth-eq0-3 : goal.read-returns-then-depth-eq0-3
read-returns-then-depth-eq0-3 t c = var_deep c.args.depth c.args.tokens.now c.in-Some-eat-2.rest.now c.if-depth-eq0-3.true c.in_default.ensures c.in_default-eat.ensures c.in-Some-eat-2.ensures

pub read-returns-in_err-cases : goal.read-returns-in_err-cases
read-returns-in_err-cases t c =
    let p = err_from_is_err_and c.from_residual-in_err-cases.result c.from_residual-in_err-cases.ensures.1 in
    rw (p.1, p.2) (err_by c.in_err-cases.field-0.0 (reads c.args.depth c.args.tokens.now) (in_var (reads (c.args.depth - 1)) c.in-Some-eat-2.rest.now) (λ x r. ok (ty.Var x) r) (var_at c.args.depth (c.args.depth - 1) c.args.tokens.now c.in-Some-eat-2.rest.now (omega arith) c.in_default.ensures c.in_default-eat.ensures c.in-Some-eat-2.ensures) c.in_err-cases.ensures)

pub read-returns-in-Some-eat-2 : goal.read-returns-in-Some-eat-2
read-returns-in-Some-eat-2 t c =
    var_at c.args.depth (c.args.depth - 1) c.args.tokens.now c.in-Some-eat-2.rest.now (omega arith) c.in_default.ensures c.in_default-eat.ensures c.in-Some-eat-2.ensures ∙ rw c.in_ok-cases.ensures refl

pub read-returns : goal.read-returns
read-returns t c = rw (base_at c.args.depth c.args.tokens.now c.in_default.ensures c.in_default-eat.ensures c.in_default-eat-2.ensures) c.base.ensures

pub fields-returns-in_err-first : goal.fields-returns-in_err-first
fields-returns-in_err-first t c =
    let p = err_from_is_err_and c.from_residual.result c.from_residual.ensures.1 in
    rw (p.1, p.2) (fields_fail_at (reads c.args.depth) c.args.tokens.now c.new-found.result.entries c.in_err-first.field-0.0 c.new-found.ensures.empty c.in_err-first.ensures)

pub fields-fields-init : goal.fields-fields-init
fields-fields-init t c =
    starts_at (reads c.args.depth) c.args.tokens.now c.in_ok-first.behind.now c.new-found.result.entries c.insert.new.self.entries c.in_ok-first.first c.new-found.ensures.empty c.in_ok-first.ensures c.in_ok-insert.ensures.entries

pub fields-returns-in_err-next : goal.fields-returns-in_err-next
fields-returns-in_err-next t c =
    let p = err_from_is_err_and c.from_residual-in_err-next.result c.from_residual-in_err-next.ensures.1 in
    rw (p.1, p.2) (fails_on (reads c.args.depth) (fields (reads c.args.depth) c.args.tokens.now) c.fields.found.entries c.fields.rest.now c.in-Some.after.now c.in_err-next.field-0.0 c.in-Some.ensures c.in_err-next.ensures c.fields.invariant)

pub fields-fields-smaller : goal.fields-fields-smaller
fields-fields-smaller t c =
    less c.args.depth c.fields.found.entries c.fields.rest.now c.in-Some.after.now c.in_ok-next.after.now c.in_ok-next.next c.in-Some.ensures c.in_ok-next.ensures

pub fields-fields-preserved : goal.fields-fields-preserved
fields-fields-preserved t c =
    goes_on_at (reads c.args.depth) (fields (reads c.args.depth) c.args.tokens.now) c.fields.found.entries c.insert-in-Some.new.self.entries c.fields.rest.now c.in-Some.after.now c.in_ok-next.after.now c.in_ok-next.next c.in-Some.ensures c.in_ok-next.ensures
    (less c.args.depth c.fields.found.entries c.fields.rest.now c.in-Some.after.now c.in_ok-next.after.now c.in_ok-next.next c.in-Some.ensures c.in_ok-next.ensures)
    c.in_ok-insert-2.ensures.entries c.fields.invariant

pub fields-returns : goal.fields-returns
fields-returns t c =
    rw c.in_ok-sorted.ensures (stops (reads c.args.depth) (fields (reads c.args.depth) c.args.tokens.now) c.fields.found.entries c.fields.rest.now c.in_default.ensures c.fields.invariant)
