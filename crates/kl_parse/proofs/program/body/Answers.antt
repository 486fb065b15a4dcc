use Rattle.std.proofs.Common.{Some, None, refl, ◌∙◌}
use Rattle.std.proofs.lemmas.Result.{err_from_is_err_and}
use Rattle.kl_phrase.specs.Readers.{ok, bad, deep}
use Rattle.kl_phrase.specs.Refusals.{refused}
use Rattle.kl_parse.specs.Grammar.{whole}
use Rattle.kl_parse.specs.Descent.{read_pat, reads, body, parameter, plain_body}
use Rattle.kl_parse.proofs.ExprSteps.{function_at, plain_at}
use Rattle.kl_phrase.proofs.Failures.{err_by, is_bad, is_deep}
use Rattle.kl_parse.proofs.program.body.Goals as goal

pub returns-in_err-found-in-Ok : goal.returns-in_err-found-in-Ok
returns-in_err-found-in-Ok c =
    let p = err_from_is_err_and c.from_residual.result c.from_residual.ensures.1 in
    rw (p.1, p.2) (err_by c.in_err-found-in-Ok.field-0.0 (body (read_pat c.args.total c.args.depth) (reads c.args.total c.args.depth whole) c.args.tokens.now) (reads c.args.total c.args.depth whole c.in-Ok.rest.now) (λ b s. ok (Some c.in-Ok.bound, b) s) (function_at (read_pat c.args.total c.args.depth) (reads c.args.total c.args.depth whole) c.args.tokens.now c.in-Ok.rest.now c.in-Ok.bound c.in-Ok.ensures) c.in_err-found-in-Ok.ensures)

pub returns-in_ok-found-in-Ok : goal.returns-in_ok-found-in-Ok
returns-in_ok-found-in-Ok c = rw (c.into_inner.ensures, c.into_inner-in-Ok.ensures) ((function_at (read_pat c.args.total c.args.depth) (reads c.args.total c.args.depth whole) c.args.tokens.now c.in-Ok.rest.now c.in-Ok.bound c.in-Ok.ensures) ∙ rw c.in_ok-found-in-Ok.ensures refl)

pub returns-in_err-found-in-Err-Bad : goal.returns-in_err-found-in-Err-Bad
returns-in_err-found-in-Err-Bad c =
    let p = err_from_is_err_and c.from_residual-in_err-found-in-Err-Bad.result c.from_residual-in_err-found-in-Err-Bad.ensures.1 in
    rw (p.1, p.2) (err_by c.in_err-found-in-Err-Bad.field-0.0 (body (read_pat c.args.total c.args.depth) (reads c.args.total c.args.depth whole) c.args.tokens.now) (refused bad c.in-Err-Bad.place.now (plain_body (reads c.args.total c.args.depth whole) c.args.tokens.now)) (λ b s. ok (None, b) s) (plain_at (read_pat c.args.total c.args.depth) (reads c.args.total c.args.depth whole) c.args.tokens.now c.in-Err-Bad.place.now bad (is_bad c.in-Err-Bad.field-0 c.in-Err-Bad.place (parameter (read_pat c.args.total c.args.depth) c.args.tokens.now) c.in-Err-Bad.field-0-is c.in-Err-Bad.ensures)) (c.in_err-found-in-Err-Bad.ensures (plain_body (reads c.args.total c.args.depth whole) c.args.tokens.now) c.plain_body.ensures))

pub returns-in_ok-found-in-Err-Bad : goal.returns-in_ok-found-in-Err-Bad
returns-in_ok-found-in-Err-Bad c = rw c.into_inner-in-Err-Bad.ensures ((plain_at (read_pat c.args.total c.args.depth) (reads c.args.total c.args.depth whole) c.args.tokens.now c.in-Err-Bad.place.now bad (is_bad c.in-Err-Bad.field-0 c.in-Err-Bad.place (parameter (read_pat c.args.total c.args.depth) c.args.tokens.now) c.in-Err-Bad.field-0-is c.in-Err-Bad.ensures)) ∙ rw (c.in_ok-found-in-Err-Bad.ensures (plain_body (reads c.args.total c.args.depth whole) c.args.tokens.now) c.plain_body.ensures) refl)

pub returns-in_err-found-in-Err-Deep : goal.returns-in_err-found-in-Err-Deep
returns-in_err-found-in-Err-Deep c =
    let p = err_from_is_err_and c.from_residual-in_err-found-in-Err-Deep.result c.from_residual-in_err-found-in-Err-Deep.ensures.1 in
    rw (p.1, p.2) (err_by c.in_err-found-in-Err-Deep.field-0.0 (body (read_pat c.args.total c.args.depth) (reads c.args.total c.args.depth whole) c.args.tokens.now) (refused deep c.in-Err-Deep.place.now (plain_body (reads c.args.total c.args.depth whole) c.args.tokens.now)) (λ b s. ok (None, b) s) (plain_at (read_pat c.args.total c.args.depth) (reads c.args.total c.args.depth whole) c.args.tokens.now c.in-Err-Deep.place.now deep (is_deep c.in-Err-Deep.field-0 c.in-Err-Deep.place (parameter (read_pat c.args.total c.args.depth) c.args.tokens.now) c.in-Err-Deep.field-0-is c.in-Err-Deep.ensures)) (c.in_err-found-in-Err-Deep.ensures (plain_body (reads c.args.total c.args.depth whole) c.args.tokens.now) c.plain_body-in-Err-Deep.ensures))

pub returns-in_ok-found-in-Err-Deep : goal.returns-in_ok-found-in-Err-Deep
returns-in_ok-found-in-Err-Deep c = rw c.into_inner-in-Err-Deep.ensures ((plain_at (read_pat c.args.total c.args.depth) (reads c.args.total c.args.depth whole) c.args.tokens.now c.in-Err-Deep.place.now deep (is_deep c.in-Err-Deep.field-0 c.in-Err-Deep.place (parameter (read_pat c.args.total c.args.depth) c.args.tokens.now) c.in-Err-Deep.field-0-is c.in-Err-Deep.ensures)) ∙ rw (c.in_ok-found-in-Err-Deep.ensures (plain_body (reads c.args.total c.args.depth whole) c.args.tokens.now) c.plain_body-in-Err-Deep.ensures) refl)
