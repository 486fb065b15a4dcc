use Rattle.std.proofs.Common.{[]}
use Rattle.std.proofs.lemmas.Result.{err_from_is_err_and}
use Rattle.kl_lex.specs.declared.keyword.Keyword.TheVariants.{Define}
use Rattle.kl_phrase.specs.Readers.{others}
use Rattle.kl_phrase.proofs.Gathered.{stops}
use Rattle.kl_parse.specs.Kinds.{is_key}
use Rattle.kl_parse.proofs.ProgramSteps.{ADecl, decl_less, decl_on, decl_fails}
use Rattle.kl_parse.proofs.program.decls.Goals as goal

pub returns-in_err-next : goal.returns-in_err-next
returns-in_err-next c =
    let p = err_from_is_err_and c.from_residual.result c.from_residual.ensures.1 in
    rw (p.1, p.2) (decl_fails c.args.total c.args.depth (others (is_key Define) (ADecl c.args.total c.args.depth) [] c.args.tokens.now) c.decls.found.items c.decls.rest.now c.in-Some.after.now c.in_err-next.field-0.0 c.in-Some.ensures c.in_err-next.ensures c.decls.invariant)

pub decls-smaller : goal.decls-smaller
decls-smaller c = decl_less c.args.total c.args.depth c.decls.rest.now c.in-Some.after.now c.in_ok-next.after.now c.in_ok-next.next c.in-Some.ensures c.in_ok-next.ensures

pub decls-preserved : goal.decls-preserved
decls-preserved c = rw c.in_ok-push.ensures.items (decl_on c.args.total c.args.depth (others (is_key Define) (ADecl c.args.total c.args.depth) [] c.args.tokens.now) c.decls.found.items c.decls.rest.now c.in-Some.after.now c.in_ok-next.after.now c.in_ok-next.next c.in-Some.ensures c.in_ok-next.ensures c.decls.invariant)

pub returns : goal.returns
returns c = stops (is_key Define) (ADecl c.args.total c.args.depth) (others (is_key Define) (ADecl c.args.total c.args.depth) [] c.args.tokens.now) c.decls.found.items c.decls.rest.now c.in_default.ensures c.decls.invariant
