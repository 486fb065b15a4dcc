use Rattle.std.proofs.Common.{[]}
use Rattle.std.proofs.lemmas.Result.{err_from_is_err_and}
use Rattle.kl_lex.specs.declared.token.Sym.TheVariants.{Dot}
use Rattle.kl_phrase.specs.Readers.{behind, others}
use Rattle.kl_phrase.proofs.Gathered.{stops}
use Rattle.kl_parse.specs.Kinds.{is_symbol}
use Rattle.kl_parse.specs.Descent.{mark, label}
use Rattle.kl_parse.proofs.Steps.{onward, fails_on, rests_label}
use Rattle.kl_parse.proofs.exprs.labels.Goals as goal

pub returns-in_err-next : goal.returns-in_err-next
returns-in_err-next c =
    let p = err_from_is_err_and c.from_residual.result c.from_residual.ensures.1 in
    rw (p.1, p.2) (fails_on Dot (label c.args.total) (others (is_symbol Dot) (behind (mark Dot) (label c.args.total)) [] c.args.tokens.now) c.labels.found.items c.labels.rest.now c.in-Some.after.now c.in_err-next.field-0.0 c.in-Some.ensures c.in_err-next.ensures c.labels.invariant)

pub labels-preserved : goal.labels-preserved
labels-preserved c = rw c.in_ok-push.ensures.items (onward Dot (label c.args.total) (rests_label c.args.total) (others (is_symbol Dot) (behind (mark Dot) (label c.args.total)) [] c.args.tokens.now) c.labels.found.items c.labels.rest.now c.in-Some.after.now c.in_ok-next.after.now c.in_ok-next.next c.in-Some.ensures c.in_ok-next.ensures c.labels.invariant)

pub returns : goal.returns
returns c = stops (is_symbol Dot) (behind (mark Dot) (label c.args.total)) (others (is_symbol Dot) (behind (mark Dot) (label c.args.total)) [] c.args.tokens.now) c.labels.found.items c.labels.rest.now c.in_default.ensures c.labels.invariant
