use Rattle.std.proofs.Common.{[]}
use Rattle.std.proofs.lemmas.Result.{err_from_is_err_and}
use Rattle.kl_phrase.specs.Readers.{others}
use Rattle.kl_phrase.proofs.Gathered.{stops}
use Rattle.kl_catalogue.specs.Descent.{is_source}
use Rattle.kl_catalogue.proofs.Steps.{AnEntry, entry_less, entry_on, entry_fails}
use Rattle.kl_catalogue.proofs.reading.entries.Goals as goal

pub returns-in_err-next : goal.returns-in_err-next
returns-in_err-next c =
    let p = err_from_is_err_and c.from_residual.result c.from_residual.ensures.1 in
    rw (p.1, p.2) (entry_fails (others is_source AnEntry [] c.args.tokens.now) c.entries.found.items c.entries.rest.now c.in-Some.after.now c.in_err-next.field-0.0 c.in-Some.ensures c.in_err-next.ensures c.entries.invariant)

pub entries-smaller : goal.entries-smaller
entries-smaller c = entry_less c.entries.rest.now c.in-Some.after.now c.in_ok-next.after.now c.in_ok-next.next c.in-Some.ensures c.in_ok-next.ensures

pub entries-preserved : goal.entries-preserved
entries-preserved c = rw c.in_ok-push.ensures.items (entry_on (others is_source AnEntry [] c.args.tokens.now) c.entries.found.items c.entries.rest.now c.in-Some.after.now c.in_ok-next.after.now c.in_ok-next.next c.in-Some.ensures c.in_ok-next.ensures c.entries.invariant)

pub returns : goal.returns
returns c = stops is_source AnEntry (others is_source AnEntry [] c.args.tokens.now) c.entries.found.items c.entries.rest.now c.in_default.ensures c.entries.invariant
