use Rattle.std.proofs.Common.{rules, ◌∙◌}
use Rattle.kl_phrase.specs.Readers.{bad, deep}
use Rattle.kl_phrase.proofs.Failures.{is_bad, is_deep}
use Rattle.kl_catalogue.specs.Descent.{catalogue}
use Rattle.kl_type.proofs.TextLemmas.{whole, same, rest_place, rest_none, bad_place, bad_none, deep_place, deep_none}
use Rattle.kl_catalogue.proofs.Answer.{reads_exactly}
use Rattle.kl_catalogue.proofs.Steps.{rest_fits, place_fits}
use Rattle.kl_catalogue.proofs.reading.catalogue_of.Goals as goal

pub returns-in-Ok-default-empty-clause-spells : goal.returns-in-Ok-default-empty-clause-spells
returns-in-Ok-default-empty-clause-spells c = rw c.of.ensures (whole reads_exactly c.args.total c.args.tokens.now c.in-Ok-default-empty.found.items _ c.in-Ok-default-empty.ensures (search rules))

pub returns-in-Ok-default-empty-clause-only : goal.returns-in-Ok-default-empty-clause-only
returns-in-Ok-default-empty-clause-only c = λ a h. c.of.ensures ∙ same reads_exactly c.args.total c.args.tokens.now c.in-Ok-default-empty.found.items a _ c.in-Ok-default-empty.ensures (search rules) h

pub returns-in-Ok-clause-only : goal.returns-in-Ok-clause-only
returns-in-Ok-clause-only c = λ a h. absurd (rest_none reads_exactly c.args.total c.args.tokens.now _ a c.in-Ok.rest.now c.in-Ok.ensures (search rules) h)

pub returns-in-Ok-clause-refused : goal.returns-in-Ok-clause-refused
returns-in-Ok-clause-refused c = rw c.place_of.ensures (rest_place reads_exactly c.args.total c.args.tokens.now _ c.in-Ok.rest.now c.in-Ok.ensures (search rules))

pub returns-in-Err-Bad-clause-only : goal.returns-in-Err-Bad-clause-only
returns-in-Err-Bad-clause-only c = λ a h. absurd (bad_none reads_exactly c.args.total c.args.tokens.now a c.in-Err-Bad.rest.now (is_bad c.in-Err-Bad.field-0 c.in-Err-Bad.rest (catalogue 256 c.args.tokens.now) c.in-Err-Bad.field-0-is c.in-Err-Bad.ensures) h)

pub returns-in-Err-Bad-clause-refused : goal.returns-in-Err-Bad-clause-refused
returns-in-Err-Bad-clause-refused c = rw c.place_of-in-Err-Bad.ensures (bad_place reads_exactly c.args.total c.args.tokens.now c.in-Err-Bad.rest.now (is_bad c.in-Err-Bad.field-0 c.in-Err-Bad.rest (catalogue 256 c.args.tokens.now) c.in-Err-Bad.field-0-is c.in-Err-Bad.ensures))

pub returns-in-Err-Deep-clause-only : goal.returns-in-Err-Deep-clause-only
returns-in-Err-Deep-clause-only c = λ a h. absurd (deep_none reads_exactly c.args.total c.args.tokens.now a c.in-Err-Deep.rest.now (is_deep c.in-Err-Deep.field-0 c.in-Err-Deep.rest (catalogue 256 c.args.tokens.now) c.in-Err-Deep.field-0-is c.in-Err-Deep.ensures) h)

pub returns-in-Err-Deep-clause-refused : goal.returns-in-Err-Deep-clause-refused
returns-in-Err-Deep-clause-refused c = rw c.place_of-in-Err-Deep.ensures (deep_place reads_exactly c.args.total c.args.tokens.now c.in-Err-Deep.rest.now (is_deep c.in-Err-Deep.field-0 c.in-Err-Deep.rest (catalogue 256 c.args.tokens.now) c.in-Err-Deep.field-0-is c.in-Err-Deep.ensures))

pub place_of-requires : goal.place_of-requires
place_of-requires c = rest_fits c.args.total c.args.tokens.now c.requires.short c.requires.places _ c.in-Ok.rest.now c.in-Ok.ensures

pub place_of-requires-in-Err-Bad : goal.place_of-requires-in-Err-Bad
place_of-requires-in-Err-Bad c = place_fits c.args.total c.args.tokens.now c.requires.short c.requires.places bad c.in-Err-Bad.rest.now (is_bad c.in-Err-Bad.field-0 c.in-Err-Bad.rest (catalogue 256 c.args.tokens.now) c.in-Err-Bad.field-0-is c.in-Err-Bad.ensures)

pub place_of-requires-in-Err-Deep : goal.place_of-requires-in-Err-Deep
place_of-requires-in-Err-Deep c = place_fits c.args.total c.args.tokens.now c.requires.short c.requires.places deep c.in-Err-Deep.rest.now (is_deep c.in-Err-Deep.field-0 c.in-Err-Deep.rest (catalogue 256 c.args.tokens.now) c.in-Err-Deep.field-0-is c.in-Err-Deep.ensures)
