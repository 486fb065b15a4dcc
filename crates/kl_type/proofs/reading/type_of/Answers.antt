use Rattle.std.proofs.Common.{rules}
use Rattle.kl_type.proofs.TextLemmas.{whole, same, rest_place, rest_none, bad_place, bad_none, deep_place, deep_none}
use Rattle.kl_type.proofs.Answer.{reads_exactly}
use Rattle.kl_phrase.proofs.Failures.{is_bad, is_deep}
use Rattle.kl_type.specs.Descent.{reads}
use Rattle.kl_type.proofs.reading.type_of.Goals as goal

pub returns-in-Ok-default-empty-clause-spells : goal.returns-in-Ok-default-empty-clause-spells
returns-in-Ok-default-empty-clause-spells c = whole reads_exactly c.args.total c.args.tokens.now c.in-Ok-default-empty.found _ c.in-Ok-default-empty.ensures (search rules)

pub returns-in-Ok-default-empty-clause-only : goal.returns-in-Ok-default-empty-clause-only
returns-in-Ok-default-empty-clause-only c = λ u h. same reads_exactly c.args.total c.args.tokens.now c.in-Ok-default-empty.found u _ c.in-Ok-default-empty.ensures (search rules) h

pub returns-in-Ok-clause-only : goal.returns-in-Ok-clause-only
returns-in-Ok-clause-only c = λ u h. absurd (rest_none reads_exactly c.args.total c.args.tokens.now _ u c.in-Ok.rest.now c.in-Ok.ensures (search rules) h)

pub returns-in-Ok-clause-refused : goal.returns-in-Ok-clause-refused
returns-in-Ok-clause-refused c = rw c.byte_of.ensures (rest_place reads_exactly c.args.total c.args.tokens.now _ c.in-Ok.rest.now c.in-Ok.ensures (search rules))

pub returns-in-Err-Bad-clause-only : goal.returns-in-Err-Bad-clause-only
returns-in-Err-Bad-clause-only c = λ u h. absurd (bad_none reads_exactly c.args.total c.args.tokens.now u c.in-Err-Bad.rest.now (is_bad c.in-Err-Bad.field-0 c.in-Err-Bad.rest (reads 256 c.args.tokens.now) c.in-Err-Bad.field-0-is c.in-Err-Bad.ensures) h)

pub returns-in-Err-Bad-clause-refused : goal.returns-in-Err-Bad-clause-refused
returns-in-Err-Bad-clause-refused c = rw c.byte_of-in-Err-Bad.ensures (bad_place reads_exactly c.args.total c.args.tokens.now c.in-Err-Bad.rest.now (is_bad c.in-Err-Bad.field-0 c.in-Err-Bad.rest (reads 256 c.args.tokens.now) c.in-Err-Bad.field-0-is c.in-Err-Bad.ensures))

pub returns-in-Err-Deep-clause-only : goal.returns-in-Err-Deep-clause-only
returns-in-Err-Deep-clause-only c = λ u h. absurd (deep_none reads_exactly c.args.total c.args.tokens.now u c.in-Err-Deep.rest.now (is_deep c.in-Err-Deep.field-0 c.in-Err-Deep.rest (reads 256 c.args.tokens.now) c.in-Err-Deep.field-0-is c.in-Err-Deep.ensures) h)

pub returns-in-Err-Deep-clause-refused : goal.returns-in-Err-Deep-clause-refused
returns-in-Err-Deep-clause-refused c = rw c.byte_of-in-Err-Deep.ensures (deep_place reads_exactly c.args.total c.args.tokens.now c.in-Err-Deep.rest.now (is_deep c.in-Err-Deep.field-0 c.in-Err-Deep.rest (reads 256 c.args.tokens.now) c.in-Err-Deep.field-0-is c.in-Err-Deep.ensures))
