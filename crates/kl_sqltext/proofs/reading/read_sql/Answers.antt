use Rattle.std.proofs.Common.{rules}
use Rattle.kl_sqltext.specs.Statements.{statement}
use Rattle.kl_sqltext.proofs.Answer.{whole, same, rest_none, rest_bad, bad_none, bad_bad, no_deep}
use Rattle.kl_phrase.proofs.Failures.{is_bad, is_deep}
use Rattle.kl_sqltext.proofs.reading.read_sql.Goals as goal

pub place_of-requires : goal.place_of-requires
place_of-requires c = (rest_bad c.args.bytes.now c.in-Ok.rest.now _ c.in-Ok.ensures (search rules)).0

pub place_of-requires-in-Err-Bad : goal.place_of-requires-in-Err-Bad
place_of-requires-in-Err-Bad c = (bad_bad c.args.bytes.now c.in-Err-Bad.rest.now (is_bad c.in-Err-Bad.field-0 c.in-Err-Bad.rest (statement c.args.bytes.now) c.in-Err-Bad.field-0-is c.in-Err-Bad.ensures)).0

pub unreachable-requires : goal.unreachable-requires
unreachable-requires c = no_deep c.args.bytes.now c.in-Err-Deep.field-0-0.now (is_deep c.in-Err-Deep.field-0 c.in-Err-Deep.field-0-0 (statement c.args.bytes.now) c.in-Err-Deep.field-0-is c.in-Err-Deep.ensures)

pub returns-in-Ok-default-empty-clause-reads : goal.returns-in-Ok-default-empty-clause-reads
returns-in-Ok-default-empty-clause-reads c = whole c.args.bytes.now _ c.in-Ok-default-empty.found c.in-Ok-default-empty.ensures (search rules)

pub returns-in-Ok-default-empty-clause-only : goal.returns-in-Ok-default-empty-clause-only
returns-in-Ok-default-empty-clause-only c = λ s h. same c.args.bytes.now _ c.in-Ok-default-empty.found s c.in-Ok-default-empty.ensures (search rules) h

pub returns-in-Ok-clause-only : goal.returns-in-Ok-clause-only
returns-in-Ok-clause-only c = λ s h. absurd (rest_none c.args.bytes.now c.in-Ok.rest.now _ s c.in-Ok.ensures (search rules) h)

pub returns-in-Ok-clause-refused : goal.returns-in-Ok-clause-refused
returns-in-Ok-clause-refused c = rw c.place_of.ensures (rest_bad c.args.bytes.now c.in-Ok.rest.now _ c.in-Ok.ensures (search rules)).1

pub returns-in-Err-Bad-clause-only : goal.returns-in-Err-Bad-clause-only
returns-in-Err-Bad-clause-only c = λ s h. absurd (bad_none c.args.bytes.now c.in-Err-Bad.rest.now s (is_bad c.in-Err-Bad.field-0 c.in-Err-Bad.rest (statement c.args.bytes.now) c.in-Err-Bad.field-0-is c.in-Err-Bad.ensures) h)

pub returns-in-Err-Bad-clause-refused : goal.returns-in-Err-Bad-clause-refused
returns-in-Err-Bad-clause-refused c = rw c.place_of-in-Err-Bad.ensures (bad_bad c.args.bytes.now c.in-Err-Bad.rest.now (is_bad c.in-Err-Bad.field-0 c.in-Err-Bad.rest (statement c.args.bytes.now) c.in-Err-Bad.field-0-is c.in-Err-Bad.ensures)).1
