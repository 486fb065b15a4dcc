use Rattle.std.proofs.Common.{rules, ap, ◌∙◌, sym}
use Rattle.kl_phrase.specs.Fronts.{program, syntax}
use Rattle.kl_phrase.proofs.Failures.{is_bad, is_deep}
use Rattle.kl_parse.proofs.Answer.{said_whole, said_rest, said_bad, said_end, said_again, front_range}
use Rattle.kl_parse.proofs.program.answer.Goals as goal

pub returns-then-is_empty : goal.returns-then-is_empty
returns-then-is_empty c = said_whole _ c.args.tokens.now (search rules) c.in-Ok.found c.in-Ok.rest.now c.in-Ok.ensures (search rules) ∙ ap program (sym c.into_inner.ensures)

pub returns-else-is_empty : goal.returns-else-is_empty
returns-else-is_empty c = said_rest _ c.args.tokens.now (search rules) c.in-Ok.found c.in-Ok.rest.now c.in-Ok.ensures (search rules) ∙ ap syntax (sym c.number.ensures)

pub returns-in-Err-Bad : goal.returns-in-Err-Bad
returns-in-Err-Bad c = said_bad _ c.args.tokens.now (search rules) c.in-Err-Bad.rest.now (is_bad c.in-Err-Bad.field-0 c.in-Err-Bad.rest _ c.in-Err-Bad.field-0-is c.in-Err-Bad.ensures) ∙ ap syntax (sym c.number-in-Err-Bad.ensures)

pub returns-in-Some : goal.returns-in-Some
returns-in-Some c = said_again _ c.number-token.result c.args.tokens.now c.in-Err-Deep.rest.now c.in-Some.front.now c.again.result (search rules) (is_deep c.in-Err-Deep.field-0 c.in-Err-Deep.rest _ c.in-Err-Deep.field-0-is c.in-Err-Deep.ensures) c.number-token.ensures (let z = c.in-Some.ensures.lookup.0 in z.1) (let z = c.in-Some.ensures.lookup.0 in front_range c.args.tokens.now c.in-Some.front.now c.number-token.result z.2) c.again.ensures

pub returns-in-None : goal.returns-in-None
returns-in-None c = said_end _ c.args.tokens.now (search rules) c.number-token.result c.in-Err-Deep.rest.now (is_deep c.in-Err-Deep.field-0 c.in-Err-Deep.rest _ c.in-Err-Deep.field-0-is c.in-Err-Deep.ensures) c.number-token.ensures c.in-None.ensures.lookup.0
