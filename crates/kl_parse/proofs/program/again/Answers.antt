use Rattle.std.proofs.Common.{rules, refl}
use Rattle.kl_phrase.proofs.Failures.{is_bad, is_deep}
use Rattle.kl_parse.proofs.Answer.{said_front}
use Rattle.kl_parse.proofs.program.again.Goals as goal

pub returns-in-Ok : goal.returns-in-Ok
returns-in-Ok c = said_front _ c.args.token c.args.front.now c.in-Ok.rest.now c.through-in-Ok.result _ (search rules) c.in-Ok.ensures refl c.through-in-Ok.ensures

pub returns-in-Err-Bad : goal.returns-in-Err-Bad
returns-in-Err-Bad c = said_front _ c.args.token c.args.front.now c.in-Err-Bad.rest.now c.through.result _ (search rules) (is_bad c.in-Err-Bad.field-0 c.in-Err-Bad.rest _ c.in-Err-Bad.field-0-is c.in-Err-Bad.ensures) refl c.through.ensures

pub returns-in-Err-Deep : goal.returns-in-Err-Deep
returns-in-Err-Deep c = said_front _ c.args.token c.args.front.now c.in-Err-Deep.rest.now c.through-in-Err-Deep.result _ (search rules) (is_deep c.in-Err-Deep.field-0 c.in-Err-Deep.rest _ c.in-Err-Deep.field-0-is c.in-Err-Deep.ensures) refl c.through-in-Err-Deep.ensures
