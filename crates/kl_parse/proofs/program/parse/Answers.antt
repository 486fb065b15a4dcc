use Rattle.kl_parse.proofs.Answer.{says_program, says_only, says_refused}
use Rattle.kl_parse.proofs.program.parse.Goals as goal

pub returns-clause-program : goal.returns-clause-program
returns-clause-program c = says_program c.args.tokens.now c.answer.result c.answer.ensures

pub returns-clause-only : goal.returns-clause-only
returns-clause-only c = says_only c.args.tokens.now c.answer.result c.answer.ensures

pub returns-clause-refused : goal.returns-clause-refused
returns-clause-refused c = says_refused c.args.tokens.now c.answer.result c.answer.ensures
