use Rattle.std.proofs.Common.{rules}
use Rattle.kl_parse.proofs.Answer.{through_all, through_some}
use Rattle.kl_parse.proofs.program.through.Goals as goal

pub returns-then-is_empty : goal.returns-then-is_empty
returns-then-is_empty c = through_all c.args.token c.args.rest.now (search rules)

pub returns-else-is_empty : goal.returns-else-is_empty
returns-else-is_empty c = through_some c.args.token c.args.rest.now (search rules)
