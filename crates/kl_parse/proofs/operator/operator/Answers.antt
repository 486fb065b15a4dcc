use Rattle.std.proofs.Common.{rules}
use Rattle.kl_parse.proofs.FrontSteps.{is_op_at}
use Rattle.kl_parse.proofs.operator.operator.Goals as goal

pub returns-in-Some : goal.returns-in-Some
returns-in-Some c = is_op_at c.args.level c.args.tokens.now c.index-tokens-0.result c.in-Some.op c.in-len1-up.len_at_least (search rules)
