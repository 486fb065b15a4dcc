use Rattle.kl_parse.proofs.FrontSteps.{not_symbol}
use Rattle.kl_parse.proofs.front.eat.Goals as goal

pub returns-in_default-what : goal.returns-in_default-what
returns-in_default-what c = not_symbol c.args.symbol c.args.tokens.now c.index-tokens-0.result c.in-len1-up.len_at_least c.in_default-what.not-Sym
