use Rattle.std.proofs.Common.{sym}
use Rattle.kl_parse.proofs.FrontSteps.{not_word}
use Rattle.kl_parse.proofs.front.is_word.Goals as goal

pub returns-in_default-matches : goal.returns-in_default-matches
returns-in_default-matches c = sym (not_word c.args.tokens.now c.index-tokens-0.result c.in-len1-up.len_at_least c.in_default-matches.not-Word)
