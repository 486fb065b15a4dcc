use Rattle.std.proofs.Common.{refl, rules}
use Rattle.kl_tools.proofs.sources.opened.Goals as goal

pub returns : goal.returns
returns c = record {
  source = c.in-Some.source.now;
  found = search rules;
  ask_is = c.in_ok-ask.ensures;
  seed = c.in_ok-source.ensures.seed;
  rows = c.in_ok-source.ensures.rows;
  start = refl;
}
