use Rattle.std.proofs.Common.{sym, ◌∙◌}
use Rattle.std.specs.HashSet.{contains}
use Rattle.kl_sqlserve.specs.Keys.{same_key}
use Rattle.kl_sqlserve.proofs.Repeated.{absorbed, seen_more}
use Rattle.kl_sqlserve.proofs.seen.is_new.Goals as goal

pub returns-then-contains-clause-seen : goal.returns-then-contains-clause-seen
returns-then-contains-clause-seen c w = sym (absorbed c.args.value.now (contains same_key c.args.seen.now) (sym c.contains.ensures ∙ c.if-contains.true) w)

pub returns-clause-seen : goal.returns-clause-seen
returns-clause-seen c = seen_more c.args.value.now c.in_ok-copy.copy _ _ c.in_ok-copy.ensures c.in_ok-insert.ensures.updates.0
