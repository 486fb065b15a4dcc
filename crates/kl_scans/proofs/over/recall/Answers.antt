use Rattle.std.proofs.Common.{sym, ap, ◌∙◌}
use Rattle.kl_scans.specs.Keeping.{kept_in, room_in}
use Rattle.kl_scans.proofs.Doing.{found_stays, recalls, same_run}
use Rattle.kl_scans.proofs.Kept.{not_there}
use Rattle.kl_scans.proofs.over.recall.Goals as goal

pub returns-then-has : goal.returns-then-has
returns-then-has g c = (
  found_stays c.args.key.now c.in-Some.memo _ c.get.follows.holds-at-none (sym c.has.ensures ∙ c.if-has.true),
  recalls _ c.args.key.now c.in-Some.memo _ (ap kept_in c.in-Some.is) (ap room_in c.in-Some.is) _ c.get.follows.holds-at-none (sym c.has.ensures ∙ c.if-has.true) c.saturating_add-run.ensures,
)

pub returns-else-has : goal.returns-else-has
returns-else-has g c = (not_there _ _ _ c.in-Some.is (sym c.has.ensures ∙ c.if-has.false), same_run _ _ _ _ _ _ _ c.in-Some.is)
