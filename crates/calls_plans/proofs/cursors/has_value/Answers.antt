use Rattle.calls_plans.proofs.Drawing.{plan_worth}
use Rattle.calls_plans.proofs.cursors.has_value.Goals as goal

pub value_of-requires : goal.value_of-requires
value_of-requires g c = plan_worth _ _ _ c.new-env.ensures.items (c.requires.types _) c.requires.ready
