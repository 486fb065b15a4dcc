use Rattle.std.proofs.Common.{[], refl}
use Rattle.kl_type.specs.Ground.{int}
use Rattle.calls_plans.proofs.Terms.{constant_small, integer_types, none_placed}
use Rattle.calls_plans.proofs.runs.four.Goals as goal

pub plan_of-requires-clause-sense : goal.plan_of-requires-clause-sense
plan_of-requires-clause-sense c = (int, integer_types _ [] _)

pub plan_of-requires-clause-small : goal.plan_of-requires-clause-small
plan_of-requires-clause-small c = constant_small _

pub plan_of-requires-clause-placed : goal.plan_of-requires-clause-placed
plan_of-requires-clause-placed c = none_placed _ _ refl

pub returns : goal.returns
returns c = (_, _, _, c.in_ok-plan.ensures, constant_small _)
