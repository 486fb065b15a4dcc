use Rattle.kl_plan.specs.Nodes.{view as plan_view}
use Rattle.kl_engine.proofs.ExplainLemmas.{prints_lines}
use Rattle.kl_engine.proofs.explain.print_plan.Goals as goal

pub returns-in-Ok : goal.returns-in-Ok
returns-in-Ok g c =
    prints_lines (λ d. (goal.Driver-dyn g (d.vtable, d.value)).state d.value) c.args.drivers.now.items (plan_view c.args.plan.now) _ _ _ _ _ c.slice.ensures c.in-Ok.ensures c.print_lines.ensures
