use Rattle.std.proofs.Common.{None, ap, ◌∙◌}
use Rattle.std.specs.Option.{option_map}
use Rattle.calls_plans.proofs.scans.changing.Goals as goal

-- that they change opens none
pub returns : goal.returns
returns c = λ k. ap (λ s. s.left k) c.in_ok-change_at.ensures.state ∙ ap (option_map (λ left. None)) (c.in_ok-files.ensures k)
