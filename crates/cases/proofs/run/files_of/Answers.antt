use Rattle.std.proofs.Common.{None, ap, ◌∙◌}
use Rattle.std.specs.Option.{option_map}
use Rattle.cases.proofs.run.files_of.Goals as goal

-- no file is open of files that are new
pub calls-init : goal.calls-init
calls-init c = λ k. ap (λ s. s.left k) c.new-files.ensures.state

pub calls-preserved : goal.calls-preserved
calls-preserved c = λ k. ap (λ s. s.left k) c.fail_at.ensures.state ∙ c.calls.invariant k

pub changes-init : goal.changes-init
changes-init c = c.calls.invariant

-- that they change opens none
pub changes-preserved : goal.changes-preserved
changes-preserved c = λ k. ap (λ s. s.left k) c.in_ok-change_at.ensures.state ∙ ap (option_map (λ left. None)) (c.changes.invariant k)

pub returns : goal.returns
returns c = λ k. ap (λ s. s.left k) c.fail_at-2.ensures.state ∙ c.changes.invariant k
