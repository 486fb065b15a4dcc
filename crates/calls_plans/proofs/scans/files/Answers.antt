use Rattle.std.proofs.Common.{ap}
use Rattle.calls_plans.proofs.scans.files.Goals as goal

-- no file is open of files that are new
pub returns : goal.returns
returns c = λ k. ap (λ s. s.left k) c.new.ensures.state
