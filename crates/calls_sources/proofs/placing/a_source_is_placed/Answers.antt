use Rattle.std.proofs.Common.{ap}
use Rattle.calls_sources.proofs.placing.a_source_is_placed.Goals as goal

-- no file is open of files that are new
pub new-requires-2 : goal.new-requires-2
new-requires-2 g c = λ k. ap (λ s. s.left k) c.new-files.ensures.state
