use Rattle.std.proofs.Common.{ap}
use Rattle.measure.proofs.statements.sql.Goals as goal

-- no file is open of files that are new
pub new-server-requires : goal.new-server-requires
new-server-requires c = λ k. ap (λ s. s.left k) c.new.ensures
