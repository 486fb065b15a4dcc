use Rattle.kl_scope.proofs.NameLemmas.{left_more}
use Rattle.kl_scope.proofs.names.Names.leave.Goals as goal

pub levels-preserved : goal.levels-preserved
levels-preserved c = left_more c.args.self.now c.levels.self c.forget.new.self c.levels.counter c.levels.invariant c.in_ok-forget.ensures
