use Rattle.std.proofs.Common.{refl}
use Rattle.kl_syntax.specs.View.{pattern_view}
use Rattle.kl_scope.proofs.ArmLemmas.{sure_walked}
use Rattle.kl_scope.proofs.walk.Walk.sure.Goals as goal

pub returns : goal.returns
returns c = sure_walked (pattern_view c.args.pattern.now) (pattern_view c.drawn.new.pattern) c.args.self.now _ c.drawn.new.self refl c.tests.ensures c.in_ok-drawn.ensures
