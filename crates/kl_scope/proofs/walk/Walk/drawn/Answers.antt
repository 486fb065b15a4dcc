use Rattle.kl_syntax.specs.View.{pattern_view}
use Rattle.kl_scope.proofs.ArmLemmas.{drawn_walked}
use Rattle.kl_scope.proofs.walk.Walk.drawn.Goals as goal

pub returns : goal.returns
returns c = drawn_walked (pattern_view c.args.pattern.now) (pattern_view c.pattern.new.pattern) c.args.self.now c.pattern.new.self c.bind.new.self c.in_ok-pattern.ensures c.in_ok-bind.ensures.names c.in_ok-bind.ensures.found
