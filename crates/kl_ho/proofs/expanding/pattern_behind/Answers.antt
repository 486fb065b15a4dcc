use Rattle.std.proofs.Common.{ap, ◌∙◌}
use Rattle.kl_syntax.specs.View.{pattern_view}
use Rattle.kl_ho.specs.Shapes.{names_after}
use Rattle.kl_ho.proofs.expanding.pattern_behind.Goals as goal

pub returns-clause-becomes : goal.returns-clause-becomes
returns-clause-becomes c = rw c.in_ok-inner.ensures at c.in_ok-pattern.ensures.becomes

pub returns-clause-vars : goal.returns-clause-vars
returns-clause-vars c = c.in_ok-pattern.ensures.vars ∙ ap (names_after (pattern_view c.args.pattern.now)) c.in_ok-inner.ensures
