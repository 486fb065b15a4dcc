use Rattle.std.proofs.Common.{ap, reverse}
use Rattle.calls_language.proofs.evaluation.a_term_has_a_value.Goals as goal

pub eval-result-requires : goal.eval-result-requires
eval-result-requires g c = c.four.ensures _ _ (ap reverse c.new-env.ensures.items) c.session-session.ensures
