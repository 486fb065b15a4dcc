use Rattle.std.proofs.Common.{ap, reverse}
use Rattle.calls_language.proofs.evaluation.a_list_is_added.Goals as goal

pub list_of-requires : goal.list_of-requires
list_of-requires g c = c.four.ensures

pub eval_list-result-requires : goal.eval_list-result-requires
eval_list-result-requires g c = c.in_ok-term.ensures _ _ (ap reverse c.new-env.ensures.items) c.session-session.ensures
