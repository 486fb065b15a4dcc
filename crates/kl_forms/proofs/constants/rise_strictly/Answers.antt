use Rattle.std.proofs.Common.{rules, is_lt}
use Rattle.std.proofs.lemmas.List.Sorted.{answers_always}
use Rattle.kl_value.specs.Order.{compare}
use Rattle.kl_value.proofs.OrderLemmas.{compare_total}
use Rattle.kl_forms.proofs.Rising.{strict_is}
use Rattle.kl_forms.proofs.constants.rise_strictly.Goals as goal

pub returns : goal.returns
returns c = strict_is compare compare_total c.args.items.now c.is_sorted_by.result (c.is_sorted_by.ensures.cases (λ v w. is_lt (compare v w)) (answers_always _ _ _ (λ f a r q k. search rules)))
