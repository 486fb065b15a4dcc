use Rattle.std.proofs.Common.{rules, is_le}
use Rattle.std.proofs.lemmas.List.Sorted.{answers_always}
use Rattle.kl_value.specs.Order.{compare}
use Rattle.kl_forms.proofs.Rising.{rising_is}
use Rattle.kl_forms.proofs.constants.rise.Goals as goal

pub returns : goal.returns
returns c = rising_is c.args.items.now c.is_sorted_by.result (c.is_sorted_by.ensures.cases (λ v w. is_le (compare v w)) (answers_always _ _ _ (λ f a r q k. search rules)))
