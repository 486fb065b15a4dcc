use Rattle.std.proofs.Common.{rules, is_le}
use Rattle.std.proofs.lemmas.List.Sorted.{answers_always}
use Rattle.kl_value.specs.contracts.value.ValueOrd.TheImpl as derived
use Rattle.kl_value.proofs.KeyLemmas.{rise_is}
use Rattle.kl_value.proofs.sorting.rise.Goals as goal

pub returns : goal.returns
returns c =
    rise_is c.args.items.now c.is_sorted_by.result
    (c.is_sorted_by.ensures.cases (λ v w. is_le (derived.ghosts.cmp v w)) (answers_always _ _ _ (λ f a r q k. search rules)))
