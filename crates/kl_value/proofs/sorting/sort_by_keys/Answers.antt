use Rattle.std.proofs.Common.{◌∙◌}
use Rattle.kl_value.proofs.KeyLemmas.{sorted_by_keys}
use Rattle.kl_value.proofs.sorting.sort_by_keys.Goals as goal

pub returns : goal.returns
returns c =
    c.in_ok-all.ensures
    ∙ sorted_by_keys c.args.items.items _ _ c.requires c.in_ok-pairs.ensures c.sort_unstable.ensures.permutation c.sort_unstable.ensures.sorted
