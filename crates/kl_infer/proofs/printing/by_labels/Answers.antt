use Rattle.std.proofs.Common.{rules}
use Rattle.std.proofs.lemmas.List.Sorted.{answers_always}
use Rattle.kl_infer.proofs.Stable.{below, below_ranks, stable_is}
use Rattle.kl_infer.proofs.printing.by_labels.Goals as goal

pub returns : goal.returns
returns c =
    stable_is c.args.fields.items _
    (c.in_ok-sort_by.ensures.sorted below below_ranks (answers_always _ _ _ (λ f a r q k. search rules)))
    (c.in_ok-sort_by.ensures.stable below below_ranks (answers_always _ _ _ (λ f a r q k. search rules)))
