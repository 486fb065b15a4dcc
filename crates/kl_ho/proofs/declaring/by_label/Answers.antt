use Rattle.std.proofs.Common.{rules}
use Rattle.std.proofs.lemmas.Cmp.{on_total, nat_list_cmp_total}
use Rattle.std.proofs.lemmas.List.Sorted.{answers_always}
use Rattle.kl_base.proofs.FieldsLemmas.{by_label as before, by_label_ranks}
use Rattle.kl_base.proofs.StableSorts.{stable_is}
use Rattle.kl_prim.specs.Records.{by_label}
use Rattle.kl_ho.proofs.declaring.by_label.Goals as goal

pub returns : goal.returns
returns c =
    stable_is by_label (on_total (λ f. f.0) nat_list_cmp_total) _ _
    (c.in_ok-sort_by.ensures.sorted before by_label_ranks (answers_always _ _ _ (λ f a r q k. search rules)))
    (c.in_ok-sort_by.ensures.stable before by_label_ranks (answers_always _ _ _ (λ f a r q k. search rules)))
