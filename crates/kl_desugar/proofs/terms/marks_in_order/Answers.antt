use Rattle.std.proofs.Common.{rules, ap, ◌∙◌}
use Rattle.std.proofs.lemmas.List.Sorted.{answers_always}
use Rattle.kl_base.proofs.FieldsLemmas.{by_label, by_label_ranks}
use Rattle.kl_prim.specs.Records.{in_order}
use Rattle.kl_desugar.proofs.Ordered.{sorted_order}
use Rattle.kl_desugar.proofs.terms.marks_in_order.Goals as goal

pub returns : goal.returns
returns c =
    sorted_order _ _ (c.in_ok-sort_by.ensures.sorted by_label by_label_ranks (answers_always _ _ _ (λ f a r q k. search rules)))
    (c.in_ok-sort_by.ensures.stable by_label by_label_ranks (answers_always _ _ _ (λ f a r q k. search rules)))
    ∙ ap in_order c.in_ok-marks.ensures
