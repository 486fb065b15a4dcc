use Rattle.std.proofs.Common.{rules, ap, ◌∙◌}
use Rattle.std.proofs.lemmas.List.Sorted.{answers_always}
use Rattle.kl_base.proofs.FieldsLemmas.{by_label, by_label_ranks}
use Rattle.kl_core.specs.Trees as term
use Rattle.kl_core.proofs.Views.{view_Rec}
use Rattle.kl_desugar.proofs.Arms.{given}
use Rattle.kl_desugar.proofs.Ordered.{sorted_view}
use Rattle.kl_desugar.proofs.expressions.record.Goals as goal

pub returns : goal.returns
returns c =
    given _ _ _ c.in_ok-fields.was
    (rw c.of.ensures
    (view_Rec _
    ∙ ap (λ z. term.Rec (term.parts_of z))
    (sorted_view _ _ (c.in_ok-sort_by.ensures.sorted by_label by_label_ranks (answers_always _ _ _ (λ f a r q k. search rules)))
    (c.in_ok-sort_by.ensures.stable by_label by_label_ranks (answers_always _ _ _ (λ f a r q k. search rules))))))
