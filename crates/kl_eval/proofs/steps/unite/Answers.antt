use Rattle.std.proofs.Common.{◌∙◌, ap, sym}
use Rattle.kl_value.specs.Canon.{canonical}
use Rattle.kl_value.specs.declared.value.Value.TheVariants as value
use Rattle.kl_value.proofs.CanonLemmas.{sorted_values, canonical_set, canonical_bag, canonical_list}
use Rattle.kl_eval.proofs.steps.unite.Goals as goal

pub returns-in-Ok : goal.returns-in-Ok
returns-in-Ok c =
    ap value.Set c.of.ensures
    ∙ canonical_set _ _ _ (sorted_values _ _ c.in-Ok.ensures.permutation c.in-Ok.ensures.sorted) c.dedup.ensures.filtered
    ∙ ap (λ k. canonical k c.args.both.items) (sym c.in-Set.is)

pub returns-in-Ok-sort : goal.returns-in-Ok-sort
returns-in-Ok-sort c =
    ap value.Bag c.of-in-Ok-sort.ensures
    ∙ canonical_bag _ _ (sorted_values _ _ c.in-Ok-sort.ensures.permutation c.in-Ok-sort.ensures.sorted)
    ∙ ap (λ k. canonical k c.args.both.items) (sym c.in-Bag.is)

pub returns-in-List : goal.returns-in-List
returns-in-List c =
    ap value.List c.of-in-List.ensures
    ∙ canonical_list _
    ∙ ap (λ k. canonical k c.args.both.items) (sym c.in-List.is)
