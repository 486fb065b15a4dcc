use Rattle.std.proofs.Common.{rules, is_lt}
use Rattle.std.proofs.lemmas.List.Sorted.{answers_always}
use Rattle.kl_base.specs.Fields.{bytes_cmp}
use Rattle.kl_forms.proofs.Rising.{labels_is}
use Rattle.kl_forms.proofs.constants.labels_rise.Goals as goal

pub returns : goal.returns
returns c = labels_is c.args.fields.now c.is_sorted_by.result (c.is_sorted_by.ensures.cases (λ v w. is_lt (bytes_cmp v.0 w.0)) (answers_always _ _ _ (λ f a r q k. search rules)))
