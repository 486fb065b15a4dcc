use Rattle.std.proofs.Common.{◌≡◌, drop, map}
use Rattle.kl_rules.specs.Guards.{plain_value, all_plain, fields_plain}
use Rattle.kl_rules.proofs.plainness.+is_plain_value.Given as goal

abbrev pub invariant-are_plain_values-loop-item : goal.invariant-are_plain_values-loop-item
invariant-are_plain_values-loop-item l = all_plain (map plain_value (drop l.item-index l.items)) ≡ all_plain (map plain_value l.items)

abbrev pub invariant-are_plain_fields-loop-field : goal.invariant-are_plain_fields-loop-field
invariant-are_plain_fields-loop-field l = fields_plain (map (λ f. (f.0, plain_value f.1)) (drop l.field-index l.fields)) ≡ fields_plain (map (λ f. (f.0, plain_value f.1)) l.fields)
