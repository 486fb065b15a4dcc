use Rattle.std.proofs.Common.{◌≡◌, map, take}
use Rattle.kl_shape.specs.Shapes.{filled_field}
use Rattle.kl_shape.proofs.filling.+fill.Given as goal

abbrev pub invariant-fill_fields-loop-field : goal.invariant-fill_fields-loop-field
invariant-fill_fields-loop-field l = l.types.items ≡ map filled_field (take l.field-index l.fields)
