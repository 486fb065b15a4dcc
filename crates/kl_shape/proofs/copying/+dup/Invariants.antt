use Rattle.std.proofs.Common.{◌≡◌, take}
use Rattle.kl_shape.proofs.copying.+dup.Given as goal

abbrev pub invariant-dup_fields-loop-field : goal.invariant-dup_fields-loop-field
invariant-dup_fields-loop-field l = l.copies.items ≡ take l.field-index l.fields
