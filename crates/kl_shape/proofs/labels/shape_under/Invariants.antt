use Rattle.std.proofs.Common.{◌≡◌, drop}
use Rattle.kl_shape.specs.Parts.{shape_under}
use Rattle.kl_shape.proofs.labels.shape_under.Given as goal

abbrev pub invariant-loop-field : goal.invariant-loop-field
invariant-loop-field l = shape_under l.label (drop l.field-index l.shapes) ≡ shape_under l.label l.shapes
