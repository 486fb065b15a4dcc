use Rattle.std.proofs.Common.{◌≡◌, ◌++◌, take}
use Rattle.kl_shape.proofs.labels.push_all.Given as goal

abbrev pub invariant-loop-field : goal.invariant-loop-field
invariant-loop-field l = l.joined.items ≡ l.initial.joined.items ++ take l.field-index l.shapes
