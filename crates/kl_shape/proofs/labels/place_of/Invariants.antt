use Rattle.kl_shape.proofs.Variants.{IsBehind}
use Rattle.kl_shape.proofs.labels.place_of.Given as goal

abbrev pub invariant-loop-i : goal.invariant-loop-i
invariant-loop-i l = IsBehind l.label l.shapes l.i
