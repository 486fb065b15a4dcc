use Rattle.std.proofs.Common.{◌≡◌, drop}
use Rattle.kl_base.specs.Fields.{field}
use Rattle.kl_infer.proofs.inference.made_for.Given as goal

abbrev pub invariant-loop-pair : goal.invariant-loop-pair
invariant-loop-pair l = field l.name (drop l.pair-index l.made) ≡ field l.name l.made
