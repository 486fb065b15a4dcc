use Rattle.std.proofs.Common.{◌≡◌, drop}
use Rattle.kl_base.specs.Fields.{field}
use Rattle.kl_tidy.proofs.words.value_at.Given as goal

abbrev pub invariant-loop-pair : goal.invariant-loop-pair
invariant-loop-pair g l = field l.label l.pairs ≡ field l.label (drop l.pair-index l.pairs)
