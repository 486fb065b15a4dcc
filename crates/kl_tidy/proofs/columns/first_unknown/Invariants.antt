use Rattle.std.proofs.Common.{◌≡◌, drop}
use Rattle.kl_base.specs.Fields.{labels_of}
use Rattle.kl_tidy.specs.Rows.{first_unknown}
use Rattle.kl_tidy.proofs.columns.first_unknown.Given as goal

abbrev pub invariant-loop-pair : goal.invariant-loop-pair
invariant-loop-pair g l = first_unknown l.names (labels_of l.pairs) ≡ first_unknown l.names (labels_of (drop l.pair-index l.pairs))
