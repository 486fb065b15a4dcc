use Rattle.std.proofs.Common.{◌≡◌, drop}
use Rattle.kl_base.specs.Fields.{labels_of}
use Rattle.kl_ask.specs.Asks.{same_names}
use Rattle.kl_ask.proofs.asking.keeps_fields.Given as goal

abbrev pub invariant-loop-i : goal.invariant-loop-i
invariant-loop-i l = same_names (drop l.i l.keep) (labels_of (drop l.i l.fields)) ≡ same_names l.keep (labels_of l.fields)
