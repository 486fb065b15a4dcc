use Rattle.std.proofs.Common.{◌≡◌, ◌+◌, drop}
use Rattle.kl_base.specs.Fields.{labels_of}
use Rattle.kl_rules.specs.Unpacked.{place_in}
use Rattle.kl_rules.proofs.records.place.Given as goal

abbrev pub invariant-loop-i : goal.invariant-loop-i
invariant-loop-i l = place_in l.label (labels_of l.fields) ≡ l.i + place_in l.label (labels_of (drop l.i l.fields))
