use Rattle.std.proofs.Common.{◌≡◌, ◌-◌, drop}
use Rattle.kl_base.specs.Fields.{labels_of, rises}
use Rattle.kl_rules.proofs.records.labels_rise.Given as goal

abbrev pub invariant-loop-i : goal.invariant-loop-i
invariant-loop-i l = rises (labels_of (drop (l.i - 1) l.fields)) ≡ rises (labels_of l.fields)
