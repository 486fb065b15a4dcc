use Rattle.std.proofs.Common.{◌≡◌, ◌++◌, drop}
use Rattle.kl_forms.specs.Constants.{numbered}
use Rattle.kl_forms.proofs.constants.with_labels.Given as goal

abbrev pub invariant-loop-i : goal.invariant-loop-i
invariant-loop-i l = l.all.items ++ numbered (drop l.i l.fields) (drop l.i l.types) ≡ numbered l.fields l.types
