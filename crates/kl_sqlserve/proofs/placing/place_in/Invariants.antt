use Rattle.std.proofs.Common.{◌≡◌, ◌+◌, drop}
use Rattle.kl_flat.specs.Held.{labels_in}
use Rattle.kl_sqlserve.specs.Placing.{place_among}
use Rattle.kl_sqlserve.proofs.placing.place_in.Given as goal

abbrev pub invariant-columns : goal.invariant-columns
invariant-columns l = place_among l.label (labels_in l.columns) ≡ l.place + place_among l.label (labels_in (drop l.place l.columns))
