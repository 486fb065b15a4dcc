use Rattle.std.proofs.Common.{◌≡◌, map, take}
use Rattle.kl_core.specs.Trees.{Var, Proj, view_part}
use Rattle.kl_ship.specs.Joined.{label_in}
use Rattle.kl_ship.proofs.one_row.row_fields.Given as goal

abbrev pub invariant-loop-label : goal.invariant-loop-label
invariant-loop-label l = map view_part l.fields.items ≡ map (λ m. (m, Proj (label_in l.columns l.table m) (Var l.at))) (take l.label-index l.labels)
