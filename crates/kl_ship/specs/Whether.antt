-- Tests of the shapes that a plan in which no work is left has at no place.
use Rattle.std.specs.Prelude.{ℕ, Bool, false, not, ◌&&◌, ◌==◌, length, nat_eq}
use Rattle.kl_value.specs.declared.Kind.{Kind}
use Rattle.kl_type.specs.Parts.{same_kind}
use Rattle.kl_ship.specs.declared.source.ShipSource.{ShipSource}
use Rattle.kl_ship.specs.Delegation.{taken}
use Rattle.kl_plan.specs.Erased.{erased}
use Rattle.kl_plan.specs.Nodes as node
use Rattle.kl_plan.specs.Nodes.{Node}

-- a test of the row alone stands in the front of the body
abbrev pub has_tests : ShipSource → Kind → Node → Bool
has_tests s k b = s.abilities.select && not (length (taken k 1 (erased b)) == 0)

abbrev pub is_scan_by : ℕ → Kind → Node → Bool
is_scan_by driver k (node.Scan d) = nat_eq d.driver driver && same_kind d.kind k
is_scan_by driver k (node.Memo n frees p) = is_scan_by driver k p
is_scan_by driver k p = false

-- directly a loop of a kind over a scan of that kind by the driver
abbrev pub is_loop_by : ℕ → Kind → Node → Bool
is_loop_by driver k (node.Ext j a s) = same_kind j k && is_scan_by driver k s
is_loop_by driver k (node.Join n j how o cs i q b) = same_kind j k && is_scan_by driver k o
is_loop_by driver k (node.Memo n frees p) = is_loop_by driver k p
is_loop_by driver k p = false

abbrev pub has_loop : ShipSource → ℕ → Kind → Node → Bool
has_loop s driver k b = s.abilities.join && is_loop_by driver k b
