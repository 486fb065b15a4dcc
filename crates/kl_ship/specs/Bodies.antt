-- The bodies of loops, those of joins among them.
use Rattle.std.specs.Prelude.{ℕ, Bool, false}
use Rattle.kl_outcome.specs.Outcome.{Name}
use Rattle.kl_plan.specs.Erased.{erased}
use Rattle.kl_plan.specs.Joins.{join_view}
use Rattle.kl_plan.specs.Loops.{around, keyed}
use Rattle.kl_plan.specs.Nodes as node
use Rattle.kl_plan.specs.Nodes.{Node, Key, no_key, key, view}
use Rattle.kl_ship.specs.Delegation.{whole_use, column_use}
use Rattle.kl_ship.specs.declared.bodies.Body.{Body}
use Rattle.kl_ship.specs.declared.bodies.Body.TheVariants as body

-- the body of the outer loop of a join, and that of the inner one
abbrev pub outer_body : Node → Node
outer_body (node.Join n k how o cs i q b) = around k cs (node.Ext k (keyed k q b) (node.Scan i))
outer_body p = p

abbrev pub inner_body : Node → Node
inner_body (node.Join n k how o cs i q b) = keyed k q b
inner_body p = p

abbrev pub body_view : Body → Node
body_view (body.Own p) = view p.now
body_view (body.Outer j) = outer_body (join_view j.now)
body_view (body.Inner j) = inner_body (join_view j.now)

-- of a key, what holds of its value
abbrev pub whole_key : ℕ → Key → Bool
whole_key n no_key = false
whole_key n (key l v) = whole_use n (erased v)

abbrev pub column_key : ℕ → Name → Key → Bool
column_key n m no_key = false
column_key n m (key l v) = column_use n m (erased v)
