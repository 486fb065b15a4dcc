-- What stands where a step calls another.
use Rattle.std.proofs.Common.{List, ◌∷◌, arith}
use Rattle.kl_value.specs.declared.Value.{Value}
use Rattle.kl_scans.specs.Running.{Running}
use Rattle.kl_plan.specs.Nodes.{Node}
use Rattle.kl_scans.specs.Held.{nothing, Owned}
use Rattle.kl_cursor.specs.Left.{Snap, fresh, bound, outside, uses}
use Rattle.kl_cursor.specs.Sense.{Stands}
use Rattle.kl_cursor.specs.Steps.{Onward}
use Rattle.kl_scans.proofs.Moving.{ready_stays}
use Rattle.kl_cursor.proofs.Forms.{Drew}

pub owned_nothing : (w : Running) → Owned nothing w
owned_nothing w = record { each = λ d k. omega arith }

pub stands_onward : (env : List Value) (s t : Snap) (a b : Running) → Onward env s a t b → Stands a s env → Stands b t env
stands_onward env s t a b m h = (h.0, h.1, h.2, h.3, m.typed h.0 h.1 h.2 h.3 h.4, ready_stays (uses s) (uses t) a b m.moves h.5)

pub stands_bound : (env : List Value) (v : Value) (s : Snap) (a : Running) → Stands a (bound v s) env → Stands a s (v ∷ env)
stands_bound env v s a h = (h.4.0 ∷ h.0, h.1, h.2, (h.4.1, h.3), h.4.2, h.5)

pub stands_source : (env : List Value) (p : Node) (s : Snap) (a : Running) → Stands a (outside p s) env → Stands a s env
stands_source env p s a h = (h.0, h.4.0, h.4.1, h.3, h.4.3, h.5)

pub stands_body : (env : List Value) (p : Node) (s t : Snap) (v : Value) (a b : Running) → Drew env p s t v a b → Stands a (outside p s) env → Stands b (fresh p) (v ∷ env)
stands_body env p s t v a b d h =
    let y = d.typed h.0 h.1 h.2 h.3 h.4 in
    (y.1 ∷ h.0, h.1, h.2, (y.5, h.3), y.6, ready_stays (uses s) (uses t) a b d.moves h.5)
