-- Loops that are directly inside others, where no join and no memo stands.
use Rattle.std.proofs.Common.{◌≡◌, List, [], ◌∷◌, ap}
use mathlib.Core.Path.{ap₂}
use Rattle.kl_value.specs.declared.Kind.{Kind}
use Rattle.kl_plan.specs.declared.plan.Scan.{Scan}
use Rattle.kl_plan.specs.Nodes as node
use Rattle.kl_plan.specs.Nodes.{Node}
use Rattle.kl_joins.specs.Bare.{Bare}
use Rattle.kl_joins.proofs.JoinsTyped.{bare_source}
use Rattle.kl_ship.specs.Full.{IsReading, IsLoopOver}

none : {A : Type 0} (x : A) (xs : List A) → x ∷ xs ≡ [] → ⊥
none x xs e = cc

bare_reading : (s : Node) (d : Scan) → Bare s → IsReading d s → s ≡ node.Scan d
bare_reading (node.Scan c) d b h = ap node.Scan h
bare_reading (node.Memo n frees p) d b h = absurd (none _ _ b.1)
bare_reading s d b h = absurd h

pub bare_loop : (k : Kind) (p : Node) (d : Scan) → Bare p → IsLoopOver k d p → (a : Node) × (p ≡ node.Ext k a (node.Scan d))
bare_loop k (node.Ext j a s) d b h = (a, ap₂ (λ x y. node.Ext x a y) h.0 (bare_reading s d (bare_source j a s b) h.1))
bare_loop k (node.Join n j how o cs i q a) d b h = absurd (none _ _ b.0)
bare_loop k (node.Memo n frees p) d b h = absurd (none _ _ b.1)
bare_loop k p d b h = absurd h
