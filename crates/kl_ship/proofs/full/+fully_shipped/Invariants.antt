use Rattle.kl_ship.specs.Full.{FullyShipped, FullNodes, FullFields}
use Rattle.kl_plan.specs.Nodes.{view, nodes_view, fields_view}
use Rattle.kl_ship.proofs.Deciding.{Walked}
use Rattle.kl_ship.proofs.full.+fully_shipped.Given as goal

abbrev pub invariant-are_full-loop-plan : goal.invariant-are_full-loop-plan
invariant-are_full-loop-plan l =
    Walked (λ p. FullyShipped l.sources (view p)) (λ ps. FullNodes l.sources (nodes_view ps)) (λ p ps h. h) (λ p ps q h. (q, h)) l.plan-index l.plans

abbrev pub invariant-are_full_labelled-loop-part : goal.invariant-are_full_labelled-loop-part
invariant-are_full_labelled-loop-part l =
    Walked (λ p. FullyShipped l.sources (view p.1)) (λ ps. FullFields l.sources (fields_view ps)) (λ p ps h. h) (λ p ps q h. (q, h)) l.part-index l.parts
