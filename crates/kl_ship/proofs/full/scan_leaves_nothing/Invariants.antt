use Rattle.kl_ship.specs.Bodies.{body_view}
use Rattle.kl_ship.proofs.Deciding.{Walked, IsFullIf, EachFull}
use Rattle.kl_ship.proofs.full.scan_leaves_nothing.Given as goal

abbrev pub invariant-loop-source : goal.invariant-loop-source
invariant-loop-source l =
    Walked (λ s. IsFullIf s l.kind (body_view l.body) l.scan) (EachFull l.kind (body_view l.body) l.scan) (λ s ss h. h)
    (λ s ss q h. (q, h)) l.source-index l.sources
