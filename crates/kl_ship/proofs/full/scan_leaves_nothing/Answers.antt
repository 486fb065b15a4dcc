use Rattle.kl_ship.specs.Bodies.{body_view}
use Rattle.kl_ship.proofs.Deciding.{yes, walked_on, walked_out, IsFullIf, EachFull, full_at}
use Rattle.kl_ship.proofs.FullParts.{ok_is}
use Rattle.kl_ship.proofs.full.scan_leaves_nothing.Goals as goal

pub loop-source-preserved : goal.loop-source-preserved
loop-source-preserved c =
    walked_on (λ s. IsFullIf s c.args.kind (body_view c.args.body.now) c.args.scan.now)
    (EachFull c.args.kind (body_view c.args.body.now) c.args.scan.now) (λ s ss h. h) (λ s ss q h. (q, h))
    c.loop-source.source-index c.source-item.result c.args.sources.now c.loop-source-test.true c.source-item.is c.loop-source.invariant
    ((ok_is _ _ c.in_ok-is_full.was c.is_full.ensures).0 c.if-not-branch.false)

pub returns : goal.returns
returns c =
    yes (full_at c.args.kind (body_view c.args.body.now) c.args.scan.now c.args.sources.now
    (walked_out (λ s. IsFullIf s c.args.kind (body_view c.args.body.now) c.args.scan.now)
    (EachFull c.args.kind (body_view c.args.body.now) c.args.scan.now) (λ s ss h. h) (λ s ss q h. (q, h))
    c.loop-source.source-index c.args.sources.now c.loop-source-test.false tt c.loop-source.invariant))
