use Rattle.kl_engine.proofs.DrawLemmas.{drew_then, held_keeps, held_onward, onward_stands}
use Rattle.kl_engine.proofs.listing.draw.Goals as goal

pub next-requires-clause-sense : goal.next-requires-clause-sense
next-requires-clause-sense g c = onward_stands _ _ _ _ _ _ c.in-Ok-NeedsPull.ensures.env c.requires.sense (held_onward _ _ _ _ _ _ c.in-Ok-NeedsPull.field-0-is c.in-Ok-NeedsPull.ensures.next)

pub returns-in-Ok-clause-draws : goal.returns-in-Ok-clause-draws
returns-in-Ok-clause-draws g c =
    drew_then _ _ _ _ _ _ _ _ _ _ c.in-Ok-NeedsPull.ensures.env (held_onward _ _ _ _ _ _ c.in-Ok-NeedsPull.field-0-is c.in-Ok-NeedsPull.ensures.next) (held_keeps _ _ _ _ _ _ c.in-Ok-NeedsPull.field-0-is c.in-Ok-NeedsPull.ensures.lazy)
    c.next.ensures.next c.next.ensures.lazy c.in-Ok.ensures.empty
