use Rattle.std.proofs.Common.{◌+◌, ◌^◌, ◌<◌, length, ap, subst, sym, ◌∙◌}
use Rattle.kl_heads.proofs.TextReading.{fed_so}
use Rattle.kl_heads.proofs.reader.Reader.feed.Goals as goal

pub invariant_of-self : goal.invariant_of-self
invariant_of-self c = fed_so _ _ _ _ _ _ c.self.invariant c.feed.result _ _ c.feed.ensures.ok c.feed.ensures.err (ap (λ s. s.text.finished) c.self.view_is ∙ c.requires.unfinished)
    (subst (λ s. s.text.place + (length s.text.left + length c.args.piece.now) < 2 ^ 64) (sym c.self.view_is) c.requires.room)
