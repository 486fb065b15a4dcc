use Rattle.std.proofs.Common.{◌≡◌, ◌<◌, ◌∙◌, rules, sym, subst, length}
use Rattle.kl_ask.specs.Asked.{same_ask}
use Rattle.kl_ask.proofs.Kept.{counted_at}
use Rattle.kl_ask.proofs.asked.count_ask.Goals as goal
use Rattle.kl_base.proofs.Places.{same_read}

pub returns-then-eq-clause-counted : goal.returns-then-eq-clause-counted
returns-then-eq-clause-counted c =
    let within : c.loop-i.i < length c.loop-i.asked.items = search rules in
    let one = same_read c.loop-i.asked.items c.loop-i.i c.index.result.now c.index_mut-kept.result.now within (search rules) c.index_mut-kept.ensures.value in
    counted_at c.loop-i.asked.items _ _ _ c.index_mut-kept.result.now c.args.ask.now c.loop-i.invariant.same within c.index_mut-kept.ensures.value (sym c.if-eq.true ∙ subst (λ k. c.eq.result ≡ same_ask k.0 c.args.ask.now) one c.eq.ensures) c.saturating_add-kept.ensures c.loop-i.invariant.rest
