use Rattle.std.proofs.Common.{◌≡◌, ℕ, List, Some, sym, ap}
use Rattle.kl_base.specs.Fields.{IsFieldsOf}
use Rattle.kl_value.specs.declared.Value.TheVariants as value
use Rattle.kl_exchange.specs.declared.machine.Phase.TheVariants as phase
use Rattle.kl_exchange.specs.Machine.{Brackets, goes, after_field}
use Rattle.kl_exchange.proofs.Pairs.{Pair, fields_are}
use Rattle.kl_exchange.proofs.machine.after_field.Goals as goal

closed : (st : Brackets) (pairs fs : List Pair) (b : ℕ) → b ≡ 93 → IsFieldsOf pairs (Some fs) → after_field st pairs b ≡ goes st (phase.After (value.Rec fs))
unfolding after_field
closed st pairs fs b e is = rw e (ap (λ gs. goes st (phase.After (value.Rec gs))) (sym (fields_are pairs fs is)))

pub returns-in-Some : goal.returns-in-Some
returns-in-Some c =
    let is = rw (c.in-Some.is, c.shrink_to_fit.ensures.items, c.into_vec-fields.ensures) at c.in_ok-fields.ensures in
    λ st. rw c.goes-in-Some.ensures (closed st _ _ _ c.if-byte-eq93.true is)
