use Rattle.std.proofs.Common.{◌≡◌, ◌∙◌, Some, List, ℕ, sym, ap}
use Rattle.std.specs.Option.{option_copied}
use Rattle.kl_value.proofs.KeyLemmas.{OnTrue-from}
use Rattle.kl_value.proofs.OrderLemmas.{same_bytes}
use Rattle.kl_value.proofs.sorting.is_same.Goals as goal
use Rattle.kl_base.proofs.Orders.{tied}

pub returns-in-Some-Some : goal.returns-in-Some-Some
returns-in-Some-Some c =
    OnTrue-from c.is_eq.result _ (λ yes.
    let a : List ℕ = c.in-Some-Some.a.now in
    let b : List ℕ = c.in-Some-Some.b.now in
    let same : a ≡ b = same_bytes a b (sym c.cmp.ensures ∙ tied c.cmp.result (sym c.is_eq.ensures ∙ yes)) in
    ap option_copied c.in-Some-Some.is-0 ∙ (ap (λ l. Some l) same ∙ sym (ap option_copied c.in-Some-Some.is-1)))
