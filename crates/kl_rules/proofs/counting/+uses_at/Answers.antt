use Rattle.std.proofs.Common.{◌≡◌, ◌+◌, ◌-◌, ◌^◌, min, ap, ◌∙◌, arith}
use Rattle.kl_core.specs.Trees.{view, parts_view}
use Rattle.kl_rules.specs.Guards.{uses_in, uses_parts}
use Rattle.kl_rules.proofs.Walks.{uses_case, sums_two}
use Rattle.kl_rules.proofs.counting.+uses_at.Goals as goal

pub uses_at-returns-in-Case : goal.uses_at-returns-in-Case
uses_at-returns-in-Case t c n e =
    let first = c.uses_at-in-Case.ensures n e ∙ ap (λ x. min (uses_in n (view x)) 2) c.get-in-Case.ensures in
    let next : min (n + 1) (2 ^ 64 - 1) ≡ c.saturating_add.result = omega (arith, e, c.saturating_add.ensures) in
    let second = c.uses_labelled-in-Case.ensures (n + 1) next ∙ ap (λ x. min (uses_parts (n + 1) (parts_view x)) 2) c.slice-in-Case.ensures in
    sums_two _ _ _ _ _ _ _ _ _ (uses_case n _ _ _ _ c.in-Case.is) first second (c.uses_other.ensures n e) c.sum.ensures c.sum-in-Case.ensures
