use Rattle.std.proofs.Common.{◌≡◌, ◌+◌, ◌-◌, ◌^◌, min, ap, ap₂, sym, ◌∙◌, arith}
use Rattle.kl_core.specs.Trees.{view, parts_view}
use Rattle.kl_rules.specs.Nearness.{least, nearest_in, nearest_parts}
use Rattle.kl_rules.proofs.Nearest.{nearest_case}
use Rattle.kl_rules.proofs.nearness.+nearest_from.Goals as goal

pub nearest_from-returns-in-Case : goal.nearest_from-returns-in-Case
nearest_from-returns-in-Case t c n e =
    let first = c.nearest_from-in-Case.ensures n e ∙ ap (λ x. nearest_in n (view x)) c.get-in-Case.ensures in
    let next : min (n + 1) (2 ^ 64 - 1) ≡ c.saturating_add.result = omega (arith, e, c.saturating_add.ensures) in
    let second = c.nearest_labelled-in-Case.ensures (n + 1) next ∙ ap (λ x. nearest_parts (n + 1) (parts_view x)) c.slice-in-Case.ensures in
    c.first-in-Case.ensures ∙ ap₂ least first (c.first.ensures ∙ ap₂ least second (c.nearest_other.ensures n e)) ∙ sym (nearest_case n _ _ _ _ c.in-Case.is)
