use Rattle.std.proofs.Common.{◌≡◌, ◌<◌, ◌∙◌, length, rules, subst, sym}
use Rattle.kl_cursor.proofs.Having.{popped, none_popped, popped_end, popped_stop}
use Rattle.kl_cursor.proofs.steps.pop.Goals as goal

pub returns-in-Some : goal.returns-in-Some
returns-in-Some c = λ env w. popped env _ _ _ _ _ w (sym c.into_vec-items.ensures ∙ c.in-Some.ensures.items) c.of.ensures

pub returns-then-past : goal.returns-then-past
returns-then-past c = λ env w. popped_stop env _ _ w (sym c.into_vec-items.ensures ∙ none_popped _ _ c.in-None.ensures.items (let long : c.into_vec-items.result.len ≡ length c.into_vec-items.result.items = search rules in λ lt. c.in-None.ensures.variant.1 (subst (λ n. 0 < n) (sym long) lt))) c.if-past.true

pub returns : goal.returns
returns c = λ env w. popped_end env _ _ w (sym c.into_vec-items.ensures ∙ none_popped _ _ c.in-None.ensures.items (let long : c.into_vec-items.result.len ≡ length c.into_vec-items.result.items = search rules in λ lt. c.in-None.ensures.variant.1 (subst (λ n. 0 < n) (sym long) lt))) c.if-past.false
