-- Steps keep what a term means, and its types.
use Rattle.std.proofs.Common.{ℕ, zero, suc, sym, subst}
use Rattle.kl_core.specs.Trees.{Tree}
use Rattle.kl_rules.specs.Preserving.{Preserves}
use Rattle.kl_rules.proofs.RuleLaws.{rules_keep}
use Rattle.kl_rewrite.specs.Steps.{Step, Steps}
use Rattle.kl_rewrite.proofs.Congruence.{keeps_place, keeps_same, keeps_then}

pub step_keeps : (t u : Tree) → Step t u → Preserves t u
step_keeps t u s =
    let m = s.makes in
    subst (λ x. Preserves t x) (sym m.whole) (keeps_place s.place t m.before m.after m.stands (rules_keep s.number m.before m.after m.rewrites))

pub steps_keep : (n : ℕ) (t u : Tree) → Steps n t u → Preserves t u
steps_keep zero t u h = subst (λ x. Preserves t x) h (keeps_same t)
steps_keep (suc n) t u h = keeps_then t h.0 u (steps_keep n t h.0 h.1) (step_keeps h.0 u h.2)
