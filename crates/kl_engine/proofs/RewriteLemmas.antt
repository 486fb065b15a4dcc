-- What is evaluated is the program's term, or one that steps of rewriting lead to: it means the same.
use Rattle.std.proofs.Common.{◌≡◌, ◌≤◌, ℕ, Bool, true, false, Result, Ok, Err, IfOk, sym, subst}
use Rattle.kl_base.specs.declared.NoMemory.{NoMemory}
use Rattle.kl_core.specs.Counts.{nodes_of}
use Rattle.kl_core.specs.Trees.{view}
use Rattle.kl_rewrite.specs.Steps.{IsWithin}
use Rattle.kl_rewrite.specs.declared.normal.Normal.{Normal}
use Rattle.kl_core.specs.Trees.{Tree}
use Rattle.kl_rules.specs.Preserving.{Preserves}
use Rattle.kl_rewrite.proofs.Congruence.{keeps_same}
use Rattle.kl_rewrite.proofs.StepLaws.{steps_keep}
use Rattle.kl_engine.specs.Rewritten.{IsRewrittenTo}

pub rewritten_keeps : (on : Bool) (t u : Tree) (steps : ℕ) → IsRewrittenTo on t steps u → Preserves t u
rewritten_keeps true t u steps h = steps_keep steps t u h.0
rewritten_keeps false t u steps h = subst (λ x. Preserves t x) (sym h.0) (keeps_same t)

pub keeps_from : (on : Bool) (t given u : Tree) (steps : ℕ) → given ≡ t → IsRewrittenTo on given steps u → Preserves t u
keeps_from on t given u steps is h = subst (λ x. Preserves x u) is (rewritten_keeps on given u steps h)

pub within_small : (r : Result Normal NoMemory) → IfOk r (λ n. IsWithin (view n.term)) → IfOk r (λ n. nodes_of (view n.term) ≤ 16384)
within_small (Ok n) within = within.0
within_small (Err e) within = tt
