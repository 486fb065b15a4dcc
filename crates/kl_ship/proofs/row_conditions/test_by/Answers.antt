use Rattle.std.proofs.Common.{◌≡◌, ◌≢◌, ℕ, List, [], ◌∷◌, length, None, Some, refl}
use Rattle.kl_core.specs.declared.term.Term.{Term}
use Rattle.kl_core.specs.Trees.{trees_view}
use Rattle.kl_sqltext.specs.declared.ast.SqlOp.{SqlOp}
use Rattle.kl_ship.specs.Delegation.{test_by}
use Rattle.kl_ship.proofs.row_conditions.test_by.Goals as goal

not_two : (n : ℕ) (o : SqlOp) (ts : List Term) → length ts ≢ 2 → None ≡ test_by n (Some o) (trees_view ts)
not_two n o [] h = refl
not_two n o (t ∷ []) h = refl
not_two n o (t ∷ u ∷ []) h = absurd (h refl)
not_two n o (t ∷ u ∷ w ∷ ts) h = refl

pub returns-else-terms-eq2 : goal.returns-else-terms-eq2
returns-else-terms-eq2 c = not_two _ _ _ c.if-terms-eq2.false
