-- What was counted of a plan that was run to its end and ended well.
use Rattle.std.proofs.Common.{◌≡◌, ℕ, List, [], subst}
use Rattle.std.specs.List.{AllByRecursion}
use Rattle.kl_type.specs.Ground.{Ground}
use Rattle.kl_plan.specs.Nodes.{Node}
use Rattle.kl_plan.specs.Numbers.{NumbersDiffer}
use Rattle.kl_plan.specs.Parts.{parts_of}
use Rattle.kl_plan.specs.Prices.{Prices}
use Rattle.kl_plan.specs.Reached.{reached}
use Rattle.kl_plan.specs.Typing.{PlanTypes}
use Rattle.kl_plan.specs.declared.plan.Scan.{Scan}
use Rattle.kl_scans.specs.Log.{Event, IsOf, Leaves, Logged, paid}
use Rattle.kl_scans.specs.Running.{Running}
use Rattle.kl_scans.specs.Same.{same_subquery}
use Rattle.kl_scans.specs.Stage.{readings, stage}
use Rattle.kl_counts.specs.Counts.{Counts}
use Rattle.kl_counts.proofs.Whole.{whole_counts}

-- All was done that a plan's meaning comes to, from a run on in which nothing was kept.
pub counts_known : (Of : Scan → Ground → Type 0) (L : ℕ → List ℕ → Node → Type 0) (p : Node) (s : Ground) → PlanTypes Of L [] p s → NumbersDiffer p
    → (es : List Event) (a b : Running) → Logged es a b → a.kept ≡ [] → AllByRecursion (IsOf (parts_of p)) es
    → ((P : Prices) → paid (stage a) P es ≡ reached (readings (stage a)) (stage a).block P p [])
    → Counts same_subquery a.room (readings (stage a)) a.settings.block p es
unfolding stage
counts_known Of L p s typed differ es a b log none of all =
    whole_counts Of L (stage a) p s es a.room b.kept typed differ all of log.executed (subst (λ kept. Leaves a.room es kept b.kept) none log.kept)
