-- What was drained of a cursor so far.
use Rattle.std.specs.Prelude.{◌≡◌, ◌≤◌, List}
use Rattle.std.specs.List.{AllByRecursion}
use Rattle.kl_value.specs.declared.Kind.{Kind}
use Rattle.kl_value.specs.declared.Value.{Value}
use Rattle.kl_type.specs.Ground.{Ground}
use Rattle.kl_outcome.specs.Outcome.{fine, flow, followed}
use Rattle.kl_outcome.specs.Typed.{Inhabits, HaveTypes}
use Rattle.kl_plan.specs.Holding.{Listing}
use Rattle.kl_scans.specs.Moves.{Moves}
use Rattle.kl_scans.specs.Running.{Running}
use Rattle.kl_cursor.specs.Gathering.{Gathered, with_all}
use Rattle.kl_cursor.specs.Left.{Snap, uses, left, to_start, PartsLeft}
use Rattle.kl_cursor.specs.Likeness.{Same}
use Rattle.kl_cursor.specs.Measure.{height}
use Rattle.kl_cursor.specs.Sense.{Fits}
use Rattle.kl_cursor.specs.Steps.{AreOf, WhereTold, Counts}

-- some items, and what is left behind them
pub record Draining (env : List Value) (s0 : Snap) (a : Running) (vs : List Value) (s : Snap) (b : Running) : Type 0 where
  pub moves : Moves (uses s0) (uses s) a b
  pub known : (all : Listing) → PartsLeft all s0 → AreOf all moves.events × PartsLeft all s
  pub same : WhereTold env s0 a (λ k. Same k (left a s0 env) (followed (flow vs fine) (left b s env)))
  pub counts : WhereTold env s0 a (λ k. Counts env s0 a moves.events (λ P. to_start b P s env))
  pub typed : (G : List Ground) (k : Kind) (u : Ground) → HaveTypes G env → Fits a G k u s0
      → AllByRecursion (Inhabits u) vs × Fits b G k u s
  pub lower : height s ≤ height s0

-- and they were added to what was gathered
abbrev pub Adding : List Value → Snap → Running → Gathered → Gathered → Snap → Running → Type 0
Adding env s0 a old now s b = (vs : List Value) × (now ≡ with_all old vs) × Draining env s0 a vs s b
