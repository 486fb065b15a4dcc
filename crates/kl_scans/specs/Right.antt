-- Which kept values are right, and over what a plan can run.
use Rattle.std.specs.Prelude.{◌≡◌, ◌<◌, ℕ, List, map, nat_eq, length}
use Rattle.std.specs.List.{AllByRecursion, Contains, IsDistinct}
use Rattle.kl_value.specs.declared.Value.{Value}
use Rattle.kl_type.specs.Ground.{Ground}
use Rattle.kl_outcome.specs.Outcome.{done}
use Rattle.kl_outcome.specs.Typed.{Inhabits, HaveTypes}
use Rattle.kl_ask.specs.World.{IsReady}
use Rattle.kl_plan.specs.Meaning.{plan, worth}
use Rattle.kl_plan.specs.Nodes.{Node}
use Rattle.kl_plan.specs.Occurs.{frees_in}
use Rattle.kl_plan.specs.Subqueries.{Subquery, Memo, values_at}
use Rattle.kl_plan.specs.Typing.{PlanTypes}
use Rattle.kl_scans.specs.Running.{Running, session}
use Rattle.kl_scans.specs.Stage.{Stage, stage, readings, ScanOf, MemoOf, IsTold}

-- Wherever the free positions of a part have these values, this value has each type of the part, and where contents are told it is
-- the part's.
pub record IsRight (t : Stage) (frees : List ℕ) (p : Node) (values : List Value) (v : Value) : Type 0 where
  pub typed : (G : List Ground) (env : List Value) (s : Ground) → HaveTypes G env → PlanTypes (ScanOf t) (MemoOf t) G p s
      → frees ≡ frees_in (length G) p → values_at env frees ≡ values → Inhabits s v
  pub value : (G : List Ground) (env : List Value) (s : Ground) → HaveTypes G env → PlanTypes (ScanOf t) (MemoOf t) G p s
      → frees ≡ frees_in (length G) p → values_at env frees ≡ values → IsTold t → worth (plan (readings t) p env) ≡ done v

-- a value is right for each memo of the plan under whose number it is kept
abbrev pub IsRightFor : Stage → Subquery → Value → Type 0
IsRightFor t key v = (frees : List ℕ) (p : Node) → MemoOf t key.0 frees p → IsRight t frees p key.1 v

-- all that is kept is right
abbrev pub AreRight : Stage → List (Subquery × Value) → Type 0
AreRight t kept = AllByRecursion (λ e. IsRightFor t e.0 e.1) kept

-- A plan can be run: over a session that is ready, with blocks that hold a row, memos whose numbers differ, room for a value where there
-- is a memo, and right values that are kept.
pub record IsReadyRun (w : Running) : Type 0 where
  pub session : IsReady (session w)
  pub block : 0 < w.settings.block
  pub numbers : IsDistinct nat_eq (map (λ m. m.0) w.memos)
  pub room : (m : Memo) → Contains w.memos m → 0 < w.room
  pub right : AreRight (stage w) w.kept
