-- What scans leave of a session.
use Rattle.std.specs.Prelude.{◌≡◌, ℕ, ◌+◌, List, []}
use Rattle.kl_ask.specs.Driver.{State, KeepsState}
use Rattle.kl_ask.specs.Lists.{EachSteps}
use Rattle.kl_scans.specs.Running.{Running}
use Rattle.kl_scans.specs.Held.{Uses, nothing, open_at, cursor_at}
use Rattle.kl_scans.specs.Log.{Event, Logged}
use Rattle.kl_scans.specs.Right.{AreRight}
use Rattle.kl_scans.specs.Stage.{stage}

pub record Stays (old new : State) : Type 0 where
  pub keeps : KeepsState old new
  pub attached : new.attached ≡ old.attached

-- Of the cursors of drivers those that were something's own before are closed but for those that are its own after; every
-- other one is as it was; nothing else is attached; what is kept stays right; and what was done is counted.
pub record Moves (before after : Uses) (a b : Running) : Type 0 where
  pub sources : b.sources ≡ a.sources
  pub settings : b.settings ≡ a.settings
  pub drivers : EachSteps Stays a.drivers b.drivers
  pub balance : (d k : ℕ) → open_at b d k + before d k ≡ open_at a d k + after d k
  pub others : (d k : ℕ) → before d k ≡ 0 → open_at a d k ≡ 1 → cursor_at b d k ≡ cursor_at a d k
  pub memos : b.memos ≡ a.memos
  pub right : AreRight (stage a) a.kept → AreRight (stage b) b.kept
  pub events : List Event
  pub logged : Logged events a b

-- these cursors were closed, and nothing else was done
pub record Closes (before : Uses) (a b : Running) : Type 0 where
  pub moves : Moves before nothing a b
  pub none : moves.events ≡ []
