-- What runs of plans see of a session, and of what is kept beside it.
use Rattle.std.specs.Prelude.{ℕ, List, []}
use Rattle.kl_value.specs.declared.Value.{Value}
use Rattle.kl_ask.specs.Driver.{State}
use Rattle.kl_ask.specs.World.{World}
use Rattle.kl_ask.specs.declared.session.Attached.{Attached}
use Rattle.kl_ask.specs.declared.settings.Settings.{Settings}
use Rattle.kl_ask.specs.declared.settings.Trace.{Trace}
use Rattle.kl_plan.specs.Subqueries.{Subquery, Memo}

pub record Running : Type 0 where
  pub drivers : List State
  pub sources : List Attached
  pub settings : Settings
  pub trace : Trace
  -- the memos of the plan that is run
  pub memos : List Memo
  -- the values of subqueries that are kept, the one that was used last first, and how many may be
  pub kept : List (Subquery × Value)
  pub room : ℕ

-- the session alone
abbrev pub session : Running → World
session w = record { drivers = w.drivers; sources = w.sources; settings = w.settings; trace = w.trace }

-- a session beside which nothing is kept
abbrev pub alone : World → Running
alone w = record { drivers = w.drivers; sources = w.sources; settings = w.settings; trace = w.trace; memos = []; kept = []; room = 0 }
