-- A source of integers, and a scan of it that is being read in a run.
use Rattle.std.specs.Prelude.{◌≡◌, ◌<◌, ℕ, List, Some}
use Rattle.std.specs.List.{AllByRecursion}
use Rattle.kl_value.specs.declared.Value.{Value}
use Rattle.kl_type.specs.Ground.{int}
use Rattle.kl_type.specs.declared.Ty.{Ty}
use Rattle.kl_outcome.specs.Outcome.{Name}
use Rattle.kl_outcome.specs.Typed.{Inhabits}
use Rattle.kl_ask.specs.Driver.{State, Source}
use Rattle.kl_plan.specs.declared.plan.Scan.{Scan}
use Rattle.kl_scans.specs.Held.{Owned, one_at}
use Rattle.kl_scans.specs.Running.{Running}
use Rattle.kl_scans.specs.Scans.{CanScan, IsOpen}

-- its cursor is open and its own, and rows can be pulled
pub record IsReading (w : Running) (c : Scan) (k : ℕ) : Type 0 where
  pub can : CanScan w c
  pub is_open : IsOpen w c k
  pub owned : Owned (one_at c.driver k) w
  pub room : 0 < w.settings.fetch

-- a driver has a list of integers attached under a name
abbrev pub HoldsNumbers : State → Name → Ty → Type 0
HoldsNumbers d name ty = (s : Source) × (d.attached name ≡ Some s) × (s.ty ≡ ty)
    × ((rows : List Value) → s.rows ≡ Some rows → AllByRecursion (Inhabits int) rows)
