-- What the drivers of a session have attached, and which of their cursors are open.
use Rattle.std.specs.Prelude.{◌≤◌, ℕ, ◌+◌, ◌&&◌, cond, nat_eq, Option, Some, None, slice_get}
use Rattle.kl_outcome.specs.Outcome.{Name}
use Rattle.kl_ask.specs.Driver.{State, Source, Cursor}
use Rattle.kl_scans.specs.Running.{Running}
use Rattle.kl_ask.specs.declared.ask.Abilities.{Abilities}

-- what a driver can do and has attached
pub record Held : Type 0 where
  pub abilities : Abilities
  pub attached : Name → Option Source

abbrev pub held_in : Option State → Option Held
held_in (Some s) = Some (record { abilities = s.kind.abilities; attached = s.attached })
held_in None = None

unfoldable pub held_at : Running → ℕ → Option Held
held_at w d = held_in (slice_get w.drivers d)

abbrev pub cursor_in : Option State → ℕ → Option Cursor
cursor_in (Some s) k = s.cursors k
cursor_in None k = None

unfoldable pub cursor_at : Running → ℕ → ℕ → Option Cursor
cursor_at w d k = cursor_in (slice_get w.drivers d) k

abbrev pub count_open : Option Cursor → ℕ
count_open None = 0
count_open (Some c) = 1

-- 1 where a cursor of a driver is open, and 0 where not
abbrev pub open_at : Running → ℕ → ℕ → ℕ
open_at w d k = count_open (cursor_at w d k)

-- how often each cursor of each driver stands in something
abbrev pub Uses : Type 0
Uses = ℕ → ℕ → ℕ

abbrev pub nothing : Uses
nothing d k = 0

abbrev pub one_at : ℕ → ℕ → Uses
one_at d k e l = cond (nat_eq e d && nat_eq l k) 1 0

abbrev pub beside : Uses → Uses → Uses
beside u v d k = u d k + v d k

-- each stands there once at most, and is open
pub record Owned (u : Uses) (w : Running) : Type 0 where
  pub each : (d k : ℕ) → u d k ≤ open_at w d k
