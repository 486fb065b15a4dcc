-- Rows that were handed, and none.
use Rattle.std.proofs.Common.{◌≡◌, ℕ, ◌+◌, List, [], ◌∷◌, ◌++◌, refl, ap, ◌∙◌, subst, arith}
use mathlib.Core.Path.{ap₂}
use Rattle.std.specs.List.{Contains}
use Rattle.kl_scans.specs.Running.{Running}
use Rattle.kl_plan.specs.declared.plan.Scan.{Scan}
use Rattle.kl_scans.specs.Held.{Uses}
use Rattle.kl_scans.specs.Log as log
use Rattle.kl_scans.specs.Log.{Event, IsOf}
use Rattle.kl_scans.specs.Moves.{Moves}
use Rattle.kl_scans.proofs.Moving.{logged_none, logged_then}
use Rattle.kl_cursor.specs.Laziness.{rows_in, Handed, only_scan, empty_listing}
use Rattle.kl_cursor.specs.Steps.{AreOf}
use Rattle.kl_cursor.proofs.Events.{of_none, of_then}

pub handed_none : (c : Scan) (w : Running) → Handed c 0 w w
handed_none c w = record { settings = refl; events = []; logged = logged_none w; of = tt; sum = refl }

pub rows_then : (es fs : List Event) → rows_in (es ++ fs) ≡ rows_in es + rows_in fs
rows_then [] fs = omega arith
rows_then (log.started c ∷ es) fs = rows_then es fs
rows_then (log.handed c n ∷ es) fs = let h : rows_in (es ++ fs) ≡ rows_in es + rows_in fs = rows_then es fs in omega arith
rows_then (log.joined n way outer starts ∷ es) fs = rows_then es fs
rows_then (log.missed k v ∷ es) fs = rows_then es fs
rows_then (log.hit n frees p env ∷ es) fs = rows_then es fs

pub handed_then : (c : Scan) (m n : ℕ) (a b d : Running) → Handed c m a b → Handed c n b d → Handed c (m + n) a d
handed_then c m n a b d g h = record {
  settings = h.settings ∙ g.settings;
  events = g.events ++ h.events;
  logged = logged_then g.events h.events a b d g.settings g.logged h.logged;
  of = of_then (only_scan c) g.events h.events g.of h.of;
  sum = rows_then g.events h.events ∙ ap₂ (λ x y. x + y) g.sum h.sum;
}

none_there : {X : Type 0} (x : X) → Contains [] x → ⊥
none_there x h = let k = h.1 in omega arith

no_event : (e : Event) → IsOf empty_listing e → ⊥
no_event (log.started c) h = none_there c h
no_event (log.handed c n) h = none_there c h
no_event (log.joined n way outer starts) h = none_there (n, way) h
no_event (log.missed k v) h = none_there (k.0, (h.0, h.1)) h.2
no_event (log.hit n frees p env) h = none_there (n, (frees, p)) h.0

pub no_events : (es : List Event) → AreOf empty_listing es → es ≡ []
no_events [] h = refl
no_events (e ∷ es) h = absurd (no_event e h.0)

-- where no scan stands, nothing is handed
pub handed_still : (c : Scan) (u v : Uses) (a b : Running) (m : Moves u v a b) → AreOf empty_listing m.events → Handed c 0 a b
handed_still c u v a b m h =
    let e = no_events m.events h in
    record { settings = m.settings; events = m.events; logged = m.logged; of = of_none (only_scan c) m.events e; sum = ap rows_in e }

pub of_itself : (c d : Scan) → d ≡ c → Contains (c ∷ []) d
of_itself c d e = subst (λ z. Contains (z ∷ []) d) e (0, omega arith, refl)
