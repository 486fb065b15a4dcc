-- Scans that are read in a session of their source.
use Rattle.std.proofs.Common.{◌<◌, ℕ, Bool, true, false, List, Ok, sym, ap, ◌∙◌, subst, arith}
use Rattle.std.proofs.lemmas.Option.{same_Some}
use Rattle.kl_value.specs.declared.Value.{Value}
use Rattle.kl_scans.specs.Running.{Running}
use Rattle.kl_plan.specs.declared.plan.Scan.{Scan}
use Rattle.kl_scans.specs.Held.{Uses, nothing, one_at, Owned}
use Rattle.kl_scans.specs.Moves.{Moves}
use Rattle.kl_scans.specs.Scans.{CanScan, Started, Pulls}
use Rattle.kl_scans.specs.Stage.{ScanOf}
use Rattle.kl_scans.proofs.Moving.{owned_after, stage_stays}
use Rattle.calls_plans.specs.Reading.{IsReading}

pub owned_nothing : (w : Running) → Owned nothing w
owned_nothing w = record { each = λ d k. omega arith }

module _ (c : Scan) (k : ℕ) (a b : Running) where
  can_stay : (u v : Uses) → Moves u v a b → CanScan a c → CanScan b c
  can_stay u v m can = (can.0, subst (λ h. ScanOf h c can.0) (sym (stage_stays u v a b m)) can.1)

  room_stays : (u v : Uses) → Moves u v a b → 0 < a.settings.fetch → 0 < b.settings.fetch
  room_stays u v m room = subst (λ s. 0 < s.fetch) (sym m.settings) room

  pub reading_started : CanScan a c → 0 < a.settings.fetch → Started c k a b → IsReading b c k
  reading_started can room s = record {
    can = can_stay nothing (one_at c.driver k) s.moves can;
    is_open = (s.opened, s.now, s.ask);
    owned = owned_after nothing (one_at c.driver k) a b (owned_nothing a) s.moves;
    room = room_stays nothing (one_at c.driver k) s.moves room;
  }

  pub reading_pulled : (into into' : List Value) (more : Bool) → IsReading a c k → Pulls c k into into' (Ok more) a b → IsReading b c k
  reading_pulled into into' true r p = record {
    can = can_stay (one_at c.driver k) (one_at c.driver k) p.moves r.can;
    is_open = (p.then, p.now, p.hands.ask ∙ ap (λ o. o.ask) (same_Some _ _ (sym p.here ∙ r.is_open.1)) ∙ r.is_open.2);
    owned = owned_after (one_at c.driver k) (one_at c.driver k) a b r.owned p.moves;
    room = room_stays (one_at c.driver k) (one_at c.driver k) p.moves r.room;
  }
  reading_pulled into into' false r p = record {
    can = can_stay (one_at c.driver k) (one_at c.driver k) p.moves r.can;
    is_open = (_, p.now, ap (λ o. o.ask) (same_Some _ _ (sym p.here ∙ r.is_open.1)) ∙ r.is_open.2);
    owned = owned_after (one_at c.driver k) (one_at c.driver k) a b r.owned p.moves;
    room = room_stays (one_at c.driver k) (one_at c.driver k) p.moves r.room;
  }
