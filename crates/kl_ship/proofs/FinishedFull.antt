-- No work is left in a finished plan, if none was in the plan of scans.
use Rattle.std.proofs.Common.{◌≡◌, ℕ, zero, suc, true, List, Some, slice_get, sym, subst}
use Rattle.kl_type.specs.Ground.{IsGround}
use Rattle.kl_core.specs.Trees.{Tree}
use Rattle.kl_ask.specs.declared.settings.JoinHow.{JoinHow}
use Rattle.kl_ask.specs.declared.settings.Settings.{Settings}
use Rattle.kl_plan.specs.Nodes.{Node}
use Rattle.kl_joins.specs.Bare.{Bare}
use Rattle.kl_joins.specs.declared.keeping.Place.TheVariants as place
use Rattle.kl_joins.specs.Finished.{AreKept, Finishes}
use Rattle.kl_ship.specs.declared.needs.Need.TheVariants as need
use Rattle.kl_ship.specs.declared.source.ShipSource.{ShipSource}
use Rattle.kl_ship.specs.Contents.{AreSources}
use Rattle.kl_ship.specs.Ships.{Sends}
use Rattle.kl_ship.specs.Sources.{ground}
use Rattle.kl_ship.specs.Full.{FullyShipped}
use Rattle.kl_ship.specs.Whole.{Ships}
use Rattle.kl_ship.proofs.Bare.{sent_bare}
use Rattle.kl_ship.proofs.FullLaw.{ships_full}
use Rattle.kl_ship.proofs.JoinsFull.{joins_full}
use Rattle.kl_ship.proofs.MemosFull.{memos_full}
use Rattle.kl_ship.proofs.NumbersFull.{same_full}

kept_full : (ss : List ShipSource) (cache : ℕ) (q r : Node) → AreKept cache q r → FullyShipped ss q → FullyShipped ss r
kept_full ss zero q r k h = subst (FullyShipped ss) (sym k) h
kept_full ss (suc n) q r k h = memos_full ss r q place.Outside 0 k h

pub finished_full : (ss : List ShipSource) (how : JoinHow) (cache : ℕ) (sent p : Node) → FullyShipped ss sent → Finishes how cache sent p
    → Bare sent
    → FullyShipped ss p
finished_full ss how cache sent p h w bare =
    same_full ss p w.kept w.same (kept_full ss cache w.joined w.kept w.memos (joins_full ss how w.joined sent w.joins bare h))

-- what is shipped with delegation is fully shipped
pub shipped_full : (how : Settings) (ss : List ShipSource) (t : Tree) (p : Node) → AreSources ss
    → ((i : ℕ) (s : ShipSource) → slice_get ss i ≡ Some s → IsGround (ground s)) → how.delegate ≡ true → Ships how ss t p
    → FullyShipped ss p
shipped_full how ss t p sources good on w =
    finished_full ss how.join how.cache w.sent p
    (ships_full ss sources good t w.sent (subst (λ b. Sends b ss t w.sent) on w.sends)) w.finishes
    (sent_bare how.delegate ss w.sent need.Items t 0 w.sends.0 w.sends.1)
