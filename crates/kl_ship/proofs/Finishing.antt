-- What holds of a plan that is shipped, by what was sent and how it was finished.
use Rattle.std.proofs.Common.{◌≡◌, ℕ, ◌≤◌, ◌<◌, ◌^◌, true, List, [], length, Result, Ok, Err, IfOk, arith}
use Rattle.std.specs.List.{AllByRecursion}
use Rattle.kl_base.specs.declared.NoMemory.{NoMemory}
use Rattle.kl_type.specs.Ground.{IsGround}
use Rattle.kl_core.specs.Trees.{Tree}
use Rattle.kl_ask.specs.declared.settings.JoinHow.{JoinHow}
use Rattle.kl_ask.specs.declared.settings.Settings.{Settings}
use Rattle.kl_plan.specs.declared.plan.Plan.{Plan}
use Rattle.kl_plan.specs.Nodes.{Node, view}
use Rattle.kl_plan.specs.Numbers.{scans_in, joins_in, memos_in, NumbersDiffer}
use Rattle.kl_joins.specs.Bare.{Bare}
use Rattle.kl_joins.specs.Finished.{AreKept, Finishes}
use Rattle.kl_joins.specs.JoinsMade.{JoinsMade}
use Rattle.kl_joins.proofs.Amounts.{joined_bare, joined_scans, scans_kept, joins_amount, memos_amount}
use Rattle.kl_ship.specs.declared.needs.Need.TheVariants as need
use Rattle.kl_ship.specs.declared.source.ShipSource.{ShipSource}
use Rattle.kl_ship.specs.Contents.{AreSources}
use Rattle.kl_ship.specs.Full.{FullyShipped}
use Rattle.kl_ship.specs.Sense.{KeepsTypes}
use Rattle.kl_ship.specs.Ships.{Becomes}
use Rattle.kl_ship.specs.Sources.{ground}
use Rattle.kl_ship.specs.Whole.{Ships}
use Rattle.kl_ship.proofs.Behind.{one_of}
use Rattle.kl_ship.proofs.FinishedFull.{shipped_full}
use Rattle.kl_ship.proofs.Numbering.{numbered_differ}
use Rattle.kl_ship.proofs.Whole.{shipped_sense}

module _ (how : Settings) (ss : List ShipSource) (t : Tree) (sent : Node) (m : ℕ) (w : Becomes how.delegate ss need.Items t 0 sent m) where
  ships : (p : Node) → Finishes how.join how.cache sent p → Ships how ss t p
  ships p h = record { sent = sent; sends = (m, w); finishes = h }

  pub sense_if : AreSources ss → (r : Result Plan NoMemory) → IfOk r (λ p. Finishes how.join how.cache sent (view p))
      → IfOk r (λ p. KeepsTypes ss t (view p))
  sense_if fit (Ok p) h = shipped_sense how ss t (view p) (ships (view p) h) fit
  sense_if fit (Err e) h = tt

  pub numbers_if : (r : Result Plan NoMemory) → IfOk r (λ p. Finishes how.join how.cache sent (view p)) → IfOk r (λ p. NumbersDiffer (view p))
  numbers_if (Ok p) h = numbered_differ (view p) h.numbered
  numbers_if (Err e) h = tt

  pub full_if : AreSources ss → AllByRecursion (λ s. IsGround (ground s)) ss → how.delegate ≡ true → (r : Result Plan NoMemory)
      → IfOk r (λ p. Finishes how.join how.cache sent (view p)) → IfOk r (λ p. FullyShipped ss (view p))
  full_if fit proper on (Ok p) h =
      shipped_full how ss t (view p) fit (λ i s at. one_of (λ y. IsGround (ground y)) ss i s proper at) on (ships (view p) h)
  full_if fit proper on (Err e) h = tt

-- ---- there are numbers enough

module _ (how : JoinHow) (sent joined : Node) (bare : Bare sent) (joins : JoinsMade how sent joined) where
  pub ready : memos_in joined ≡ []
  ready = joined_bare how sent joined joins bare.1

  module _ (few : length (scans_in sent) ≤ 16384) (cache : ℕ) (kept : Node) (keeps : AreKept cache joined kept) where
    most : length (scans_in kept) ≤ 16384
    most =
        let before = joined_scans how sent joined joins in
        let same = scans_kept cache joined kept keeps in
        omega (arith, few, before, same)

    pub room_for_scans : length (scans_in kept) < 2 ^ 32
    room_for_scans = let m = most in omega (arith, m)

    pub room_for_joins : length (joins_in kept) < 2 ^ 32
    room_for_joins = let m = most in let h = joins_amount kept in omega (arith, m, h)

    pub room_for_memos : length (memos_in kept) < 2 ^ 32
    room_for_memos = let m = most in let h = memos_amount cache joined kept keeps ready in omega (arith, m, h)
