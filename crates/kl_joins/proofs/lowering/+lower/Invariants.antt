use Rattle.std.proofs.Common.{◌≡◌, ◌-◌, ◌^◌, ℕ, min, take}
use Rattle.kl_joins.proofs.Lowerings.{Lowers, LowersUnder}
use Rattle.kl_joins.proofs.Pairing.{Paired}
use Rattle.kl_joins.proofs.lowering.+lower.Given as goal

abbrev pub invariant-lower_all-plans : goal.invariant-lower_all-plans
invariant-lower_all-plans l = record { unvisited : goal.unvisited-lower_all-plans l; walked : (n : ℕ) → min n (2 ^ 64 - 1) ≡ l.at → Paired (Lowers n) (take l.i l.initial.plans) (take l.i l.plans) }

abbrev pub invariant-lower_labelled-parts : goal.invariant-lower_labelled-parts
invariant-lower_labelled-parts l = record { unvisited : goal.unvisited-lower_labelled-parts l; walked : (n : ℕ) → min n (2 ^ 64 - 1) ≡ l.at → Paired (LowersUnder n) (take l.i l.initial.parts) (take l.i l.parts) }
