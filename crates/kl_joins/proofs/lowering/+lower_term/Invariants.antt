use Rattle.std.proofs.Common.{◌≡◌, ◌-◌, ◌^◌, ℕ, min, take}
use Rattle.kl_joins.proofs.Lowerings.{LowersTerm, LowersPart}
use Rattle.kl_joins.proofs.Pairing.{Paired}
use Rattle.kl_joins.proofs.lowering.+lower_term.Given as goal

abbrev pub invariant-lower_terms-terms : goal.invariant-lower_terms-terms
invariant-lower_terms-terms l = record { unvisited : goal.unvisited-lower_terms-terms l; walked : (n : ℕ) → min n (2 ^ 64 - 1) ≡ l.at → Paired (LowersTerm n) (take l.i l.initial.terms) (take l.i l.terms) }

abbrev pub invariant-lower_parts-parts : goal.invariant-lower_parts-parts
invariant-lower_parts-parts l = record { unvisited : goal.unvisited-lower_parts-parts l; walked : (n : ℕ) → min n (2 ^ 64 - 1) ≡ l.at → Paired (LowersPart n) (take l.i l.initial.parts) (take l.i l.parts) }
