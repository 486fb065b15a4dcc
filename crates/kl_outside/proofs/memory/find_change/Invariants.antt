use Rattle.std.proofs.Common.{◌≡◌, Option, List, ℕ, drop}
use Rattle.kl_outside.specs.Changes.{bytes_by}
use Rattle.kl_outside.proofs.Places.{found_bytes}
use Rattle.kl_outside.proofs.memory.find_change.Given as goal

abbrev pub invariant-loop-i : goal.invariant-loop-i
invariant-loop-i l = (first : Option (List ℕ)) → bytes_by l.changes l.path first ≡ bytes_by (drop l.i l.changes) l.path (found_bytes l.changes l.found first)
