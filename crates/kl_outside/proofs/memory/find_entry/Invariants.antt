use Rattle.std.proofs.Common.{◌≡◌, drop}
use Rattle.kl_outside.specs.Entries.{bytes_of}
use Rattle.kl_outside.proofs.memory.find_entry.Given as goal

abbrev pub invariant-loop-i : goal.invariant-loop-i
invariant-loop-i l = bytes_of l.entries l.path ≡ bytes_of (drop l.i l.entries) l.path
