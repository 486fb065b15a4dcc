-- Counts that rose in one of several calls rose over all of them.
use Rattle.std.proofs.Common.{ℕ, ◌≤◌, arith}
use Rattle.kl_base.specs.Counts.{Rose}

pub rose_after : (a b c : ℕ) → a ≤ b → Rose b c → Rose a c
rose_after a b c later rose = omega (arith, rose, later)
