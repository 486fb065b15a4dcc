use Rattle.std.proofs.Common.{rules, arith}
use Rattle.kl_outside.proofs.Places.{found_at}
use Rattle.kl_outside.proofs.memory.find_entry.Goals as goal

pub returns-then-eq : goal.returns-then-eq
returns-then-eq c = found_at c.args.entries.now c.args.path.now c.loop-i.i c.index-entries-i.result (omega (arith, c.loop-i-test.true)) c.index-entries-i.is (search rules) c.loop-i.invariant
