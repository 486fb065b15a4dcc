use Rattle.std.proofs.Common.{◌≡◌, take}
use Rattle.kl_rows.proofs.schemes.dup_parts.Given as goal

abbrev pub invariant-loop-part : goal.invariant-loop-part
invariant-loop-part l = l.copies.items ≡ take l.part-index l.parts
