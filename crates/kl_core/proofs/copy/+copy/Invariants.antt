use Rattle.std.proofs.Common.{◌≡◌, take}
use Rattle.kl_core.proofs.copy.+copy.Given as goal

abbrev pub invariant-copy_fields-loop-field : goal.invariant-copy_fields-loop-field
invariant-copy_fields-loop-field l = l.copies.items ≡ take l.field-index l.fields

abbrev pub invariant-copy_all-loop-term : goal.invariant-copy_all-loop-term
invariant-copy_all-loop-term l = l.copies.items ≡ take l.term-index l.terms
