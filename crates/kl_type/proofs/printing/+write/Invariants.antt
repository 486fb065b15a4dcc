use Rattle.std.proofs.Common.{◌≡◌, ◌++◌, drop, map}
use Rattle.kl_value.specs.Written.{with_commas}
use Rattle.kl_type.specs.Written.{field_text}
use Rattle.kl_type.proofs.WrittenLemmas.{rest_text}
use Rattle.kl_type.proofs.printing.+write.Given as goal

abbrev pub invariant-write_fields-fields : goal.invariant-write_fields-fields
invariant-write_fields-fields l = l.out.items ++ rest_text l.i (drop l.i l.fields) ≡ l.fn.out.items ++ with_commas (map field_text l.fields)
