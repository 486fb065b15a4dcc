use Rattle.std.proofs.Common.{◌≡◌, ◌++◌, drop}
use Rattle.kl_rows.specs.Copying.{number_in, renamed_fields}
use Rattle.kl_rows.proofs.copying.renamed_fields.Given as goal

abbrev pub invariant-loop-field : goal.invariant-loop-field
invariant-loop-field l = l.more.items ++ renamed_fields (number_in l.numbers) (drop l.field-index l.fields) ≡ renamed_fields (number_in l.numbers) l.fields
