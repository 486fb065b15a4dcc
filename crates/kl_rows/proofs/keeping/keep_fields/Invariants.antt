use Rattle.kl_rows.proofs.Kept.{FieldsTo}
use Rattle.kl_rows.proofs.keeping.keep_fields.Given as goal

abbrev pub invariant-fields : goal.invariant-fields
invariant-fields l = FieldsTo l.any l.fields l.field-index l.initial.kept.items l.kept.items
