use Rattle.std.proofs.Common.{◌≡◌, take}
use Rattle.kl_columns.specs.Headers.{text_columns}
use Rattle.kl_columns.proofs.columns.of_texts.Given as goal

abbrev pub invariant-loop-label : goal.invariant-loop-label
invariant-loop-label l = l.fields.items ≡ text_columns (take l.label-index l.label-items)
