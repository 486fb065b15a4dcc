use Rattle.std.proofs.Common.{◌≡◌, drop}
use Rattle.kl_syntax.specs.View.{fields_view}
use Rattle.kl_ho.specs.Highers.{bare_at}
use Rattle.kl_ho.proofs.expanding.bare_at.Given as goal

abbrev pub invariant-loop-field : goal.invariant-loop-field
invariant-loop-field l = bare_at l.label (fields_view (drop l.field-index l.fields)) ≡ bare_at l.label (fields_view l.fields)
