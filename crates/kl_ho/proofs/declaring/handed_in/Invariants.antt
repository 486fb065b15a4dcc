use Rattle.std.proofs.Common.{◌≡◌, ◌++◌, drop}
use Rattle.kl_syntax.specs.View.{patterns_view}
use Rattle.kl_ho.specs.HoPrograms.{handed_in}
use Rattle.kl_ho.proofs.declaring.handed_in.Given as goal

abbrev pub invariant-loop-field : goal.invariant-loop-field
invariant-loop-field l = l.handed.items ++ handed_in l.labels (patterns_view (drop l.field-index l.fields)) ≡ handed_in l.labels (patterns_view l.fields)
