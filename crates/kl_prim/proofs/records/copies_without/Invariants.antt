use Rattle.std.proofs.Common.{◌≡◌, take}
use Rattle.kl_prim.specs.Records.{is_label_of, without}
use Rattle.kl_prim.proofs.records.copies_without.Given as goal

abbrev pub invariant-loop-field : goal.invariant-loop-field
invariant-loop-field l = l.kept.items ≡ without (is_label_of l.gone) (take l.field-index l.fields)
