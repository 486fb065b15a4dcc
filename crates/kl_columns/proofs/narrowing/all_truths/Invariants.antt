use Rattle.std.proofs.Common.{◌≡◌, true, map}
use Rattle.std.specs.List.{list_all, range_with_len}
use Rattle.kl_flat.specs.Held.{text_at}
use Rattle.kl_type.specs.declared.ground.Ty.TheVariants as ty
use Rattle.kl_columns.specs.Narrowing.{reads_as}
use Rattle.kl_columns.proofs.narrowing.all_truths.Given as goal

abbrev pub invariant-loop-at : goal.invariant-loop-at
invariant-loop-at l = list_all (reads_as ty.Bool) (map (text_at l.texts) (range_with_len 0 l.at)) ≡ true
