-- Keys in which no primitive may overflow.
use Rattle.std.specs.Prelude.{Bool, true}
use Rattle.kl_core.specs.Counts.{total_in}
use Rattle.kl_plan.specs.Erased.{erased}
use Rattle.kl_plan.specs.Nodes.{Key, no_key, key}

abbrev pub total_key : Key → Bool
total_key no_key = true
total_key (key l v) = total_in (erased v)
