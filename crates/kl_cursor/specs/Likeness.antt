-- Drawings that differ in order alone, and of a list not at all.
use Rattle.std.specs.Prelude.{◌≡◌}
use Rattle.kl_value.specs.declared.Kind.{Kind}
use Rattle.kl_value.specs.declared.Kind.TheVariants as kind
use Rattle.kl_outcome.specs.Outcome.{Flow}
use Rattle.kl_plan.specs.Alike.{IsAlike}

-- Repeats count in a set as well: what is drawn of it as it comes has some, and each is a turn of a loop.
abbrev pub Same : Kind → Flow → Flow → Type 0
Same kind.List f g = g ≡ f
Same _ f g = IsAlike (λ n. n) f g
