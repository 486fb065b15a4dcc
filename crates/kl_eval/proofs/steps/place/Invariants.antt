use Rattle.std.proofs.Common.{◌≡◌, ◌+◌, drop}
use Rattle.std.specs.Option.{option_map}
use Rattle.kl_eval.specs.Steps.{place_of}
use Rattle.kl_eval.proofs.steps.place.Given as goal

abbrev pub invariant-branches : goal.invariant-branches
invariant-branches g l = place_of l.label l.branches ≡ option_map (λ k. l.i + k) (place_of l.label (drop l.i l.branches))
