-- Terms in which variables stand anywhere, and no source does.
use Rattle.std.specs.Prelude.{ℕ, ⊤}
use Rattle.kl_core.specs.Leaves.{Leaves, LeavesOfTrees, LeavesOfParts, LeavesOfArms}
use Rattle.kl_core.specs.Trees.{Tree, Trees, Parts, Arms}

abbrev pub Anywhere : ℕ → Type 0
Anywhere x = ⊤

abbrev pub Nowhere : ℕ → Type 0
Nowhere i = ⊥

abbrev pub NoSource : Tree → Type 0
NoSource = Leaves Anywhere Nowhere

abbrev pub NoSourceInTrees : Trees → Type 0
NoSourceInTrees = LeavesOfTrees Anywhere Nowhere

abbrev pub NoSourceInParts : Parts → Type 0
NoSourceInParts = LeavesOfParts Anywhere Nowhere

abbrev pub NoSourceInArms : Arms → Type 0
NoSourceInArms = LeavesOfArms Anywhere Nowhere
