-- What the words ask for.
use Rattle.std.specs.Prelude.{ℕ, List, [], ◌∷◌, Option, Some, None}
use Rattle.kl_why.specs.declared.words.Paths.{Paths}

-- a path, or two
abbrev pub paths_of : List (List ℕ) → Option Paths
paths_of [] = None
paths_of (program ∷ []) = Some (record { program = program; catalogue = None })
paths_of (program ∷ catalogue ∷ []) = Some (record { program = program; catalogue = Some catalogue })
paths_of (program ∷ catalogue ∷ other ∷ more) = None
