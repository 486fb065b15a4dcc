-- Whether there is one or more.
use Rattle.std.specs.Prelude.{Bool, true, false, List, [], ◌∷◌}

abbrev pub some : {X : Type 0} → List X → Bool
some [] = false
some (x ∷ xs) = true
