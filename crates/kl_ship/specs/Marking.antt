-- Labels that are marked.
use Rattle.std.specs.Prelude.{◌≡◌, ℕ, Bool, ◌||◌, List, nat_eq}
use Rattle.std.specs.Cmp.Lexicographic.{pointwise}
use Rattle.std.specs.HashSet.{HashSet, contains}
use Rattle.std.specs.declared.hash.FoldHasher.{FoldHasher}
use Rattle.std.specs.declared.hash.BuildHasherDefault.{BuildHasherDefault}
use Rattle.kl_outcome.specs.Outcome.{Name}

-- a set of labels
abbrev pub Labels : Type 0
Labels = HashSet (List ℕ) (BuildHasherDefault FoldHasher)

abbrev pub has : Labels → Name → Bool
has ls l = contains (pointwise nat_eq) ls l

-- the second set has the labels of the first, and those that are used
abbrev pub Marks : (Name → Bool) → Labels → Labels → Type 0
Marks used before after = (l : Name) → has after l ≡ (has before l || used l)
