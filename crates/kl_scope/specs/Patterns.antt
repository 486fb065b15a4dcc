-- The parts of a pattern.
use Rattle.std.specs.Prelude.{ℕ, ◌-◌, List, [], ◌∷◌, ◌++◌}
use Rattle.kl_syntax.specs.declared.tree.Tail.{Tail}
use Rattle.kl_syntax.specs.declared.tree.Tail.TheVariants as tail
use Rattle.kl_syntax.specs.declared.tree.Word.{Word}
use Rattle.kl_syntax.specs.Syntax.{Pat, catch, any, same, is, shape, variant, Pats, no_pats, pats}
use Rattle.kl_scope.specs.Senses.{Scope, all_bound}

-- the variable of the rest of a record
abbrev pub rest_variable : Tail → List Word
rest_variable (tail.Rest w) = w ∷ []
rest_variable _ = []

abbrev mutual
  -- its variables, as they are written
  pub variables : Pat → List Word
  variables (catch w) = w ∷ []
  variables any = []
  variables (same w) = []
  variables (is v n) = []
  variables (shape ps end) = variables_all ps ++ rest_variable end
  variables (variant l p) = variables p

  pub variables_all : Pats → List Word
  variables_all no_pats = []
  variables_all (pats l p ps) = variables p ++ variables_all ps

abbrev mutual
  -- the first tokens of its constants, bare names and variant patterns, each of which may fail to match; the label of a
  -- variant pattern stands behind its `<`
  pub tests : Pat → List ℕ
  tests (catch w) = []
  tests any = []
  tests (same w) = w.token ∷ []
  tests (is v n) = n ∷ []
  tests (shape ps end) = tests_all ps
  tests (variant l p) = (l.token - 1) ∷ tests p

  pub tests_all : Pats → List ℕ
  tests_all no_pats = []
  tests_all (pats l p ps) = tests p ++ tests_all ps

-- the labels of a record pattern
abbrev pub pattern_labels : Pats → List Word
pattern_labels no_pats = []
pattern_labels (pats l p ps) = l ∷ pattern_labels ps

-- the scope in which the pattern's variables can be seen
abbrev pub within : Pat → Scope → Scope
within p s = all_bound s (variables p)
