-- To which term that of a program is rewritten.
use Rattle.std.specs.Prelude.{◌≡◌, ◌⊎◌, ◌≤◌, ℕ, Bool, true, false, List}
use Rattle.kl_outcome.specs.Outcome.{Name}
use Rattle.kl_syntax.specs.declared.tree.Program.{Program}
use Rattle.kl_core.specs.Trees.{Tree}
use Rattle.kl_rewrite.specs.Steps.{IsNormal, Steps}
use Rattle.kl_desugar.specs.Translation.{term_of}
use Rattle.kl_engine.specs.Reading.{definitions, last}

-- A term is rewritten to another in so many steps, and to a normal one, or in as many steps as are made; or it stays as it is.
abbrev pub IsRewrittenTo : Bool → Tree → ℕ → Tree → Type 0
IsRewrittenTo true t steps u = Steps steps t u × (steps ≤ 65536) × (IsNormal u ⊎ (steps ≡ 65536))
IsRewrittenTo false t steps u = (u ≡ t) × (steps ≡ 0)

-- the term of a program over sources of these names
abbrev pub term_in : List Name → Program → Tree
term_in names p = term_of (definitions names p) (last names p) names
