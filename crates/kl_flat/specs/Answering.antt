-- The next answers among rows. No public contract cites this.
use Rattle.std.specs.Prelude.{◌≡◌, ◌⊎◌, ◌≤◌, ℕ, List, ◌++◌, drop, length}
use Rattle.kl_value.specs.declared.Value.{Value}
use Rattle.kl_outcome.specs.Outcome.{Name}
use Rattle.kl_ask.specs.Asks.{answers}
use Rattle.kl_ask.specs.declared.ask.ColTest.{ColTest}

-- the answers among the rows between two places, as many as were asked for, or all that are left
pub record Takes (rows : List Value) (from : ℕ) (keep : List Name) (tests : List ColTest) (limit : ℕ) (taken : List Value)
    (to : ℕ) : Type 0 where
  pub split : answers (drop from rows) keep tests ≡ taken ++ answers (drop to rows) keep tests
  pub most : length taken ≤ limit
  pub all : (length taken ≡ limit) ⊎ (to ≡ length rows)
  pub within : to ≤ length rows

-- a list goes on behind another
abbrev pub Continues : List Value → List Value → Type 0
Continues old new = (more : List Value) × (new ≡ old ++ more)

-- these answers are added at the end of a list
pub record AddsAnswers (rows : List Value) (from : ℕ) (keep : List Name) (tests : List ColTest) (limit : ℕ) (old new : List Value)
    (to : ℕ) : Type 0 where
  pub taken : List Value
  pub grown : new ≡ old ++ taken
  pub takes : Takes rows from keep tests limit taken to
