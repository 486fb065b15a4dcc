-- What an ask keeps and tests, and where what it keeps stands in a row.
use Rattle.std.specs.Prelude.{ℕ, suc, List, [], ◌∷◌, cond}
use Rattle.kl_outcome.specs.Outcome.{Name}
use Rattle.kl_ask.specs.Asks.{is_kept}
use Rattle.kl_ask.specs.declared.ask.Ask.{Ask}
use Rattle.kl_ask.specs.declared.ask.Ask.TheVariants as asks
use Rattle.kl_ask.specs.declared.ask.ColTest.{ColTest}

abbrev pub keep_of : Ask → List Name
keep_of (asks.Rows source keep tests) = keep
keep_of (asks.Sql text) = []

abbrev pub tests_of : Ask → List ColTest
tests_of (asks.Rows source keep tests) = tests
tests_of (asks.Sql text) = []

-- the places of the labels that are kept, where the first of all stands at n
abbrev pub kept_places : List Name → ℕ → List Name → List ℕ
kept_places keep n [] = []
kept_places keep n (l ∷ ls) = cond (is_kept keep l) (n ∷ kept_places keep (suc n) ls) (kept_places keep (suc n) ls)
