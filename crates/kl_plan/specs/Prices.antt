-- What is counted of plans: each thing to which a plan comes has a price, and counts are sums of prices.
use Rattle.std.specs.Prelude.{ℕ, ◌+◌, ◌*◌, min, List}
use Rattle.std.specs.Int.{div_ceil}
use Rattle.kl_value.specs.declared.Value.{Value}
use Rattle.kl_ask.specs.declared.settings.JoinHow.{JoinHow}
use Rattle.kl_ask.specs.declared.settings.JoinHow.TheVariants as how
use Rattle.kl_plan.specs.declared.plan.Scan.{Scan}

pub record Prices : Type 0 where
  -- a start of a scan
  pub scan : Scan → ℕ
  -- an execution of a join, by its number, its way and how many of its outer rows pass
  pub join : ℕ → JoinHow → ℕ → ℕ
  -- a look-up of a memo, by its number and the values of its key
  pub memo : ℕ → List Value → ℕ

-- how often a join of so many outer rows starts its inner scan, where a block has so many rows: once for each block that is not
-- empty, or with an index once where there is any row
abbrev pub inner_starts : ℕ → JoinHow → ℕ → ℕ
inner_starts block how.Block outer = div_ceil outer block
inner_starts block how.Index outer = min 1 outer

-- an execution of a join with the starts of its inner scan
abbrev pub executed : ℕ → Prices → ℕ → JoinHow → Scan → ℕ → ℕ
executed block P n way i outer = P.join n way outer + inner_starts block way outer * P.scan i

-- prices of starts and of joins alone
abbrev pub prices : (Scan → ℕ) → (ℕ → JoinHow → ℕ → ℕ) → Prices
prices scan join = record { scan = scan; join = join; memo = λ n vs. 0 }

-- a price of look-ups alone, by their keys
abbrev pub at_keys : (ℕ × List Value → ℕ) → Prices
at_keys w = record { scan = λ c. 0; join = λ n way outer. 0; memo = λ n vs. w (n, vs) }
