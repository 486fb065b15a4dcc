-- How often each ask was asked, and how many sources could not be read.
use Rattle.std.specs.Prelude.{ℕ, ◌+◌, ◌-◌, ◌^◌, min, Bool, List, [], ◌∷◌, cond}
use Rattle.kl_ask.specs.contracts.ask.AskPartialEq.TheImpl as equality
use Rattle.kl_ask.specs.declared.ask.Ask.{Ask}
use Rattle.kl_ask.specs.declared.ask.DriverError.{DriverError}
use Rattle.kl_ask.specs.declared.ask.DriverError.TheVariants as error

-- Asks that are counted together, by `==`. The contract of `ask_laws` says that these are the equal ones.
abbrev pub same_ask : Ask → Ask → Bool
same_ask a b = equality.ghosts.eq a b

-- A count that is kept in 64 bits stands still at its greatest value.
abbrev pub raised_by : ℕ → ℕ → ℕ
raised_by n count = min (count + n) (2 ^ 64 - 1)

-- the count of unreadable sources after a refusal
abbrev pub unread_by : DriverError → ℕ → ℕ
unread_by (error.BadSource place) unread = raised_by 1 unread
unread_by (error.TooLong most) unread = raised_by 1 unread
unread_by (error.TooDeep place) unread = raised_by 1 unread
unread_by _ unread = unread

-- the kept list with one time more for this ask
abbrev pub with_ask : Ask → List (Ask × ℕ) → List (Ask × ℕ)
with_ask ask [] = (ask, 1) ∷ []
with_ask ask (kept ∷ asked) = cond (same_ask kept.0 ask) ((kept.0, raised_by 1 kept.1) ∷ asked) (kept ∷ with_ask ask asked)

-- the sum of the times
abbrev pub all_times : List (Ask × ℕ) → ℕ
all_times [] = 0
all_times (kept ∷ asked) = kept.1 + all_times asked
