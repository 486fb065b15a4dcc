-- What of all that was done was spent, what a look-up that hit spared, and what is read off it in order.
use Rattle.std.specs.Prelude.{ℕ, ◌+◌, List, [], ◌∷◌, cond, nat_eq}
use Rattle.kl_ask.specs.declared.settings.JoinHow.{JoinHow}
use Rattle.kl_plan.specs.Meaning.{Readings}
use Rattle.kl_plan.specs.Prices.{Prices}
use Rattle.kl_plan.specs.Reached.{reached}
use Rattle.kl_plan.specs.Subqueries.{Subquery, values_at}
use Rattle.kl_scans.specs.Log.{Event, started, handed, joined, missed, hit}

-- what look-ups that hit spared
abbrev pub spared : Readings → ℕ → Prices → List Event → ℕ
spared R block P [] = 0
spared R block P (started c ∷ es) = spared R block P es
spared R block P (handed c m ∷ es) = spared R block P es
spared R block P (joined n way outer starts ∷ es) = spared R block P es
spared R block P (missed k v ∷ es) = spared R block P es
spared R block P (hit n frees p env ∷ es) = reached R block P p env + spared R block P es

-- what was really started and executed
abbrev pub spent : Prices → List Event → ℕ
spent P [] = 0
spent P (started c ∷ es) = P.scan c + spent P es
spent P (handed c m ∷ es) = spent P es
spent P (joined n way outer starts ∷ es) = P.join n way outer + spent P es
spent P (missed k v ∷ es) = spent P es
spent P (hit n frees p env ∷ es) = spent P es

-- ---- the look-ups in their order, and those of them that hit or missed

abbrev pub asked_in : List Event → List Subquery
asked_in [] = []
asked_in (started c ∷ es) = asked_in es
asked_in (handed c m ∷ es) = asked_in es
asked_in (joined n way outer starts ∷ es) = asked_in es
asked_in (missed k v ∷ es) = k ∷ asked_in es
asked_in (hit n frees p env ∷ es) = (n, values_at env frees) ∷ asked_in es

abbrev pub hits_in : List Event → List Subquery
hits_in [] = []
hits_in (started c ∷ es) = hits_in es
hits_in (handed c m ∷ es) = hits_in es
hits_in (joined n way outer starts ∷ es) = hits_in es
hits_in (missed k v ∷ es) = hits_in es
hits_in (hit n frees p env ∷ es) = (n, values_at env frees) ∷ hits_in es

abbrev pub misses_in : List Event → List Subquery
misses_in [] = []
misses_in (started c ∷ es) = misses_in es
misses_in (handed c m ∷ es) = misses_in es
misses_in (joined n way outer starts ∷ es) = misses_in es
misses_in (missed k v ∷ es) = k ∷ misses_in es
misses_in (hit n frees p env ∷ es) = misses_in es

-- ---- the entries of joins, as (number, way, outer rows, starts)

pub record Entry : Type 0 where
  pub join : ℕ
  pub way : JoinHow
  pub outer : ℕ
  pub starts : ℕ

abbrev pub entries_in : List Event → List Entry
entries_in [] = []
entries_in (started c ∷ es) = entries_in es
entries_in (handed c m ∷ es) = entries_in es
entries_in (joined n way outer starts ∷ es) = record { join = n; way = way; outer = outer; starts = starts } ∷ entries_in es
entries_in (missed k v ∷ es) = entries_in es
entries_in (hit n frees p env ∷ es) = entries_in es

-- how often the scan of a number was started
abbrev pub times_in : ℕ → List Event → ℕ
times_in n [] = 0
times_in n (started c ∷ es) = cond (nat_eq c.number n) 1 0 + times_in n es
times_in n (handed c m ∷ es) = times_in n es
times_in n (joined m way outer starts ∷ es) = times_in n es
times_in n (missed k v ∷ es) = times_in n es
times_in n (hit m frees p env ∷ es) = times_in n es
