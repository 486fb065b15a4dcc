-- What is counted of a run that ended well, of which all was drawn.
use Rattle.std.specs.Prelude.{◌≡◌, ◌≤◌, ◌⊎◌, ℕ, ◌+◌, Bool, List, [], ◌∷◌, ◌++◌, cond, nat_eq, length}
use Rattle.std.specs.List.{AllByRecursion, sum_by}
use Rattle.std.specs.Set.{distinct_count}
use Rattle.kl_ask.specs.declared.settings.JoinHow.{JoinHow}
use Rattle.kl_plan.specs.declared.plan.Scan.{Scan}
use Rattle.kl_plan.specs.Nodes.{Node}
use Rattle.kl_plan.specs.Meaning.{Readings}
use Rattle.kl_plan.specs.Numbers.{NumbersDiffer}
use Rattle.kl_plan.specs.Subqueries.{Subquery}
use Rattle.kl_plan.specs.Prices.{inner_starts}
use Rattle.kl_counts.specs.Places.{Places, AnyScan, AnyJoin, Apart}
use Rattle.kl_counts.specs.Free.{AreFree}
use Rattle.kl_counts.specs.Visits.{visits, keys, environments_in, outers_in}
use Rattle.kl_scans.specs.Log.{Event}
use Rattle.kl_counts.specs.Log.{hits_in, misses_in, Entry, entries_in, times_in}
use Rattle.kl_counts.specs.Once.{once_each}
use Rattle.kl_counts.specs.Standing.{Place, alone, inner, outside, inside}

-- it is among these
abbrev pub Within : Place → List Place → Type 0
Within x [] = ⊥
Within x (y ∷ ys) = (x ≡ y) ⊎ Within x ys

-- A plan whose numbers differ, in which no memo stands inside another, and each memo has the free positions of its part.
pub record Regular (p : Node) : Type 0 where
  pub apart : Apart p
  pub frees : Places AnyScan AnyJoin (λ d n frees q. AreFree d frees q) 0 p
  pub numbers : NumbersDiffer p

abbrev pub of_join : ℕ → (Entry → ℕ) → Entry → ℕ
of_join j u e = cond (nat_eq e.join j) (u e) 0

pub record Counts (same : Subquery → Subquery → Bool) (capacity : ℕ) (R : Readings) (block : ℕ) (p : Node) (es : List Event) : Type 0 where
  -- ---- look-ups

  pub look_ups : length (hits_in es) + length (misses_in es) ≡ length (keys R p [])
  -- each different key misses at least once, and where there is room for all of them just once
  pub misses_least : distinct_count same (keys R p []) ≤ length (misses_in es)
  pub misses : distinct_count same (keys R p []) ≤ capacity → length (misses_in es) ≡ distinct_count same (keys R p [])
  -- ---- starts

  -- a scan by itself outside every memo: once for each environment that reaches it
  pub outside_memos : (c : Scan) → Within (alone c) (outside p) → times_in c.number es ≡ length (environments_in c.number (visits R p []))
  -- a scan by itself inside a memo: at most so often, and where all different keys have room as often as it is come to where each is
  -- evaluated once
  pub in_memos : (c : Scan) → Within (alone c) (inside p) → times_in c.number es ≤ length (environments_in c.number (visits R p []))
  pub once_in_memos : (c : Scan) → Within (alone c) (inside p) → distinct_count same (keys R p []) ≤ capacity
      → times_in c.number es ≡ once_each same R block p c.number
  -- the inner scan of a join: the sum of the join's starts
  pub inner_scans : (j : ℕ) (way : JoinHow) (i : Scan) → Within (inner j way i) (outside p ++ inside p)
      → times_in i.number es ≡ sum_by (of_join j (λ e. e.starts)) (entries_in es)
  -- ---- joins

  -- each was started as often as its outer rows ask for
  pub starts : AllByRecursion (λ e. e.starts ≡ inner_starts block e.way e.outer) (entries_in es)
  -- The outer numbers of a join outside every memo are those of the meaning, each as often: every sum over them is the same. Inside
  -- memos each is one of these.
  pub outers : (j : ℕ) (way : JoinHow) (i : Scan) → Within (inner j way i) (outside p) → (u : ℕ → ℕ)
      → sum_by (of_join j (λ e. u e.outer)) (entries_in es) ≡ sum_by u (outers_in j (visits R p []))
  pub outers_most : (j : ℕ) (u : ℕ → ℕ) → sum_by (of_join j (λ e. u e.outer)) (entries_in es) ≤ sum_by u (outers_in j (visits R p []))
