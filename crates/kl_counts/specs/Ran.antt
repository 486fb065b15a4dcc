-- What is known of all that was done where a plan was run to its end and ended well, in whatever order its items were drawn.
use Rattle.std.specs.Prelude.{◌≡◌, ℕ, Bool, List, [], ◌∷◌, ⊤}
use Rattle.kl_value.specs.declared.Value.{Value}
use Rattle.kl_lookups.specs.Lookups.{hit_by, missed_by}
use Rattle.kl_plan.specs.Meaning.{Readings}
use Rattle.kl_plan.specs.Nodes.{Node}
use Rattle.kl_plan.specs.Parts.{memos_of}
use Rattle.kl_plan.specs.Prices.{Prices, inner_starts}
use Rattle.kl_plan.specs.Reached.{reached}
use Rattle.kl_plan.specs.Subqueries.{Subquery, values_at}
use Rattle.kl_scans.specs.Log.{Event, started, handed, joined, missed, hit, paid}
use Rattle.kl_scans.specs.Stage.{Stage, readings}
use Rattle.kl_counts.specs.Log.{asked_in, hits_in, misses_in}
use Rattle.kl_counts.specs.Once.{costs}
use Rattle.kl_counts.specs.Places.{MemoFree}

-- what stood where a look-up hit: a memo of the plan, under as many values as it has positions there
pub record WasMemo (R : Readings) (block : ℕ) (p : Node) (n : ℕ) (frees : List ℕ) (q : Node) (env : List Value) : Type 0 where
  pub depth : ℕ
  pub free : MemoFree depth q
  pub costs : (P : Prices) → reached R block P q env ≡ costs R block P (memos_of p) (n, values_at env frees)

abbrev pub HitMemos : Readings → ℕ → Node → List Event → Type 0
HitMemos R block p [] = ⊤
HitMemos R block p (started c ∷ es) = HitMemos R block p es
HitMemos R block p (handed c m ∷ es) = HitMemos R block p es
HitMemos R block p (joined n way outer starts ∷ es) = (starts ≡ inner_starts block way outer) × HitMemos R block p es
HitMemos R block p (missed k v ∷ es) = HitMemos R block p es
HitMemos R block p (hit n frees q env ∷ es) = WasMemo R block p n frees q env × HitMemos R block p es

pub record Ran {V : Type 0} (same : Subquery → Subquery → Bool) (capacity : ℕ) (value : Subquery → V) (t : Stage) (p : Node)
    (es : List Event) : Type 0 where
  -- each price is paid that the meaning comes to, where a look-up that hits is paid as if it had missed
  pub paid : (P : Prices) → paid t P es ≡ reached (readings t) t.block P p []
  -- the look-ups hit and missed as those of a cache that was empty before
  pub hits : hits_in es ≡ hit_by same capacity value (asked_in es) []
  pub misses : misses_in es ≡ missed_by same capacity value (asked_in es) []
  -- what hit was a memo of the plan, and each join was executed as it should be
  pub memos : HitMemos (readings t) t.block p es
