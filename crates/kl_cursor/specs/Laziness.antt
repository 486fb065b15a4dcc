-- How few rows are handed to a loop over a scan that makes a list.
use Rattle.std.specs.Prelude.{◌≡◌, ◌≤◌, ◌<◌, ◌⊎◌, ℕ, ◌+◌, ◌*◌, List, [], ◌∷◌, length, take, drop, Option, Some, None, Result, Ok, Err, ⊤}
use Rattle.std.specs.List.{sum_by}
use Rattle.kl_value.specs.declared.Kind.TheVariants as kind
use Rattle.kl_value.specs.declared.Value.{Value}
use Rattle.kl_type.specs.Ground.{Ground}
use Rattle.kl_outcome.specs.Outcome.{fine, flow, items_in}
use Rattle.kl_outcome.specs.Typed.{HaveTypes}
use Rattle.kl_scans.specs.Running.{Running}
use Rattle.kl_eval.specs.declared.stop.EvalStop.{EvalStop}
use Rattle.kl_plan.specs.declared.plan.Scan.{Scan}
use Rattle.kl_plan.specs.Nodes as node
use Rattle.kl_plan.specs.Nodes.{Node}
use Rattle.kl_plan.specs.Meaning.{Readings, coming, plan}
use Rattle.kl_plan.specs.Holding.{Listing, PartsIn}
use Rattle.kl_scans.specs.Log as log
use Rattle.kl_scans.specs.Log.{Event, Logged}
use Rattle.kl_cursor.specs.declared.state.State.{State}
use Rattle.kl_cursor.specs.Left.{Snap, fresh, pulling, outside, inside, snap, left, reading, PartsLeft}
use Rattle.kl_cursor.specs.Sense.{IsToldAt, Fits}
use Rattle.kl_cursor.specs.Steps.{AreOf}

abbrev pub rows_in : List Event → ℕ
rows_in [] = 0
rows_in (log.handed c n ∷ es) = n + rows_in es
rows_in (_ ∷ es) = rows_in es

-- one scan alone, and nothing at all
abbrev pub only_scan : Scan → Listing
only_scan c = record { scans = c ∷ []; joins = []; memos = [] }

abbrev pub empty_listing : Listing
empty_listing = record { scans = []; joins = []; memos = [] }

-- so many rows of a scan were handed, and nothing else was done
pub record Handed (c : Scan) (rows : ℕ) (a b : Running) : Type 0 where
  pub settings : b.settings ≡ a.settings
  pub events : List Event
  pub logged : Logged events a b
  pub of : AreOf (only_scan c) events
  pub sum : rows_in events ≡ rows

-- ---- a scan

abbrev pub IsScan : Scan → Snap → Type 0
IsScan c (fresh p) = p ≡ node.Scan c
IsScan c (pulling d k rows n) = d ≡ c
IsScan c _ = ⊥

-- how many rows are at hand
abbrev pub ahead : Snap → ℕ
ahead (pulling c k rows n) = length rows
ahead _ = 0

-- So many rows were handed: each time as many as are fetched at once, or in the end all of them.
abbrev pub ByTimes : ℕ → List Value → ℕ → Type 0
ByTimes fetch all handed = ((times : ℕ) × (handed ≡ times * fetch)) ⊎ (handed ≡ length all)

-- A scan of whose rows so many were used and so many handed, so that fewer than are fetched at once are at hand.
pub record Fetching (w : Running) (env : List Value) (c : Scan) (all : List Value) (used handed : ℕ) (s : Snap) : Type 0 where
  pub scan : IsScan c s
  pub rows : left w s env ≡ flow (drop used all) fine
  pub sum : handed ≡ used + ahead s
  pub few : ahead s < w.settings.fetch
  pub times : ByTimes w.settings.fetch all handed

-- ---- a loop

-- the number of items that bodies give at the first rows
abbrev pub items_at : Readings → List Value → Node → List Value → ℕ → ℕ
items_at R env b all n = sum_by (λ v. length (items_in (coming (plan R b (v ∷ env))))) (take n all)

-- the least number of rows whose bodies give so many items
pub record IsFront (R : Readings) (env : List Value) (b : Node) (all : List Value) (items rows : ℕ) : Type 0 where
  pub enough : items ≤ items_at R env b all rows
  pub least : (n : ℕ) → n < rows → items_at R env b all n < items

-- a loop that makes a list of a scan, where so many rows were used, and so many of the items of their bodies drawn
module _ (R : Readings) (w : Running) (env : List Value) (b : Node) (c : Scan) (all : List Value) (drawn handed used : ℕ) where
  abbrev pub LoopOver : Snap → Type 0
  LoopOver (fresh p) = (p ≡ node.Ext kind.List b (node.Scan c)) × (c.kind ≡ kind.List)
      × Fetching w env c all used handed (fresh (node.Scan c)) × (items_at R env b all used ≡ drawn)
  LoopOver (outside p s) = (p ≡ b) × Fetching w env c all used handed s × (items_at R env b all used ≡ drawn)
  LoopOver (inside p s v i) =
      (p ≡ b) × Fetching w env c all used handed s × (items_at R env b all used ≡ drawn + length (items_in (left w i (v ∷ env))))
      × PartsLeft empty_listing i
  LoopOver _ = ⊥

-- Such a loop with neither scans nor subqueries in its body, which used no row more once its bodies gave as many items as were asked for.
pub record LazyLoop (R : Readings) (w : Running) (env : List Value) (b : Node) (c : Scan) (all : List Value) (asked drawn handed : ℕ)
    (s : Snap) : Type 0 where
  pub used : ℕ
  pub loops : LoopOver R w env b c all drawn handed used s
  pub before : (n : ℕ) → n < used → items_at R env b all n < asked
  pub reads : reading w ≡ R
  pub still : PartsIn empty_listing b

-- Where so many items were drawn, so many rows were handed: those that it takes for these items, and of what was fetched with the
-- last of them fewer rows than are fetched at once.
pub record Frugal (R : Readings) (fetch : ℕ) (env : List Value) (b : Node) (all : List Value) (drawn handed : ℕ) : Type 0 where
  pub rows : ℕ
  pub front : IsFront R env b all drawn rows
  pub enough : rows ≤ handed
  pub few : handed < rows + fetch
  pub times : ByTimes fetch all handed

-- ---- steps

-- a list, all of which is told
abbrev pub ListTold : List Value → Snap → Running → Type 0
ListTold env s w = (G : List Ground) × (u : Ground) × HaveTypes G env × Fits w G kind.List u s × IsToldAt w

-- From one cursor to another, where so many items were given: what was drawn lazily so far, was so again.
pub record KeepsLazy (more : ℕ) (env : List Value) (s : Snap) (a : Running) (t : Snap) (b : Running) : Type 0 where
  pub scan : (c : Scan) (all : List Value) (used handed : ℕ) → ListTold env s a → Fetching a env c all used handed s
      → (rows : ℕ) × Handed c rows a b × Fetching b env c all (used + more) (handed + rows) t
  pub loop : (R : Readings) (p : Node) (c : Scan) (all : List Value) (drawn handed : ℕ) → ListTold env s a
      → LazyLoop R a env p c all (drawn + 1) drawn handed s
      → (rows : ℕ) × Handed c rows a b × LazyLoop R b env p c all (drawn + 1) (drawn + more) (handed + rows) t

abbrev pub Lazily : List Value → Snap → Result (Option Value × State) EvalStop → Running → Running → Type 0
Lazily env s (Ok (Some v, t)) a b = KeepsLazy 1 env s a (snap t) b
Lazily env s (Ok (None, t)) a b = ⊤
Lazily env s (Err e) a b = ⊤

abbrev pub BeginsLazily : List Value → Snap → Result State EvalStop → Running → Running → Type 0
BeginsLazily env s (Ok t) a b = KeepsLazy 0 env s a (snap t) b
BeginsLazily env s (Err e) a b = ⊤

abbrev pub NextsLazily : List Value → Snap → Result (Option Value) EvalStop → Snap → Running → Running → Type 0
NextsLazily env s (Ok (Some v)) t a b = KeepsLazy 1 env s a t b
NextsLazily env s (Ok None) t a b = ⊤
NextsLazily env s (Err e) t a b = ⊤
