-- What a cursor has still to give.
use Rattle.std.specs.Prelude.{ℕ, ◌+◌, Bool, true, false, List, [], ◌∷◌, ◌++◌, map, drop, reverse, Option, Some, None, ⊤}
use Rattle.std.specs.List.{Contains}
use Rattle.kl_value.specs.declared.Kind.{Kind}
use Rattle.kl_value.specs.declared.Value.{Value}
use Rattle.kl_outcome.specs.Outcome.{Name, End, fine, overflow, Flow, stop, flow, followed, drawn}
use Rattle.kl_ask.specs.Driver.{Cursor}
use Rattle.kl_scans.specs.Running.{Running}
use Rattle.kl_plan.specs.Alike.{weight}
use Rattle.kl_plan.specs.declared.plan.Scan.{Scan}
use Rattle.kl_plan.specs.declared.plan.Plan.{Plan}
use Rattle.kl_plan.specs.Nodes.{Node, Nodes, Fields, Branches, view, nodes_of}
use Rattle.kl_plan.specs.Meaning.{Readings, coming, drawn_for, plan, plan_items}
use Rattle.kl_plan.specs.Prices.{Prices}
use Rattle.kl_plan.specs.Reached.{reached, reached_nodes, reached_fields, reached_branch}
use Rattle.kl_plan.specs.Holding.{Listing, PartsIn, PartsInNodes}
use Rattle.kl_cursor.specs.FiledRows.{index_in, passed_in}
use Rattle.kl_cursor.specs.Joining.{JoinParts, Holding, files, join_parts, JoinIn, pairs, held_of, row_of, pairs_cost, rest_cost}
use Rattle.kl_cursor.specs.declared.state.FiledRows.{FiledRows}
use Rattle.kl_cursor.specs.declared.state.State.{State, State-F, fold-State}
use Rattle.kl_scans.specs.Held.{cursor_at, Uses, nothing, one_at, beside}
use Rattle.kl_scans.specs.Stage.{Stage, stage, readings, or_none}

-- a cursor as contracts see it
pub data Snap : Type 0 where
  fresh : Node → Snap
  have : List Value → End → Snap
  -- the rows that were fetched ahead, and room for so many
  pulling : Scan → ℕ → List Value → ℕ → Snap
  both : Snap → Node → Snap
  bound : Value → Snap → Snap
  outside : Node → Snap → Snap
  inside : Node → Snap → Value → Snap → Snap
  made : Nodes → Snap
  ended : Snap
  -- rows that were drawn and not yet taken, and what comes behind them
  taking : List Value → Snap → Snap
  -- a plan as a loop of a kind draws it
  reads : Kind → Node → Snap
  -- a body at each pair of one of some outer rows and one of the inner rows that are left, as items of a kind
  pairing : Kind → Node → List Value → Snap → Snap
  -- a join between two outer rows, of which so many passed
  joining : JoinParts → Snap → Holding → ℕ → Snap
  -- a body at the rows that were found for an outer row, and what comes behind them
  matching : Node → List Value → Value → Snap → Snap
  -- a cursor where a value is bound, and what comes behind it
  leading : Value → Snap → Snap → Snap

abbrev pub end_of : Bool → End
end_of true = overflow
end_of false = fine

abbrev pub nodes_from : ℕ → List Plan → Nodes
nodes_from i ps = nodes_of (map view (drop i ps))

-- a join by an index that holds this between two outer rows
abbrev pub keyed : JoinParts → Snap → Option FiledRows → Snap
keyed j s f = joining j s (files (index_in f)) (passed_in f)

abbrev pub snap_layer : State-F Snap → Snap
snap_layer (State-F.Fresh p) = fresh (view p.now)
snap_layer (State-F.Have vs past) = have (reverse vs) (end_of past)
snap_layer (State-F.Scan c k ahead) = pulling c.now k ahead.items ahead.capacity
snap_layer (State-F.Union s p) = both s (view p.now)
snap_layer (State-F.Bound v s) = bound v s
snap_layer (State-F.Outside b s i) = outside (view b.now) s
snap_layer (State-F.Inside b s v i) = inside (view b.now) s v i
snap_layer (State-F.Keyed j s f) = keyed (join_parts j.now) s f
snap_layer (State-F.Found j s f v i) = leading v i (keyed (join_parts j.now) s f)
snap_layer (State-F.Make ps i) = made (nodes_from i ps.now)
snap_layer State-F.Done = ended

abbrev pub snap : State → Snap
snap = fold-State Snap snap_layer

-- how often each cursor of each driver stands in it
abbrev pub uses : Snap → Uses
uses (fresh p) = nothing
uses (have vs e) = nothing
uses (pulling c k rows n) = one_at c.driver k
uses (both s p) = uses s
uses (bound v s) = uses s
uses (outside b s) = uses s
uses (inside b s v i) = beside (uses s) (uses i)
uses (made ps) = nothing
uses ended = nothing
uses (taking vs s) = uses s
uses (reads k p) = nothing
uses (pairing k b xs s) = uses s
uses (joining j s h n) = uses s
uses (matching b ys x s) = uses s
uses (leading v i s) = beside (uses s) (uses i)

-- the rows that a cursor of a driver has left, where they are told
abbrev pub rows_left : Option Cursor → List Value
rows_left (Some o) = or_none o.left
rows_left None = []

-- what scans read in a session
abbrev pub reading : Running → Readings
reading w = readings (stage w)

-- The items that are left, in the order in which they come, and the end: exact where contents are told.
abbrev pub left : Running → Snap → List Value → Flow
left w (fresh p) env = coming (plan (reading w) p env)
left w (have vs e) env = flow vs e
left w (pulling c k rows n) env = flow (rows ++ rows_left (cursor_at w c.driver k)) fine
left w (both s p) env = followed (left w s env) (coming (plan (reading w) p env))
left w (bound v s) env = left w s (v ∷ env)
left w (outside b s) env = drawn (left w s env) (λ v. coming (plan (reading w) b (v ∷ env)))
left w (inside b s v i) env = followed (left w i (v ∷ env)) (drawn (left w s env) (λ u. coming (plan (reading w) b (u ∷ env))))
left w (made ps) env = plan_items (reading w) ps env
left w ended env = stop fine
left w (taking vs s) env = followed (flow vs fine) (left w s env)
left w (reads k p) env = drawn_for k (plan (reading w) p env)
left w (pairing k b xs s) env = pairs (reading w) env b xs (left w s env)
left w (joining j s h n) env = followed (held_of (reading w) env j h) (drawn (left w s env) (row_of (reading w) env j))
left w (matching b ys x s) env = followed (drawn (flow ys fine) (λ y. coming (plan (reading w) b (y ∷ x ∷ env)))) (left w s env)
left w (leading v i s) env = followed (left w i (v ∷ env)) (left w s env)

-- ---- what is still to be done

-- what plans come to over a stage, where each thing has a price
module _ (t : Stage) (P : Prices) where
  abbrev pub cost : Node → List Value → ℕ
  cost p env = reached (readings t) t.block P p env

  abbrev pub cost_nodes : Nodes → List Value → ℕ
  cost_nodes ps env = reached_nodes (readings t) t.block P ps env

  abbrev pub cost_fields : Fields → List Value → ℕ
  cost_fields ps env = reached_fields (readings t) t.block P ps env

  abbrev pub cost_branch : Branches → Name → Value → List Value → ℕ
  cost_branch bs l v env = reached_branch (readings t) t.block P bs l v env

-- The prices of all to which a cursor has still to come, each as often as it comes there.
abbrev pub to_start : Running → Prices → Snap → List Value → ℕ
to_start w P (fresh p) env = cost (stage w) P p env
to_start w P (have vs e) env = 0
to_start w P (pulling c k rows n) env = 0
to_start w P (both s p) env = to_start w P s env + cost (stage w) P p env
to_start w P (bound v s) env = to_start w P s (v ∷ env)
to_start w P (outside b s) env = to_start w P s env + weight (λ v. cost (stage w) P b (v ∷ env)) (left w s env)
to_start w P (inside b s v i) env = to_start w P i (v ∷ env) +
    (to_start w P s env + weight (λ u. cost (stage w) P b (u ∷ env)) (left w s env))
to_start w P (made ps) env = cost_nodes (stage w) P ps env
to_start w P ended env = 0
to_start w P (taking vs s) env = to_start w P s env
to_start w P (reads k p) env = cost (stage w) P p env
to_start w P (pairing k b xs s) env = to_start w P s env + pairs_cost (reading w) (stage w).block P env b xs (left w s env)
to_start w P (joining j s h n) env = to_start w P s env + rest_cost (reading w) (stage w).block P env j h n (left w s env)
to_start w P (matching b ys x s) env = weight (λ y. cost (stage w) P b (y ∷ x ∷ env)) (flow ys fine) + to_start w P s env
to_start w P (leading v i s) env = to_start w P i (v ∷ env) + to_start w P s env

-- ---- which scans, joins and memos stand in it

module _ (all : Listing) where
  abbrev pub PartsLeft : Snap → Type 0
  PartsLeft (fresh p) = PartsIn all p
  PartsLeft (have vs e) = ⊤
  PartsLeft (pulling c k rows n) = Contains all.scans c
  PartsLeft (both s p) = PartsLeft s × PartsIn all p
  PartsLeft (bound v s) = PartsLeft s
  PartsLeft (outside b s) = PartsIn all b × PartsLeft s
  PartsLeft (inside b s v i) = PartsIn all b × PartsLeft s × PartsLeft i
  PartsLeft (made ps) = PartsInNodes all ps
  PartsLeft ended = ⊤
  PartsLeft (taking vs s) = PartsLeft s
  PartsLeft (reads k p) = PartsIn all p
  PartsLeft (pairing k b xs s) = PartsIn all b × PartsLeft s
  PartsLeft (joining j s h n) = JoinIn all j × PartsLeft s
  PartsLeft (matching b ys x s) = PartsIn all b × PartsLeft s
  PartsLeft (leading v i s) = PartsLeft i × PartsLeft s
