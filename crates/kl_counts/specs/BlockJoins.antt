-- What a block join comes to, block by block.
use Rattle.std.specs.Prelude.{ℕ, ◌+◌, List, ◌∷◌, length}
use Rattle.std.specs.List.{sum_by}
use Rattle.kl_value.specs.declared.Kind.{Kind}
use Rattle.kl_value.specs.declared.Value.{Value}
use Rattle.kl_outcome.specs.Outcome.{items_in}
use Rattle.kl_ask.specs.declared.settings.JoinHow.TheVariants as how
use Rattle.kl_plan.specs.declared.plan.Scan.{Scan}
use Rattle.kl_plan.specs.Nodes.{Node, Nodes}
use Rattle.kl_plan.specs.Meaning.{Readings, drawn_for, scanned, plan}
use Rattle.kl_plan.specs.Prices.{Prices}
use Rattle.kl_plan.specs.Reached.{rows_passing, reached, reached_conds}
use Rattle.kl_blocks.specs.Blocks.{blocks}

abbrev pub outer_rows : Readings → Kind → Node → List Value → List Value
outer_rows R k o env = items_in (drawn_for k (plan R o env))

-- those that the conditions let through
abbrev pub passed_rows : Readings → Kind → Node → Nodes → List Value → List Value
passed_rows R k o cs env = rows_passing R cs env (outer_rows R k o env)

abbrev pub inner_rows : Readings → Kind → Scan → List Value
inner_rows R k i = items_in (drawn_for k (scanned i.kind (R i)))

-- what the bodies come to: each inner row at each row of a block
abbrev pub at_block : Readings → ℕ → Prices → Kind → Scan → Node → List Value → List Value → ℕ
at_block R block P k i b env xs = sum_by (λ y. sum_by (λ x. reached R block P b (y ∷ x ∷ env)) xs) (inner_rows R k i)

-- The outer part; the conditions of each outer row; for each block a start of the inner scan, and what the bodies come to there; and
-- the join.
abbrev pub by_blocks : Readings → ℕ → Prices → ℕ → Kind → Node → Nodes → Scan → Node → List Value → ℕ
by_blocks R block P n k o cs i b env =
    reached R block P o env + (sum_by (λ x. reached_conds R block P cs (x ∷ env) 0) (outer_rows R k o env)
    + (sum_by (λ xs. P.scan i + at_block R block P k i b env xs) (blocks block (passed_rows R k o cs env))
    + P.join n how.Block (length (passed_rows R k o cs env))))
