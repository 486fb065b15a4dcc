-- What a block join comes to is what it does block by block.
use Rattle.std.proofs.Common.{◌≡◌, ◌<◌, ℕ, ◌+◌, ◌*◌, List, [], ◌∷◌, length, sym, ap, ◌∙◌, arith}
use Rattle.std.specs.Int.{div_ceil}
use Rattle.std.specs.List.{sum_by}
use Rattle.std.proofs.Math.Nat.{suc-mul}
use Rattle.std.proofs.lemmas.List.Sums.{sum_by-cons}
use Rattle.kl_value.specs.declared.Kind.{Kind}
use Rattle.kl_value.specs.declared.Value.{Value}
use Rattle.kl_ask.specs.declared.settings.JoinHow.TheVariants as how
use Rattle.kl_plan.specs.declared.plan.Scan.{Scan}
use Rattle.kl_plan.specs.Nodes as node
use Rattle.kl_plan.specs.Nodes.{Node, Nodes, no_key}
use Rattle.kl_plan.specs.Meaning.{Readings}
use Rattle.kl_blocks.specs.Blocks.{blocks}
use Rattle.kl_blocks.proofs.Blocks.{count_blocks, sum_blocks}
use Rattle.kl_plan.specs.Prices.{Prices}
use Rattle.kl_plan.specs.Reached.{passing, reached}
use Rattle.kl_counts.specs.BlockJoins.{outer_rows, passed_rows, inner_rows, at_block, by_blocks}
use Rattle.kl_counts.proofs.Passing.{count_passing, rows_split}

-- a price for each, and something of each
sum_priced : {X : Type 0} (price : ℕ) (w : X → ℕ) (xs : List X) → sum_by (λ x. price + w x) xs ≡ length xs * price + sum_by w xs
sum_priced price w [] = omega arith
sum_priced price w (x ∷ xs) = omega (arith, sum_priced price w xs, sum_by-cons (λ x. price + w x) x xs, sum_by-cons w x xs, suc-mul (length xs) price)

pub block_join : (R : Readings) (block : ℕ) → 0 < block → (P : Prices) (n : ℕ) (k : Kind) (o : Node) (cs : Nodes) (i : Scan) (b : Node) (env : List Value)
    → reached R block P (node.Join n k how.Block o cs i no_key b) env ≡ by_blocks R block P n k o cs i b env
block_join R block some P n k o cs i b env =
    let outer = outer_rows R k o env in
    let passed = passed_rows R k o cs env in
    let inner = inner_rows R k i in
    let split = rows_split R block P cs env outer (λ x. sum_by (λ y. reached R block P b (y ∷ x ∷ env)) inner) in
    let bodies = sum_blocks block some (λ x y. reached R block P b (y ∷ x ∷ env)) passed inner in
    let priced = sum_priced (P.scan i) (at_block R block P k i b env) (blocks block passed) in
    let size : passing R k o cs env ≡ length passed = sym (count_passing R cs env outer) in
    let starts : length (blocks block passed) * P.scan i ≡ div_ceil (passing R k o cs env) block * P.scan i = ap (λ m. m * P.scan i) (count_blocks block some passed ∙ ap (λ m. div_ceil m block) (sym size)) in
    let join : P.join n how.Block (passing R k o cs env) ≡ P.join n how.Block (length passed) = ap (P.join n how.Block) size in
    omega arith
