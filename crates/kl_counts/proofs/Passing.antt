-- The conditions of a join and what is drawn behind them, apart: a block join evaluates the first for each outer row, and draws the
-- second for the rows that passed, later.
use Rattle.std.proofs.Common.{◌≡◌, ◌≤◌, ℕ, zero, suc, ◌+◌, ◌*◌, Bool, true, false, List, [], ◌∷◌, Option, Some, None, cond, nat_eq, length, refl, ap, arith}
use Rattle.std.specs.List.{sum_by}
use Rattle.std.proofs.lemmas.List.Sums.{sum_by-cons}
use Rattle.kl_value.specs.Views.{as_bool}
use Rattle.kl_value.specs.declared.Value.{Value}
use Rattle.kl_outcome.specs.Outcome.{Outcome, done, over, stuck}
use Rattle.kl_plan.specs.Nodes.{Nodes, no_nodes, nodes}
use Rattle.kl_plan.specs.Meaning.{Readings, worth, plan}
use Rattle.kl_plan.specs.Reached.{once, chosen_of, passes, rows_passing, reached_conds}
use Rattle.kl_plan.specs.Prices.{Prices}
use Rattle.kl_plan.proofs.Choices.{once_split}
use Rattle.kl_counts.proofs.Same.{nat_is}

module _ (R : Readings) where
  chosen_bound : (b : Option Bool) (n : ℕ) → n ≤ 1 → chosen_of b n 0 ≤ 1
  chosen_bound (Some true) n h = h
  chosen_bound (Some false) n h = omega arith
  chosen_bound None n h = omega arith

  once_bound : (o : Outcome) (n : ℕ) → n ≤ 1 → once o (λ v. chosen_of (as_bool v) n 0) ≤ 1
  once_bound (done v) n h = chosen_bound (as_bool v) n h
  once_bound (over vs) n h = omega arith
  once_bound stuck n h = omega arith

  pub passes_bound : (cs : Nodes) (env : List Value) → passes R cs env ≤ 1
  passes_bound no_nodes env = omega arith
  passes_bound (nodes c cs) env = once_bound (worth (plan R c env)) (passes R cs env) (passes_bound cs env)

  none_passes : (cs : Nodes) (env : List Value) → nat_eq (passes R cs env) 1 ≡ false → passes R cs env ≡ 0
  none_passes cs env t = below (passes R cs env) (passes_bound cs env) t
    where
      below : (n : ℕ) → n ≤ 1 → nat_eq n 1 ≡ false → n ≡ 0
      below zero h t = refl
      below (suc zero) h t = cc
      below (suc (suc n)) h t = absurd (omega arith)

  -- there are as many rows that pass as are counted
  pub count_passing : (cs : Nodes) (env xs : List Value) → length (rows_passing R cs env xs) ≡ sum_by (λ x. passes R cs (x ∷ env)) xs
  count_passing cs env [] = refl
  count_passing cs env (x ∷ xs) = by (nat_eq (passes R cs (x ∷ env)) 1) refl (count_passing cs env xs)
    where
      by : (b : Bool) → nat_eq (passes R cs (x ∷ env)) 1 ≡ b → length (rows_passing R cs env xs) ≡ sum_by (λ x. passes R cs (x ∷ env)) xs
          → length (cond b (x ∷ rows_passing R cs env xs) (rows_passing R cs env xs)) ≡ sum_by (λ x. passes R cs (x ∷ env)) (x ∷ xs)
      by true t r = omega (arith, nat_is (passes R cs (x ∷ env)) 1 t, sum_by-cons (λ x. passes R cs (x ∷ env)) x xs)
      by false t r = omega (arith, none_passes cs (x ∷ env) t, sum_by-cons (λ x. passes R cs (x ∷ env)) x xs)

  module _ (block : ℕ) (P : Prices) where
    -- what conditions come to, and where they hold what is drawn behind them
    pub conds_split : (cs : Nodes) (env : List Value) (n : ℕ) → reached_conds R block P cs env n ≡ reached_conds R block P cs env 0 + passes R cs env * n
    conds_split no_nodes env n = omega arith
    conds_split (nodes c cs) env n =
        omega (arith, once_split (worth (plan R c env)) (reached_conds R block P cs env n) (reached_conds R block P cs env 0) (passes R cs env) n (conds_split cs env n))

    -- of all rows: their conditions, and what is drawn for those that pass
    pub rows_split : (cs : Nodes) (env xs : List Value) (g : Value → ℕ)
        → sum_by (λ x. reached_conds R block P cs (x ∷ env) (g x)) xs ≡ sum_by (λ x. reached_conds R block P cs (x ∷ env) 0) xs + sum_by g (rows_passing R cs env xs)
    rows_split cs env [] g = refl
    rows_split cs env (x ∷ xs) g = by (nat_eq (passes R cs (x ∷ env)) 1) refl (rows_split cs env xs g)
      where
        by : (b : Bool) → nat_eq (passes R cs (x ∷ env)) 1 ≡ b
            → sum_by (λ x. reached_conds R block P cs (x ∷ env) (g x)) xs ≡ sum_by (λ x. reached_conds R block P cs (x ∷ env) 0) xs + sum_by g (rows_passing R cs env xs)
            → sum_by (λ x. reached_conds R block P cs (x ∷ env) (g x)) (x ∷ xs)
            ≡ sum_by (λ x. reached_conds R block P cs (x ∷ env) 0) (x ∷ xs) + sum_by g (cond b (x ∷ rows_passing R cs env xs) (rows_passing R cs env xs))
        by true t r =
            let one : passes R cs (x ∷ env) * g x ≡ 1 * g x = ap (λ n. n * g x) (nat_is (passes R cs (x ∷ env)) 1 t) in
            omega (
              arith,
              conds_split cs (x ∷ env) (g x),
              sum_by-cons (λ x. reached_conds R block P cs (x ∷ env) (g x)) x xs,
              sum_by-cons (λ x. reached_conds R block P cs (x ∷ env) 0) x xs,
              sum_by-cons g x (rows_passing R cs env xs),
            )
        by false t r =
            let none : passes R cs (x ∷ env) * g x ≡ 0 * g x = ap (λ n. n * g x) (none_passes cs (x ∷ env) t) in
            omega (arith, conds_split cs (x ∷ env) (g x), sum_by-cons (λ x. reached_conds R block P cs (x ∷ env) (g x)) x xs, sum_by-cons (λ x. reached_conds R block P cs (x ∷ env) 0) x xs)
