-- How many loops and sources stand in a term.
use Rattle.std.specs.Prelude.{ℕ, ◌+◌}
use Rattle.kl_core.specs.Trees.{Tree, Var, Const, Source, Rec, Proj, Inj, Case, Make, Union, Ext, If, Let, Prim}
use Rattle.kl_core.specs.Trees.{Trees, no_trees, trees, Parts, no_parts, parts, Arms, no_arms, rest, arm}

-- what a term weighs, where a loop and a source weigh this
module _ (loop source : ℕ) where
  abbrev mutual
    pub amount_in : Tree → ℕ
    amount_in (Var x) = 0
    amount_in (Const v) = 0
    amount_in (Source i) = source
    amount_in (Rec ps) = amount_of_parts ps
    amount_in (Proj l a) = amount_in a
    amount_in (Inj l a) = amount_in a
    amount_in (Case a bs) = amount_in a + amount_of_arms bs
    amount_in (Make k ts) = amount_of_trees ts
    amount_in (Union a b) = amount_in a + amount_in b
    amount_in (Ext k b s) = loop + (amount_in b + amount_in s)
    amount_in (If a b c) = amount_in a + (amount_in b + amount_in c)
    amount_in (Let a b) = amount_in a + amount_in b
    amount_in (Prim c ts) = amount_of_trees ts

    pub amount_of_trees : Trees → ℕ
    amount_of_trees no_trees = 0
    amount_of_trees (trees t ts) = amount_in t + amount_of_trees ts

    pub amount_of_parts : Parts → ℕ
    amount_of_parts no_parts = 0
    amount_of_parts (parts l t ps) = amount_in t + amount_of_parts ps

    pub amount_of_arms : Arms → ℕ
    amount_of_arms no_arms = 0
    amount_of_arms (rest c) = amount_in c
    amount_of_arms (arm l b bs) = amount_in b + amount_of_arms bs

-- how often a term reads a source
abbrev pub sources_in : Tree → ℕ
sources_in = amount_in 0 1

abbrev pub sources_trees : Trees → ℕ
sources_trees = amount_of_trees 0 1

abbrev pub sources_parts : Parts → ℕ
sources_parts = amount_of_parts 0 1

abbrev pub sources_arms : Arms → ℕ
sources_arms = amount_of_arms 0 1

-- how many loops it has
abbrev pub loops_in : Tree → ℕ
loops_in = amount_in 1 0

abbrev pub loops_trees : Trees → ℕ
loops_trees = amount_of_trees 1 0

abbrev pub loops_parts : Parts → ℕ
loops_parts = amount_of_parts 1 0

abbrev pub loops_arms : Arms → ℕ
loops_arms = amount_of_arms 1 0
