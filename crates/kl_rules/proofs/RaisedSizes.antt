-- How many nodes a term has and how deep it is: raising positions keeps both, and the depth is no more than the nodes.
use Rattle.std.proofs.Common.{◌≡◌, ℕ, ◌≤◌, refl, arith}
use Rattle.kl_core.specs.Trees.{Tree, Var, Const, Source, Rec, Proj, Inj, Case, Make, Union, Ext, If, Let, Prim, Trees, no_trees, trees, Parts, no_parts, parts, Arms, no_arms, rest, arm}
use Rattle.kl_core.specs.Positions.{shift_of, shift_trees, shift_parts, shift_arms}
use Rattle.kl_core.specs.Counts.{nodes_of, nodes_trees, nodes_parts, nodes_arms, depth_of, depth_trees, depth_parts, depth_arms}

mutual
  pub nodes_shift : (t : Tree) (n m : ℕ) → nodes_of (shift_of t n m) ≡ nodes_of t
  nodes_shift (Var x) n m = refl
  nodes_shift (Const v) n m = refl
  nodes_shift (Source i) n m = refl
  nodes_shift (Rec ps) n m = rw (nodes_shift_parts ps n m) refl
  nodes_shift (Proj l a) n m = rw (nodes_shift a n m) refl
  nodes_shift (Inj l a) n m = rw (nodes_shift a n m) refl
  nodes_shift (Case a bs) n m = rw (nodes_shift a n m, nodes_shift_arms bs n m) refl
  nodes_shift (Make k ts) n m = rw (nodes_shift_trees ts n m) refl
  nodes_shift (Union a b) n m = rw (nodes_shift a n m, nodes_shift b n m) refl
  nodes_shift (Ext k b s) n m = rw (nodes_shift b _ m, nodes_shift s n m) refl
  nodes_shift (If a b c) n m = rw (nodes_shift a n m, nodes_shift b n m, nodes_shift c n m) refl
  nodes_shift (Let a b) n m = rw (nodes_shift a n m, nodes_shift b _ m) refl
  nodes_shift (Prim c ts) n m = rw (nodes_shift_trees ts n m) refl

  nodes_shift_trees : (ts : Trees) (n m : ℕ) → nodes_trees (shift_trees ts n m) ≡ nodes_trees ts
  nodes_shift_trees no_trees n m = refl
  nodes_shift_trees (trees t ts) n m = rw (nodes_shift t n m, nodes_shift_trees ts n m) refl

  nodes_shift_parts : (ps : Parts) (n m : ℕ) → nodes_parts (shift_parts ps n m) ≡ nodes_parts ps
  nodes_shift_parts no_parts n m = refl
  nodes_shift_parts (parts l t ps) n m = rw (nodes_shift t n m, nodes_shift_parts ps n m) refl

  nodes_shift_arms : (bs : Arms) (n m : ℕ) → nodes_arms (shift_arms bs n m) ≡ nodes_arms bs
  nodes_shift_arms no_arms n m = refl
  nodes_shift_arms (rest c) n m = nodes_shift c n m
  nodes_shift_arms (arm l b bs) n m = rw (nodes_shift b _ m, nodes_shift_arms bs n m) refl

mutual
  pub depth_shift : (t : Tree) (n m : ℕ) → depth_of (shift_of t n m) ≡ depth_of t
  depth_shift (Var x) n m = refl
  depth_shift (Const v) n m = refl
  depth_shift (Source i) n m = refl
  depth_shift (Rec ps) n m = rw (depth_shift_parts ps n m) refl
  depth_shift (Proj l a) n m = rw (depth_shift a n m) refl
  depth_shift (Inj l a) n m = rw (depth_shift a n m) refl
  depth_shift (Case a bs) n m = rw (depth_shift a n m, depth_shift_arms bs n m) refl
  depth_shift (Make k ts) n m = rw (depth_shift_trees ts n m) refl
  depth_shift (Union a b) n m = rw (depth_shift a n m, depth_shift b n m) refl
  depth_shift (Ext k b s) n m = rw (depth_shift b _ m, depth_shift s n m) refl
  depth_shift (If a b c) n m = rw (depth_shift a n m, depth_shift b n m, depth_shift c n m) refl
  depth_shift (Let a b) n m = rw (depth_shift a n m, depth_shift b _ m) refl
  depth_shift (Prim c ts) n m = rw (depth_shift_trees ts n m) refl

  depth_shift_trees : (ts : Trees) (n m : ℕ) → depth_trees (shift_trees ts n m) ≡ depth_trees ts
  depth_shift_trees no_trees n m = refl
  depth_shift_trees (trees t ts) n m = rw (depth_shift t n m, depth_shift_trees ts n m) refl

  depth_shift_parts : (ps : Parts) (n m : ℕ) → depth_parts (shift_parts ps n m) ≡ depth_parts ps
  depth_shift_parts no_parts n m = refl
  depth_shift_parts (parts l t ps) n m = rw (depth_shift t n m, depth_shift_parts ps n m) refl

  depth_shift_arms : (bs : Arms) (n m : ℕ) → depth_arms (shift_arms bs n m) ≡ depth_arms bs
  depth_shift_arms no_arms n m = refl
  depth_shift_arms (rest c) n m = depth_shift c n m
  depth_shift_arms (arm l b bs) n m = rw (depth_shift b _ m, depth_shift_arms bs n m) refl

mutual
  pub depth_few : (t : Tree) → depth_of t ≤ nodes_of t
  depth_few (Var x) = omega arith
  depth_few (Const v) = omega arith
  depth_few (Source i) = omega arith
  depth_few (Rec ps) = omega (arith, depth_few_parts ps)
  depth_few (Proj l a) = omega (arith, depth_few a)
  depth_few (Inj l a) = omega (arith, depth_few a)
  depth_few (Case a bs) = omega (arith, depth_few a, depth_few_arms bs)
  depth_few (Make k ts) = omega (arith, depth_few_trees ts)
  depth_few (Union a b) = omega (arith, depth_few a, depth_few b)
  depth_few (Ext k b s) = omega (arith, depth_few b, depth_few s)
  depth_few (If a b c) = omega (arith, depth_few a, depth_few b, depth_few c)
  depth_few (Let a b) = omega (arith, depth_few a, depth_few b)
  depth_few (Prim c ts) = omega (arith, depth_few_trees ts)

  depth_few_trees : (ts : Trees) → depth_trees ts ≤ nodes_trees ts
  depth_few_trees no_trees = omega arith
  depth_few_trees (trees t ts) = omega (arith, depth_few t, depth_few_trees ts)

  depth_few_parts : (ps : Parts) → depth_parts ps ≤ nodes_parts ps
  depth_few_parts no_parts = omega arith
  depth_few_parts (parts l t ps) = omega (arith, depth_few t, depth_few_parts ps)

  depth_few_arms : (bs : Arms) → depth_arms bs ≤ nodes_arms bs
  depth_few_arms no_arms = omega arith
  depth_few_arms (rest c) = depth_few c
  depth_few_arms (arm l b bs) = omega (arith, depth_few b, depth_few_arms bs)
