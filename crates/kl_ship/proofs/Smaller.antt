-- A body over the rows of a statement of two and more tables is smaller, by its loops and its nodes, than the loop it came from.
use Rattle.std.proofs.Common.{◌≡◌, ℕ, zero, suc, ◌+◌, ◌*◌, ◌^◌, ◌-◌, ◌<◌, ◌≤◌, Bool, true, false, not, ◌&&◌, cond, nat_lt, List, [], ◌∷◌, length, Option, Some, None, refl, ap, arith}
use Rattle.std.proofs.Math.Nat.{pow-suc, pow-zero, mul-le-mul_right, pow-le-pow_right}
use mathlib.Core.Path.{ap₂}
use Rattle.kl_value.specs.declared.Kind.{Kind}
use Rattle.kl_outcome.specs.Outcome.{Name}
use Rattle.kl_core.specs.Trees.{Tree, Var, Const, Source, Rec, Proj, Inj, Case, Make, Union, Ext, If, Let, Prim, Trees, no_trees, trees, Parts, no_parts, parts, Arms, no_arms, rest, arm}
use Rattle.kl_core.specs.Counts.{nodes_of, nodes_trees, nodes_parts, nodes_arms}
use Rattle.kl_sqltext.specs.declared.ast.SqlTest.{SqlTest}
use Rattle.kl_ship.specs.declared.source.ShipSource.{ShipSource}
use Rattle.kl_ship.specs.Sizes.{amount_in, amount_of_trees, amount_of_parts, amount_of_arms, loops_in, loops_trees, loops_parts, loops_arms}
use Rattle.kl_ship.specs.Delegation.{test_of, is_front, left, left_before, body_left}
use Rattle.kl_ship.specs.Joined.{Joins, row_parts, packed_variable, packed_column, packed, packed_trees, packed_parts, packed_arms}

module _ (loop source n : ℕ) (shown : ℕ → Name → Name) (all : ℕ → List Name) where
  no_amount : (f : Name → Name) (at : ℕ) (ls : List Name) → amount_of_parts loop source (row_parts f at ls) ≡ 0
  no_amount f at [] = refl
  no_amount f at (l ∷ ls) = let e = no_amount f at ls in omega (arith, e)

  variable_amount : (at x : ℕ) → amount_in loop source (packed_variable n shown all at x) ≡ 0
  variable_amount at x = by (nat_lt x at) (nat_lt x (at + n))
    where
      by : (b c : Bool) → amount_in loop source (cond b (Var x) (cond c (Rec (row_parts (shown (x - at)) at (all (x - at)))) (Var (x + 1 - n)))) ≡ 0
      by true c = refl
      by false true = no_amount (shown (x - at)) at (all (x - at))
      by false false = refl

  column_amount : (at : ℕ) (l : Name) (o : Option ℕ) (t : Tree) → amount_in loop source t ≡ 0 → amount_in loop source (packed_column n shown all at l o t) ≡ 0
  column_amount at l None t h = h
  column_amount at l (Some x) t h = by (not (nat_lt x at) && nat_lt x (at + n))
    where
      by : (b : Bool) → amount_in loop source (cond b (Proj (shown (x - at) l) (Var at)) t) ≡ 0
      by true = refl
      by false = h

  mutual
    pub packed_amount : (at : ℕ) (t : Tree) → amount_in loop source (packed n shown all at t) ≡ amount_in loop source t
    packed_amount at (Var x) = variable_amount at x
    packed_amount at (Const v) = refl
    packed_amount at (Source i) = refl
    packed_amount at (Rec ps) = parts_amount at ps
    packed_amount at (Proj l (Var x)) = column_amount at l (Some x) (Proj l (packed_variable n shown all at x)) (variable_amount at x)
    packed_amount at (Proj l a) = packed_amount at a
    packed_amount at (Inj l a) = packed_amount at a
    packed_amount at (Case a bs) = ap₂ (λ x y. x + y) (packed_amount at a) (arms_amount at bs)
    packed_amount at (Make k ts) = trees_amount at ts
    packed_amount at (Union a b) = ap₂ (λ x y. x + y) (packed_amount at a) (packed_amount at b)
    packed_amount at (Ext k b s) = ap₂ (λ x y. loop + (x + y)) (packed_amount (at + 1) b) (packed_amount at s)
    packed_amount at (If a b c) = ap₂ (λ x y. x + y) (packed_amount at a) (ap₂ (λ x y. x + y) (packed_amount at b) (packed_amount at c))
    packed_amount at (Let a b) = ap₂ (λ x y. x + y) (packed_amount at a) (packed_amount (at + 1) b)
    packed_amount at (Prim c ts) = trees_amount at ts

    trees_amount : (at : ℕ) (ts : Trees) → amount_of_trees loop source (packed_trees n shown all at ts) ≡ amount_of_trees loop source ts
    trees_amount at no_trees = refl
    trees_amount at (trees t ts) = ap₂ (λ x y. x + y) (packed_amount at t) (trees_amount at ts)

    parts_amount : (at : ℕ) (ts : Parts) → amount_of_parts loop source (packed_parts n shown all at ts) ≡ amount_of_parts loop source ts
    parts_amount at no_parts = refl
    parts_amount at (parts l t ts) = ap₂ (λ x y. x + y) (packed_amount at t) (parts_amount at ts)

    arms_amount : (at : ℕ) (bs : Arms) → amount_of_arms loop source (packed_arms n shown all at bs) ≡ amount_of_arms loop source bs
    arms_amount at no_arms = refl
    arms_amount at (rest c) = packed_amount at c
    arms_amount at (arm l b bs) = ap₂ (λ x y. x + y) (packed_amount (at + 1) b) (arms_amount at bs)

-- what is left of a front has no more nodes, no more loops and no more sources
module _ (loop source : ℕ) where
  left_amount : (k : Kind) (n : ℕ) (t : Tree) → amount_in loop source (left k n t) ≤ amount_in loop source t
  left_amount k n (If c d e) = by (is_front k c e) (test_of n c) (left_amount k n d)
    where
      by : (b : Bool) (o : Option SqlTest) → amount_in loop source (left k n d) ≤ amount_in loop source d → amount_in loop source (cond b (left_before o c (left k n d) e) (If c d e)) ≤ amount_in loop source c + (amount_in loop source d + amount_in loop source e)
      by false o h = omega arith
      by true (Some q) h = omega (arith, h)
      by true None h = omega (arith, h)
  left_amount k n t = omega arith

  pub by_amount : (select : Bool) (k : Kind) (n : ℕ) (t : Tree) → amount_in loop source (body_left select k n t) ≤ amount_in loop source t
  by_amount true k n t = left_amount k n t
  by_amount false k n t = omega arith

left_nodes : (k : Kind) (n : ℕ) (t : Tree) → nodes_of (left k n t) ≤ nodes_of t
left_nodes k n (If c d e) = by (is_front k c e) (test_of n c) (left_nodes k n d)
  where
    by : (b : Bool) (o : Option SqlTest) → nodes_of (left k n d) ≤ nodes_of d → nodes_of (cond b (left_before o c (left k n d) e) (If c d e)) ≤ nodes_of (If c d e)
    by false o h = omega arith
    by true (Some q) h = omega (arith, h)
    by true None h = omega (arith, h)
left_nodes k n t = omega arith

pub by_nodes : (select : Bool) (k : Kind) (n : ℕ) (t : Tree) → nodes_of (body_left select k n t) ≤ nodes_of t
by_nodes true k n t = left_nodes k n t
by_nodes false k n t = omega arith

module _ (ss : List ShipSource) (s : ShipSource) (k : Kind) where
  module _ (loop source : ℕ) (one : loop + source ≡ 1) where
    -- each loop that joins is one less
    pub joined_amount : (select : Bool) (ts : List ShipSource) (n : ℕ) (b : Tree) (qs : List SqlTest) (d : Tree) → Joins ss s k select n b ts qs d → amount_in loop source d + length ts ≤ amount_in loop source b
    joined_amount select [] n b qs d w =
        let e : amount_in loop source d ≡ amount_in loop source (body_left select k n b) = ap (amount_in loop source) w.1 in
        let le = by_amount loop source select k n b in
        omega (arith, e, le)
    joined_amount select (t ∷ ts) n b qs d w =
        let e : amount_in loop source (body_left select k n b) ≡ loop + (amount_in loop source w.0 + source) = ap (amount_in loop source) w.3 in
        let le = by_amount loop source select k n b in
        let more = joined_amount true ts (suc n) w.0 w.2 d w.6 in
        omega (arith, e, le, more, one)

  pub joined_nodes : (select : Bool) (ts : List ShipSource) (n : ℕ) (b : Tree) (qs : List SqlTest) (d : Tree) → Joins ss s k select n b ts qs d → nodes_of d ≤ nodes_of b
  joined_nodes select [] n b qs d w =
      let e : nodes_of d ≡ nodes_of (body_left select k n b) = ap nodes_of w.1 in
      let le = by_nodes select k n b in
      omega (arith, e, le)
  joined_nodes select (t ∷ ts) n b qs d w =
      let e : nodes_of (body_left select k n b) ≡ nodes_of (Ext k w.0 (Source w.1)) = ap nodes_of w.3 in
      let le = by_nodes select k n b in
      let more = joined_nodes true ts (suc n) w.0 w.2 d w.6 in
      omega (arith, e, le, more)

-- ---- nodes of a packed body

module _ (n : ℕ) (shown : ℕ → Name → Name) (all : ℕ → List Name) (most : ℕ) (bound : (p : ℕ) → 2 + 2 * length (all p) ≤ most) where
  row_nodes : (f : Name → Name) (at : ℕ) (ls : List Name) → nodes_parts (row_parts f at ls) ≡ 2 * length ls
  row_nodes f at [] = omega arith
  row_nodes f at (l ∷ ls) = let e = row_nodes f at ls in omega (arith, e)

  variable_nodes : (at x : ℕ) → nodes_of (packed_variable n shown all at x) + 1 ≤ most
  variable_nodes at x = by (nat_lt x at) (nat_lt x (at + n))
    where
      by : (b c : Bool) → nodes_of (cond b (Var x) (cond c (Rec (row_parts (shown (x - at)) at (all (x - at)))) (Var (x + 1 - n)))) + 1 ≤ most
      by true c = let z = bound 0 in omega (arith, z)
      by false true = let e = row_nodes (shown (x - at)) at (all (x - at)) in let z = bound (x - at) in omega (arith, e, z)
      by false false = let z = bound 0 in omega (arith, z)

  column_nodes : (at : ℕ) (l : Name) (o : Option ℕ) (t : Tree) → nodes_of t ≤ most * 2 → nodes_of (packed_column n shown all at l o t) ≤ most * 2
  column_nodes at l None t h = h
  column_nodes at l (Some x) t h = by (not (nat_lt x at) && nat_lt x (at + n))
    where
      by : (b : Bool) → nodes_of (cond b (Proj (shown (x - at) l) (Var at)) t) ≤ most * 2
      by true = let z = bound 0 in omega (arith, z)
      by false = h

  some_most : 2 ≤ most
  some_most = let z = bound 0 in omega (arith, z)

  mutual
    pub packed_nodes : (at : ℕ) (t : Tree) → nodes_of (packed n shown all at t) ≤ most * nodes_of t
    packed_nodes at (Var x) = let z = variable_nodes at x in omega (arith, z)
    packed_nodes at (Const v) = let z = some_most in omega (arith, z)
    packed_nodes at (Source i) = let z = some_most in omega (arith, z)
    packed_nodes at (Rec ps) = let z = some_most in let h = parts_nodes at ps in omega (arith, z, h)
    packed_nodes at (Proj l (Var x)) =
        let z = variable_nodes at x in
        let h = column_nodes at l (Some x) (Proj l (packed_variable n shown all at x)) (let g = some_most in omega (arith, z, g)) in
        omega (arith, h)
    packed_nodes at (Proj l a) = let z = some_most in let h = packed_nodes at a in omega (arith, z, h)
    packed_nodes at (Inj l a) = let z = some_most in let h = packed_nodes at a in omega (arith, z, h)
    packed_nodes at (Case a bs) = let z = some_most in let h = packed_nodes at a in let g = arms_nodes at bs in omega (arith, z, h, g)
    packed_nodes at (Make k ts) = let z = some_most in let h = trees_nodes at ts in omega (arith, z, h)
    packed_nodes at (Union a b) = let z = some_most in let h = packed_nodes at a in let g = packed_nodes at b in omega (arith, z, h, g)
    packed_nodes at (Ext k b s) = let z = some_most in let h = packed_nodes (at + 1) b in let g = packed_nodes at s in omega (arith, z, h, g)
    packed_nodes at (If a b c) = let z = some_most in let h = packed_nodes at a in let g = packed_nodes at b in let f = packed_nodes at c in omega (arith, z, h, g, f)
    packed_nodes at (Let a b) = let z = some_most in let h = packed_nodes at a in let g = packed_nodes (at + 1) b in omega (arith, z, h, g)
    packed_nodes at (Prim c ts) = let z = some_most in let h = trees_nodes at ts in omega (arith, z, h)

    trees_nodes : (at : ℕ) (ts : Trees) → nodes_trees (packed_trees n shown all at ts) ≤ most * nodes_trees ts
    trees_nodes at no_trees = omega arith
    trees_nodes at (trees t ts) = let h = packed_nodes at t in let g = trees_nodes at ts in omega (arith, h, g)

    parts_nodes : (at : ℕ) (ts : Parts) → nodes_parts (packed_parts n shown all at ts) ≤ most * nodes_parts ts
    parts_nodes at no_parts = omega arith
    parts_nodes at (parts l t ts) = let h = packed_nodes at t in let g = parts_nodes at ts in omega (arith, h, g)

    arms_nodes : (at : ℕ) (bs : Arms) → nodes_arms (packed_arms n shown all at bs) ≤ most * nodes_arms bs
    arms_nodes at no_arms = omega arith
    arms_nodes at (rest c) = packed_nodes at c
    arms_nodes at (arm l b bs) = let h = packed_nodes (at + 1) b in let g = arms_nodes at bs in omega (arith, h, g)

-- ---- the measure: nodes times a power of the most that a node becomes

some_power : (b n : ℕ) → 0 < b → 0 < b ^ n
some_power b zero h = let z = pow-zero b in omega (arith, z)
some_power b (suc n) h = let e : b ^ suc n ≡ b ^ n * b = pow-suc b n in let more = mul-le-mul_right (b ^ n) h in let some = some_power b n h in omega (arith, e, more, some)

-- a part has fewer nodes and no more loops
pub child_less : (most a b s r : ℕ) → 0 < most → a < b → s ≤ r → a * most ^ s < b * most ^ r
child_less most a b s r some less few =
    let grows : most ^ s ≤ most ^ r = pow-le-pow_right some few in
    let one = mul-le-mul_right a grows in
    let two = mul-le-mul_right (most ^ r) less in
    let positive = some_power most r some in
    omega (arith, one, two, positive)

-- a packed body may have more nodes, but has a loop less
pub packed_less : (most a b c s r : ℕ) → 0 < most → a ≤ most * b → b < c → s < r → a * most ^ s < c * most ^ r
packed_less most a b c s r some nodes less few =
    let one = mul-le-mul_right (most ^ s) nodes in
    let power : most ^ suc s ≡ most ^ s * most = pow-suc most s in
    let two = child_less most b c (suc s) r some less few in
    let three : most * b * most ^ s ≡ b * most ^ suc s = omega (arith, ap (λ p. b * p) power) in
    omega (arith, one, two, three)

-- ---- loops are few

-- a loop is at least two nodes beside its own parts' loops
mutual
  pub loops_nodes : (t : Tree) → 2 * loops_in t + 1 ≤ nodes_of t
  loops_nodes (Var x) = omega arith
  loops_nodes (Const v) = omega arith
  loops_nodes (Source i) = omega arith
  loops_nodes (Rec ps) = let h = parts_loops ps in omega (arith, h)
  loops_nodes (Proj l a) = let h = loops_nodes a in omega (arith, h)
  loops_nodes (Inj l a) = let h = loops_nodes a in omega (arith, h)
  loops_nodes (Case a bs) = let h = loops_nodes a in let g = arms_loops bs in omega (arith, h, g)
  loops_nodes (Make k ts) = let h = trees_loops ts in omega (arith, h)
  loops_nodes (Union a b) = let h = loops_nodes a in let g = loops_nodes b in omega (arith, h, g)
  loops_nodes (Ext k b s) = let h = loops_nodes b in let g = loops_nodes s in omega (arith, h, g)
  loops_nodes (If a b c) = let h = loops_nodes a in let g = loops_nodes b in let f = loops_nodes c in omega (arith, h, g, f)
  loops_nodes (Let a b) = let h = loops_nodes a in let g = loops_nodes b in omega (arith, h, g)
  loops_nodes (Prim c ts) = let h = trees_loops ts in omega (arith, h)

  trees_loops : (ts : Trees) → 2 * loops_trees ts ≤ nodes_trees ts
  trees_loops no_trees = omega arith
  trees_loops (trees t ts) = let h = loops_nodes t in let g = trees_loops ts in omega (arith, h, g)

  parts_loops : (ps : Parts) → 2 * loops_parts ps ≤ nodes_parts ps
  parts_loops no_parts = omega arith
  parts_loops (parts l t ps) = let h = loops_nodes t in let g = parts_loops ps in omega (arith, h, g)

  arms_loops : (bs : Arms) → 2 * loops_arms bs ≤ nodes_arms bs
  arms_loops no_arms = omega arith
  arms_loops (rest c) = let h = loops_nodes c in omega (arith, h)
  arms_loops (arm l b bs) = let h = loops_nodes b in let g = arms_loops bs in omega (arith, h, g)
