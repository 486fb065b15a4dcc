-- How large and how deep a term is with another part.
use Rattle.std.proofs.Common.{◌≡◌, ℕ, zero, suc, ◌+◌, ◌≤◌, max, [], ◌∷◌, length, Option, Some, None, option_and_then, refl, sym, ap, subst, arith}
use Rattle.std.proofs.lemmas.Option.{same_Some}
use Rattle.kl_core.specs.Trees.{Tree, Var, Const, Source, Rec, Proj, Inj, Case, Make, Union, Ext, If, Let, Prim, Trees, no_trees, trees, Parts, no_parts, parts, Arms, no_arms, rest, arm}
use Rattle.kl_core.specs.Counts.{nodes_of, nodes_trees, nodes_parts, nodes_arms, depth_of, depth_trees, depth_parts, depth_arms}
use Rattle.kl_rewrite.specs.Places.{tree_at, field_at, arm_at, part_at, with_tree, with_field, with_arm, with_part, Place, stands_at, in_part, with_at}

module _ (a v : Tree) where
  nodes_here : (b : Tree) → Some b ≡ Some a → nodes_of b ≡ nodes_of a
  nodes_here b e = ap nodes_of (same_Some b a e)

  nodes_tree : (ts : Trees) (i : ℕ) → tree_at ts i ≡ Some a → nodes_trees (with_tree ts i v) + nodes_of a ≡ nodes_trees ts + nodes_of v
  nodes_tree no_trees i e = absurd cc
  nodes_tree (trees t ts) zero e = omega (arith, nodes_here t e)
  nodes_tree (trees t ts) (suc i) e = omega (arith, nodes_tree ts i e)

  nodes_field : (ps : Parts) (i : ℕ) → field_at ps i ≡ Some a → nodes_parts (with_field ps i v) + nodes_of a ≡ nodes_parts ps + nodes_of v
  nodes_field no_parts i e = absurd cc
  nodes_field (parts l t ps) zero e = omega (arith, nodes_here t e)
  nodes_field (parts l t ps) (suc i) e = omega (arith, nodes_field ps i e)

  nodes_arm : (bs : Arms) (i : ℕ) → arm_at bs i ≡ Some a → nodes_arms (with_arm bs i v) + nodes_of a ≡ nodes_arms bs + nodes_of v
  nodes_arm no_arms i e = absurd cc
  nodes_arm (rest c) zero e = omega (arith, nodes_here c e)
  nodes_arm (rest c) (suc i) e = absurd cc
  nodes_arm (arm l b bs) zero e = omega (arith, nodes_here b e)
  nodes_arm (arm l b bs) (suc i) e = omega (arith, nodes_arm bs i e)

  pub nodes_part : (t : Tree) (i : ℕ) → part_at t i ≡ Some a → nodes_of (with_part t i v) + nodes_of a ≡ nodes_of t + nodes_of v
  nodes_part (Var x) i e = absurd cc
  nodes_part (Const c) i e = absurd cc
  nodes_part (Source n) i e = absurd cc
  nodes_part (Rec ps) i e = omega (arith, nodes_field ps i e)
  nodes_part (Proj l b) zero e = omega (arith, nodes_here b e)
  nodes_part (Proj l b) (suc i) e = absurd cc
  nodes_part (Inj l b) zero e = omega (arith, nodes_here b e)
  nodes_part (Inj l b) (suc i) e = absurd cc
  nodes_part (Case b bs) zero e = omega (arith, nodes_here b e)
  nodes_part (Case b bs) (suc i) e = omega (arith, nodes_arm bs i e)
  nodes_part (Make j ts) i e = omega (arith, nodes_tree ts i e)
  nodes_part (Union b c) zero e = omega (arith, nodes_here b e)
  nodes_part (Union b c) (suc zero) e = omega (arith, nodes_here c e)
  nodes_part (Union b c) (suc (suc i)) e = absurd cc
  nodes_part (Ext j b s) zero e = omega (arith, nodes_here b e)
  nodes_part (Ext j b s) (suc zero) e = omega (arith, nodes_here s e)
  nodes_part (Ext j b s) (suc (suc i)) e = absurd cc
  nodes_part (If b c d) zero e = omega (arith, nodes_here b e)
  nodes_part (If b c d) (suc zero) e = omega (arith, nodes_here c e)
  nodes_part (If b c d) (suc (suc zero)) e = omega (arith, nodes_here d e)
  nodes_part (If b c d) (suc (suc (suc i))) e = absurd cc
  nodes_part (Let b c) zero e = omega (arith, nodes_here b e)
  nodes_part (Let b c) (suc zero) e = omega (arith, nodes_here c e)
  nodes_part (Let b c) (suc (suc i)) e = absurd cc
  nodes_part (Prim c ts) i e = omega (arith, nodes_tree ts i e)

  -- at least as deep as the new part, and no deeper than the old whole and the new part
  abbrev Between : ℕ → ℕ → Type 0
  Between old new = (depth_of v ≤ new) × (new ≤ max old (depth_of v))

  depth_tree : (ts : Trees) (i : ℕ) → tree_at ts i ≡ Some a → Between (depth_trees ts) (depth_trees (with_tree ts i v))
  depth_tree no_trees i e = absurd cc
  depth_tree (trees t ts) zero e = (omega arith, omega arith)
  depth_tree (trees t ts) (suc i) e = let h = depth_tree ts i e in (omega (arith, h.0), omega (arith, h.1))

  depth_field : (ps : Parts) (i : ℕ) → field_at ps i ≡ Some a → Between (depth_parts ps) (depth_parts (with_field ps i v))
  depth_field no_parts i e = absurd cc
  depth_field (parts l t ps) zero e = (omega arith, omega arith)
  depth_field (parts l t ps) (suc i) e = let h = depth_field ps i e in (omega (arith, h.0), omega (arith, h.1))

  depth_arm : (bs : Arms) (i : ℕ) → arm_at bs i ≡ Some a → Between (depth_arms bs) (depth_arms (with_arm bs i v))
  depth_arm no_arms i e = absurd cc
  depth_arm (rest c) zero e = (omega arith, omega arith)
  depth_arm (rest c) (suc i) e = absurd cc
  depth_arm (arm l b bs) zero e = (omega arith, omega arith)
  depth_arm (arm l b bs) (suc i) e = let h = depth_arm bs i e in (omega (arith, h.0), omega (arith, h.1))

  pub depth_part : (t : Tree) (i : ℕ) → part_at t i ≡ Some a → (depth_of v + 1 ≤ depth_of (with_part t i v)) × (depth_of (with_part t i v) ≤ max (depth_of t) (depth_of v + 1))
  depth_part (Var x) i e = absurd cc
  depth_part (Const c) i e = absurd cc
  depth_part (Source n) i e = absurd cc
  depth_part (Rec ps) i e = let h = depth_field ps i e in (omega (arith, h.0), omega (arith, h.1))
  depth_part (Proj l b) zero e = (omega arith, omega arith)
  depth_part (Proj l b) (suc i) e = absurd cc
  depth_part (Inj l b) zero e = (omega arith, omega arith)
  depth_part (Inj l b) (suc i) e = absurd cc
  depth_part (Case b bs) zero e = (omega arith, omega arith)
  depth_part (Case b bs) (suc i) e = let h = depth_arm bs i e in (omega (arith, h.0), omega (arith, h.1))
  depth_part (Make j ts) i e = let h = depth_tree ts i e in (omega (arith, h.0), omega (arith, h.1))
  depth_part (Union b c) zero e = (omega arith, omega arith)
  depth_part (Union b c) (suc zero) e = (omega arith, omega arith)
  depth_part (Union b c) (suc (suc i)) e = absurd cc
  depth_part (Ext j b s) zero e = (omega arith, omega arith)
  depth_part (Ext j b s) (suc zero) e = (omega arith, omega arith)
  depth_part (Ext j b s) (suc (suc i)) e = absurd cc
  depth_part (If b c d) zero e = (omega arith, omega arith)
  depth_part (If b c d) (suc zero) e = (omega arith, omega arith)
  depth_part (If b c d) (suc (suc zero)) e = (omega arith, omega arith)
  depth_part (If b c d) (suc (suc (suc i))) e = absurd cc
  depth_part (Let b c) zero e = (omega arith, omega arith)
  depth_part (Let b c) (suc zero) e = (omega arith, omega arith)
  depth_part (Let b c) (suc (suc i)) e = absurd cc
  depth_part (Prim c ts) i e = let h = depth_tree ts i e in (omega (arith, h.0), omega (arith, h.1))

pub put_tree : (b : Tree) (ts : Trees) (i : ℕ) → tree_at ts i ≡ Some b → with_tree ts i b ≡ ts
put_tree b no_trees i e = refl
put_tree b (trees t ts) zero e = ap (λ x. trees x ts) (sym (same_Some t b e))
put_tree b (trees t ts) (suc i) e = ap (trees t) (put_tree b ts i e)

pub put_field : (b : Tree) (ps : Parts) (i : ℕ) → field_at ps i ≡ Some b → with_field ps i b ≡ ps
put_field b no_parts i e = refl
put_field b (parts l t ps) zero e = ap (λ x. parts l x ps) (sym (same_Some t b e))
put_field b (parts l t ps) (suc i) e = ap (parts l t) (put_field b ps i e)

put_arm : (b : Tree) (bs : Arms) (i : ℕ) → arm_at bs i ≡ Some b → with_arm bs i b ≡ bs
put_arm b no_arms i e = refl
put_arm b (rest c) zero e = ap rest (sym (same_Some c b e))
put_arm b (rest c) (suc i) e = absurd cc
put_arm b (arm l a bs) zero e = ap (λ x. arm l x bs) (sym (same_Some a b e))
put_arm b (arm l a bs) (suc i) e = ap (arm l a) (put_arm b bs i e)

pub put_back : (b t : Tree) (i : ℕ) → part_at t i ≡ Some b → with_part t i b ≡ t
put_back b (Var x) i e = refl
put_back b (Const c) i e = refl
put_back b (Source n) i e = refl
put_back b (Rec ps) i e = ap Rec (put_field b ps i e)
put_back b (Proj l a) zero e = ap (Proj l) (sym (same_Some a b e))
put_back b (Proj l a) (suc i) e = absurd cc
put_back b (Inj l a) zero e = ap (Inj l) (sym (same_Some a b e))
put_back b (Inj l a) (suc i) e = absurd cc
put_back b (Case a bs) zero e = ap (λ x. Case x bs) (sym (same_Some a b e))
put_back b (Case a bs) (suc i) e = ap (Case a) (put_arm b bs i e)
put_back b (Make j ts) i e = ap (Make j) (put_tree b ts i e)
put_back b (Union a c) zero e = ap (λ x. Union x c) (sym (same_Some a b e))
put_back b (Union a c) (suc zero) e = ap (Union a) (sym (same_Some c b e))
put_back b (Union a c) (suc (suc i)) e = absurd cc
put_back b (Ext j a s) zero e = ap (λ x. Ext j x s) (sym (same_Some a b e))
put_back b (Ext j a s) (suc zero) e = ap (Ext j a) (sym (same_Some s b e))
put_back b (Ext j a s) (suc (suc i)) e = absurd cc
put_back b (If a c d) zero e = ap (λ x. If x c d) (sym (same_Some a b e))
put_back b (If a c d) (suc zero) e = ap (λ x. If a x d) (sym (same_Some c b e))
put_back b (If a c d) (suc (suc zero)) e = ap (If a c) (sym (same_Some d b e))
put_back b (If a c d) (suc (suc (suc i))) e = absurd cc
put_back b (Let a c) zero e = ap (λ x. Let x c) (sym (same_Some a b e))
put_back b (Let a c) (suc zero) e = ap (Let a) (sym (same_Some c b e))
put_back b (Let a c) (suc (suc i)) e = absurd cc
put_back b (Prim c ts) i e = ap (Prim c) (put_tree b ts i e)

-- a part is less deep than the whole
pub inside : (b t : Tree) (i : ℕ) → part_at t i ≡ Some b → depth_of b + 1 ≤ depth_of t
inside b t i e = subst (λ x. depth_of b + 1 ≤ depth_of x) (put_back b t i e) ((depth_part b b t i e).0)

pub nodes_place : (p : Place) (t a v : Tree) → stands_at t p ≡ Some a → nodes_of (with_at t p v) + nodes_of a ≡ nodes_of t + nodes_of v
nodes_place [] t a v e = let f = ap nodes_of (same_Some t a e) in omega (arith, f)
nodes_place (i ∷ p) t a v e = by_part (part_at t i) refl e (λ b f. nodes_place p b a v f)
  where
    by_part : (o : Option Tree) → part_at t i ≡ o → option_and_then (λ b. stands_at b p) o ≡ Some a → ((b : Tree) → stands_at b p ≡ Some a → nodes_of (with_at b p v) + nodes_of a ≡ nodes_of b + nodes_of v)
        → nodes_of (in_part t i o (λ b. with_at b p v)) + nodes_of a ≡ nodes_of t + nodes_of v
    by_part (Some b) f g next = omega (arith, nodes_part b (with_at b p v) t i f, next b g)
    by_part None f g next = absurd cc

pub depth_place : (p : Place) (t a v : Tree) → stands_at t p ≡ Some a → (depth_of v + length p ≤ depth_of (with_at t p v)) × (depth_of (with_at t p v) ≤ max (depth_of t) (depth_of v + length p))
depth_place [] t a v e = (omega arith, omega arith)
depth_place (i ∷ p) t a v e = by_part (part_at t i) refl e (λ b f. depth_place p b a v f)
  where
    by_part : (o : Option Tree) → part_at t i ≡ o → option_and_then (λ b. stands_at b p) o ≡ Some a → ((b : Tree) → stands_at b p ≡ Some a → (depth_of v + length p ≤ depth_of (with_at b p v)) × (depth_of (with_at b p v) ≤ max (depth_of b) (depth_of v + length p)))
        → (depth_of v + length (i ∷ p) ≤ depth_of (in_part t i o (λ b. with_at b p v))) × (depth_of (in_part t i o (λ b. with_at b p v)) ≤ max (depth_of t) (depth_of v + length (i ∷ p)))
    by_part (Some b) f g next =
        let h = depth_part b (with_at b p v) t i f in
        let d = next b g in
        let below = inside b t i f in
        (omega (arith, h.0, d.0), omega (arith, h.1, d.1, below))
    by_part None f g next = absurd cc
