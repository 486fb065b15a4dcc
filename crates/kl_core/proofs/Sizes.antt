-- The size and the depth of a record and of a case, as they are counted, and the binders among its nodes.
use Rattle.std.proofs.Common.{◌≡◌, ℕ, ◌+◌, ◌-◌, ◌^◌, ◌≤◌, min, max, List, [], ◌∷◌, map, Option, Some, None, refl, sym, ap, ◌∙◌, arith}
use Rattle.kl_outcome.specs.Outcome.{Name}
use Rattle.kl_core.specs.declared.term.Term.{Term}
use Rattle.kl_core.specs.declared.term.Term.TheVariants as term
use Rattle.kl_core.specs.Trees.{Tree, Var, Const, Source, Rec, Proj, Inj, Case, Make, Union, Ext, If, Let, Prim, Trees, no_trees, trees, Parts, no_parts, parts, Arms, no_arms, rest, arm, arms_of, rest_of, view, view_part, parts_view}
use Rattle.kl_core.specs.Positions.{binders, binders_trees, binders_parts, binders_arms}
use Rattle.kl_core.specs.Counts.{nodes_of, nodes_trees, nodes_parts, nodes_arms, depth_of, depth_parts, depth_arms}
use Rattle.kl_core.proofs.Views.{view_Rec, view_Case, view_option}

nodes_branches : (ps : List (Name × Term)) (last : Arms) → nodes_arms (arms_of (map view_part ps) last) ≡ nodes_parts (parts_view ps) + nodes_arms last
nodes_branches [] last = omega arith
nodes_branches (p ∷ ps) last = let e = nodes_branches ps last in omega arith

nodes_case : (t a b : Term) (ps qs : List (Name × Term)) (c d : Option Term) → t ≡ term.Case a ps c → b ≡ a → qs ≡ ps → c ≡ d
    → nodes_of (view t) ≡ 1 + (nodes_of (view b) + (nodes_parts (parts_view qs) + nodes_arms (rest_of (view_option d))))
nodes_case t a b ps qs c d e f g h =
    ap nodes_of (ap view e ∙ view_Case a ps c) ∙ ap (λ n. 1 + (nodes_of (view a) + n)) (nodes_branches ps (rest_of (view_option c)))
    ∙ rw (f, g, h) refl

pub nodes_rec : (t : Term) (ps qs : List (Name × Term)) (x r : ℕ) → t ≡ term.Rec ps → qs ≡ ps
    → x ≡ min (nodes_parts (parts_view qs)) (2 ^ 64 - 1) → r ≡ min (x + 1) (2 ^ 64 - 1) → r ≡ min (nodes_of (view t)) (2 ^ 64 - 1)
nodes_rec t ps qs x r e f g h =
    let i : nodes_of (view t) ≡ 1 + nodes_parts (parts_view qs) = rw (e, f, view_Rec) refl in
    omega arith

pub nodes_other : (t a b o d : Term) (ps qs : List (Name × Term)) (c : Option Term) (x y z q s r : ℕ) → t ≡ term.Case a ps c → b ≡ a → qs ≡ ps → c ≡ Some o → d ≡ o
    → x ≡ min (nodes_of (view b)) (2 ^ 64 - 1) → y ≡ min (nodes_parts (parts_view qs)) (2 ^ 64 - 1) → q ≡ min (x + y) (2 ^ 64 - 1) → s ≡ min (q + 1) (2 ^ 64 - 1)
    → z ≡ min (nodes_of (view d)) (2 ^ 64 - 1) → r ≡ min (s + z) (2 ^ 64 - 1) → r ≡ min (nodes_of (view t)) (2 ^ 64 - 1)
nodes_other t a b o d ps qs c x y z q s r e f g h j hx hy hq hs hz hr =
    let i : nodes_of (view t) ≡ 1 + (nodes_of (view b) + (nodes_parts (parts_view qs) + nodes_of (view d))) = nodes_case t a b ps qs c (Some d) e f g (h ∙ ap (λ u. Some u) (sym j)) in
    omega arith

pub nodes_nothing : (t a b : Term) (ps qs : List (Name × Term)) (c : Option Term) (x y q s : ℕ) → t ≡ term.Case a ps c → b ≡ a → qs ≡ ps → c ≡ None
    → x ≡ min (nodes_of (view b)) (2 ^ 64 - 1) → y ≡ min (nodes_parts (parts_view qs)) (2 ^ 64 - 1) → q ≡ min (x + y) (2 ^ 64 - 1) → s ≡ min (q + 1) (2 ^ 64 - 1)
    → s ≡ min (nodes_of (view t)) (2 ^ 64 - 1)
nodes_nothing t a b ps qs c x y q s e f g h hx hy hq hs =
    let i : nodes_of (view t) ≡ 1 + (nodes_of (view b) + (nodes_parts (parts_view qs) + 0)) = nodes_case t a b ps qs c None e f g h in
    omega arith

depth_branches : (ps : List (Name × Term)) (last : Arms) → depth_arms (arms_of (map view_part ps) last) ≡ max (depth_parts (parts_view ps)) (depth_arms last)
depth_branches [] last = omega arith
depth_branches (p ∷ ps) last = let e = depth_branches ps last in omega arith

depth_case : (t a b : Term) (ps qs : List (Name × Term)) (c d : Option Term) → t ≡ term.Case a ps c → b ≡ a → qs ≡ ps → c ≡ d
    → depth_of (view t) ≡ 1 + max (depth_of (view b)) (max (depth_parts (parts_view qs)) (depth_arms (rest_of (view_option d))))
depth_case t a b ps qs c d e f g h =
    ap depth_of (ap view e ∙ view_Case a ps c) ∙ ap (λ n. 1 + max (depth_of (view a)) n) (depth_branches ps (rest_of (view_option c)))
    ∙ rw (f, g, h) refl

pub depth_rec : (t : Term) (ps qs : List (Name × Term)) (x r : ℕ) → t ≡ term.Rec ps → qs ≡ ps
    → x ≡ min (depth_parts (parts_view qs)) (2 ^ 64 - 1) → r ≡ min (x + 1) (2 ^ 64 - 1) → r ≡ min (depth_of (view t)) (2 ^ 64 - 1)
depth_rec t ps qs x r e f g h =
    let i : depth_of (view t) ≡ 1 + depth_parts (parts_view qs) = rw (e, f, view_Rec) refl in
    omega arith

pub depth_other : (t a b o d : Term) (ps qs : List (Name × Term)) (c : Option Term) (x y z q s r : ℕ) → t ≡ term.Case a ps c → b ≡ a → qs ≡ ps → c ≡ Some o → d ≡ o
    → x ≡ min (depth_of (view b)) (2 ^ 64 - 1) → y ≡ min (depth_parts (parts_view qs)) (2 ^ 64 - 1) → q ≡ max x y
    → z ≡ min (depth_of (view d)) (2 ^ 64 - 1) → s ≡ max q z → r ≡ min (s + 1) (2 ^ 64 - 1) → r ≡ min (depth_of (view t)) (2 ^ 64 - 1)
depth_other t a b o d ps qs c x y z q s r e f g h j hx hy hq hz hs hr =
    let i : depth_of (view t) ≡ 1 + max (depth_of (view b)) (max (depth_parts (parts_view qs)) (depth_of (view d))) = depth_case t a b ps qs c (Some d) e f g (h ∙ ap (λ u. Some u) (sym j)) in
    omega arith

pub depth_nothing : (t a b : Term) (ps qs : List (Name × Term)) (c : Option Term) (x y q r : ℕ) → t ≡ term.Case a ps c → b ≡ a → qs ≡ ps → c ≡ None
    → x ≡ min (depth_of (view b)) (2 ^ 64 - 1) → y ≡ min (depth_parts (parts_view qs)) (2 ^ 64 - 1) → q ≡ max x y → r ≡ min (q + 1) (2 ^ 64 - 1)
    → r ≡ min (depth_of (view t)) (2 ^ 64 - 1)
depth_nothing t a b ps qs c x y q r e f g h hx hy hq hr =
    let i : depth_of (view t) ≡ 1 + max (depth_of (view b)) (max (depth_parts (parts_view qs)) 0) = depth_case t a b ps qs c None e f g h in
    omega arith

-- each binder round a place is a node of its own
mutual
  pub few_binders : (t : Tree) → binders t + 1 ≤ nodes_of t
  few_binders (Var x) = omega arith
  few_binders (Const v) = omega arith
  few_binders (Source i) = omega arith
  few_binders (Rec ps) = omega (arith, few_in_parts ps)
  few_binders (Proj l a) = omega (arith, few_binders a)
  few_binders (Inj l a) = omega (arith, few_binders a)
  few_binders (Case a bs) = omega (arith, few_binders a, few_in_arms bs)
  few_binders (Make k ts) = omega (arith, few_in_trees ts)
  few_binders (Union a b) = omega (arith, few_binders a, few_binders b)
  few_binders (Ext k b s) = omega (arith, few_binders b, few_binders s)
  few_binders (If a b c) = omega (arith, few_binders a, few_binders b, few_binders c)
  few_binders (Let a b) = omega (arith, few_binders a, few_binders b)
  few_binders (Prim c ts) = omega (arith, few_in_trees ts)

  few_in_trees : (ts : Trees) → binders_trees ts ≤ nodes_trees ts
  few_in_trees no_trees = omega arith
  few_in_trees (trees t ts) = omega (arith, few_binders t, few_in_trees ts)

  few_in_parts : (ps : Parts) → binders_parts ps ≤ nodes_parts ps
  few_in_parts no_parts = omega arith
  few_in_parts (parts l t ps) = omega (arith, few_binders t, few_in_parts ps)

  few_in_arms : (bs : Arms) → binders_arms bs ≤ nodes_arms bs
  few_in_arms no_arms = omega arith
  few_in_arms (rest c) = omega (arith, few_binders c)
  few_in_arms (arm l b bs) = omega (arith, few_binders b, few_in_arms bs)
