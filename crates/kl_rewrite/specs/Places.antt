-- Places in a term: paths of the numbers of parts, which are counted from 0 in the order in which a term writes them.
use Rattle.std.specs.Prelude.{◌≡◌, ◌⊎◌, ℕ, zero, suc, ◌<◌, List, [], ◌∷◌, Option, Some, None, option_and_then, ⊤}
use Rattle.kl_core.specs.Trees.{Tree, Rec, Proj, Inj, Case, Make, Union, Ext, If, Let, Prim, Trees, no_trees, trees, Parts}
use Rattle.kl_core.specs.Trees.{no_parts, parts, Arms, no_arms, rest, arm}

-- ---- one part

abbrev pub tree_at : Trees → ℕ → Option Tree
tree_at no_trees i = None
tree_at (trees t ts) zero = Some t
tree_at (trees t ts) (suc i) = tree_at ts i

abbrev pub field_at : Parts → ℕ → Option Tree
field_at no_parts i = None
field_at (parts l t ps) zero = Some t
field_at (parts l t ps) (suc i) = field_at ps i

abbrev pub arm_at : Arms → ℕ → Option Tree
arm_at no_arms i = None
arm_at (rest c) zero = Some c
arm_at (rest c) (suc i) = None
arm_at (arm l b bs) zero = Some b
arm_at (arm l b bs) (suc i) = arm_at bs i

abbrev pub first_of : Tree → ℕ → Option Tree
first_of a zero = Some a
first_of a (suc i) = None

abbrev pub either_of : Tree → Tree → ℕ → Option Tree
either_of a b zero = Some a
either_of a b (suc i) = first_of b i

-- the part with a number
abbrev pub part_at : Tree → ℕ → Option Tree
part_at (Rec ps) i = field_at ps i
part_at (Proj l a) i = first_of a i
part_at (Inj l a) i = first_of a i
part_at (Case a bs) zero = Some a
part_at (Case a bs) (suc i) = arm_at bs i
part_at (Make k ts) i = tree_at ts i
part_at (Union a b) i = either_of a b i
part_at (Ext k b s) i = either_of b s i
part_at (If a b c) zero = Some a
part_at (If a b c) (suc i) = either_of b c i
part_at (Let a b) i = either_of a b i
part_at (Prim c ts) i = tree_at ts i
part_at t i = None

abbrev pub with_tree : Trees → ℕ → Tree → Trees
with_tree no_trees i v = no_trees
with_tree (trees t ts) zero v = trees v ts
with_tree (trees t ts) (suc i) v = trees t (with_tree ts i v)

abbrev pub with_field : Parts → ℕ → Tree → Parts
with_field no_parts i v = no_parts
with_field (parts l t ps) zero v = parts l v ps
with_field (parts l t ps) (suc i) v = parts l t (with_field ps i v)

abbrev pub with_arm : Arms → ℕ → Tree → Arms
with_arm no_arms i v = no_arms
with_arm (rest c) i v = rest v
with_arm (arm l b bs) zero v = arm l v bs
with_arm (arm l b bs) (suc i) v = arm l b (with_arm bs i v)

-- the term with another part there
abbrev pub with_part : Tree → ℕ → Tree → Tree
with_part (Rec ps) i v = Rec (with_field ps i v)
with_part (Proj l a) i v = Proj l v
with_part (Inj l a) i v = Inj l v
with_part (Case a bs) zero v = Case v bs
with_part (Case a bs) (suc i) v = Case a (with_arm bs i v)
with_part (Make k ts) i v = Make k (with_tree ts i v)
with_part (Union a b) zero v = Union v b
with_part (Union a b) (suc i) v = Union a v
with_part (Ext k b s) zero v = Ext k v s
with_part (Ext k b s) (suc i) v = Ext k b v
with_part (If a b c) zero v = If v b c
with_part (If a b c) (suc zero) v = If a v c
with_part (If a b c) (suc (suc i)) v = If a b v
with_part (Let a b) zero v = Let v b
with_part (Let a b) (suc i) v = Let a v
with_part (Prim c ts) i v = Prim c (with_tree ts i v)
with_part t i v = t

-- ---- places

abbrev pub Place : Type 0
Place = List ℕ

-- what stands at a place
abbrev pub stands_at : Tree → Place → Option Tree
stands_at t [] = Some t
stands_at t (i ∷ p) = option_and_then (λ a. stands_at a p) (part_at t i)

-- the term with something else there
abbrev pub in_part : Tree → ℕ → Option Tree → (Tree → Tree) → Tree
in_part t i (Some a) f = with_part t i (f a)
in_part t i None f = t

abbrev pub with_at : Tree → Place → Tree → Tree
with_at t [] v = v
with_at t (i ∷ p) v = in_part t i (part_at t i) (λ a. with_at a p v)

-- a node before its parts, and parts by their numbers
abbrev pub IsBefore : Place → Place → Type 0
IsBefore [] [] = ⊥
IsBefore [] (j ∷ q) = ⊤
IsBefore (i ∷ p) [] = ⊥
IsBefore (i ∷ p) (j ∷ q) = (i < j) ⊎ ((i ≡ j) × IsBefore p q)
