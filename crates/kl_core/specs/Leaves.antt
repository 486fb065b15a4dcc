-- What holds of each variable and of each source of a term.
use Rattle.std.specs.Prelude.{ℕ, ⊤}
use Rattle.kl_core.specs.Trees.{Tree, Var, Const, Source, Rec, Proj, Inj, Case, Make, Union, Ext, If, Let, Prim, Trees, no_trees}
use Rattle.kl_core.specs.Trees.{trees, Parts, no_parts, parts, Arms, no_arms, rest, arm}

module _ (V S : ℕ → Type 0) where
  abbrev mutual
    pub Leaves : Tree → Type 0
    Leaves (Var x) = V x
    Leaves (Const v) = ⊤
    Leaves (Source i) = S i
    Leaves (Rec ps) = LeavesOfParts ps
    Leaves (Proj l a) = Leaves a
    Leaves (Inj l a) = Leaves a
    Leaves (Case a bs) = Leaves a × LeavesOfArms bs
    Leaves (Make k ts) = LeavesOfTrees ts
    Leaves (Union a b) = Leaves a × Leaves b
    Leaves (Ext k b s) = Leaves b × Leaves s
    Leaves (If a b c) = Leaves a × Leaves b × Leaves c
    Leaves (Let a b) = Leaves a × Leaves b
    Leaves (Prim c ts) = LeavesOfTrees ts

    pub LeavesOfTrees : Trees → Type 0
    LeavesOfTrees no_trees = ⊤
    LeavesOfTrees (trees t ts) = Leaves t × LeavesOfTrees ts

    pub LeavesOfParts : Parts → Type 0
    LeavesOfParts no_parts = ⊤
    LeavesOfParts (parts l t ps) = Leaves t × LeavesOfParts ps

    pub LeavesOfArms : Arms → Type 0
    LeavesOfArms no_arms = ⊤
    LeavesOfArms (rest c) = Leaves c
    LeavesOfArms (arm l b bs) = Leaves b × LeavesOfArms bs
