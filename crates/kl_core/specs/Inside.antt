-- For private functions alone: room for `with` inside a term, where it stands under so many binders of the whole already.
use Rattle.std.specs.Prelude.{ℕ, ◌+◌, ◌<◌, ◌^◌, ⊤}
use Rattle.kl_core.specs.Trees.{Tree, Var, Const, Source, Rec, Proj, Inj, Case, Make, Union, Ext, If, Let, Prim, Trees, no_trees}
use Rattle.kl_core.specs.Trees.{trees, Parts, no_parts, parts, Arms, no_arms, rest, arm}
use Rattle.kl_core.specs.Positions.{InRange, shift_of}

abbrev mutual
  pub RoomIn : Tree → ℕ → ℕ → Tree → Type 0
  RoomIn (Var x) at under with = InRange (shift_of with 0 under)
  RoomIn (Const v) at under with = ⊤
  RoomIn (Source i) at under with = ⊤
  RoomIn (Rec ps) at under with = RoomParts ps at under with
  RoomIn (Proj l a) at under with = RoomIn a at under with
  RoomIn (Inj l a) at under with = RoomIn a at under with
  RoomIn (Case a bs) at under with = RoomIn a at under with × RoomArms bs at under with
  RoomIn (Make k ts) at under with = RoomTrees ts at under with
  RoomIn (Union a b) at under with = RoomIn a at under with × RoomIn b at under with
  RoomIn (Ext k b s) at under with = RoomIn s at under with × (at + 1 < 2 ^ 32) × RoomIn b (at + 1) (under + 1) with
  RoomIn (If a b c) at under with = RoomIn a at under with × RoomIn b at under with × RoomIn c at under with
  RoomIn (Let a b) at under with = RoomIn a at under with × (at + 1 < 2 ^ 32) × RoomIn b (at + 1) (under + 1) with
  RoomIn (Prim c ts) at under with = RoomTrees ts at under with

  pub RoomTrees : Trees → ℕ → ℕ → Tree → Type 0
  RoomTrees no_trees at under with = ⊤
  RoomTrees (trees t ts) at under with = RoomIn t at under with × RoomTrees ts at under with

  pub RoomParts : Parts → ℕ → ℕ → Tree → Type 0
  RoomParts no_parts at under with = ⊤
  RoomParts (parts l t ps) at under with = RoomIn t at under with × RoomParts ps at under with

  pub RoomArms : Arms → ℕ → ℕ → Tree → Type 0
  RoomArms no_arms at under with = ⊤
  RoomArms (rest c) at under with = RoomIn c at under with
  RoomArms (arm l b bs) at under with = ((at + 1 < 2 ^ 32) × RoomIn b (at + 1) (under + 1) with) × RoomArms bs at under with

-- under one more binder
abbrev pub RoomUnder : Tree → ℕ → ℕ → Tree → Type 0
RoomUnder t at under with = (at + 1 < 2 ^ 32) × RoomIn t (at + 1) (under + 1) with
