-- Which terms make sense, and at which types, where sources and positions have types.
use Rattle.std.specs.Prelude.{◌≡◌, ◌⊎◌, ℕ, List, [], ◌∷◌, Option, Some, IsSome, slice_get, ⊤}
use Rattle.std.specs.List.Sorted.{IsStrictlySortedBy}
use Rattle.kl_base.specs.Fields.{bytes_cmp}
use Rattle.kl_value.specs.declared.Kind.{Kind}
use Rattle.kl_value.specs.declared.Value.{Value}
use Rattle.kl_type.specs.Ground.{Ground, Row, bool, rec as rec_type, var as var_type, coll, no_row, row, at, labels_in, IsGround}
use Rattle.kl_outcome.specs.Outcome.{Name}
use Rattle.kl_outcome.specs.Typed.{Inhabits, PrimTypes}
use Rattle.kl_core.specs.Trees.{Tree, Var, Const, Source, Rec, Proj, Inj, Case, Make, Union, Ext, If, Let, Prim, Trees, no_trees}
use Rattle.kl_core.specs.Trees.{trees, Parts, no_parts, parts, Arms, no_arms, rest, arm}

-- the type of each source, where there is one
abbrev pub SourceTypes : Type 0
SourceTypes = ℕ → Option Ground

-- a branch for the label, or one for all that are left
abbrev pub HasArm : Name → Arms → Type 0
HasArm l no_arms = ⊥
HasArm l (rest c) = ⊤
HasArm l (arm m b bs) = (l ≡ m) ⊎ HasArm l bs

-- each label of the row has a branch
abbrev pub Covers : Row → Arms → Type 0
Covers r bs = (l : Name) → IsSome (at l r) → HasArm l bs

-- The types of a term, as derivations over ground types. All of them are proper: where a derivation is free to choose a
-- type, as that of a constant, a variant or an empty collection, it is, and so is what a position or a source has.
abbrev mutual
  pub CoreTypes : SourceTypes → List Ground → Tree → Ground → Type 0
  CoreTypes S G (Var x) t = (slice_get G x ≡ Some t) × IsGround t
  CoreTypes S G (Const v) t = IsGround t × Inhabits t v
  CoreTypes S G (Source i) t = (S i ≡ Some t) × IsGround t
  CoreTypes S G (Rec ps) t = (r : Row) × (t ≡ rec_type r) × IsStrictlySortedBy bytes_cmp (labels_in r) × PartTypes S G ps r
  CoreTypes S G (Proj l a) t = (r : Row) × CoreTypes S G a (rec_type r) × (at l r ≡ Some t)
  CoreTypes S G (Inj l a) t = (r : Row) × (s : Ground) × (t ≡ var_type r) × IsGround t × (at l r ≡ Some s) × CoreTypes S G a s
  CoreTypes S G (Case a bs) t = (r : Row) × CoreTypes S G a (var_type r) × Covers r bs × ArmTypes S G bs r t
  CoreTypes S G (Make k ts) t = (s : Ground) × (t ≡ coll k s) × IsGround t × EachType S G ts s
  CoreTypes S G (Union a b) t = (k : Kind) × (s : Ground) × (t ≡ coll k s) × CoreTypes S G a t × CoreTypes S G b t
  CoreTypes S G (Ext k b a) t =
      (s : Ground) × (j : Kind) × (u : Ground) × (t ≡ coll k s) × CoreTypes S G a (coll j u) × CoreTypes S (u ∷ G) b t
  CoreTypes S G (If a b c) t = CoreTypes S G a bool × CoreTypes S G b t × CoreTypes S G c t
  CoreTypes S G (Let a b) t = (s : Ground) × CoreTypes S G a s × CoreTypes S (s ∷ G) b t
  CoreTypes S G (Prim c ts) t = (ss : List Ground) × AllTypes S G ts ss × PrimTypes c ss t

  -- all of one type
  pub EachType : SourceTypes → List Ground → Trees → Ground → Type 0
  EachType S G no_trees s = ⊤
  EachType S G (trees t ts) s = CoreTypes S G t s × EachType S G ts s

  -- each of its own type
  pub AllTypes : SourceTypes → List Ground → Trees → List Ground → Type 0
  AllTypes S G no_trees ss = ss ≡ []
  AllTypes S G (trees t ts) ss = (s : Ground) × (rest : List Ground) × (ss ≡ s ∷ rest) × CoreTypes S G t s × AllTypes S G ts rest

  -- the fields' labels and types are those of the row
  pub PartTypes : SourceTypes → List Ground → Parts → Row → Type 0
  PartTypes S G no_parts r = r ≡ no_row
  PartTypes S G (parts l t ps) r = (s : Ground) × (rest : Row) × (r ≡ row l s rest) × CoreTypes S G t s × PartTypes S G ps rest

  -- each branch is for a label of the row, and all results have the type
  pub ArmTypes : SourceTypes → List Ground → Arms → Row → Ground → Type 0
  ArmTypes S G no_arms r t = ⊤
  ArmTypes S G (rest c) r t = CoreTypes S G c t
  ArmTypes S G (arm l b bs) r t = (s : Ground) × (at l r ≡ Some s) × CoreTypes S (s ∷ G) b t × ArmTypes S G bs r t

-- each source has a value of its type
abbrev pub HaveSources : SourceTypes → (ℕ → Option Value) → Type 0
HaveSources S T = (i : ℕ) (t : Ground) → S i ≡ Some t → (v : Value) × (T i ≡ Some v) × Inhabits t v
