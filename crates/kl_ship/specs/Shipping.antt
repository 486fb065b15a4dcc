-- What the code of shipping asks of a term, and what it gives for a part, by its form.
use Rattle.std.specs.Prelude.{◌≡◌, ◌⊎◌, ℕ, ◌<◌, Bool, true, false, List, [], ◌∷◌, length, map, Option, Some, None, ⊤}
use Rattle.std.specs.Option.{option_map}
use Rattle.kl_value.specs.declared.Kind.{Kind}
use Rattle.kl_type.specs.Ground.{Ground, coll}
use Rattle.kl_outcome.specs.Outcome.{Name}
use Rattle.kl_core.specs.declared.term.Term.{Term}
use Rattle.kl_core.specs.Trees.{Tree, Var, Const, Source, Rec, Proj, Inj, Case, Make, Union, Ext, If, Let, Prim, Trees, no_trees, trees}
use Rattle.kl_core.specs.Trees.{Parts, no_parts, parts, Arms, no_arms, rest, arm, arms_of, rest_of, view as term_view, view_part}
use Rattle.kl_core.specs.Typing.{CoreTypes}
use Rattle.kl_ship.specs.declared.needs.Need.{Need}
use Rattle.kl_ship.specs.declared.needs.Need.TheVariants as need
use Rattle.kl_plan.specs.declared.plan.Plan.{Plan}
use Rattle.kl_plan.specs.declared.plan.Plan.TheVariants as plan
use Rattle.kl_plan.specs.declared.plan.Scan.{Scan}
use Rattle.kl_ship.specs.declared.source.ShipSource.{ShipSource}
use Rattle.kl_ship.specs.Contents.{types_in}
use Rattle.kl_ship.specs.Delegation.{body_left}
use Rattle.kl_plan.specs.Nodes as node
use Rattle.kl_plan.specs.Nodes.{Node, Branches, rest_of as rest_node, view}
use Rattle.kl_ship.specs.Ships.{Becomes, ArmsBecome, BySql, Delegates, IsScan, is_generator}

-- ---- terms over these sources: each source is in the list, and each loop makes sense where positions have some types

module _ (ss : List ShipSource) where
  pub record LoopSense (k : Kind) (b a : Tree) : Type 0 where
    pub near : List Ground
    pub kind : Kind
    pub row : Ground
    pub item : Ground
    pub source : CoreTypes (types_in ss) near a (coll kind row)
    pub body : CoreTypes (types_in ss) (row ∷ near) b (coll k item)

  abbrev mutual
    pub IsSound : Tree → Type 0
    IsSound (Var x) = ⊤
    IsSound (Const v) = ⊤
    IsSound (Source i) = i < length ss
    IsSound (Rec ps) = PartsSound ps
    IsSound (Proj l a) = IsSound a
    IsSound (Inj l a) = IsSound a
    IsSound (Case a bs) = IsSound a × ArmsSound bs
    IsSound (Make k ts) = TreesSound ts
    IsSound (Union a b) = IsSound a × IsSound b
    IsSound (Ext k b a) = IsSound b × IsSound a × LoopSense k b a
    IsSound (If a b c) = IsSound a × IsSound b × IsSound c
    IsSound (Let a b) = IsSound a × IsSound b
    IsSound (Prim c ts) = TreesSound ts

    pub TreesSound : Trees → Type 0
    TreesSound no_trees = ⊤
    TreesSound (trees t ts) = IsSound t × TreesSound ts

    pub PartsSound : Parts → Type 0
    PartsSound no_parts = ⊤
    PartsSound (parts l t ps) = IsSound t × PartsSound ps

    pub ArmsSound : Arms → Type 0
    ArmsSound no_arms = ⊤
    ArmsSound (rest c) = IsSound c
    ArmsSound (arm l b bs) = IsSound b × ArmsSound bs

-- ---- what stands behind `otherwise`

abbrev pub other_view : Option Term → Arms
other_view c = rest_of (option_map term_view c)

abbrev pub arms_view : List (Name × Term) → Option Term → Arms
arms_view ps c = arms_of (map view_part ps) (other_view c)

-- ---- forms, with what is needed of the parts that become the whole

module _ (on : Bool) (ss : List ShipSource) where
  abbrev pub UnionBecomes : Need → Tree → Tree → ℕ → Node → ℕ → Type 0
  UnionBecomes v a b n p m = (x : Node) × (y : Node) × (i : ℕ) × Becomes on ss v a n x i × Becomes on ss v b i y m × (p ≡ node.Union x y)

  abbrev pub LetBecomes : Need → Tree → Tree → ℕ → Node → ℕ → Type 0
  LetBecomes v a b n p m =
      (x : Node) × (y : Node) × (i : ℕ) × Becomes on ss need.Whole a n x i × Becomes on ss v b i y m × (p ≡ node.Let x y)

  abbrev pub IfBecomes : Need → Tree → Tree → Tree → ℕ → Node → ℕ → Type 0
  IfBecomes v a b c n p m =
      (x : Node) × (y : Node) × (z : Node) × (i : ℕ) × (j : ℕ) × Becomes on ss need.Whole a n x i × Becomes on ss v b i y j
      × Becomes on ss v c j z m × (p ≡ node.If x y z)

  abbrev pub CaseBecomes : Need → Tree → Arms → ℕ → Node → ℕ → Type 0
  CaseBecomes v a bs n p m = (x : Node) × (y : Branches) × (i : ℕ) × Becomes on ss need.Whole a n x i × ArmsBecome on ss v bs i y m
      × (p ≡ node.Case x y)

  -- a loop whose source becomes a plan, or a scan to which work of the body is left
  abbrev pub LoopBecomes : Kind → Tree → Tree → ℕ → Node → ℕ → Type 0
  LoopBecomes k b a n p m =
      (x : Node) × (y : Node) × (d : Tree) × (i : ℕ)
      × (((is_generator on a ≡ false) × (d ≡ b) × Becomes on ss (need.Source k) a n x i)
      ⊎ ((is_generator on a ≡ true) × Delegates ss k b a n x i d))
      × Becomes on ss need.Items d i y m × (p ≡ node.Ext k y x)

-- ---- scans by statements

-- the body over what a statement shows: of one table the body stays, but for its tests
abbrev pub behind_statement : ShipSource → Kind → Tree → Option Tree → Tree
behind_statement s k b (Some d) = d
behind_statement s k b None = body_left s.abilities.select k 1 b

-- a scan by a statement, and the body over what it shows
pub record Stated (ss : List ShipSource) (s : ShipSource) (k : Kind) (b : Tree) (n : ℕ) (c : Scan) (d : Option Tree) : Type 0 where
  pub scan : IsScan s (need.Source k) n c
  pub sql : BySql ss s k b c (behind_statement s k b d)

-- a plan that is such a scan
abbrev pub IsStated : List ShipSource → ShipSource → Kind → Tree → ℕ → Plan → Option Tree → Type 0
IsStated ss s k b n p d = (c : Scan) × (p ≡ plan.Scan c) × Stated ss s k b n c d

-- a body over what some statement for the loop shows
abbrev pub IsBehind : List ShipSource → ShipSource → Kind → Tree → Option Tree → Type 0
IsBehind ss s k b d = (n : ℕ) × (c : Scan) × Stated ss s k b n c d

-- ---- the first of some columns

abbrev pub listed_first : Option Name → List Name
listed_first (Some l) = l ∷ []
listed_first None = []
