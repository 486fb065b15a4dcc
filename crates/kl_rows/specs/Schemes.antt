-- Schemes: tables of parts, each before the wholes that it is part of.
use Rattle.std.specs.Prelude.{◌≡◌, ℕ, ◌<◌, Bool, true, List, [], ◌∷◌, length, map, Option, Some, None, slice_get}
use Rattle.std.specs.List.{AllByRecursion}
use Rattle.kl_type.specs.Ground.{Ground}
use Rattle.kl_type.specs.declared.Ty.{Ty, Ty-F, out-Ty}
use Rattle.kl_rows.specs.declared.cell.Scalar.TheVariants as scalar
use Rattle.kl_rows.specs.declared.cell.TypeNode.{TypeNode}
use Rattle.kl_rows.specs.declared.cell.TypeNode.TheVariants as type
use Rattle.kl_rows.specs.declared.cell.KindNode.TheVariants as kind
use Rattle.kl_rows.specs.declared.cell.RowNode.TheVariants as row
use Rattle.kl_rows.specs.declared.cell.Cell.{Cell}
use Rattle.kl_rows.specs.declared.cell.Cell.TheVariants.{OfType, OfFunction, OfRow, OfKind}
use Rattle.kl_rows.specs.declared.schemes.Node.{Node}
use Rattle.kl_rows.specs.declared.schemes.Node.TheVariants as node
use Rattle.kl_rows.specs.declared.schemes.Part.{Part}
use Rattle.kl_rows.specs.declared.schemes.Part.TheVariants.{Is, AnyType, AnyRow, AnyKind}
use Rattle.kl_rows.specs.declared.schemes.Scheme.{Scheme}
use Rattle.kl_rows.specs.Copying.{kept_in}
use Rattle.kl_rows.specs.Lists.{Fields}
use Rattle.kl_rows.specs.Places.{Sort, a_type, a_function, a_row, a_kind, sort_at, IsTyped, Parts, IsPlaced, IsTidy, IsFine}
use Rattle.kl_rows.specs.Solutions.{Assignment, Solves}
use Rattle.kl_rows.specs.Steps.{Grown, KeepsCells}

abbrev base_layer : Ty-F Ty → TypeNode
base_layer Ty-F.Bool = type.Base scalar.Bool
base_layer Ty-F.Int = type.Base scalar.Int
base_layer Ty-F.Str = type.Base scalar.Str
base_layer _ = type.AnyType

abbrev pub base_node : Ty → TypeNode
base_node t = base_layer (out-Ty t)

abbrev IsBaseLayer : Ty-F Ty → Type 0
IsBaseLayer Ty-F.Bool = Unit {0}
IsBaseLayer Ty-F.Int = Unit {0}
IsBaseLayer Ty-F.Str = Unit {0}
IsBaseLayer _ = ⊥

-- the cell that says what a part says
abbrev pub node_cell : Node → Cell
node_cell (node.Base t) = OfType (base_node t)
node_cell (node.Rec r) = OfType (type.Rec r)
node_cell (node.Var r) = OfType (type.Var r)
node_cell (node.Coll k t) = OfType (type.Coll k t)
node_cell (node.Arrow a b) = OfFunction a b
node_cell (node.Row l t r) = OfRow (row.Front ((l, t) ∷ []) r)
node_cell node.EmptyRow = OfRow row.NoRow
node_cell (node.Fixed k) = OfKind (kind.Fixed k)

abbrev pub cell_of : Part → Cell
cell_of (Is n) = node_cell n
cell_of AnyType = OfType type.AnyType
cell_of (AnyRow ls) = OfRow (row.AnyRow ls)
cell_of AnyKind = OfKind kind.AnyKind

abbrev pub cells_of : List Part → List Cell
cells_of parts = map cell_of parts

-- a base type is bool, int or string
abbrev pub IsBaseNode : Node → Type 0
IsBaseNode (node.Base t) = IsBaseLayer (out-Ty t)
IsBaseNode _ = Unit {0}

abbrev pub IsBasePart : Part → Type 0
IsBasePart (Is n) = IsBaseNode n
IsBasePart _ = Unit {0}

-- the type that a number of this sort has, or the function's type
abbrev pub given : Option Sort → Assignment → ℕ → Ground
given (Some a_function) s i = s.functions i
given (Some a_type) s i = s.types i
given (Some a_row) s i = s.types i
given (Some a_kind) s i = s.types i
given None s i = s.types i

-- some types, rows and kinds give each part what it says, and the root this type
pub record Instance (scheme : Scheme) (t : Ground) : Type 0 where
  pub by : Assignment
  pub solves : Solves (cells_of scheme.nodes) by
  pub root_is : given (sort_at (cells_of scheme.nodes) scheme.root) by scheme.root ≡ t

-- Numbers are places of parts of the right sorts, before their own, rests lack the labels before them, and the root is a
-- type or a function.
pub record IsScheme (scheme : Scheme) : Type 0 where
  pub placed : (i : ℕ) (c : Cell) → slice_get (cells_of scheme.nodes) i ≡ Some c → IsPlaced (cells_of scheme.nodes) i c
  pub before : (i : ℕ) (c : Cell) → slice_get (cells_of scheme.nodes) i ≡ Some c → Parts c (λ p. p < i)
  pub tidy : (i : ℕ) (fs : Fields) (r : ℕ) → slice_get (cells_of scheme.nodes) i ≡ Some (OfRow (row.Front fs r))
      → IsTidy (cells_of scheme.nodes) fs r
  pub bases : AllByRecursion IsBasePart scheme.nodes
  pub root_in : IsTyped (cells_of scheme.nodes) scheme.root

-- a scheme, of the root's sort, whose instances are the types that solutions of the cells give the root; there is one
pub record Settles (cells : List Cell) (root : ℕ) (scheme : Scheme) : Type 0 where
  pub good : IsScheme scheme
  pub sort : sort_at (cells_of scheme.nodes) scheme.root ≡ sort_at cells root
  pub to : (s : Assignment) → Solves cells s → Instance scheme (given (sort_at cells root) s root)
  pub from : (t : Ground) → Instance scheme t → (s : Assignment) × Solves cells s × (given (sort_at cells root) s root ≡ t)
  pub has_one : (t : Ground) × Instance scheme t

-- each new solution is an old one and gives the number an instance, and each old one grows by each instance
pub record Instantiates (old new : List Cell) (scheme : Scheme) (i : ℕ) : Type 0 where
  pub fine : IsFine new
  pub keeps : KeepsCells old new
  pub sort : sort_at new i ≡ sort_at (cells_of scheme.nodes) scheme.root
  pub up : (s : Assignment) → Solves new s → Solves old s × Instance scheme (given (sort_at new i) s i)
  pub down : (s : Assignment) (t : Ground) → Solves old s → Instance scheme t → Grown old new s (λ u. given (sort_at new i) u i ≡ t)

-- parts that say what these cells say
pub record Tabled (cells : List Cell) (parts : List Part) : Type 0 where
  pub same : cells_of parts ≡ cells
  pub bases : AllByRecursion IsBasePart parts

-- the places of a list of this length
pub record CountsTo (n : ℕ) (list : List ℕ) : Type 0 where
  pub size : length list ≡ n
  pub each : (k : ℕ) → k < n → slice_get list k ≡ Some k

-- a list of this length in which all is kept
pub record KeepsAll (n : ℕ) (list : List Bool) : Type 0 where
  pub size : length list ≡ n
  pub each : (k : ℕ) → k < n → kept_in list k ≡ true
