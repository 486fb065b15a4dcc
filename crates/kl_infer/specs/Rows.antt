-- Rows in a scheme's table. No public contract cites this.
use Rattle.std.specs.Prelude.{◌≡◌, ℕ, ◌<◌, ◌≤◌, Bool, true, false, Option, None, List, [], ◌∷◌, ◌++◌, length, Some, slice_get, codes}
use Rattle.std.specs.List.{AllByRecursion}
use Rattle.kl_value.specs.declared.Kind.{Kind}
use Rattle.kl_value.specs.Written.{separator}
use Rattle.kl_rows.specs.declared.schemes.Part.{Part}
use Rattle.kl_rows.specs.declared.schemes.Part.TheVariants.{Is}
use Rattle.kl_rows.specs.declared.schemes.Node.TheVariants as node
use Rattle.kl_infer.specs.Printed.{Tree, any, field, name_text, tree_at}

-- a fact of each place in a part
abbrev pub Places : Part → (ℕ → Type 0) → Type 0
Places (Is (node.Rec r)) P = P r
Places (Is (node.Var r)) P = P r
Places (Is (node.Coll k t)) P = P k × P t
Places (Is (node.Arrow a b)) P = P a × P b
Places (Is (node.Row l t r)) P = P t × P r
Places (Is n) P = Unit {0}
Places p P = Unit {0}

-- the place is there, and parts stand before the wholes that they are part of
pub record CanPrint (parts : List Part) (place : ℕ) : Type 0 where
  pub inside : place < length parts
  pub before : (i : ℕ) (p : Part) → slice_get parts i ≡ Some p → Places p (λ q. q < i)

-- a tree with these fields more
abbrev pub fronted : List Part → List (List ℕ × ℕ) → Tree → Tree
fronted parts [] r = r
fronted parts (f ∷ fs) r = field f.0 (tree_at parts f.1) (fronted parts fs r)

abbrev pub IsEnd : Tree → Type 0
IsEnd (field l t r) = ⊥
IsEnd _ = Unit {0}

-- the row has these fields before its end
pub record IsRowOf (parts : List Part) (place : ℕ) (fields : List (List ℕ × ℕ)) (end : ℕ) : Type 0 where
  pub same : tree_at parts place ≡ fronted parts fields (tree_at parts end)
  pub is_end : IsEnd (tree_at parts end)
  pub falls : AllByRecursion (λ f. f.1 < place) fields
  pub here : end ≤ place

-- the mark of an open row behind so many fields
abbrev pub mark_behind : ℕ → Tree → List ℕ → List ℕ
mark_behind count (any p) all = separator count ++ name_text (codes "...'") p all
mark_behind count _ all = []

-- a field with what stands behind it
abbrev pub front_of : Part → Option (List ℕ × (ℕ × ℕ))
front_of (Is (node.Row l t r)) = Some (l, (t, r))
front_of _ = None

abbrev pub is_open : Part → Bool
is_open (Is n) = false
is_open _ = true

abbrev pub kind_of : Part → Option Kind
kind_of (Is (node.Fixed k)) = Some k
kind_of _ = None
