-- A body over rows as one over the row that shows them, by the columns of the rows as they stand in lists.
use Rattle.std.specs.Prelude.{ℕ, ◌-◌, Bool, List, [], ◌∷◌, length, Option, Some, None, slice_get}
use Rattle.kl_value.specs.declared.Kind.{Kind}
use Rattle.kl_outcome.specs.Outcome.{Name}
use Rattle.kl_core.specs.Trees.{Tree, Proj, Trees, Parts, Arms}
use Rattle.kl_sqltext.specs.Grammar.{SqlColumn}
use Rattle.kl_ship.specs.Delegation.{body_left}
use Rattle.kl_ship.specs.Joined.{label_in, packed, packed_trees, packed_parts, packed_arms, packed_variable, packed_column}

abbrev pub list_or_none : Option (List Name) → List Name
list_or_none (Some ls) = ls
list_or_none None = []

-- the list at a place
abbrev pub columns_listed : List (List Name) → ℕ → List Name
columns_listed all i = list_or_none (slice_get all i)

-- the columns as they are shown, and all columns of each table; the row of the last table is the nearest
module _ (cs : List SqlColumn) (all : List (List Name)) where
  abbrev pub label_over_rows : ℕ → Name → Name
  label_over_rows p = label_in cs (length all - 1 - p)

  abbrev pub all_over_rows : ℕ → List Name
  all_over_rows p = columns_listed all (length all - 1 - p)

  abbrev pub over_rows : ℕ → Tree → Tree
  over_rows = packed (length all) label_over_rows all_over_rows

  abbrev pub trees_over_rows : ℕ → Trees → Trees
  trees_over_rows = packed_trees (length all) label_over_rows all_over_rows

  abbrev pub parts_over_rows : ℕ → Parts → Parts
  parts_over_rows = packed_parts (length all) label_over_rows all_over_rows

  abbrev pub arms_over_rows : ℕ → Arms → Arms
  arms_over_rows = packed_arms (length all) label_over_rows all_over_rows

  abbrev pub variable_over_rows : ℕ → ℕ → Tree
  variable_over_rows = packed_variable (length all) label_over_rows all_over_rows

  abbrev pub column_over_rows : ℕ → Name → ℕ → Tree
  column_over_rows at l x = packed_column (length all) label_over_rows all_over_rows at l (Some x) (Proj l (variable_over_rows at x))

-- what is left of a body over the row that is shown of more tables than one
abbrev pub over_more : Bool → Kind → List SqlColumn → List (List Name) → Tree → Option Tree
over_more select k cs [] body = None
over_more select k cs (all ∷ []) body = None
over_more select k cs (first ∷ second ∷ all) body =
    Some (over_rows cs (first ∷ second ∷ all) 0 (body_left select k (length (first ∷ second ∷ all)) body))
