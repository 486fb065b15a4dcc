-- The text of a scheme.
use Rattle.std.specs.Prelude.{ℕ, zero, suc, List, [], ◌∷◌, ◌++◌, length, map, codes, decimal, Option, Some, slice_get}
use Rattle.std.specs.List.{flat_map}
use Rattle.std.specs.declared.cmp.Ordering.{Ordering}
use Rattle.kl_base.specs.Fields.{bytes_cmp}
use Rattle.kl_base.specs.Sorted.{sorted}
use Rattle.kl_value.specs.declared.Kind.{Kind}
use Rattle.kl_value.specs.Written.{with_commas, opening, closing}
use Rattle.kl_type.specs.declared.ground.Ty.{Ty}
use Rattle.kl_type.specs.Written.{type_text}
use Rattle.kl_rows.specs.declared.schemes.Node.{Node}
use Rattle.kl_rows.specs.declared.schemes.Node.TheVariants as node
use Rattle.kl_rows.specs.declared.schemes.Part.{Part}
use Rattle.kl_rows.specs.declared.schemes.Part.TheVariants.{Is}
use Rattle.kl_rows.specs.declared.schemes.Scheme.{Scheme}
use Rattle.kl_infer.specs.Numbers.{add_all, number}

-- A part with its parts in the stead of their places. A variable is its own place.
pub data Tree : Type 0 where
  base : Ty → Tree
  any : ℕ → Tree
  product : Tree → Tree
  choice : Tree → Tree
  items : Tree → Tree → Tree
  arrow : Tree → Tree → Tree
  field : List ℕ → Tree → Tree → Tree
  no_field : Tree
  kind : Kind → Tree

abbrev pub node_tree : (ℕ → Tree) → Node → Tree
node_tree at (node.Base t) = base t
node_tree at (node.Rec r) = product (at r)
node_tree at (node.Var r) = choice (at r)
node_tree at (node.Coll k t) = items (at k) (at t)
node_tree at (node.Arrow a b) = arrow (at a) (at b)
node_tree at (node.Row l t r) = field l (at t) (at r)
node_tree at node.EmptyRow = no_field
node_tree at (node.Fixed k) = kind k

abbrev pub part_tree : (ℕ → Tree) → ℕ → Option Part → Tree
part_tree at i (Some (Is n)) = node_tree at n
part_tree at i _ = any i

-- the tree of a place, so many parts deep
abbrev pub tree_to : ℕ → List Part → ℕ → Tree
tree_to zero parts i = any i
tree_to (suc n) parts i = part_tree (tree_to n parts) i (slice_get parts i)

-- as parts stand before the wholes that they are part of, no tree is deeper than there are parts
abbrev pub tree_at : List Part → ℕ → Tree
tree_at parts i = tree_to (length parts) parts i

-- by rising label
abbrev pub by_label : {X : Type 0} → List ℕ × X → List ℕ × X → Ordering
by_label f g = bytes_cmp f.0 g.0

-- the variables of a tree in the order of its text, each as often as it stands there
abbrev pub rest_variables : Tree → List ℕ
rest_variables (any p) = p ∷ []
rest_variables (field l t r) = rest_variables r
rest_variables _ = []

abbrev pub kind_variables : Tree → List ℕ
kind_variables (any p) = p ∷ []
kind_variables _ = []

abbrev mutual
  pub variables : Tree → List ℕ
  variables (any p) = p ∷ []
  variables (product r) = flat_map (λ f. f.1) (sorted by_label (field_variables r)) ++ rest_variables r
  variables (choice r) = flat_map (λ f. f.1) (sorted by_label (field_variables r)) ++ rest_variables r
  variables (items k t) = kind_variables k ++ variables t
  variables (arrow a b) = variables a ++ variables b
  variables _ = []

  pub field_variables : Tree → List (List ℕ × List ℕ)
  field_variables (field l t r) = (l, variables t) ∷ field_variables r
  field_variables _ = []

-- a variable behind its mark, where these are the variables of the whole text
abbrev pub name_text : List ℕ → ℕ → List ℕ → List ℕ
name_text mark p all = mark ++ decimal (number p all)

abbrev pub rest_text : Tree → List ℕ → List (List ℕ)
rest_text (any p) all = name_text (codes "...'") p all ∷ []
rest_text (field l t r) all = rest_text r all
rest_text _ all = []

abbrev pub opening_text : Tree → List ℕ → List ℕ
opening_text (kind k) all = opening k
opening_text (any p) all = name_text (codes "%") p all ++ codes "("
opening_text _ all = []

abbrev pub closing_text : Tree → List ℕ
closing_text (kind k) = closing k
closing_text (any p) = codes ")"
closing_text _ = []

abbrev mutual
  pub text : Tree → List ℕ → List ℕ
  text (base t) all = type_text t
  text (any p) all = name_text (codes "'") p all
  text (product r) all = codes "[" ++ with_commas (map (λ f. f.1) (sorted by_label (field_texts r all)) ++ rest_text r all) ++ codes "]"
  text (choice r) all = codes "<" ++ with_commas (map (λ f. f.1) (sorted by_label (field_texts r all)) ++ rest_text r all) ++ codes ">"
  text (items k t) all = opening_text k all ++ text t all ++ closing_text k
  text (arrow a b) all = text a all ++ codes " -> " ++ text b all
  text _ all = []

  pub field_texts : Tree → List ℕ → List (List ℕ × List ℕ)
  field_texts (field l t r) all = (l, l ++ codes ": " ++ text t all) ∷ field_texts r all
  field_texts _ all = []

-- the same of a row
abbrev pub row_variables : Tree → List ℕ
row_variables r = flat_map (λ f. f.1) (sorted by_label (field_variables r)) ++ rest_variables r

abbrev pub row_text : Tree → List ℕ → List ℕ
row_text r all = with_commas (map (λ f. f.1) (sorted by_label (field_texts r all)) ++ rest_text r all)

abbrev pub tree_of : Scheme → Tree
tree_of s = tree_at s.nodes s.root

abbrev pub scheme_text : Scheme → List ℕ
scheme_text s = text (tree_of s) (add_all [] (variables (tree_of s)))
