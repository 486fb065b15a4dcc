-- Trees of parts.
use Rattle.std.proofs.Common.{◌≡◌, ⊎_elim, ℕ, zero, suc, ◌<◌, ◌≤◌, true, false, List, [], ◌∷◌, length, option_map, Option, Some, None, slice_get, get_or, refl, sym, ap, ◌∙◌, subst, arith}
use mathlib.Core.Path.{ap₂}
use Rattle.kl_rows.specs.declared.cell.Cell.{Cell}
use Rattle.kl_rows.specs.declared.schemes.Node.TheVariants as node
use Rattle.kl_rows.specs.declared.schemes.Part.{Part}
use Rattle.kl_rows.specs.declared.schemes.Part.TheVariants.{Is, AnyType, AnyRow, AnyKind}
use Rattle.kl_rows.specs.declared.schemes.Scheme.{Scheme}
use Rattle.kl_rows.specs.Places.{Sort, a_type, a_function, sort_of, Parts}
use Rattle.kl_rows.specs.Schemes.{cell_of, cells_of, IsScheme}
use Rattle.kl_infer.specs.Printed.{Tree, any, product, choice, items, arrow, field, kind, part_tree, tree_to, tree_at, kind_variables, rest_variables, opening_text, closing_text}
use Rattle.kl_infer.specs.Rows.{Places, CanPrint, IsEnd, front_of, is_open, kind_of, mark_behind}
use Rattle.kl_value.specs.declared.Kind.{Kind}

pub get_cells : (parts : List Part) (i : ℕ) (p : Part) → slice_get parts i ≡ Some p → slice_get (cells_of parts) i ≡ Some (cell_of p)
get_cells [] i p e = let z : ⊥ = cc in absurd z
get_cells (q ∷ parts) zero p e = let z : q ≡ p = cc in ap (λ x. Some (cell_of x)) z
get_cells (q ∷ parts) (suc i) p e = get_cells parts i p e

abbrev Before : List Part → Type 0
Before parts = (i : ℕ) (p : Part) → slice_get parts i ≡ Some p → Places p (λ q. q < i)

same_part : (f g : ℕ → Tree) (i : ℕ) (p : Part) → Places p (λ q. f q ≡ g q) → part_tree f i (Some p) ≡ part_tree g i (Some p)
same_part f g i (Is (node.Base t)) h = refl
same_part f g i (Is (node.Rec r)) h = ap product h
same_part f g i (Is (node.Var r)) h = ap choice h
same_part f g i (Is (node.Coll k t)) h = ap₂ items h.0 h.1
same_part f g i (Is (node.Arrow a b)) h = ap₂ arrow h.0 h.1
same_part f g i (Is (node.Row l t r)) h = ap₂ (field l) h.0 h.1
same_part f g i (Is node.EmptyRow) h = refl
same_part f g i (Is (node.Fixed k)) h = refl
same_part f g i AnyType h = refl
same_part f g i (AnyRow ls) h = refl
same_part f g i AnyKind h = refl

places_to : (p : Part) (P Q : ℕ → Type 0) → ((i : ℕ) → P i → Q i) → Places p P → Places p Q
places_to (Is (node.Base t)) P Q go h = tt
places_to (Is (node.Rec r)) P Q go h = go r h
places_to (Is (node.Var r)) P Q go h = go r h
places_to (Is (node.Coll k t)) P Q go h = (go k h.0, go t h.1)
places_to (Is (node.Arrow a b)) P Q go h = (go a h.0, go b h.1)
places_to (Is (node.Row l t r)) P Q go h = (go t h.0, go r h.1)
places_to (Is node.EmptyRow) P Q go h = tt
places_to (Is (node.Fixed k)) P Q go h = tt
places_to AnyType P Q go h = tt
places_to (AnyRow ls) P Q go h = tt
places_to AnyKind P Q go h = tt

-- in a scheme parts stand before the wholes that they are part of
places_of : (i : ℕ) (p : Part) → Parts (cell_of p) (λ q. q < i) → Places p (λ q. q < i)
places_of i (Is (node.Base t)) h = tt
places_of i (Is (node.Rec r)) h = h
places_of i (Is (node.Var r)) h = h
places_of i (Is (node.Coll k t)) h = h
places_of i (Is (node.Arrow a b)) h = h
places_of i (Is (node.Row l t r)) h = (h.0.0, h.1)
places_of i (Is node.EmptyRow) h = tt
places_of i (Is (node.Fixed k)) h = tt
places_of i AnyType h = tt
places_of i (AnyRow ls) h = tt
places_of i AnyKind h = tt

root_inside : (cs : List Cell) (i : ℕ) (q : Sort) → option_map sort_of (slice_get cs i) ≡ Some q → i < length cs
root_inside [] i q e = let z : ⊥ = cc in absurd z
root_inside (c ∷ cs) zero q e = omega arith
root_inside (c ∷ cs) (suc i) q e = omega (arith, root_inside cs i q e)

length_cells : (parts : List Part) → length (cells_of parts) ≡ length parts
length_cells [] = refl
length_cells (p ∷ parts) = ap suc (length_cells parts)

pub scheme_can : (s : Scheme) → IsScheme s → CanPrint s.nodes s.root
scheme_can s good = record {
  inside = let w : s.root < length (cells_of s.nodes) = ⊎_elim (λ e. root_inside (cells_of s.nodes) s.root a_type e) (λ e. root_inside (cells_of s.nodes) s.root a_function e) good.root_in in omega (arith, w, length_cells s.nodes);
  before = λ i p e. places_of i p (good.before i (cell_of p) (get_cells s.nodes i p e));
}

at_place : (parts : List Part) (m n i : ℕ) (o : Option Part) → slice_get parts i ≡ o → Before parts
    → ((p : ℕ) → p < i → tree_to m parts p ≡ tree_to n parts p) → part_tree (tree_to m parts) i o ≡ part_tree (tree_to n parts) i o
at_place parts m n i (Some p) e before go = same_part (tree_to m parts) (tree_to n parts) i p (places_to p (λ q. q < i) _ go (before i p e))
at_place parts m n i None e before go = refl

-- more depth than the place changes nothing
same_depth : (parts : List Part) (m n i : ℕ) → Before parts → i < m → i < n → tree_to m parts i ≡ tree_to n parts i
same_depth parts zero n i before h k = absurd (omega arith)
same_depth parts (suc m) zero i before h k = absurd (omega arith)
same_depth parts (suc m) (suc n) i before h k = at_place parts m n i (slice_get parts i) refl before (λ p lt. same_depth parts m n p before (omega arith) (omega arith))

deep : (parts : List Part) (n i : ℕ) → n ≡ length parts → Before parts → i < n → tree_at parts i ≡ part_tree (tree_at parts) i (slice_get parts i)
deep parts zero i e before lt = absurd (omega arith)
deep parts (suc n) i e before lt =
    subst (λ k. tree_to k parts i ≡ part_tree (tree_to k parts) i (slice_get parts i)) e
    (at_place parts n (suc n) i (slice_get parts i) refl before (λ p less. same_depth parts n (suc n) p before (omega arith) (omega arith)))

-- a tree by the trees of its parts
pub tree_is : (parts : List Part) (i : ℕ) (p : Part) → CanPrint parts i → slice_get parts i ≡ Some p → tree_at parts i ≡ part_tree (tree_at parts) i (Some p)
tree_is parts i p can e = deep parts (length parts) i refl can.before can.inside ∙ ap (part_tree (tree_at parts) i) e

-- the parts of a part can be printed
pub parts_can : (parts : List Part) (i : ℕ) (p : Part) → CanPrint parts i → slice_get parts i ≡ Some p → Places p (λ q. CanPrint parts q × (q < i))
parts_can parts i p can e = places_to p (λ q. q < i) _ (λ q lt. (record { inside = let w = can.inside in omega arith; before = can.before }, lt)) (can.before i p e)

pub some_at : {X : Type 0} (xs : List X) (i : ℕ) (x : X) → i < length xs → x ≡ get_or xs i x → slice_get xs i ≡ Some x
some_at [] i x lt e = absurd (omega arith)
some_at (y ∷ xs) zero x lt e = ap Some (sym e)
some_at (y ∷ xs) (suc i) x lt e = some_at xs i x (omega arith) e

pub open_tree : (at : ℕ → Tree) (i : ℕ) (p : Part) → is_open p ≡ true → part_tree at i (Some p) ≡ any i
open_tree at i (Is n) e = let z : ⊥ = cc in absurd z
open_tree at i AnyType e = refl
open_tree at i (AnyRow ls) e = refl
open_tree at i AnyKind e = refl

pub kind_tree : (at : ℕ → Tree) (i : ℕ) (p : Part) (k : Kind) → kind_of p ≡ Some k → part_tree at i (Some p) ≡ kind k
kind_tree at i (Is (node.Fixed j)) k e = let z : j ≡ k = cc in ap kind z
kind_tree at i (Is (node.Base t)) k e = let z : ⊥ = cc in absurd z
kind_tree at i (Is (node.Rec r)) k e = let z : ⊥ = cc in absurd z
kind_tree at i (Is (node.Var r)) k e = let z : ⊥ = cc in absurd z
kind_tree at i (Is (node.Coll j t)) k e = let z : ⊥ = cc in absurd z
kind_tree at i (Is (node.Arrow a b)) k e = let z : ⊥ = cc in absurd z
kind_tree at i (Is (node.Row l t r)) k e = let z : ⊥ = cc in absurd z
kind_tree at i (Is node.EmptyRow) k e = let z : ⊥ = cc in absurd z
kind_tree at i AnyType k e = let z : ⊥ = cc in absurd z
kind_tree at i (AnyRow ls) k e = let z : ⊥ = cc in absurd z
kind_tree at i AnyKind k e = let z : ⊥ = cc in absurd z

-- what is neither open nor a kind opens and closes nothing
pub record Plain (t : Tree) : Type 0 where
  pub variables : kind_variables t ≡ []
  pub before : (all : List ℕ) → opening_text t all ≡ []
  pub behind : closing_text t ≡ []

pub plain_tree : (at : ℕ → Tree) (i : ℕ) (p : Part) → is_open p ≡ false → kind_of p ≡ None → Plain (part_tree at i (Some p))
plain_tree at i (Is (node.Fixed j)) o e = let z : ⊥ = cc in absurd z
plain_tree at i (Is (node.Base t)) o e = record { variables = refl; before = λ all. refl; behind = refl }
plain_tree at i (Is (node.Rec r)) o e = record { variables = refl; before = λ all. refl; behind = refl }
plain_tree at i (Is (node.Var r)) o e = record { variables = refl; before = λ all. refl; behind = refl }
plain_tree at i (Is (node.Coll j t)) o e = record { variables = refl; before = λ all. refl; behind = refl }
plain_tree at i (Is (node.Arrow a b)) o e = record { variables = refl; before = λ all. refl; behind = refl }
plain_tree at i (Is (node.Row l t r)) o e = record { variables = refl; before = λ all. refl; behind = refl }
plain_tree at i (Is node.EmptyRow) o e = record { variables = refl; before = λ all. refl; behind = refl }
plain_tree at i AnyType o e = let z : ⊥ = cc in absurd z
plain_tree at i (AnyRow ls) o e = let z : ⊥ = cc in absurd z
plain_tree at i AnyKind o e = let z : ⊥ = cc in absurd z

-- an end that is not open has no mark
pub closed_tree : (at : ℕ → Tree) (i n : ℕ) (p : Part) → is_open p ≡ false → IsEnd (part_tree at i (Some p)) → (rest_variables (part_tree at i (Some p)) ≡ []) × ((all : List ℕ) → mark_behind n (part_tree at i (Some p)) all ≡ [])
closed_tree at i n (Is (node.Fixed j)) o e = (refl, λ all. refl)
closed_tree at i n (Is (node.Base t)) o e = (refl, λ all. refl)
closed_tree at i n (Is (node.Rec r)) o e = (refl, λ all. refl)
closed_tree at i n (Is (node.Var r)) o e = (refl, λ all. refl)
closed_tree at i n (Is (node.Coll j t)) o e = (refl, λ all. refl)
closed_tree at i n (Is (node.Arrow a b)) o e = (refl, λ all. refl)
closed_tree at i n (Is (node.Row l t r)) o e = absurd e
closed_tree at i n (Is node.EmptyRow) o e = (refl, λ all. refl)
closed_tree at i n AnyType o e = let z : ⊥ = cc in absurd z
closed_tree at i n (AnyRow ls) o e = let z : ⊥ = cc in absurd z
closed_tree at i n AnyKind o e = let z : ⊥ = cc in absurd z

-- the front of a row
pub front_tree : (at : ℕ → Tree) (i : ℕ) (p : Part) (f : List ℕ × (ℕ × ℕ)) → front_of p ≡ Some f → p ≡ Is (node.Row f.0 f.1.0 f.1.1)
front_tree at i (Is (node.Row l t r)) f e = let z : (l, (t, r)) ≡ f = cc in ap (λ (x : List ℕ × (ℕ × ℕ)). Is (node.Row x.0 x.1.0 x.1.1)) z
front_tree at i (Is (node.Fixed j)) f e = let z : ⊥ = cc in absurd z
front_tree at i (Is (node.Base t)) f e = let z : ⊥ = cc in absurd z
front_tree at i (Is (node.Rec r)) f e = let z : ⊥ = cc in absurd z
front_tree at i (Is (node.Var r)) f e = let z : ⊥ = cc in absurd z
front_tree at i (Is (node.Coll j t)) f e = let z : ⊥ = cc in absurd z
front_tree at i (Is (node.Arrow a b)) f e = let z : ⊥ = cc in absurd z
front_tree at i (Is node.EmptyRow) f e = let z : ⊥ = cc in absurd z
front_tree at i AnyType f e = let z : ⊥ = cc in absurd z
front_tree at i (AnyRow ls) f e = let z : ⊥ = cc in absurd z
front_tree at i AnyKind f e = let z : ⊥ = cc in absurd z

pub end_tree : (at : ℕ → Tree) (i : ℕ) (p : Part) → front_of p ≡ None → IsEnd (part_tree at i (Some p))
end_tree at i (Is (node.Row l t r)) e = let z : ⊥ = cc in absurd z
end_tree at i (Is (node.Fixed j)) e = tt
end_tree at i (Is (node.Base t)) e = tt
end_tree at i (Is (node.Rec r)) e = tt
end_tree at i (Is (node.Var r)) e = tt
end_tree at i (Is (node.Coll j t)) e = tt
end_tree at i (Is (node.Arrow a b)) e = tt
end_tree at i (Is node.EmptyRow) e = tt
end_tree at i AnyType e = tt
end_tree at i (AnyRow ls) e = tt
end_tree at i AnyKind e = tt

pub none_at : {X : Type 0} (xs : List X) (i : ℕ) → length xs ≤ i → slice_get xs i ≡ None
none_at [] i le = refl
none_at (y ∷ xs) zero le = absurd (omega arith)
none_at (y ∷ xs) (suc i) le = none_at xs i (omega arith)
