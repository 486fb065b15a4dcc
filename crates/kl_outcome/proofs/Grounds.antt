-- Proper types: the parts of one, and the result of a primitive, are proper.
use Rattle.std.proofs.Common.{◌≡◌, ℕ, Bool, true, false, cond, nat_eq, List, [], ◌∷◌, Option, Some, None, sym, subst}
use Rattle.std.specs.Cmp.Lexicographic.{pointwise}
use Rattle.std.specs.List.{AllByRecursion}
use Rattle.std.proofs.lemmas.Option.{same_Some}
use Rattle.kl_value.specs.declared.Kind.{Kind}
use Rattle.kl_prim.specs.Table.{Row as Primitive, row_at}
use Rattle.kl_prim.specs.declared.rows.Shape.{Shape}
use Rattle.kl_prim.specs.declared.rows.Shape.TheVariants as shape
use Rattle.kl_type.specs.Ground.{Ground, Row, int, coll, no_row, row, at, IsGround, IsRow}
use Rattle.kl_outcome.specs.Outcome.{Name}
use Rattle.kl_outcome.specs.Typed.{ShapeTypes, RowTypes, PrimTypes}

-- what a proper row has at a label is proper
pub at_ground : (l : Name) (r : Row) (t : Ground) → IsRow r → at l r ≡ Some t → IsGround t
at_ground l no_row t h e = absurd cc
at_ground l (row m u r) t h e = here (pointwise nat_eq l m) e (at_ground l r t h.2)
  where
    here : (b : Bool) → cond b (Some u) (at l r) ≡ Some t → (at l r ≡ Some t → IsGround t) → IsGround t
    here true e next = subst IsGround (same_Some u t e) h.1
    here false e next = next e

-- ---- primitives

item_ground : (k : Kind) (a : Ground) (ts : List Ground) → ts ≡ coll k a ∷ [] → AllByRecursion IsGround ts → IsGround a
item_ground k a ts e h = let g = subst (AllByRecursion IsGround) e h in g.0

second_ground : (k : Kind) (a : Ground) (ts : List Ground) → ts ≡ int ∷ coll k a ∷ [] → AllByRecursion IsGround ts → IsGround a
second_ground k a ts e h = let g = subst (AllByRecursion IsGround) e h in g.1.0

shape_ground : (s : Shape) (ts : List Ground) (t : Ground) → AllByRecursion IsGround ts → ShapeTypes s ts t → IsGround t
shape_ground shape.Compare ts t h k = subst IsGround (sym k.2) tt
shape_ground shape.IntOp ts t h k = subst IsGround (sym k.1) tt
shape_ground shape.IntFn ts t h k = subst IsGround (sym k.1) tt
shape_ground shape.BoolFn ts t h k = subst IsGround (sym k.1) tt
shape_ground shape.TextJoin ts t h k = subst IsGround (sym k.1) tt
shape_ground shape.CollTest ts t h k = subst IsGround (sym k.3) tt
shape_ground shape.CollCount ts t h k = subst IsGround (sym k.3) tt
shape_ground shape.CollSum ts t h k = subst IsGround (sym k.2) tt
shape_ground shape.Member ts t h k = subst IsGround (sym k.3) tt
shape_ground shape.CollSame ts t h k = subst IsGround (sym k.3) (item_ground k.0 k.1 ts k.2 h)
shape_ground shape.Flatten ts t h k = subst IsGround (sym k.3) (item_ground k.0 (coll k.0 k.1) ts k.2 h)
shape_ground shape.ToSet ts t h k = subst IsGround (sym k.3) (item_ground k.0 k.1 ts k.2 h)
shape_ground shape.ToBag ts t h k = subst IsGround (sym k.3) (item_ground k.0 k.1 ts k.2 h)
shape_ground shape.ToList ts t h k = subst IsGround (sym k.3) (item_ground k.0 k.1 ts k.2 h)
shape_ground shape.TextLen ts t h k = subst IsGround (sym k.1) tt
shape_ground shape.TextTest ts t h k = subst IsGround (sym k.1) tt
shape_ground shape.TextInts ts t h k = subst IsGround (sym k.1) tt
shape_ground shape.IntText ts t h k = subst IsGround (sym k.1) tt
shape_ground shape.Extend ts t h k = subst IsGround (sym k.4) k.5.0
shape_ground shape.Rest ts t h k = subst IsGround (sym k.4) k.6.0
shape_ground shape.Take ts t h k = subst IsGround (sym k.3) (second_ground k.0 k.1 ts k.2 h)

row_ground : (o : Option Primitive) (ts : List Ground) (t : Ground) → AllByRecursion IsGround ts → RowTypes o ts t → IsGround t
row_ground (Some p) ts t h k = shape_ground p.entry.shape ts t h k
row_ground None ts t h k = absurd k

-- of arguments of proper types the result is of one
pub prim_ground : (code : ℕ) (ts : List Ground) (t : Ground) → AllByRecursion IsGround ts → PrimTypes code ts t → IsGround t
unfolding PrimTypes
prim_ground code ts t h k = row_ground (row_at code) ts t h k
