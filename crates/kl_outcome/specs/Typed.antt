-- Which values have a ground type, and what primitives take and give.
use Rattle.std.specs.Prelude.{◌≡◌, ℕ, Bool, List, [], ◌∷◌, Option, Some, None, is_some, IsSome, ⊤, cond, nat_eq}
use Rattle.std.specs.Cmp.Lexicographic.{pointwise}
use Rattle.std.specs.List.{AllByRecursion}
use Rattle.kl_value.specs.IsCanonical.{IsCanonical}
use Rattle.kl_value.specs.declared.Kind.{Kind}
use Rattle.kl_value.specs.declared.Kind.TheVariants as kind
use Rattle.kl_value.specs.declared.Value.{Value}
use Rattle.kl_value.specs.declared.Value.TheVariants as value
use Rattle.kl_type.specs.Ground.{Ground, Row, bool, int, str, rec, var, coll, arrow, no_row, row, at, IsRow}
use Rattle.kl_value.specs.Views.{as_bool, as_int, as_text, collection}
use Rattle.kl_prim.specs.Table.{Row as Primitive, row_at}
use Rattle.kl_prim.specs.declared.rows.Shape.{Shape}
use Rattle.kl_prim.specs.declared.rows.Shape.TheVariants as shape
use Rattle.kl_outcome.specs.Outcome.{Name, Outcome, done, over, stuck}

-- A value has a type: a record has exactly the labels of the row, in its order, and a variant one of them. No value is
-- a function.
abbrev mutual
  pub Has : Ground → Value → Type 0
  Has bool v = IsSome (as_bool v)
  Has int v = IsSome (as_int v)
  Has str v = IsSome (as_text v)
  Has (rec r) v = (fs : List (Name × Value)) × (v ≡ value.Rec fs) × HasFields r fs
  Has (var r) v = (l : Name) × (w : Value) × (v ≡ value.Inj l w) × HasAt r l w
  Has (coll k t) v = (vs : List Value) × (v ≡ collection k vs) × AllByRecursion (Has t) vs
  Has (arrow a b) v = ⊥

  pub HasFields : Row → List (Name × Value) → Type 0
  HasFields no_row fs = fs ≡ []
  HasFields (row l t r) fs = (v : Value) × (rest : List (Name × Value)) × (fs ≡ (l, v) ∷ rest) × Has t v × HasFields r rest

  pub HasAt : Row → Name → Value → Type 0
  HasAt no_row l v = ⊥
  HasAt (row m t r) l v = cond (pointwise nat_eq l m) (Has t v) (HasAt r l v)

-- a canonical value of a type
abbrev pub Inhabits : Ground → Value → Type 0
Inhabits t v = Has t v × IsCanonical v

-- values of these types, one each
abbrev pub HaveTypes : List Ground → List Value → Type 0
HaveTypes [] [] = ⊤
HaveTypes (t ∷ ts) (v ∷ vs) = Inhabits t v × HaveTypes ts vs
HaveTypes _ _ = ⊥

-- an outcome of a type: a value of it, or an overflow, before which a list alone has items; never no sense
abbrev pub HasItems : Ground → List Value → Type 0
HasItems (coll kind.List t) vs = AllByRecursion (Inhabits t) vs
HasItems _ vs = vs ≡ []

abbrev pub OfType : Ground → Outcome → Type 0
OfType t (done v) = Inhabits t v
OfType t (over vs) = HasItems t vs
OfType t stuck = ⊥

-- a row that has at each label what r has, but for the labels that a test names
abbrev pub IsWithout : (Name → Bool) → Row → Row → Type 0
IsWithout test r q = IsRow q × ((l : Name) → at l q ≡ cond (test l) None (at l r))

abbrev pub stands_in : Row → Name → Bool
stands_in r l = is_some (at l r)

-- the fields of two rows that share no label, in one
abbrev pub IsBoth : Row → Row → Row → Type 0
IsBoth r s u = IsRow u × IsWithout (stands_in s) u r × IsWithout (stands_in r) u s

-- the types that a shape takes, and the type that it gives
abbrev pub ShapeTypes : Shape → List Ground → Ground → Type 0
ShapeTypes shape.Compare ts t = (a : Ground) × (ts ≡ a ∷ a ∷ []) × (t ≡ bool)
ShapeTypes shape.IntOp ts t = (ts ≡ int ∷ int ∷ []) × (t ≡ int)
ShapeTypes shape.IntFn ts t = (ts ≡ int ∷ []) × (t ≡ int)
ShapeTypes shape.BoolFn ts t = (ts ≡ bool ∷ []) × (t ≡ bool)
ShapeTypes shape.TextJoin ts t = (ts ≡ str ∷ str ∷ []) × (t ≡ str)
ShapeTypes shape.CollTest ts t = (k : Kind) × (a : Ground) × (ts ≡ coll k a ∷ []) × (t ≡ bool)
ShapeTypes shape.CollCount ts t = (k : Kind) × (a : Ground) × (ts ≡ coll k a ∷ []) × (t ≡ int)
ShapeTypes shape.CollSum ts t = (k : Kind) × (ts ≡ coll k int ∷ []) × (t ≡ int)
ShapeTypes shape.Member ts t = (k : Kind) × (a : Ground) × (ts ≡ a ∷ coll k a ∷ []) × (t ≡ bool)
ShapeTypes shape.CollSame ts t = (k : Kind) × (a : Ground) × (ts ≡ coll k a ∷ []) × (t ≡ coll k a)
ShapeTypes shape.Flatten ts t = (k : Kind) × (a : Ground) × (ts ≡ coll k (coll k a) ∷ []) × (t ≡ coll k a)
ShapeTypes shape.ToSet ts t = (k : Kind) × (a : Ground) × (ts ≡ coll k a ∷ []) × (t ≡ coll kind.Set a)
ShapeTypes shape.ToBag ts t = (k : Kind) × (a : Ground) × (ts ≡ coll k a ∷ []) × (t ≡ coll kind.Bag a)
ShapeTypes shape.ToList ts t = (k : Kind) × (a : Ground) × (ts ≡ coll k a ∷ []) × (t ≡ coll kind.List a)
ShapeTypes shape.TextLen ts t = (ts ≡ str ∷ []) × (t ≡ int)
ShapeTypes shape.TextTest ts t = (ts ≡ str ∷ str ∷ []) × (t ≡ bool)
ShapeTypes shape.TextInts ts t = (ts ≡ str ∷ []) × (t ≡ coll kind.Set int)
ShapeTypes shape.IntText ts t = (ts ≡ int ∷ []) × (t ≡ str)
ShapeTypes shape.Extend ts t = (r : Row) × (s : Row) × (u : Row) × (ts ≡ rec r ∷ rec s ∷ []) × (t ≡ rec u) × IsBoth r s u
ShapeTypes shape.Rest ts t =
    (r : Row) × (s : Row) × (u : Row) × (ts ≡ rec r ∷ rec s ∷ []) × (t ≡ rec u) × ((l : Name) → IsSome (at l s) → IsSome (at l r))
    × IsWithout (stands_in s) r u
ShapeTypes shape.Take ts t = (k : Kind) × (a : Ground) × (ts ≡ int ∷ coll k a ∷ []) × (t ≡ coll k a)

-- the same of the primitive with a code
abbrev pub RowTypes : Option Primitive → List Ground → Ground → Type 0
RowTypes (Some p) ts t = ShapeTypes p.entry.shape ts t
RowTypes None ts t = ⊥

unfoldable pub PrimTypes : ℕ → List Ground → Ground → Type 0
PrimTypes code ts t = RowTypes (row_at code) ts t
