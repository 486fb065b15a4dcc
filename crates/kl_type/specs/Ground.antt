-- Ground types and ground rows.
use Rattle.std.specs.Prelude.{◌≡◌, ℕ, List, [], ◌∷◌, Option, Some, None, cond, nat_eq}
use Rattle.std.specs.declared.cmp.Ordering.TheVariants.{Less}
use Rattle.std.specs.Cmp.Lexicographic.{pointwise}
use Rattle.kl_base.specs.Fields.{bytes_cmp}
use Rattle.kl_value.specs.declared.Kind.{Kind}
use Rattle.kl_type.specs.declared.ground.Ty.{Ty, Ty-F, fold-Ty}

-- A type without variables, and a row: labels with types. An arrow is a definition's type, from its parameter's to its
-- result's, and stands in no other.
mutual
  pub data Ground : Type 0 where
    bool : Ground
    int : Ground
    str : Ground
    rec : Row → Ground
    var : Row → Ground
    coll : Kind → Ground → Ground
    arrow : Ground → Ground → Ground

  pub data Row : Type 0 where
    no_row : Row
    row : List ℕ → Ground → Row → Row

-- what a row has at a label
abbrev pub at : List ℕ → Row → Option Ground
at l no_row = None
at l (row m t r) = cond (pointwise nat_eq l m) (Some t) (at l r)

-- the labels of a row, in its order
abbrev pub labels_in : Row → List (List ℕ)
labels_in no_row = []
labels_in (row l t r) = l ∷ labels_in r

-- a label stands before each label of a row
abbrev pub IsBefore : List ℕ → Row → Type 0
IsBefore l r = (m : List ℕ) (t : Ground) → at m r ≡ Some t → bytes_cmp l m ≡ Less

-- each row in it is in rising order, a variant type has a label, and no function stands in it
abbrev mutual
  pub IsGround : Ground → Type 0
  IsGround (rec r) = IsRow r
  IsGround (var r) = (r ≡ no_row → ⊥) × IsRow r
  IsGround (coll k t) = IsGround t
  IsGround (arrow a b) = ⊥
  IsGround bool = Unit {0}
  IsGround int = Unit {0}
  IsGround str = Unit {0}

  pub IsRow : Row → Type 0
  IsRow no_row = Unit {0}
  IsRow (row l t r) = IsBefore l r × IsGround t × IsRow r

-- the row of these fields, where g gives the types
abbrev pub row_by : {X : Type 0} → (X → Ground) → List (List ℕ × X) → Row
row_by g [] = no_row
row_by g (f ∷ fs) = row f.0 (g f.1) (row_by g fs)

-- one level, where g gives the types of what stands inside
abbrev pub ground_layer : {X : Type 0} → (X → Ground) → Ty-F X → Ground
ground_layer g Ty-F.Bool = bool
ground_layer g Ty-F.Int = int
ground_layer g Ty-F.Str = str
ground_layer g (Ty-F.Rec fs) = rec (row_by g fs)
ground_layer g (Ty-F.Var fs) = var (row_by g fs)
ground_layer g (Ty-F.Coll k t) = coll k (g t)

-- the ground type that a type of the program stands for
unfoldable pub ground_of : Ty → Ground
ground_of = fold-Ty Ground (ground_layer (λ t. t))

-- labels rise, and each variant type has a label
abbrev pub IsProper : Ty → Type 0
IsProper t = IsGround (ground_of t)
