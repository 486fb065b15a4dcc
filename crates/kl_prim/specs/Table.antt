-- The table of primitives.
use Rattle.std.specs.Prelude.{◌≡◌, ℕ, ◌==◌, Bool, true, false, List, [], ◌∷◌, codes, find, Option, Some, None}
use Rattle.kl_value.specs.declared.Kind.TheVariants as kind
use Rattle.kl_value.specs.declared.Value.{Value}
use Rattle.kl_prim.specs.Fits.{FitsShape}
use Rattle.kl_prim.specs.Meaning.{Answer, senseless, equal, unequal, below, at_most, above, at_least, add, subtract, multiply}
use Rattle.kl_prim.specs.Meaning.{negate, complement, join, is_empty, count, sum, member, least, greatest, flatten, into}
use Rattle.kl_prim.specs.Meaning.{text_length, begins_with, to_int, to_text, extend, rest, first_items, finishes_with}
use Rattle.kl_prim.specs.declared.rows.PrimRow.{PrimRow}
use Rattle.kl_prim.specs.declared.rows.Shape.{Shape}
use Rattle.kl_prim.specs.declared.rows.Shape.TheVariants as shape

-- what a row of the program's table says
pub record Entry : Type 0 where
  pub code : ℕ
  pub name : List ℕ
  pub arity : ℕ
  pub shape : Shape
  pub total : Bool

abbrev pub entry_of : PrimRow → Entry
entry_of r = record { code = r.code; name = r.name.now; arity = r.arity; shape = r.shape; total = r.total }

-- and what it means
pub record Row : Type 0 where
  pub entry : Entry
  pub meaning : List Value → Answer

abbrev pub row : ℕ → List ℕ → ℕ → Shape → Bool → (List Value → Answer) → Row
row c n a s t m = record { entry = record { code = c; name = n; arity = a; shape = s; total = t }; meaning = m }

-- code, name, number of arguments, their shape, whether there is always an answer, and the answer
unfoldable pub rows : List Row
rows =
    row 1 (codes "=") 2 shape.Compare true equal
    ∷ row 2 (codes "<>") 2 shape.Compare true unequal
    ∷ row 3 (codes "<") 2 shape.Compare true below
    ∷ row 4 (codes "<=") 2 shape.Compare true at_most
    ∷ row 5 (codes ">") 2 shape.Compare true above
    ∷ row 6 (codes ">=") 2 shape.Compare true at_least
    ∷ row 7 (codes "+") 2 shape.IntOp false add
    ∷ row 8 (codes "-") 2 shape.IntOp false subtract
    ∷ row 9 (codes "*") 2 shape.IntOp false multiply
    ∷ row 10 (codes "neg") 1 shape.IntFn false negate
    ∷ row 11 (codes "not") 1 shape.BoolFn true complement
    ∷ row 12 (codes "^") 2 shape.TextJoin true join
    ∷ row 13 (codes "isempty") 1 shape.CollTest true is_empty
    ∷ row 14 (codes "count") 1 shape.CollCount true count
    ∷ row 15 (codes "sum") 1 shape.CollSum false sum
    ∷ row 16 (codes "member") 2 shape.Member true member
    ∷ row 17 (codes "least") 1 shape.CollSame true least
    ∷ row 18 (codes "greatest") 1 shape.CollSame true greatest
    ∷ row 19 (codes "flatten") 1 shape.Flatten true flatten
    ∷ row 20 (codes "setof") 1 shape.ToSet true (into kind.Set)
    ∷ row 21 (codes "bagof") 1 shape.ToBag true (into kind.Bag)
    ∷ row 22 (codes "listof") 1 shape.ToList true (into kind.List)
    ∷ row 23 (codes "strlen") 1 shape.TextLen true text_length
    ∷ row 24 (codes "startswith") 2 shape.TextTest true begins_with
    ∷ row 25 (codes "toint") 1 shape.TextInts true to_int
    ∷ row 26 (codes "totext") 1 shape.IntText true to_text
    ∷ row 27 (codes "...") 2 shape.Extend true extend
    ∷ row 28 (codes "...\\") 2 shape.Rest true rest
    ∷ row 29 (codes "take") 2 shape.Take true first_items
    ∷ row 30 (codes "endswith") 2 shape.TextTest true finishes_with
    ∷ []

-- the row with a code, where there is one
unfoldable pub row_at : ℕ → Option Row
row_at code = find (λ r. r.entry.code == code) rows

abbrev pub FitsRow : Option Row → List Value → Type 0
FitsRow (Some r) args = FitsShape r.entry.shape args
FitsRow None args = ⊥

abbrev pub meaning_of : Option Row → List Value → Answer
meaning_of (Some r) args = r.meaning args
meaning_of None args = senseless

-- the arguments fit the shape of the row with this code
unfoldable pub Fits : ℕ → List Value → Type 0
Fits code args = FitsRow (row_at code) args

-- what the primitive of a code makes of arguments
unfoldable pub meaning : ℕ → List Value → Answer
meaning code args = meaning_of (row_at code) args

-- the row with this code says that there is always an answer
abbrev pub IsTotalRow : Option Row → Type 0
IsTotalRow (Some r) = r.entry.total ≡ true
IsTotalRow None = ⊥

unfoldable pub IsTotal : ℕ → Type 0
IsTotal code = IsTotalRow (row_at code)

-- the row with this code takes so many arguments
abbrev pub TakesRow : Option Row → ℕ → Type 0
TakesRow (Some r) n = r.entry.arity ≡ n
TakesRow None n = ⊥

unfoldable pub Takes : ℕ → ℕ → Type 0
Takes code n = TakesRow (row_at code) n
