-- Primitives by their names.
use Rattle.std.specs.Prelude.{◌≡◌, ℕ, Bool, true, false, List, [], ◌∷◌, cond, Option, Some, None, ⊤}
use Rattle.kl_outcome.specs.Outcome.{Name}
use Rattle.kl_prim.specs.Table.{Entry, Row, row_at}
use Rattle.kl_prim.specs.declared.rows.Shape.{Shape}
use Rattle.kl_prim.specs.declared.rows.Shape.TheVariants as shape
use Rattle.kl_meaning.specs.Match.{same_name}

-- the code of the first row with a name
abbrev pub code_in : Name → List Entry → Option ℕ
code_in x [] = None
code_in x (e ∷ es) = cond (same_name e.name x) (Some e.code) (code_in x es)

-- the forms of records, which no name and no operator stands for
abbrev pub is_form : Shape → Bool
is_form shape.Extend = true
is_form shape.Rest = true
is_form _ = false

abbrev pub IsCalledRow : Option Row → Type 0
IsCalledRow (Some r) = is_form r.entry.shape ≡ false
IsCalledRow None = ⊤

-- the primitive of this code is no form of records: a name or an operator may stand for it
unfoldable pub IsCalled : ℕ → Type 0
IsCalled code = IsCalledRow (row_at code)
