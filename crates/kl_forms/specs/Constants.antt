-- What constants ask of types, part by part. No public contract cites this.
use Rattle.std.specs.Prelude.{◌≡◌, ℕ, List, [], ◌∷◌, All, map}
use Rattle.kl_value.specs.declared.Kind.{Kind}
use Rattle.kl_value.specs.declared.Value.{Value}
use Rattle.kl_type.specs.Ground.{Ground, Row, rec, coll, no_row, row}
use Rattle.kl_rows.specs.Lists.{Fields}
use Rattle.kl_rows.specs.Solutions.{Assignment}
use Rattle.kl_outcome.specs.Typed.{Inhabits, HaveTypes}

abbrev pub ValueFields : Type 0
ValueFields = List (List ℕ × Value)

-- collections of the kind, of whose items these are some
abbrev pub TakesItems : Kind → List Value → ℕ → Assignment → Type 0
TakesItems k vs want s = (a : Ground) × (s.types want ≡ coll k a) × All (Inhabits a) vs

-- the labels of the fields, with numbers, and with types
abbrev pub numbered : ValueFields → List ℕ → Fields
numbered [] is = []
numbered (f ∷ fs) [] = []
numbered (f ∷ fs) (i ∷ is) = (f.0, i) ∷ numbered fs is

abbrev pub row_with : ValueFields → List Ground → Row
row_with [] ts = no_row
row_with (f ∷ fs) [] = no_row
row_with (f ∷ fs) (t ∷ ts) = row f.0 t (row_with fs ts)

-- each type is that of a field
abbrev pub EachHas : List Ground → ValueFields → Type 0
EachHas ts fs = HaveTypes ts (map (λ f. f.1) fs)

-- records with these labels, of types that the fields have
abbrev pub TakesFields : ValueFields → ℕ → Assignment → Type 0
TakesFields fs want s = (ts : List Ground) × (s.types want ≡ rec (row_with fs ts)) × EachHas ts fs
