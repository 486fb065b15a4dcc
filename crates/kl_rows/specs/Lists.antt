-- Fields whose types are numbers: what one list has more than another, and what both have.
-- Public contracts cite `Fields` alone.
use Rattle.std.specs.Prelude.{◌≡◌, ℕ, List, [], ◌∷◌, Option, Some, None, nat_eq}
use Rattle.std.specs.Cmp.Lexicographic.{pointwise}
use Rattle.std.specs.declared.hash.FoldHasher.{FoldHasher}
use Rattle.std.specs.declared.hash.BuildHasherDefault.{BuildHasherDefault}
use Rattle.std.specs.HashMap.{get, HashMap}
use Rattle.kl_base.specs.Fields.{field}

abbrev pub Fields : Type 0
Fields = List (List ℕ × ℕ)

abbrev pub keep_without : Option ℕ → List ℕ × ℕ → Fields → Fields
keep_without None f fs = f ∷ fs
keep_without (Some u) f fs = fs

-- the fields of the first list whose labels the second lacks
abbrev pub only : Fields → Fields → Fields
only [] gs = []
only (f ∷ fs) gs = keep_without (field f.0 gs) f (only fs gs)

abbrev pub pair_with : Option ℕ → ℕ → List (ℕ × ℕ) → List (ℕ × ℕ)
pair_with None t ps = ps
pair_with (Some u) t ps = (t, u) ∷ ps

-- the two numbers at each label of the first list that the second has
abbrev pub both : Fields → Fields → List (ℕ × ℕ)
both [] gs = []
both (f ∷ fs) gs = pair_with (field f.0 gs) f.1 (both fs gs)

-- a map from labels to numbers
abbrev pub Index : Type 0
Index = HashMap (List ℕ) ℕ (BuildHasherDefault FoldHasher)

-- it has at each label what the fields have
abbrev pub Holds : Index → Fields → Type 0
Holds index fields = (l : List ℕ) → get (pointwise nat_eq) index l ≡ field l fields

-- where there is a map, it is that of the fields
abbrev pub IsIndex : Option Index → Fields → Type 0
IsIndex None fields = Unit {0}
IsIndex (Some index) fields = Holds index fields
