-- What the forms of the language ask of types.
use Rattle.std.specs.Prelude.{◌≡◌, ℕ, Bool, true, false, List, map, Some, IsSome, ⊤}
use Rattle.std.specs.List.{AllByRecursion}
use Rattle.kl_base.specs.Fields.{field}
use Rattle.kl_value.specs.declared.Kind.{Kind}
use Rattle.kl_value.specs.declared.Value.{Value}
use Rattle.kl_type.specs.Ground.{Ground, Row, rec, var, coll, arrow, at, ground_of}
use Rattle.kl_type.specs.declared.Ty.{Ty}
use Rattle.kl_rows.specs.Lists.{Fields}
use Rattle.kl_rows.specs.Schemes.{Instance}
use Rattle.kl_rows.specs.Solutions.{Assignment}
use Rattle.kl_rows.specs.declared.Scheme.{Scheme}
use Rattle.kl_prim.specs.Records.{is_label_of}
use Rattle.kl_outcome.specs.Typed.{Inhabits, IsWithout, PrimTypes}
use Rattle.kl_syntax.specs.declared.Op.{Op}
use Rattle.kl_meaning.specs.Typing.{OpTypes}

-- the items of a collection of this kind, and of one of any kind
abbrev pub ItemsOf : Kind → ℕ → Ground → Assignment → Type 0
ItemsOf k want t s = s.types want ≡ coll k t

abbrev pub DrawnFrom : ℕ → Ground → Assignment → Type 0
DrawnFrom want t s = (k : Kind) × (s.types want ≡ coll k t)

-- what a record, and a variant, has at a label
abbrev pub FieldOf : List ℕ → ℕ → Ground → Assignment → Type 0
FieldOf l want t s = (r : Row) × (s.types want ≡ rec r) × (at l r ≡ Some t)

abbrev pub VariantOf : List ℕ → ℕ → Ground → Assignment → Type 0
VariantOf l want t s = (r : Row) × (s.types want ≡ var r) × (at l r ≡ Some t)

-- what a row has at a label
abbrev pub InRow : List ℕ → ℕ → Ground → Assignment → Type 0
InRow l row t s = at l (s.rows row) ≡ Some t

-- the row has a label only where these have it, unless it is open
abbrev pub HasNoOthers : Bool → Fields → Row → Type 0
HasNoOthers true fs r = ⊤
HasNoOthers false fs r = (l : List ℕ) → IsSome (at l r) → IsSome (field l fs)

-- the row has these labels with these types and, if it is open, others
abbrev pub HasFields : Bool → Fields → Row → Assignment → Type 0
HasFields open_end fs r s = AllByRecursion (λ f. at f.0 r ≡ Some (s.types f.1)) fs × HasNoOthers open_end fs r

abbrev pub IsRecord : Bool → Fields → ℕ → Assignment → Type 0
IsRecord open_end fs want s = (r : Row) × (s.types want ≡ rec r) × HasFields open_end fs r s

abbrev pub IsVariant : Bool → Fields → ℕ → Assignment → Type 0
IsVariant open_end fs want s = (r : Row) × (s.types want ≡ var r) × HasFields open_end fs r s

-- the record of the other fields of a record with these
abbrev pub RestOf : Fields → ℕ → Ground → Assignment → Type 0
RestOf fs want t s =
    (r : Row) × (q : Row) × (s.types want ≡ rec r) × (t ≡ rec q) × HasFields true fs r s × IsWithout (is_label_of fs) r q

-- a constant
abbrev pub IsOfType : Value → ℕ → Assignment → Type 0
IsOfType v want s = Inhabits (s.types want) v

-- a primitive with these arguments
abbrev pub Applies : ℕ → List ℕ → ℕ → Assignment → Type 0
Applies code args want s = PrimTypes code (map s.types args) (s.types want)

-- what an operator gives
abbrev pub Operates : Op → ℕ → ℕ → Ground → Assignment → Type 0
Operates c first second t s = OpTypes c (s.types first) (s.types second) t

-- a use of a type without variables, of a scheme, and of a function's scheme
abbrev pub IsThis : Ty → ℕ → Assignment → Type 0
IsThis t want s = ground_of t ≡ s.types want

abbrev pub IsInstance : Scheme → ℕ → Assignment → Type 0
IsInstance scheme want s = Instance scheme (s.types want)

abbrev pub Calls : Scheme → ℕ → ℕ → Assignment → Type 0
Calls scheme arg want s = Instance scheme (arrow (s.types arg) (s.types want))
