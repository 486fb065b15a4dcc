-- Which arguments fit a shape.
use Rattle.std.specs.Prelude.{◌≡◌, Bool, true, List, [], ◌∷◌, All, IsSome, IsSomeAnd, ⊤}
use Rattle.kl_value.specs.declared.Value.{Value}
use Rattle.kl_value.specs.Views.{IsBool, IsInt, IsText, IsCollection, as_collection, items_at}
use Rattle.kl_prim.specs.Records.{Fields, as_record, share_none, has_all}
use Rattle.kl_prim.specs.declared.rows.Shape.{Shape}
use Rattle.kl_prim.specs.declared.rows.Shape.TheVariants as shape

abbrev pub IsAny : Value → Type 0
IsAny v = ⊤

abbrev pub IsCollectionOfInts : Value → Type 0
IsCollectionOfInts v = IsSomeAnd (as_collection v) (λ c. All IsInt c.items)

-- a collection of collections of its own kind
abbrev pub IsNested : Value → Type 0
IsNested v = IsSomeAnd (as_collection v) (λ c. All (λ w. IsSome (items_at c.kind w)) c.items)

abbrev pub OneOf : (Value → Type 0) → List Value → Type 0
OneOf P (v ∷ []) = P v
OneOf P _ = ⊥

abbrev pub TwoOf : (Value → Type 0) → (Value → Type 0) → List Value → Type 0
TwoOf P Q (v ∷ w ∷ []) = P v × Q w
TwoOf P Q _ = ⊥

-- two records whose fields pass a test
abbrev pub TwoRecords : (Fields → Fields → Bool) → List Value → Type 0
TwoRecords test (v ∷ w ∷ []) = IsSomeAnd (as_record v) (λ fs. IsSomeAnd (as_record w) (λ gs. test fs gs ≡ true))
TwoRecords test _ = ⊥

abbrev pub FitsShape : Shape → List Value → Type 0
FitsShape shape.Compare = TwoOf IsAny IsAny
FitsShape shape.IntOp = TwoOf IsInt IsInt
FitsShape shape.IntFn = OneOf IsInt
FitsShape shape.BoolFn = OneOf IsBool
FitsShape shape.TextJoin = TwoOf IsText IsText
FitsShape shape.CollTest = OneOf IsCollection
FitsShape shape.CollCount = OneOf IsCollection
FitsShape shape.CollSum = OneOf IsCollectionOfInts
FitsShape shape.Member = TwoOf IsAny IsCollection
FitsShape shape.CollSame = OneOf IsCollection
FitsShape shape.Flatten = OneOf IsNested
FitsShape shape.ToSet = OneOf IsCollection
FitsShape shape.ToBag = OneOf IsCollection
FitsShape shape.ToList = OneOf IsCollection
FitsShape shape.TextLen = OneOf IsText
FitsShape shape.TextTest = TwoOf IsText IsText
FitsShape shape.TextInts = OneOf IsText
FitsShape shape.IntText = OneOf IsInt
FitsShape shape.Extend = TwoRecords share_none
FitsShape shape.Rest = TwoRecords has_all
FitsShape shape.Take = TwoOf IsInt IsCollection
