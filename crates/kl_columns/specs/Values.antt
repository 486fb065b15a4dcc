-- The types of files of values.
use Rattle.std.specs.Prelude.{◌≡◌, ℕ, ◌+◌, Bool, true, false, List, [], ◌∷◌, ◌++◌, length, Option, Some, None, Result, Ok, Err, ⊤}
use Rattle.std.specs.List.{list_all}
use Rattle.kl_value.specs.declared.Value.{Value}
use Rattle.kl_type.specs.Has.{has_type}
use Rattle.kl_type.specs.declared.ground.Ty.{Ty}
use Rattle.kl_exchange.specs.FileItems.{most_read}
use Rattle.kl_exchange.specs.Found.{values_of}
use Rattle.kl_heads.specs.Found.{file_text}
use Rattle.kl_ask.specs.Driver.{Bad, Deep, Long, Rows, Stored}
use Rattle.kl_nested.specs.Contents.{stored_in}
use Rattle.kl_shape.specs.Shapes.{filled, fits}
use Rattle.kl_shape.specs.declared.shape.Shape.{Shape}
use Rattle.kl_columns.specs.declared.values.Unfit.{Unfit}
use Rattle.kl_columns.specs.declared.values.Unfit.TheVariants as unfit

-- each value has the type
abbrev pub all_have : List Value → Ty → Bool
all_have vs t = list_all (λ v. has_type v t) vs

-- The shape is principal: it has exactly the types that each of the values has.
abbrev pub IsPrincipal : List Value → Shape → Type 0
IsPrincipal vs s = (t : Ty) → fits s t ≡ all_have vs t

-- The least type of values: that of their shape, which has exactly the types that all of them have. It has `string` where no
-- value was seen, and of each variant the labels that were.
pub record IsLeast (vs : List Value) (t : Ty) : Type 0 where
  pub shape : Shape
  pub principal : IsPrincipal vs shape
  pub least : t ≡ filled shape

-- the type that is stated, or else the least that the values have
abbrev pub IsListedAs : Option Ty → List Value → Ty → Type 0
IsListedAs (Some stated) vs t = t ≡ stated
IsListedAs None vs t = IsLeast vs t

-- the type that is stated, or else one that the values have
abbrev pub MayHave : Option Ty → List Value → Ty → Type 0
MayHave (Some stated) vs t = t ≡ stated
MayHave None vs t = all_have vs t ≡ true

-- the items of a file with these bytes are the rows of a source of this type, and it is the one to be listed
pub record IsItemType (bytes : List ℕ) (t : Ty) : Type 0 where
  pub rows : stored_in most_read bytes t ≡ Rows (values_of (file_text most_read bytes).items)
  pub listed : IsListedAs (file_text most_read bytes).head (values_of (file_text most_read bytes).items) t

-- as items of a type that they may have, the driver finds this in a file with these bytes
abbrev pub IsFound : List ℕ → Stored → Type 0
IsFound bytes stored = (t : Ty) × MayHave (file_text most_read bytes).head (values_of (file_text most_read bytes).items) t × (stored_in most_read bytes t ≡ stored)

-- The value of this number, the first being 1, is the first that has no type in common with those before it.
pub record IsFirstOther (vs : List Value) (n : ℕ) : Type 0 where
  pub before : List Value
  pub value : Value
  pub after : List Value
  pub split : vs ≡ (before ++ value ∷ []) ++ after
  pub number : n ≡ length before + 1
  pub common : (t : Ty) × (all_have before t ≡ true)
  pub none : (t : Ty) → all_have (before ++ value ∷ []) t ≡ false

-- no type is stated, and the items have none in common
pub record IsUntyped (bytes : List ℕ) (n : ℕ) : Type 0 where
  pub unstated : (file_text most_read bytes).head ≡ None
  pub other : IsFirstOther (values_of (file_text most_read bytes).items) n

-- a bracket too many
abbrev pub IsFoundDeep : List ℕ → Type 0
IsFoundDeep bytes = (place : ℕ) × IsFound bytes (Deep place)

-- ---- for private functions alone

-- what is told of the items of a file with these bytes
abbrev pub TellsItems : List ℕ → Result Ty Unfit → Type 0
TellsItems bytes (Ok t) = IsItemType bytes t
TellsItems bytes (Err (unfit.Bad place)) = IsFound bytes (Bad place)
TellsItems bytes (Err (unfit.Untyped n)) = IsUntyped bytes n
TellsItems bytes (Err unfit.TooDeep) = IsFoundDeep bytes
TellsItems bytes (Err unfit.TooLong) = IsFound bytes (Long most_read)
TellsItems bytes (Err unfit.Read) = ⊤
TellsItems bytes (Err unfit.NoMemory) = ⊤
