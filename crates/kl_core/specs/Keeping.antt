-- What moving and replacing positions keeps.
use Rattle.std.specs.Prelude.{◌≡◌, ℕ, ◌+◌, ◌<◌, ◌^◌, List, ◌∷◌, ◌++◌, length}
use Rattle.kl_value.specs.declared.Value.{Value}
use Rattle.kl_type.specs.Ground.{Ground}
use Rattle.kl_outcome.specs.Outcome.{done}
use Rattle.kl_core.specs.Trees.{Tree}
use Rattle.kl_core.specs.Core.{Tables, core}
use Rattle.kl_core.specs.Typing.{SourceTypes, CoreTypes}
use Rattle.kl_core.specs.Positions.{InRange, binders, shift_of}

-- u means what t means, whatever `by` values are put in at `from`
abbrev pub MeansShifted : Tree → ℕ → ℕ → Tree → Type 0
MeansShifted t from by u =
    (T : Tables) (pre mid post : List Value) → length pre ≡ from → length mid ≡ by
    → core T u (pre ++ (mid ++ post)) ≡ core T t (pre ++ post)

-- and has its types
abbrev pub TypedShifted : Tree → ℕ → ℕ → Tree → Type 0
TypedShifted t from by u =
    (S : SourceTypes) (pre mid post : List Ground) (s : Ground) → length pre ≡ from → length mid ≡ by
    → CoreTypes S (pre ++ post) t s → CoreTypes S (pre ++ (mid ++ post)) u s

-- u means what t means with the value of `with` at the position, where `with` has one
abbrev pub MeansPut : Tree → ℕ → Tree → Tree → Type 0
MeansPut t at with u =
    (T : Tables) (pre post : List Value) (v : Value) → length pre ≡ at
    → core T with (pre ++ post) ≡ done v → core T u (pre ++ post) ≡ core T t (pre ++ v ∷ post)

-- and its types with that of `with` there
abbrev pub TypedPut : Tree → ℕ → Tree → Tree → Type 0
TypedPut t at with u =
    (S : SourceTypes) (pre post : List Ground) (s r : Ground) → length pre ≡ at
    → CoreTypes S (pre ++ post) with s → CoreTypes S (pre ++ s ∷ post) t r → CoreTypes S (pre ++ post) u r

-- room for `with`: neither the position nor a position of `with`, both raised by the binders of t, passes 32 bits
abbrev pub Room : Tree → ℕ → Tree → Type 0
Room t at with = (at + binders t < 2 ^ 32) × InRange (shift_of with 0 (binders t))
