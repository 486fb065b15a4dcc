-- Keys: numbers that tell the fronts of values. A value with a smaller key is smaller. No public contract cites this.
use Rattle.std.specs.Prelude.{◌≡◌, ℕ, zero, suc, ◌+◌, ◌-◌, ◌*◌, ◌^◌, min, nat_lt, if◌then◌else◌, ℤ, pos, negsuc, List}
use Rattle.std.specs.Prelude.{[], ◌∷◌, All, Option, Some, None, FitsSigned, ⊤}
use Rattle.std.specs.Int.{w64}
use Rattle.kl_value.specs.declared.value.Value.{Value, Value-F, out-Value}

-- the first n bytes as the digits of a number to the base 256, with 0 for each that is missing
unfoldable pub front : ℕ → List ℕ → ℕ
front zero bs = 0
front (suc n) [] = 0
front (suc n) (b ∷ bs) = if nat_lt b 256 then b * 256 ^ n + front n bs else 256 ^ suc n - 1

-- an integer counted from -half, and those out of the range of 2 * half as the least and the greatest in it
abbrev pub counted : ℕ → ℤ → ℕ
counted half (pos n) = min (half + n) (2 * half - 1)
counted half (negsuc n) = half - 1 - n

-- The second field of a record: truth values first, then integers, texts and all else, with room for 61 bits in each. An
-- integer of 61 bits and the first 7 bytes of a text are told.
abbrev pub second_key : Option (Value-F Value) → ℕ
second_key None = 0
second_key (Some (Value-F.Bool b)) = 0
second_key (Some (Value-F.Int n)) = 2 ^ 61 + counted (2 ^ 60) n
second_key (Some (Value-F.Text t)) = 2 * 2 ^ 61 + front 7 t
second_key (Some _) = 3 * 2 ^ 61

-- Integers first, then texts, with room for 127 bits in each. Behind an integer stands the second field's number, and of
-- a text the first 15 bytes are told.
abbrev pub key_layer : Value-F Value → Option (Value-F Value) → ℕ
key_layer (Value-F.Int n) second = counted (2 ^ 63) n * 2 ^ 63 + second_key second
key_layer (Value-F.Text t) second = 2 ^ 127 + front 15 t
key_layer _ second = 0

-- what stands in the first field of a record, and any other value itself
abbrev pub lead_layer : Value → Value-F Value → Value
lead_layer v (Value-F.Rec (f ∷ fs)) = f.1
lead_layer v _ = v

abbrev pub lead_of : Value → Value
lead_of v = lead_layer v (out-Value v)

-- what stands in the second field of a record
abbrev pub second_layer : Value-F Value → Option (Value-F Value)
second_layer (Value-F.Rec (f ∷ g ∷ fs)) = Some (out-Value g.1)
second_layer _ = None

abbrev pub key_of : Value → ℕ
key_of v = key_layer (out-Value (lead_of v)) (second_layer (out-Value v))

-- the first two labels of a record
abbrev pub first_label_layer : Value-F Value → Option (List ℕ)
first_label_layer (Value-F.Rec (f ∷ fs)) = Some f.0
first_label_layer _ = None

abbrev pub second_label_layer : Value-F Value → Option (List ℕ)
second_label_layer (Value-F.Rec (f ∷ g ∷ fs)) = Some g.0
second_label_layer _ = None

abbrev pub first_label : Value → Option (List ℕ)
first_label v = first_label_layer (out-Value v)

abbrev pub second_label : Value → Option (List ℕ)
second_label v = second_label_layer (out-Value v)

-- a key tells it: an integer of 64 bits or a text
abbrev pub HasKeyLayer : Value-F Value → Type 0
HasKeyLayer (Value-F.Int n) = FitsSigned w64 n
HasKeyLayer (Value-F.Text t) = ⊤
HasKeyLayer _ = ⊥

abbrev pub HasKey : Value → Type 0
HasKey v = HasKeyLayer (out-Value v)

-- a value whose first labels are these, and whose front a key tells
pub record BeginsWith (first second : Option (List ℕ)) (v : Value) : Type 0 where
  pub first_is : first_label v ≡ first
  pub second_is : second_label v ≡ second
  pub has_key : HasKey (lead_of v)

-- all have one first and one second label, or none has one, and a key tells the front of each
abbrev pub BeginAlike : List Value → Type 0
BeginAlike vs = (first : Option (List ℕ)) × (second : Option (List ℕ)) × All (BeginsWith first second) vs
