-- Values without those that were seen before.
use Rattle.std.specs.Prelude.{Bool, true, false, ◌||◌, List, [], ◌∷◌, cond}
use Rattle.kl_value.specs.declared.Value.{Value}
use Rattle.kl_ask.specs.Driver.{same_value}

-- the first of each that was not seen
abbrev pub fresh : (Value → Bool) → List Value → List Value
fresh seen [] = []
fresh seen (v ∷ vs) = cond (seen v) (fresh seen vs) (v ∷ fresh (λ w. same_value v w || seen w) vs)

-- all, or the first of each where these are distinct
abbrev pub left_of_rows : Bool → (Value → Bool) → List Value → List Value
left_of_rows true seen rows = fresh seen rows
left_of_rows false seen rows = rows
