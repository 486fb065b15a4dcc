-- The items of a file and where each begins, and what stands behind them, as a function of the file's bytes. What it is,
-- `IsFound` says by the grammar alone (`found_laws`): no contract rests on how it is written here.
use Rattle.std.specs.Prelude.{◌≡◌, ℕ, zero, suc, ◌+◌, ◌-◌, nat_le, Bool, true, false, cond, List, [], ◌∷◌, ◌++◌, length, take, map}
use Rattle.std.specs.List.{list_all}
use Rattle.kl_value.specs.declared.Value.{Value}
use Rattle.kl_exchange.specs.FileItems.{FileEnd, WholeText, BadAt, TooDeepAt, PastLimit, EndsIn}
use Rattle.kl_exchange.specs.Grammar.{is_blank, IsItem}
use Rattle.kl_exchange.specs.Machine.{Run, run, more, ends, fails, deep, start}
use Rattle.kl_exchange.specs.Reading.{nesting}

-- an item, and the number of bytes of the items before it
abbrev pub FileItem : Type 0
FileItem = ℕ × Value

pub record Found : Type 0 where
  pub items : List FileItem
  pub behind : FileEnd

abbrev pub end_of : Bool → ℕ → List ℕ → FileEnd
end_of false place left = PastLimit
end_of true place left = cond (list_all is_blank left) WholeText (BadAt (place + length left))

abbrev pub next_found : Bool → ℕ → List ℕ → (ℕ → List ℕ → Found) → Run → Found
next_found whole place left go (ends v rest) = let others = go
    (place + (length left - length rest)) rest in record { items = (place, v) ∷ others.items; behind = others.behind }
next_found whole place left go (more m) = record { items = []; behind = end_of whole place left }
next_found whole place left go (fails rest) = record { items = []; behind = BadAt (place + (length left - length rest)) }
next_found whole place left go (deep rest) = record { items = []; behind = TooDeepAt (place + (length left - length rest)) }

abbrev pub found_from : ℕ → Bool → ℕ → List ℕ → Found
found_from zero whole place left = record { items = []; behind = PastLimit }
found_from (suc n) whole place left = next_found whole place left (found_from n whole) (run nesting left start)

-- of a file with these bytes at most `limit` are looked at
unfoldable pub file_items : ℕ → List ℕ → Found
file_items limit bytes = found_from (suc (length bytes)) (nat_le (length bytes) limit) 0 (take limit bytes)

-- one item behind the other, each with the number of bytes before it
abbrev pub Placed : ℕ → List ℕ → List FileItem → Type 0
Placed place bytes [] = bytes ≡ []
Placed place bytes (x ∷ xs) = (item : List ℕ) × (rest : List ℕ) × (bytes ≡ item ++ rest) × (x.0 ≡ place) × IsItem nesting item x.1
    × Placed (place + length item) rest xs

abbrev pub values_of : List FileItem → List Value
values_of xs = map (λ x. x.1) xs

-- a file with these bytes has these items at these places, and then comes this end
pub record IsFound (limit : ℕ) (bytes : List ℕ) (f : Found) : Type 0 where
  pub read : List ℕ
  pub left : List ℕ
  pub seen : take limit bytes ≡ read ++ left
  pub items : Placed 0 read f.items
  pub ends : EndsIn (length read) left (nat_le (length bytes) limit) f.behind
