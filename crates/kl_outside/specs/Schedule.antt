-- Calls that are listed to fail.
use Rattle.std.specs.Prelude.{ℕ, ◌+◌, ◌-◌, ◌^◌, min, Bool, List, [], ◌∷◌, ◌++◌, Option, Some, None, ◌==◌, if◌then◌else◌}
use Rattle.std.specs.List.{list_any}

-- The numbers of the calls that are to fail, counted from 1, how many calls were made, and how many faults there were.
pub record Calls : Type 0 where
  pub listed : List ℕ
  pub made : ℕ
  pub faults : ℕ

-- one more, or the greatest u64
abbrev pub next_count : ℕ → ℕ
next_count n = min (n + 1) (2 ^ 64 - 1)

abbrev pub is_next_listed : Calls → Bool
is_next_listed calls = list_any (λ call. call == next_count calls.made) calls.listed

abbrev pub list_call : ℕ → Calls → Calls
list_call call calls = record calls { listed = calls.listed ++ call ∷ [] }

abbrev pub make_call : Calls → Calls
make_call calls = record calls { made = next_count calls.made }

abbrev pub fail_call : Calls → Calls
fail_call calls = record calls { faults = next_count calls.faults }

-- A call counts a fault exactly where it is listed.
abbrev pub after_call : Calls → Calls
after_call calls = if is_next_listed calls then fail_call (make_call calls) else make_call calls

-- The opening of a missing path counts no fault, listed or not, where bytes are told, and else it counts one.
abbrev pub after_opening : {T : Type 0} → Option T → Option (List ℕ) → Calls → Calls
after_opening told (Some bytes) calls = after_call calls
after_opening (Some files) None calls = make_call calls
after_opening None None calls = fail_call (make_call calls)
