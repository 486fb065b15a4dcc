-- Answers that may be refused for one cause alone.
use Rattle.std.specs.Prelude.{◌≡◌, Result, Ok, Err}

-- the answer is this value, or this one error, want of memory
abbrev pub OrMemory : {T E : Type 0} → E → Result T E → T → Type 0
OrMemory want (Ok found) t = found ≡ t
OrMemory want (Err e) t = e ≡ want
