-- Cursors that stay open.
use Rattle.std.proofs.Common.{ℕ, Bool, true, false, List, Ok, IsSome, refl}
use Rattle.kl_value.specs.declared.Value.{Value}
use Rattle.kl_ask.specs.Driver.{Pulls, State}
use Rattle.kl_ask.proofs.Opened.{some_of}

-- an open cursor stays open
pub stays_open : (cursor most : ℕ) (into into' : List Value) (more : Bool) (a b : State) → IsSome (a.cursors cursor) → Pulls cursor most into into' (Ok more) a b → IsSome (b.cursors cursor)
stays_open cursor most into into' true a b is p = let at = some_of (a.cursors cursor) is in rw (p.answer at.0 at.1).now refl
stays_open cursor most into into' false a b is p = let at = some_of (a.cursors cursor) is in rw (p.answer at.0 at.1).now refl
