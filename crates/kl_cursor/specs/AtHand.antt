-- What is drawn of the rows at hand, where no source is read on.
use Rattle.std.specs.Prelude.{◌≡◌, List, true, Result, Ok, Err, ⊤}
use Rattle.kl_value.specs.declared.Value.{Value}
use Rattle.kl_scans.specs.Running.{Running}
use Rattle.kl_eval.specs.declared.stop.EvalStop.{EvalStop}
use Rattle.kl_cursor.specs.declared.cursor.Draw.{Draw}
use Rattle.kl_cursor.specs.declared.cursor.Draw.TheVariants as draw
use Rattle.kl_cursor.specs.declared.held.Turn.{Turn}
use Rattle.kl_cursor.specs.declared.held.Turn.TheVariants as turn
use Rattle.kl_cursor.specs.Laziness.{Lazily, KeepsLazy}
use Rattle.kl_cursor.specs.Left.{Snap, ended, snap}
use Rattle.kl_cursor.specs.Pulling.{pulls}
use Rattle.kl_cursor.specs.Steps.{Ends, Gives, Onward, Steps, Stops}

-- What `next_held` answers: as `next` does, or that a source must be read on for more. Then nothing was given, and as much is left.
abbrev pub NextsHeld : List Value → Snap → Result Draw EvalStop → Snap → Running → Running → Type 0
NextsHeld env s (Ok (draw.Item v)) t a b = Gives env s a v t b
NextsHeld env s (Ok draw.End) t a b = Ends env s a b × (t ≡ ended)
NextsHeld env s (Ok draw.NeedsPull) t a b = Onward env s a t b
NextsHeld env s (Err e) t a b = Stops env s e a b × (t ≡ ended)

-- and what was drawn lazily so far was so again
abbrev pub NextsHeldLazily : List Value → Snap → Result Draw EvalStop → Snap → Running → Running → Type 0
NextsHeldLazily env s (Ok (draw.Item v)) t a b = KeepsLazy 1 env s a t b
NextsHeldLazily env s (Ok draw.NeedsPull) t a b = KeepsLazy 0 env s a t b
NextsHeldLazily env s _ t a b = ⊤

-- a source must be read on only where the next step may do so
abbrev pub PullsAlone : Result Draw EvalStop → Snap → Type 0
PullsAlone (Ok draw.NeedsPull) s = pulls s ≡ true
PullsAlone _ s = ⊤

-- ---- for private functions alone: the same of a step

abbrev pub Turns : List Value → Snap → Result Turn EvalStop → Running → Running → Type 0
Turns env s (Ok (turn.Stepped i t)) a b = Steps env s (Ok (i, t)) a b
Turns env s (Ok (turn.NeedsPull t)) a b = Onward env s a (snap t) b
Turns env s (Err e) a b = Stops env s e a b

abbrev pub TurnsLazily : List Value → Snap → Result Turn EvalStop → Running → Running → Type 0
TurnsLazily env s (Ok (turn.Stepped i t)) a b = Lazily env s (Ok (i, t)) a b
TurnsLazily env s (Ok (turn.NeedsPull t)) a b = KeepsLazy 0 env s a (snap t) b
TurnsLazily env s (Err e) a b = ⊤

abbrev pub MustPull : Result Turn EvalStop → Type 0
MustPull (Ok (turn.NeedsPull t)) = ⊤
MustPull _ = ⊥
