-- What printing through a page does to a sink.
use Rattle.std.specs.Prelude.{◌≡◌, ℕ, Bool, not, ◌&&◌, ◌||◌, nat_le, nat_lt, List, ◌++◌, codes, Result, Ok, Err, OnOk, Option}
use Rattle.std.specs.Prelude.{Some, None, ◌==◌}
use Rattle.std.specs.Io.KnownBytes.{append_known}
use Rattle.kl_outside.specs.Sinks.{SinkState, HasCause}
use Rattle.kl_outside.specs.declared.Stop.{Stop}
use Rattle.kl_outside.specs.declared.Stop.TheVariants as stop
use Rattle.kl_value.specs.Written.{text_of}
use Rattle.kl_value.specs.declared.Value.{Value}
use Rattle.kl_exchange.specs.declared.error.PrintError.{PrintError}
use Rattle.kl_exchange.specs.declared.error.PrintError.TheVariants as error

-- the stop of the sink that an error of `print` hands on
abbrev pub as_stop : {T : Type 0} → Result T PrintError → Result T Stop
as_stop (Ok x) = Ok x
as_stop (Err error.Failed) = Err stop.Failed
as_stop (Err error.NoMemory) = Err stop.NoMemory

abbrev pub error_of : Stop → PrintError
error_of stop.Failed = error.Failed
error_of stop.NoMemory = error.NoMemory

abbrev pub field_text : List ℕ × Value → List ℕ
field_text f = (f.0 ++ codes "=") ++ text_of f.1

-- The sink took the first of the bytes that were held and of these. Where nothing was refused the others are held now.
pub record Puts {T : Type 0} (bytes : List ℕ) (result : Result T Stop) (old : SinkState) (held : List ℕ) (new : SinkState)
    (after : List ℕ) : Type 0 where
  pub done : List ℕ
  pub rest : List ℕ
  pub all : held ++ bytes ≡ done ++ rest
  pub took : new.taken ≡ append_known old.taken done
  pub holds : OnOk result (rest ≡ after)
  pub cause : HasCause result old new

-- for private functions alone: what a page answers that has stopped, or not
abbrev pub outcome : Option Stop → Result (Unit {0}) Stop
outcome None = Ok tt
outcome (Some e) = Err e

-- for private functions alone
abbrev pub AddsBytes : Option Stop → List ℕ → SinkState → List ℕ → SinkState → List ℕ → Option Stop → Type 0
AddsBytes None bytes old held new after stopped = Puts bytes (outcome stopped) old held new after
AddsBytes (Some e) bytes old held new after stopped = (stopped ≡ Some e) × (new ≡ old)

-- For private functions alone: bytes are printed, unless the sink has stopped: then nothing more is written.
pub record Prints (bytes : List ℕ) (old : SinkState) (held : List ℕ) (before : Option Stop)
    (new : SinkState) (after : List ℕ) (stopped : Option Stop) : Type 0 where
  pub adds : AddsBytes before bytes old held new after stopped

-- a byte that stands as it is in a text
abbrev pub is_plain : ℕ → Bool
is_plain b = ((nat_le 32 b && nat_lt b 127) || nat_le 128 b) && (not (b == 34) && not (b == 92))
