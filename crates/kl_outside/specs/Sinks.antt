-- What a sink means, and what each call does to it.
use Rattle.std.specs.Prelude.{◌≡◌, ℕ, ◌≤◌, List, ◌++◌, length, take, Result, Err, Option, IfOk, OnOk, OnErr, IsErrOf}
use Rattle.std.specs.Io.KnownBytes.{append_known}
use Rattle.kl_base.specs.Counts.{Rose}
use Rattle.kl_outside.specs.Files.{CountsFailed}
use Rattle.kl_outside.specs.declared.stop.Stop.{Stop}
use Rattle.kl_outside.specs.declared.stop.Stop.TheVariants.{Failed, NoMemory}

-- What is known of a sink: the bytes that it took, where it tells them, how often a write failed, and how often one
-- found no memory.
pub record SinkState : Type 0 where
  pub taken : Option (List ℕ)
  pub faults : ℕ
  pub wants : ℕ

-- The count of wants rises with the answer `NoMemory` alone.
abbrev pub CountsWant : {T : Type 0} → Result T Stop → ℕ → ℕ → Type 0
CountsWant (Err NoMemory) before now = before ≤ now
CountsWant _ before now = now ≡ before

-- No count fell, each refusal has its count risen, and no count rose without its refusal.
pub record HasCause {T : Type 0} (result : Result T Stop) (old new : SinkState) : Type 0 where
  pub later : old.faults ≤ new.faults
  pub counts : CountsFailed result old.faults new.faults
  pub failed : IsErrOf result Failed → Rose old.faults new.faults
  pub wants_later : old.wants ≤ new.wants
  pub counts_want : CountsWant result old.wants new.wants
  pub wanted : IsErrOf result NoMemory → Rose old.wants new.wants

-- `write`: the first bytes of the piece were taken, one at least where it has any, or none at all.
pub record Writes (piece : List ℕ) (result : Result ℕ Stop) (old new : SinkState) : Type 0 where
  pub within : IfOk result (λ count. count ≤ length piece)
  pub progress : IfOk result (λ count. count ≡ 0 → length piece ≡ 0)
  pub took : IfOk result (λ count. new.taken ≡ append_known old.taken (take count piece))
  pub refused : OnErr result (new.taken ≡ old.taken)
  pub cause : HasCause result old new

-- The sink took the first of these bytes, and not the rest.
pub record TookPart (bytes : List ℕ) (old new : SinkState) : Type 0 where
  pub done : List ℕ
  pub rest : List ℕ
  pub all : bytes ≡ done ++ rest
  pub took : new.taken ≡ append_known old.taken done

-- `write_whole`, and whatever else writes these bytes: all of them were taken, or after a refusal a part.
pub record WritesWhole {T : Type 0} (bytes : List ℕ) (result : Result T Stop) (old new : SinkState) : Type 0 where
  pub took : OnOk result (new.taken ≡ append_known old.taken bytes)
  pub part : TookPart bytes old new
  pub cause : HasCause result old new
