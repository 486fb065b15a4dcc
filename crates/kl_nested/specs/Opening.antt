-- Steps of opening a cursor. No public contract cites this.
use Rattle.std.specs.Prelude.{◌≡◌, ◌⊎◌, ℕ, ◌≤◌, true, false, List, [], ◌∷◌, ◌++◌, Option, Some, None, IsSome, Result, Err, IfOk, OnOk, OnErr}
use Rattle.std.specs.Prelude.{IsErrOf}
use Rattle.kl_base.specs.Counts.{Rose}
use Rattle.std.specs.Option.{option_map}
use Rattle.kl_outside.specs.Files.{FilesState, Closes, IsMissing, OtherFiles, OtherSeen, left_at_first, nothing_seen, seen_in}
use Rattle.kl_outside.specs.declared.stop.Stop.{Stop}
use Rattle.kl_outside.specs.declared.stop.Stop.TheVariants as stop
use Rattle.kl_exchange.specs.FileItems.{reading}
use Rattle.kl_ask.specs.Driver.{CountsFault}
use Rattle.kl_ask.specs.declared.ask.Ask.{Ask}
use Rattle.kl_ask.specs.declared.ask.DriverError.{DriverError}
use Rattle.kl_ask.specs.declared.ask.DriverError.TheVariants as error
use Rattle.kl_ask.specs.Named.{asked_source}
use Rattle.kl_nested.specs.Nested.{Sources}
use Rattle.kl_nested.specs.declared.parts.Source.{Source}
use Rattle.kl_nested.specs.declared.parts.Open.{Open}

abbrev pub stopped_as : Stop → DriverError
stopped_as stop.Failed = error.Failed
stopped_as stop.NoMemory = error.NoMemory

-- a cursor over a source, before its first row, in a file that was not open
pub record OpensOver (limit : ℕ) (source : Source) (ask : Ask) (old new : FilesState) (o : Open) : Type 0 where
  pub source_is : o.source ≡ source
  pub ask_is : o.ask ≡ ask
  pub none_taken : o.taken ≡ 0
  pub front : o.reader.front ≡ true
  pub size : o.reader.head ≡ 0
  pub fresh : o.reader.refused ≡ None
  pub text : o.reader.items.text ≡ reading 0 [] false
  pub unpast : o.reader.items.past ≡ false
  pub same_file : o.reader.items.file ≡ o.file
  pub same_limit : o.reader.items.limit ≡ limit
  pub free : old.left o.file ≡ None
  pub left : new.left o.file ≡ Some (left_at_first old.told source.path)
  pub others : OtherFiles o.file old new
  pub unread : seen_in new o.file ≡ option_map (λ log. nothing_seen) old.log
  pub others_seen : OtherSeen o.file old new

-- what a refusal to open leaves, and its cause
pub record NotOpened {T : Type 0} (source : Source) (result : Result T DriverError) (old new : FilesState) : Type 0 where
  pub left : OnErr result ((k : ℕ) → new.left k ≡ old.left k)
  pub seen : OnErr result ((k : ℕ) → IsSome (old.left k) → seen_in new k ≡ seen_in old k)
  pub failed : IsErrOf result error.Failed → IsMissing old source.path ⊎ Rose old.faults new.faults
  pub no_other : OnErr result (IsErrOf result error.Failed ⊎ IsErrOf result error.NoMemory)

-- a cursor is made, and its file opened
pub record OpensOne (limit : ℕ) (source : Source) (ask : Ask) (result : Result Open DriverError) (old new : FilesState) : Type 0 where
  pub told : new.told ≡ old.told
  pub later : old.faults ≤ new.faults
  pub counts : CountsFault result old.faults new.faults
  pub opened : IfOk result (OpensOver limit source ask old new)
  pub refused : NotOpened source result old new

-- a cursor is put behind the others, or its file is closed
pub record PutsLast (o : Open) (result : Result (Unit {0}) DriverError) (cursors cursors' : List (Option Open))
    (old new : FilesState) : Type 0 where
  pub put : OnOk result ((cursors' ≡ cursors ++ Some o ∷ []) × (new ≡ old))
  pub refused : OnErr result ((cursors' ≡ cursors) × Closes o.file old new × (result ≡ Err error.NoMemory))

-- a cursor is opened behind the others
pub record OpensLast (limit : ℕ) (source : Source) (ask : Ask) (result : Result (Unit {0}) DriverError)
    (cursors cursors' : List (Option Open)) (old new : FilesState) : Type 0 where
  pub told : new.told ≡ old.told
  pub later : old.faults ≤ new.faults
  pub counts : CountsFault result old.faults new.faults
  pub opened : OnOk result ((o : Open) × (cursors' ≡ cursors ++ Some o ∷ []) × OpensOver limit source ask old new o)
  pub same : OnErr result (cursors' ≡ cursors)
  pub refused : NotOpened source result old new

-- a cursor over the source that is asked is opened behind the others
pub record OpensAsked (limit : ℕ) (sources : Sources) (ask : Ask) (result : Result (Unit {0}) DriverError)
    (cursors cursors' : List (Option Open)) (old new : FilesState) : Type 0 where
  pub source : Source
  pub found : asked_source sources ask ≡ Some source
  pub opens : OpensLast limit source ask result cursors cursors' old new
