-- What the commands do to a file and a sink, and how they end.
use Rattle.std.specs.Prelude.{◌≡◌, ◌⊎◌, ◌+◌, ◌<◌, ℕ, length, Bool, true, false, List, [], ◌∷◌, ◌++◌, codes, decimal, Option, Some, None, Result, Ok, Err, ⊤}
use Rattle.std.specs.Io.KnownBytes.{append_known}
use Rattle.std.specs.List.{AllByRecursion, flat_map}
use Rattle.json.specs.Print.{print}
use Rattle.json.specs.Tree.{json_tokens}
use Rattle.kl_base.specs.Counts.{Rose}
use Rattle.kl_exchange.specs.FileItems.{BadAt, Items, PastLimit, most_read, TooDeepAt, WholeText}
use Rattle.kl_exchange.specs.FileReading.{Left}
use Rattle.kl_exchange.specs.Grammar.{IsItem}
use Rattle.kl_exchange.specs.Printing.{Puts, as_stop}
use Rattle.kl_exchange.specs.Reading.{nesting}
use Rattle.kl_exchange.specs.declared.FileError.{FileError}
use Rattle.kl_exchange.specs.declared.FileError.TheVariants as file
use Rattle.kl_exchange.specs.declared.PrintError.{PrintError}
use Rattle.kl_exchange.specs.declared.PrintError.TheVariants as page
use Rattle.kl_heads.specs.FileReading.{HeadedFile, HasRead}
use Rattle.kl_heads.specs.Files.{Shows, States}
use Rattle.kl_json.specs.Files.{Begins, IsFile, Keeps, RefusesAt}
use Rattle.kl_json.specs.Written.{json_of, IsUnicode}
use Rattle.kl_json.specs.declared.choices.Choices.{Choices}
use Rattle.kl_json.specs.declared.choices.Refusal.{Refusal}
use Rattle.kl_json.specs.declared.choices.Refusal.TheVariants as refusal
use Rattle.kl_json.specs.declared.fault.Fault.{Fault}
use Rattle.kl_json.specs.declared.fault.Fault.TheVariants as fault
use Rattle.kl_json.specs.declared.words.Command.{Command}
use Rattle.kl_json.specs.declared.words.Command.TheVariants as command
use Rattle.kl_json.specs.declared.reader.JsonError.{JsonError}
use Rattle.kl_json.specs.declared.reader.JsonError.TheVariants as error
use Rattle.kl_outside.specs.Files.{FilesState, Holds, IsMissing}
use Rattle.kl_outside.specs.Sinks.{SinkState, TookPart, WritesWhole}
use Rattle.kl_outside.specs.declared.Stop.{Stop}
use Rattle.kl_outside.specs.declared.Stop.TheVariants as stop
use Rattle.kl_type.specs.Has.{has_type}
use Rattle.kl_type.specs.declared.Ty.{Ty}
use Rattle.kl_value.specs.Written.{text_of}
use Rattle.kl_value.specs.declared.Value.{Value}

-- how a command ended: well, or with a fault
abbrev pub Ending : Type 0
Ending = Result (Unit {0}) Fault

-- a value as an item on a line
abbrev pub value_item : Value → List ℕ
value_item v = text_of v ++ codes ";\n"

-- exchange text of these values, a line each
abbrev pub item_lines : List Value → List ℕ
item_lines vs = flat_map value_item vs

-- the JSON line of a value
abbrev pub json_line : Value → List ℕ
json_line v = print (json_tokens (json_of v)) ++ codes "\n"

-- JSON lines of these values
abbrev pub json_lines : List Value → List ℕ
json_lines vs = flat_map json_line vs

-- all lines were written
abbrev pub IsWritten : Ending → Type 0
IsWritten (Err fault.Write) = ⊥
IsWritten (Err fault.NoMemory) = ⊥
IsWritten end = ⊤

-- The other causes never come: words that are a command are no misuse, `to` writes no JSON text, and `from` reads none.
abbrev pub ToEnds : Ending → Type 0
ToEnds (Err fault.Usage) = ⊥
ToEnds (Err (fault.NoUnicode place)) = ⊥
ToEnds end = ⊤

abbrev pub FromEnds : Ending → Type 0
FromEnds (Err fault.Usage) = ⊥
FromEnds (Err (fault.Refused r place)) = ⊥
FromEnds end = ⊤

-- What a command does to a file, which holds what is said of it, and to a sink: these lines of values that were read are printed,
-- or a front of them.
pub record Does (lines : List Value → List ℕ) (Ends : Ending → Type 0) (Stands : List ℕ → List Value → Ending → Type 0) (path : List ℕ)
    (end : Ending) (files files' : FilesState) (out out' : SinkState) : Type 0 where
  pub told : files'.told ≡ files.told
  pub closed : (k : ℕ) → files'.left k ≡ files.left k
  pub ends : Ends end
  pub printed : List Value
  pub meant : (bytes : List ℕ) → Holds files path bytes → Stands bytes printed end
  pub part : TookPart (lines printed) out out'
  pub whole : IsWritten end → out'.taken ≡ append_known out.taken (lines printed)
  pub read : end ≡ Err fault.Read → IsMissing files path ⊎ Rose files.faults files'.faults
  pub missing : IsMissing files path → (end ≡ Err fault.Read) × (files'.faults ≡ files.faults) × (out' ≡ out)
  pub write : end ≡ Err fault.Write → Rose out.faults out'.faults

-- `to`: the file has these values and no more, or these and then one that is refused, or it begins with these. It is too long
-- where it has more bytes than are looked at.
abbrev pub JsonStands : Choices → List ℕ → List Value → Ending → Type 0
JsonStands c bytes vs (Ok done) = IsFile c bytes vs
JsonStands c bytes vs (Err (fault.Refused r place)) = RefusesAt c bytes vs r place
JsonStands c bytes vs (Err fault.FileBytes) = Begins c bytes vs × (most_read < length bytes)
JsonStands c bytes vs (Err e) = Begins c bytes vs

-- whether a value has the type that is stated, if any is
abbrev pub fits : Option Ty → Value → Bool
fits None v = true
fits (Some t) v = has_type v t

-- of the head that is stated, and a value
pub record IsPrinted (head : Option Ty) (v : Value) : Type 0 where
  pub typed : fits head v ≡ true
  pub unicode : IsUnicode (json_of v)

abbrev pub ArePrinted : Option Ty → List Value → Type 0
ArePrinted head vs = AllByRecursion (IsPrinted head) vs

-- A file that begins with this head, or none, and these items.
pub record BeginsItems (bytes : List ℕ) (head : Option Ty) (vs : List Value) : Type 0 where
  pub front : List ℕ
  pub read : List ℕ
  pub rest : List ℕ
  pub whole : bytes ≡ front ++ (read ++ rest)
  pub states : States head front
  pub items : Items read vs

-- One item more stands behind these, and so many bytes before it; of the head that is stated and its value this is true.
pub record HasItemAt (bytes : List ℕ) (vs : List Value) (place : ℕ) (Lacks : Option Ty → Value → Type 0) : Type 0 where
  pub head : Option Ty
  pub value : Value
  pub front : List ℕ
  pub read : List ℕ
  pub item : List ℕ
  pub rest : List ℕ
  pub whole : bytes ≡ front ++ (read ++ (item ++ rest))
  pub states : States head front
  pub items : Items read vs
  pub is : IsItem nesting item value
  pub stands : place ≡ length front + length read
  pub lacks : Lacks head value

-- Why nothing more was read behind these items: the file goes on with what is no item, or no head; or the item that stands
-- there lacks the type that the head states, or has a text that is no UTF-8; or a bracket opens inside too many others; or the
-- file has more bytes than are looked at, and less than an item up to there. Of the other faults nothing is said here.
abbrev pub ItemsCause : List ℕ → List Value → Fault → Type 0
ItemsCause bytes vs (fault.Bad place) = ((head : Option Ty) × Shows most_read bytes head vs (BadAt place)) ⊎ HasItemAt bytes vs place (λ head v. fits head v ≡ false)
ItemsCause bytes vs (fault.NoUnicode place) = HasItemAt bytes vs place (λ head v. IsUnicode (json_of v) → ⊥)
ItemsCause bytes vs fault.Nesting = (head : Option Ty) × (place : ℕ) × Shows most_read bytes head vs (TooDeepAt place)
ItemsCause bytes vs fault.FileBytes = (head : Option Ty) × Shows most_read bytes head vs PastLimit
ItemsCause bytes vs f = ⊤

-- `from`: the file has this head, or none, and these items and no more, or it begins with them, and there is a cause for that;
-- each has the type that the head states, and texts in UTF-8.
abbrev pub ItemsStand : List ℕ → List Value → Ending → Type 0
ItemsStand bytes vs (Ok done) = (head : Option Ty) × Shows most_read bytes head vs WholeText × ArePrinted head vs
ItemsStand bytes vs (Err e) = ((vs ≡ []) ⊎ ((head : Option Ty) × BeginsItems bytes head vs × ArePrinted head vs)) × ItemsCause bytes vs e

-- ---- the command line's answer

abbrev pub fault_status : Fault → ℕ
fault_status fault.Usage = 1
fault_status (fault.Bad place) = 5
fault_status (fault.Refused r place) = 5
fault_status (fault.NoUnicode place) = 5
fault_status fault.Read = 7
fault_status fault.Write = 8
fault_status fault.NoMemory = 9
fault_status fault.Nesting = 10
fault_status fault.FileBytes = 10

abbrev pub status_of : Ending → ℕ
status_of (Ok done) = 0
status_of (Err f) = fault_status f

abbrev pub cause_text : Refusal → List ℕ
cause_text refusal.Null = codes "null"
cause_text refusal.Number = codes "number"
cause_text refusal.Word = codes "label"
cause_text refusal.Twice = codes "label twice"

-- what stands behind so many bytes
abbrev pub place_line : List ℕ → List ℕ → ℕ → List ℕ
place_line path what place = flat_map (λ part. part) (codes "source " ∷ path ∷ codes ": " ∷ what ∷ codes " at " ∷ decimal place ∷ codes "\n" ∷ [])

abbrev pub fault_line : List ℕ → Fault → List ℕ
fault_line path fault.Usage = codes "usage: kljson to FILE [--null LABEL] [--text-numbers] [--words], " ++ codes "kljson from FILE\n"
fault_line path (fault.Bad place) = place_line path (codes "bad") place
fault_line path (fault.Refused r place) = place_line path (cause_text r) place
fault_line path (fault.NoUnicode place) = place_line path (codes "no UTF-8") place
fault_line path fault.Read = codes "read fault\n"
fault_line path fault.Write = codes "write fault\n"
fault_line path fault.NoMemory = codes "out of memory\n"
fault_line path fault.Nesting = codes "limit: item nesting\n"
fault_line path fault.FileBytes = codes "limit: file bytes\n"

-- the line was written, as far as the sink took it
abbrev pub Tells : List ℕ → SinkState → SinkState → Type 0
Tells line old new = (result : Result (Unit {0}) Stop) × WritesWhole line result old new

abbrev pub TellsOf : List ℕ → Ending → SinkState → SinkState → Type 0
TellsOf path (Ok done) old new = new ≡ old
TellsOf path (Err f) old new = Tells (fault_line path f) old new

abbrev pub path_of : Option Command → List ℕ
path_of None = []
path_of (Some (command.To file c)) = file
path_of (Some (command.From file)) = file

-- a command is done, or the words are none
abbrev pub DoesCommand : Option Command → Ending → FilesState → FilesState → SinkState → SinkState → Type 0
DoesCommand None end files files' out out' = (end ≡ Err fault.Usage) × (files' ≡ files) × (out' ≡ out)
DoesCommand (Some (command.To file c)) end files files' out out' = Does item_lines ToEnds (JsonStands c) file end files files' out out'
DoesCommand (Some (command.From file)) end files files' out out' = Does json_lines FromEnds ItemsStand file end files files' out out'

-- memory was wanting for the words
abbrev pub DoesNothing : Ending → FilesState → FilesState → SinkState → SinkState → Type 0
DoesNothing end files files' out out' = (end ≡ Err fault.NoMemory) × (files' ≡ files) × (out' ≡ out)

-- What the top call does for a command, or for words that are none: how it ended is told by the status and by the line.
pub record AnswersWords (asked : Option Command) (status : ℕ) (files files' : FilesState) (out out' err err' : SinkState) : Type 0 where
  pub end : Ending
  pub does : DoesCommand asked end files files' out out' ⊎ DoesNothing end files files' out out'
  pub status_is : status ≡ status_of end
  pub tells : TellsOf (path_of asked) end err err'

-- ---- for private functions alone

abbrev pub open_fault : Stop → Fault
open_fault stop.Failed = fault.Read
open_fault stop.NoMemory = fault.NoMemory

abbrev pub print_fault : PrintError → Fault
print_fault page.Failed = fault.Write
print_fault page.NoMemory = fault.NoMemory

abbrev pub file_fault : FileError → Fault
file_fault file.Read = fault.Read
file_fault file.NoMemory = fault.NoMemory
file_fault (file.Bad place) = fault.Bad place
file_fault (file.TooDeep place) = fault.Nesting
file_fault file.TooLong = fault.FileBytes

abbrev pub json_fault : JsonError → Fault
json_fault error.Read = fault.Read
json_fault error.NoMemory = fault.NoMemory
json_fault (error.Bad place) = fault.Bad place
json_fault (error.TooDeep place) = fault.Nesting
json_fault error.TooLong = fault.FileBytes
json_fault (error.Refused r place) = fault.Refused r place

-- how the file ended where all was printed, or what was refused of the sink
abbrev pub Printing : Type 0
Printing = Result Ending PrintError

abbrev pub as_puts : Printing → Result (Unit {0}) Stop
as_puts (Ok end) = Ok tt
as_puts (Err e) = as_stop {T = Unit {0}} (Err e)

abbrev pub end_of : Printing → Ending
end_of (Ok end) = end
end_of (Err e) = Err (print_fault e)

-- Lines of values that were read of an open file are on a page that was empty, or were handed to the sink.
pub record PutsLines (lines : List Value → List ℕ) (Ends : Ending → Type 0) (Stands : List ℕ → List Value → Ending → Type 0) (number : ℕ)
    (result : Printing) (files files' : FilesState) (out out' : SinkState) (held : List ℕ) : Type 0 where
  pub keeps : Keeps number files files'
  pub ends : Ends (end_of result)
  pub printed : List Value
  pub meant : (bytes : List ℕ) → files.left number ≡ Some (Some bytes) → Stands bytes printed (end_of result)
  pub puts : Puts (lines printed) (as_puts result) out [] out' held
  pub read : end_of result ≡ Err fault.Read → Rose files.faults files'.faults
  pub unwritten : (end : Ending) → result ≡ Ok end → end ≡ Err fault.Write → ⊥

-- what is held is written
abbrev pub flushed_end : Ending → Result (Unit {0}) PrintError → Ending
flushed_end end (Ok done) = end
flushed_end end (Err e) = Err (print_fault e)

abbrev pub Finishes : Printing → Ending → List ℕ → SinkState → SinkState → Type 0
Finishes (Ok inner) end held old new = (flushed : Result (Unit {0}) PrintError) × WritesWhole held (as_stop flushed) old new × (end ≡ flushed_end inner flushed)
Finishes (Err e) end held old new = (end ≡ Err (print_fault e)) × (new ≡ old)

-- why an item at a place has no line: it lacks the type that is stated, or has a text that is no UTF-8; or memory was wanting
abbrev pub HasNoLine : Option Ty → Value → ℕ → Fault → Type 0
HasNoLine head v place fault.NoMemory = ⊤
HasNoLine head v place (fault.Bad p) = (p ≡ place) × (fits head v ≡ false)
HasNoLine head v place (fault.NoUnicode p) = (p ≡ place) × (IsUnicode (json_of v) → ⊥)
HasNoLine head v place f = ⊥

-- the line of an item at a place is on the page, or the item has none, or the sink refused it
abbrev pub PutsLine : Option Ty → Value → ℕ → Printing → SinkState → List ℕ → SinkState → List ℕ → Type 0
PutsLine head v place (Ok (Ok done)) old held new after = IsPrinted head v × Puts {T = Unit {0}} (json_line v) (Ok tt) old held new after
PutsLine head v place (Ok (Err f)) old held new after = HasNoLine head v place f × (new ≡ old) × (after ≡ held)
PutsLine head v place (Err e) old held new after = IsPrinted head v × Puts {T = Unit {0}} (json_line v) (as_stop {T = Unit {0}} (Err e)) old held new after

-- A head was read of a file, or that there is none, and no item; then items are printed.
pub record PutsItems (old : HeadedFile) (head : Option Ty) (result : Printing) (files files' : FilesState) (out out' : SinkState) (held : List ℕ) : Type 0 where
  pub keeps : Keeps old.items.file files files'
  pub ends : FromEnds (end_of result)
  pub printed : List Value
  pub meant : (first : Left) → HasRead first head [] old (files.left old.items.file) → (bytes : List ℕ) → first ≡ Some (Some bytes) → ItemsStand bytes printed (end_of result)
  pub puts : Puts (json_lines printed) (as_puts result) out [] out' held
  pub read : end_of result ≡ Err fault.Read → Rose files.faults files'.faults
  pub unwritten : (end : Ending) → result ≡ Ok end → end ≡ Err fault.Write → ⊥
