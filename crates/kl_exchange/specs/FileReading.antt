-- What a reader of an open file knows, and what each call does.
use Rattle.std.specs.Prelude.{◌≡◌, ◌⊎◌, ℕ, ◌+◌, ◌-◌, ◌*◌, ◌<◌, ◌≤◌, Bool, true, false, List, [], ◌∷◌, ◌++◌, length, ⊤}
use Rattle.std.specs.Prelude.{Option, Some, None, Result, Ok, Err, OnOk, OnErr, IsErrOf, IsSome}
use Rattle.std.specs.Result.{IfErr}
use Rattle.kl_base.specs.Counts.{Rose}
use Rattle.kl_outside.specs.Files.{FilesState, OtherFiles, OtherSeen, Seen, seen_in}
use Rattle.kl_value.specs.declared.Value.{Value}
use Rattle.kl_exchange.specs.FileItems.{Items, FileEnd, WholeText, BadAt, TooDeepAt, PastLimit, EndsIn, Shows}
use Rattle.kl_exchange.specs.Reading.{ReadsNext, Waits}
use Rattle.kl_exchange.specs.State.{State}
use Rattle.kl_exchange.specs.declared.error.FileError.{FileError}
use Rattle.kl_exchange.specs.declared.error.FileError.TheVariants as fault
use Rattle.kl_exchange.specs.declared.error.ReadError.{ReadError}
use Rattle.kl_exchange.specs.declared.error.ReadError.TheVariants as error
use Rattle.kl_exchange.specs.declared.reader.Item.{Item}
use Rattle.kl_exchange.specs.declared.reader.Item.TheVariants as item

-- What contracts see of a reader of an open file.
pub record FileReading : Type 0 where
  -- the number under which the file is open
  pub file : ℕ
  -- how many of its bytes are looked at
  pub limit : ℕ
  -- how many are fetched at a time
  pub piece : ℕ
  -- the bytes that were fetched, and the items among them
  pub text : State
  -- the file was found to have more bytes than the limit
  pub past : Bool

-- what an open file has left, where that is known
abbrev pub Left : Type 0
Left = Option (Option (List ℕ))

-- These are the bytes of the file: the items read, what was fetched behind them, what was seen past the limit, and
-- what is left.
pub record Remains (read : List ℕ) (now : FileReading) (left : Left) (bytes : List ℕ) : Type 0 where
  pub beyond : List ℕ
  pub behind : List ℕ
  pub known : left ≡ Some (Some behind)
  pub whole : bytes ≡ (read ++ now.text.left) ++ (beyond ++ behind)
  pub nothing_beyond : now.past ≡ false → beyond ≡ []
  pub limit_met : now.past ≡ true → (0 < length beyond) × (now.text.place + length now.text.left ≡ now.limit)
  pub end_met : now.text.finished ≡ true → beyond ++ behind ≡ []

-- the end that a refusal tells of
abbrev pub IsRefusalOf : FileEnd → ReadError → Type 0
IsRefusalOf (BadAt p) e = e ≡ error.Bad p
IsRefusalOf (TooDeepAt p) e = e ≡ error.TooDeep p
IsRefusalOf WholeText e = ⊥
IsRefusalOf PastLimit e = ⊥

-- Since a file had `first` left these items were read from it, and it has `left` left.
pub record HasRead (first : Left) (vs : List Value) (now : FileReading) (left : Left) : Type 0 where
  pub read : List ℕ
  pub items : Items read vs
  pub place : now.text.place ≡ length read
  pub within : now.text.place + length now.text.left ≤ now.limit
  pub remains : (bytes : List ℕ) → first ≡ Some (Some bytes) → Remains read now left bytes
  -- a refusal that is kept has its cause
  pub refusal : (e : ReadError) (end : FileEnd) → now.text.refused ≡ Some e → IsRefusalOf end e
      → EndsIn now.text.place now.text.left now.text.finished end

-- the place of what is no item is a byte that was fetched, unless the file ends there
abbrev pub IsFetched : FileEnd → FileReading → Type 0
IsFetched (BadAt p) now = (p < now.text.place + length now.text.left) ⊎ (now.text.finished ≡ true)
IsFetched (TooDeepAt p) now = (p < now.text.place + length now.text.left) ⊎ (now.text.finished ≡ true)
IsFetched WholeText now = ⊤
IsFetched PastLimit now = ⊤

-- Where the file's bytes are known, it has these items and then this end.
abbrev pub EndsSo : Left → List Value → FileEnd → FileReading → Left → Type 0
EndsSo first vs end now left = HasRead first vs now left × ((bytes : List ℕ) → first ≡ Some (Some bytes) → Shows now.limit bytes vs end)
    × IsFetched end now

-- ---- what was read of a file that does not tell its bytes

-- a reader that met the end was told it, and one that met more than is looked at saw one byte of that
pub record IsMetBy (now : FileReading) (seen : Seen) : Type 0 where
  pub ended : now.text.finished ≡ true → seen.ended ≡ true
  pub passed : now.past ≡ true → length seen.bytes ≡ now.limit + 1

-- Where it is kept what was read, the reader stands as it would in a file that has these bytes alone, of which none is left.
abbrev pub AsSeen : (Left → Left → Type 0) → FileReading → Option Seen → Type 0
AsSeen stands now seen = (s : Seen) → seen ≡ Some s → stands (Some (Some s.bytes)) (Some (Some [])) × IsMetBy now s

-- The same where bytes were taken away at the front of the file: the reader stands as in a file that has those behind them.
abbrev pub AsSeenBehind : List ℕ → (Left → Left → Type 0) → FileReading → Option Seen → Type 0
AsSeenBehind front stands now seen = (s : Seen) → seen ≡ Some s → (bytes : List ℕ) × (s.bytes ≡ front ++ bytes)
    × stands (Some (Some bytes)) (Some (Some [])) × IsMetBy now (record s { bytes = bytes })

abbrev pub HasSeen : List Value → FileReading → Option Seen → Type 0
HasSeen vs now seen = AsSeen (λ first left. HasRead first vs now left) now seen

-- more was read, behind what was read before
abbrev pub SeesMore : Option Seen → Option Seen → Type 0
SeesMore None after = after ≡ None
SeesMore (Some before) (Some after) = (more : List ℕ) × (after.bytes ≡ before.bytes ++ more)
SeesMore (Some before) None = ⊥

-- 1 until the end was met
abbrev pub end_to_come : Bool → ℕ
end_to_come true = 0
end_to_come false = 1

-- What can come yet: it falls with each item that is handed out, and with each piece that is fetched.
abbrev pub to_come : FileReading → ℕ
to_come s = (2 * (s.limit - (s.text.place + length s.text.left)) + length s.text.left) + end_to_come s.text.finished

-- a refusal's place is among the bytes that are looked at
abbrev pub IsPlaced : ℕ → ReadError → Type 0
IsPlaced limit (error.Bad place) = place ≤ limit
IsPlaced limit (error.TooDeep place) = place ≤ limit
IsPlaced limit error.NoMemory = ⊤

abbrev pub IsFaultPlaced : ℕ → FileError → Type 0
IsFaultPlaced limit (fault.Bad place) = place ≤ limit
IsFaultPlaced limit (fault.TooDeep place) = place ≤ limit
IsFaultPlaced limit e = ⊤

-- after an answer from the bytes that were fetched
abbrev pub HeldOut : Left → List Value → Result Item ReadError → FileReading → Left → Type 0
HeldOut first vs (Ok (item.Value v)) now left = HasRead first (vs ++ v ∷ []) now left
HeldOut first vs (Ok item.NeedMore) now left = HasRead first vs now left
HeldOut first vs (Ok item.End) now left = EndsSo first vs WholeText now left
HeldOut first vs (Err (error.Bad p)) now left = EndsSo first vs (BadAt p) now left
HeldOut first vs (Err (error.TooDeep p)) now left = EndsSo first vs (TooDeepAt p) now left
HeldOut first vs (Err error.NoMemory) now left = HasRead first vs now left

-- `next_held`
pub record HandsOut (result : Result Item ReadError) (old new : FileReading) : Type 0 where
  pub text : ReadsNext old.text result new.text
  pub same : new ≡ record old { text = new.text }
  pub finished : new.text.finished ≡ old.text.finished
  pub waits : result ≡ Ok item.NeedMore → Waits new.text new.text
  pub placed : IfErr result (λ e. IsPlaced old.limit e)
  pub less : (v : Value) → result ≡ Ok (item.Value v) → to_come new < to_come old
  pub goes : (first left : Left) (vs : List Value) → HasRead first vs old left → HeldOut first vs result new left

-- more bytes may come, and nothing was refused
pub record MayGrow (text : State) : Type 0 where
  pub unfinished : text.finished ≡ false
  pub fresh : text.refused ≡ None

-- after a piece, or the reason why none was fetched, whatever the bytes fetched before it are
abbrev pub FetchedPiece : Left → List Value → Result (Unit {0}) FileError → FileReading → Left → Type 0
FetchedPiece first vs (Ok done) now left = HasRead first vs now left
FetchedPiece first vs (Err fault.Read) now left = HasRead first vs now left
FetchedPiece first vs (Err fault.NoMemory) now left = HasRead first vs now left
FetchedPiece first vs (Err fault.TooLong) now left = HasRead first vs now left × (now.past ≡ true)
FetchedPiece first vs (Err (fault.Bad p)) now left = ⊥
FetchedPiece first vs (Err (fault.TooDeep p)) now left = ⊥

-- after a piece behind bytes that are less than an item, or the reason why none was fetched
abbrev pub Fetched : Left → List Value → Result (Unit {0}) FileError → FileReading → Left → Type 0
Fetched first vs (Ok done) now left = HasRead first vs now left
Fetched first vs (Err fault.Read) now left = HasRead first vs now left
Fetched first vs (Err fault.NoMemory) now left = HasRead first vs now left
Fetched first vs (Err fault.TooLong) now left = EndsSo first vs PastLimit now left
Fetched first vs (Err (fault.Bad p)) now left = ⊥
Fetched first vs (Err (fault.TooDeep p)) now left = ⊥

-- The other files are left alone, and a fault is counted, and nothing else.
pub record Leaves {T : Type 0} (file : ℕ) (result : Result T FileError) (old new : FilesState) : Type 0 where
  pub told : new.told ≡ old.told
  pub others : OtherFiles file old new
  pub is_open : IsSome (new.left file)
  pub others_seen : OtherSeen file old new
  pub more : SeesMore (seen_in old file) (seen_in new file)
  pub later : old.faults ≤ new.faults
  pub well : (IsErrOf result fault.Read → ⊥) → new.faults ≡ old.faults
  pub failed : IsErrOf result fault.Read → Rose old.faults new.faults

-- `fetch_piece`
pub record FetchesPiece (result : Result (Unit {0}) FileError) (old new : FileReading) (files files' : FilesState) : Type 0 where
  pub leaves : Leaves old.file result files files'
  pub same : new ≡ record old { text = new.text; past = new.past }
  pub kept : OnErr result (new.text ≡ old.text)
  pub grows : (piece : List ℕ) × (new.text.left ≡ old.text.left ++ piece)
  pub place : new.text.place ≡ old.text.place
  pub fresh : new.text.refused ≡ old.text.refused
  pub placed : IfErr result (λ e. IsFaultPlaced old.limit e)
  pub less : OnOk result (to_come new < to_come old)
  pub goes : (first : Left) (vs : List Value) → HasRead first vs old (files.left old.file)
      → FetchedPiece first vs result new (files'.left old.file)
  pub sees : (front : List ℕ) (vs : List Value) → AsSeenBehind front (λ first left. HasRead first vs old left) old (seen_in files old.file)
      → AsSeenBehind front (λ first left. FetchedPiece first vs result new left) new (seen_in files' old.file)

-- `fetch`
pub record Fetches (result : Result (Unit {0}) FileError) (old new : FileReading) (files files' : FilesState) : Type 0 where
  pub leaves : Leaves old.file result files files'
  pub same : new ≡ record old { text = new.text; past = new.past }
  pub placed : IfErr result (λ e. IsFaultPlaced old.limit e)
  pub less : OnOk result (to_come new < to_come old)
  pub goes : (first : Left) (vs : List Value) → HasRead first vs old (files.left old.file)
      → Fetched first vs result new (files'.left old.file)
  pub sees : (vs : List Value) → HasSeen vs old (seen_in files old.file)
      → AsSeen (λ first left. Fetched first vs result new left) new (seen_in files' old.file)

-- after the next item, or the reason why there is none
abbrev pub Stands : Left → List Value → Result (Option Value) FileError → FileReading → Left → Type 0
Stands first vs (Ok (Some v)) now left = HasRead first (vs ++ v ∷ []) now left
Stands first vs (Ok None) now left = EndsSo first vs WholeText now left
Stands first vs (Err (fault.Bad p)) now left = EndsSo first vs (BadAt p) now left
Stands first vs (Err (fault.TooDeep p)) now left = EndsSo first vs (TooDeepAt p) now left
Stands first vs (Err fault.TooLong) now left = EndsSo first vs PastLimit now left
Stands first vs (Err fault.Read) now left = HasRead first vs now left
Stands first vs (Err fault.NoMemory) now left = HasRead first vs now left

-- `next`
pub record NextItem (result : Result (Option Value) FileError) (old new : FileReading) (files files' : FilesState) : Type 0 where
  pub leaves : Leaves old.file result files files'
  pub same : new ≡ record old { text = new.text; past = new.past }
  pub placed : IfErr result (λ e. IsFaultPlaced old.limit e)
  pub less : (v : Value) → result ≡ Ok (Some v) → to_come new < to_come old
  pub goes : (first : Left) (vs : List Value) → HasRead first vs old (files.left old.file)
      → Stands first vs result new (files'.left old.file)
  pub sees : (vs : List Value) → HasSeen vs old (seen_in files old.file)
      → AsSeen (λ first left. Stands first vs result new left) new (seen_in files' old.file)

-- what was refused, if anything
abbrev pub IsRefusedWithin : ℕ → Option ReadError → Type 0
IsRefusedWithin limit None = ⊤
IsRefusedWithin limit (Some e) = IsPlaced limit e

-- what stays true of a reader
pub record IsFedWithin (text : State) (limit piece : ℕ) : Type 0 where
  pub within : text.place + length text.left ≤ limit
  pub some : 0 < piece
  pub refused : IsRefusedWithin limit text.refused
