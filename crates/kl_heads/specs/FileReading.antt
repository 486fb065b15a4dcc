-- What a reader of an open file knows, and what each call does.
use Rattle.std.specs.Prelude.{◌≡◌, ◌⊎◌, ℕ, ◌+◌, ◌-◌, ◌^◌, ◌<◌, Bool, true, false, List, [], ◌∷◌, ◌++◌, length, ⊤, Option, Some, None, is_some}
use Rattle.std.specs.Prelude.{Result, Ok, Err}
use Rattle.std.proofs.Common.{drop}
use Rattle.kl_outside.specs.Files.{FilesState, Seen, seen_in}
use Rattle.kl_value.specs.declared.Value.{Value}
use Rattle.kl_type.specs.declared.ground.Ty.{Ty}
use Rattle.kl_exchange.specs.FileItems.{FileEnd, WholeText, BadAt, TooDeepAt, PastLimit}
use Rattle.kl_exchange.specs.FileReading.{FileReading, FetchesPiece, Left, HasRead as HasReadItems, Leaves, MayGrow, to_come}
use Rattle.kl_exchange.specs.Reading.{Waits}
use Rattle.kl_exchange.specs.declared.Item.{Item as AnItem}
use Rattle.kl_exchange.specs.declared.Item.TheVariants as plain
use Rattle.kl_exchange.specs.declared.FileError.{FileError}
use Rattle.kl_exchange.specs.declared.FileError.TheVariants as fault
use Rattle.kl_exchange.specs.declared.ReadError.{ReadError}
use Rattle.kl_exchange.specs.declared.ReadError.TheVariants as error
use Rattle.kl_heads.specs.Files.{BeginsNext, Shows, States, is_first}
use Rattle.kl_heads.specs.Fronts.{IsBefore}
use Rattle.kl_heads.specs.Texts.{StaysHeadless}
use Rattle.kl_heads.specs.declared.front.Front.{Front}
use Rattle.kl_heads.specs.declared.front.Look.{Look}
use Rattle.kl_heads.specs.declared.front.Look.TheVariants as look
use Rattle.kl_heads.specs.declared.reader.Item.{Item}
use Rattle.kl_heads.specs.declared.reader.Item.TheVariants as item

-- What contracts see of a reader of an open file.
pub record HeadedFile : Type 0 where
  -- it is not known yet whether the file begins with a head
  pub front : Bool
  -- the number of bytes of the head
  pub head : ℕ
  -- the reader of the items, as one of a file that begins behind the head
  pub items : FileReading
  -- what was refused of a head
  pub refused : Option ReadError

-- a reader of items behind a head of so many bytes, or one that waits for the head
abbrev pub headed_file : Option Front → ℕ → FileReading → Option ReadError → HeadedFile
headed_file front head items refused = record { front = is_some front; head = head; items = items; refused = refused }

-- what stays true of a reader, a part of which reads items
pub record IsBegun (front : Option Front) (head : ℕ) (items : FileReading) (refused : Option ReadError) : Type 0 where
  pub room : head + items.limit < 2 ^ 64
  pub before : (f : Front) → front ≡ Some f → refused ≡ None → IsBefore f true head items.text
  pub behind : front ≡ None → refused ≡ None

-- how many bytes of the file are looked at
abbrev pub limit_of : HeadedFile → ℕ
limit_of r = r.head + r.items.limit

-- the number of bytes that were read
abbrev pub place_of : HeadedFile → ℕ
place_of r = r.head + r.items.text.place

-- what a file that had this left has left behind these bytes
abbrev pub Behind : List ℕ → Left → Left → Type 0
Behind front (Some (Some bytes)) rest = (more : List ℕ) × (bytes ≡ front ++ more) × (rest ≡ Some (Some more))
Behind front (Some None) rest = rest ≡ Some None
Behind front None rest = rest ≡ None

-- Since a file had `first` left this head was read from it, or none, and then these items, and it has `left` left.
pub record HasRead (first : Left) (head : Option Ty) (vs : List Value) (now : HeadedFile) (left : Left) : Type 0 where
  pub known : now.front ≡ false
  pub front : List ℕ
  pub states : States head front
  pub size : length front ≡ now.head
  pub headless : is_first head vs ≡ true → StaysHeadless now.items.text.finished now.items.text.left
  pub rest : Left
  pub behind : Behind front first rest
  pub items : HasReadItems rest vs now.items left

-- Nothing was read yet, and what came may begin a head.
pub record HasOpened (first : Left) (now : HeadedFile) (left : Left) : Type 0 where
  pub unknown : now.front ≡ true
  pub size : now.head ≡ 0
  pub fresh : now.refused ≡ None
  pub items : HasReadItems first [] now.items left

-- The place of what is no head and no item is a byte of the file, unless its end was met. A limit that is passed was met.
abbrev pub IsMet : FileEnd → List ℕ → HeadedFile → Type 0
IsMet WholeText bytes now = ⊤
IsMet (BadAt p) bytes now = (p < length bytes) ⊎ (now.items.text.finished ≡ true)
IsMet (TooDeepAt p) bytes now = (p < length bytes) ⊎ (now.items.text.finished ≡ true)
IsMet PastLimit bytes now = now.items.past ≡ true

-- Where the file's bytes are known, it has this head and these items and then this end.
abbrev pub EndsSo : Left → Option Ty → List Value → FileEnd → HeadedFile → Type 0
EndsSo first head vs end now = (bytes : List ℕ) → first ≡ Some (Some bytes) → Shows (limit_of now) bytes head vs end × IsMet end bytes now

-- ---- refusals

abbrev pub fault_of : ReadError → FileError
fault_of (error.Bad place) = fault.Bad place
fault_of (error.TooDeep place) = fault.TooDeep place
fault_of error.NoMemory = fault.NoMemory

-- ---- calls

-- after `head`
abbrev pub Opens : Left → Result (Option Ty) FileError → HeadedFile → Left → Type 0
Opens first (Ok head) now left = HasRead first head [] now left
Opens first (Err (fault.Bad p)) now left = EndsSo first None [] (BadAt p) now
Opens first (Err (fault.TooDeep p)) now left = EndsSo first None [] (TooDeepAt p) now
Opens first (Err fault.TooLong) now left = EndsSo first None [] PastLimit now
Opens first (Err fault.Read) now left = HasOpened first now left
Opens first (Err fault.NoMemory) now left = HasOpened first now left

-- after `next`
abbrev pub Stands : Left → Option Ty → List Value → Result (Option Value) FileError → HeadedFile → Left → Type 0
Stands first head vs (Ok (Some v)) now left = HasRead first head (vs ++ v ∷ []) now left
Stands first head vs (Ok None) now left = HasRead first head vs now left × EndsSo first head vs WholeText now
Stands first head vs (Err (fault.Bad p)) now left = HasRead first head vs now left × EndsSo first head vs (BadAt p) now
Stands first head vs (Err (fault.TooDeep p)) now left = HasRead first head vs now left × EndsSo first head vs (TooDeepAt p) now
Stands first head vs (Err fault.TooLong) now left = HasRead first head vs now left × EndsSo first head vs PastLimit now
Stands first head vs (Err fault.Read) now left = HasRead first head vs now left
Stands first head vs (Err fault.NoMemory) now left = HasRead first head vs now left

-- after an answer from the bytes that were fetched, where nothing was answered before
abbrev pub HeldFirst : Left → Result Item ReadError → HeadedFile → Left → Type 0
HeldFirst first (Ok (item.Head t)) now left = HasRead first (Some t) [] now left
HeldFirst first (Ok (item.Value v)) now left = HasRead first None (v ∷ []) now left
HeldFirst first (Ok item.NeedMore) now left = HasOpened first now left ⊎ HasRead first None [] now left
HeldFirst first (Ok item.End) now left = EndsSo first None [] WholeText now
HeldFirst first (Err (error.Bad p)) now left = EndsSo first None [] (BadAt p) now
HeldFirst first (Err (error.TooDeep p)) now left = EndsSo first None [] (TooDeepAt p) now
HeldFirst first (Err error.NoMemory) now left = HasOpened first now left ⊎ HasRead first None [] now left

-- the same of the head alone
abbrev pub LooksAt : Left → Result Look ReadError → HeadedFile → Left → Type 0
LooksAt first (Ok (look.Head t n)) now left = HasRead first (Some t) [] now left
LooksAt first (Ok look.Items) now left = HasRead first None [] now left
LooksAt first (Ok look.Unknown) now left = HasOpened first now left
LooksAt first (Err (error.Bad p)) now left = EndsSo first None [] (BadAt p) now
LooksAt first (Err (error.TooDeep p)) now left = EndsSo first None [] (TooDeepAt p) now
LooksAt first (Err error.NoMemory) now left = HasOpened first now left

-- and where something was
abbrev pub HeldOut : Left → Option Ty → List Value → Result Item ReadError → HeadedFile → Left → Type 0
HeldOut first head vs (Ok (item.Head t)) now left = ⊥
HeldOut first head vs (Ok (item.Value v)) now left = HasRead first head (vs ++ v ∷ []) now left
HeldOut first head vs (Ok item.NeedMore) now left = HasRead first head vs now left
HeldOut first head vs (Ok item.End) now left = HasRead first head vs now left × EndsSo first head vs WholeText now
HeldOut first head vs (Err (error.Bad p)) now left = HasRead first head vs now left × EndsSo first head vs (BadAt p) now
HeldOut first head vs (Err (error.TooDeep p)) now left = HasRead first head vs now left × EndsSo first head vs (TooDeepAt p) now
HeldOut first head vs (Err error.NoMemory) now left = HasRead first head vs now left

-- A piece may be fetched: the file was not found to end, and less than a head or an item was fetched behind what was read.
pub record MayFetch (r : HeadedFile) : Type 0 where
  pub grows : MayGrow r.items.text
  pub begun : r.front ≡ true → BeginsNext true r.items.text.left
  pub waits : r.front ≡ false → Waits r.items.text r.items.text

-- after a piece, or the reason why none was fetched, where nothing was answered before
abbrev pub FetchedFirst : Left → Result (Unit {0}) FileError → HeadedFile → Left → Type 0
FetchedFirst first (Ok done) now left = HasOpened first now left
FetchedFirst first (Err fault.Read) now left = HasOpened first now left
FetchedFirst first (Err fault.NoMemory) now left = HasOpened first now left
FetchedFirst first (Err fault.TooLong) now left = HasOpened first now left × EndsSo first None [] PastLimit now
FetchedFirst first (Err (fault.Bad p)) now left = ⊥
FetchedFirst first (Err (fault.TooDeep p)) now left = ⊥

-- and where something was
abbrev pub FetchedMore : Left → Option Ty → List Value → Result (Unit {0}) FileError → HeadedFile → Left → Type 0
FetchedMore first head vs (Ok done) now left = HasRead first head vs now left
FetchedMore first head vs (Err fault.Read) now left = HasRead first head vs now left
FetchedMore first head vs (Err fault.NoMemory) now left = HasRead first head vs now left
FetchedMore first head vs (Err fault.TooLong) now left = HasRead first head vs now left × EndsSo first head vs PastLimit now
FetchedMore first head vs (Err (fault.Bad p)) now left = ⊥
FetchedMore first head vs (Err (fault.TooDeep p)) now left = ⊥

-- ---- what was read of a file that does not tell its bytes

-- a reader that met the end was told it, and one that met more than is looked at saw one byte of that
pub record IsMetBy (now : HeadedFile) (seen : Seen) : Type 0 where
  pub ended : now.items.text.finished ≡ true → seen.ended ≡ true
  pub passed : now.items.past ≡ true → length seen.bytes ≡ limit_of now + 1

-- Where it is kept what was read, the reader stands as it would in a file that has these bytes alone, of which none is left.
abbrev pub AsSeen : (Left → Left → Type 0) → HeadedFile → Option Seen → Type 0
AsSeen stands now seen = (s : Seen) → seen ≡ Some s → stands (Some (Some s.bytes)) (Some (Some [])) × IsMetBy now s

-- the same file is read, and of it as much looked at
pub record SameFile (old new : HeadedFile) : Type 0 where
  pub file : new.items.file ≡ old.items.file
  pub piece : new.items.piece ≡ old.items.piece
  pub limit : limit_of new ≡ limit_of old

-- `head`
pub record ReadsHead (result : Result (Option Ty) FileError) (old new : HeadedFile) (files files' : FilesState) : Type 0 where
  pub leaves : Leaves old.items.file result files files'
  pub same : SameFile old new
  pub goes : (first : Left) → HasOpened first old (files.left old.items.file) → Opens first result new (files'.left old.items.file)
  pub sees : AsSeen (λ first left. HasOpened first old left) old (seen_in files old.items.file)
      → AsSeen (λ first left. Opens first result new left) new (seen_in files' old.items.file)

-- `next`
pub record NextItem (result : Result (Option Value) FileError) (old new : HeadedFile) (files files' : FilesState) : Type 0 where
  pub leaves : Leaves old.items.file result files files'
  pub same : SameFile old new
  pub less : (v : Value) → result ≡ Ok (Some v) → to_come new.items < to_come old.items
  pub goes : (first : Left) (head : Option Ty) (vs : List Value) → HasRead first head vs old (files.left old.items.file)
      → Stands first head vs result new (files'.left old.items.file)
  pub sees : (head : Option Ty) (vs : List Value) → AsSeen (λ first left. HasRead first head vs old left) old (seen_in files old.items.file)
      → AsSeen (λ first left. Stands first head vs result new left) new (seen_in files' old.items.file)

-- for private functions alone: the head that was fetched, or whether items come
abbrev pub Answers : Result Look ReadError → HeadedFile → HeadedFile → Type 0
Answers (Ok (look.Head t n)) old new = (old.front ≡ true) × (new.front ≡ false) × (new.head ≡ n)
    × (new.items ≡ record old.items { limit = old.items.limit - n; text = record old.items.text { left = drop n old.items.text.left } })
Answers (Ok look.Items) old new = new ≡ record old { front = false }
Answers (Ok look.Unknown) old new = (old.front ≡ true) × MayFetch old × (new ≡ old)
Answers (Err error.NoMemory) old new = (old.front ≡ true) × (new ≡ old)
Answers (Err e) old new = (old.front ≡ true) × (new ≡ record old { refused = Some e })

pub record AnswersHead (result : Result Look ReadError) (old new : HeadedFile) : Type 0 where
  pub same : SameFile old new
  pub answers : Answers result old new
  pub goes : (first left : Left) → HasOpened first old left → LooksAt first result new left

-- the next item that was fetched, behind the head or where none comes
abbrev pub HeldItem : Left → Option Ty → List Value → Result AnItem ReadError → HeadedFile → Left → Type 0
HeldItem first head vs (Ok (plain.Value v)) now left = HasRead first head (vs ++ v ∷ []) now left
HeldItem first head vs (Ok plain.NeedMore) now left = HasRead first head vs now left
HeldItem first head vs (Ok plain.End) now left = HasRead first head vs now left × EndsSo first head vs WholeText now
HeldItem first head vs (Err (error.Bad p)) now left = HasRead first head vs now left × EndsSo first head vs (BadAt p) now
HeldItem first head vs (Err (error.TooDeep p)) now left = HasRead first head vs now left × EndsSo first head vs (TooDeepAt p) now
HeldItem first head vs (Err error.NoMemory) now left = HasRead first head vs now left

pub record HandsItem (result : Result AnItem ReadError) (old new : HeadedFile) : Type 0 where
  pub same : SameFile old new
  pub known : new.front ≡ false
  pub finished : new.items.text.finished ≡ old.items.text.finished
  pub past : new.items.past ≡ old.items.past
  pub waits : result ≡ Ok plain.NeedMore → MayFetch new
  pub ended : result ≡ Ok plain.End → new.items.text.finished ≡ true
  pub still : result ≡ Ok plain.NeedMore → to_come new.items ≡ to_come old.items
  pub less : (v : Value) → result ≡ Ok (plain.Value v) → to_come new.items < to_come old.items
  pub goes : (first left : Left) (head : Option Ty) (vs : List Value) → HasRead first head vs old left
      → HeldItem first head vs result new left

-- `fetch`
pub record FetchesMore (result : Result (Unit {0}) FileError) (old new : HeadedFile) (files files' : FilesState) : Type 0 where
  pub items : FetchesPiece result old.items new.items files files'
  pub same : new ≡ record old { items = new.items }
  pub first : (first : Left) → HasOpened first old (files.left old.items.file)
      → FetchedFirst first result new (files'.left old.items.file)
  pub goes : (first : Left) (head : Option Ty) (vs : List Value) → HasRead first head vs old (files.left old.items.file)
      → FetchedMore first head vs result new (files'.left old.items.file)

-- `next_held`
pub record HandsOut (result : Result Item ReadError) (old new : HeadedFile) : Type 0 where
  pub same : SameFile old new
  pub waits : result ≡ Ok item.NeedMore → MayFetch new
  pub still : result ≡ Ok item.NeedMore → to_come new.items ≡ to_come old.items
  pub less : (v : Value) → result ≡ Ok (item.Value v) → to_come new.items < to_come old.items
  pub first : (first left : Left) → HasOpened first old left → HeldFirst first result new left
  pub goes : (first left : Left) (head : Option Ty) (vs : List Value) → HasRead first head vs old left
      → HeldOut first head vs result new left
