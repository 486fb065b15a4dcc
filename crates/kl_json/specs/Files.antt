-- The JSON values of a file, one behind the other.
use Rattle.std.specs.Prelude.{◌≡◌, ℕ, ◌+◌, ◌-◌, ◌<◌, ◌≤◌, Bool, true, false, ◌||◌, ◌==◌, IsTrue, List, [], ◌∷◌, ◌++◌, length, take, drop, ⊤}
use Rattle.std.specs.Prelude.{Option, Some, None, Result, Ok, Err, OnOk, IsSome}
use Rattle.std.specs.Str.{IsUtf8}
use Rattle.json.specs.Json.{Json, document}
use Rattle.kl_base.specs.Counts.{Rose}
use Rattle.kl_exchange.specs.FileItems.{most_read}
use Rattle.kl_exchange.specs.FileReading.{FileReading, HasRead as HasFetched, Left, to_come}
use Rattle.kl_exchange.specs.declared.FileError.{FileError}
use Rattle.kl_exchange.specs.declared.FileError.TheVariants as fault
use Rattle.kl_exchange.specs.Grammar.{Blank, is_blank}
use Rattle.kl_json.specs.Meaning.{meaning}
use Rattle.kl_json.specs.declared.choices.Choices.{Choices}
use Rattle.kl_json.specs.declared.choices.Refusal.{Refusal}
use Rattle.kl_json.specs.declared.reader.JsonError.{JsonError}
use Rattle.kl_json.specs.declared.reader.JsonError.TheVariants as error
use Rattle.kl_json.specs.declared.scan.Found.{Found}
use Rattle.kl_json.specs.declared.scan.Found.TheVariants as found
use Rattle.kl_outside.specs.Files.{FilesState, OtherFiles}
use Rattle.kl_value.specs.declared.Value.{Value}

-- ---- which values stand in a file

-- The text is JSON, and its value is this one.
pub record IsJson (c : Choices) (text : List ℕ) (v : Value) : Type 0 where
  pub json : Json
  pub utf8 : IsUtf8 text
  pub reads : document text ≡ Some json
  pub means : meaning c json ≡ Ok v

-- The text is JSON, and its value is refused so.
pub record IsRefused (c : Choices) (text : List ℕ) (r : Refusal) : Type 0 where
  pub json : Json
  pub utf8 : IsUtf8 text
  pub reads : document text ≡ Some json
  pub refuses : meaning c json ≡ Err r

-- what begins an array, an object or a string
abbrev pub begins_closed : ℕ → Bool
begins_closed b = b == 123 || b == 91 || b == 34

-- what may stand behind a number or a word: white space, or what begins another value that is none
abbrev pub may_follow : ℕ → Bool
may_follow b = is_blank b || begins_closed b

-- an array, an object or a string ends by itself
abbrev pub closes_itself : List ℕ → Bool
closes_itself [] = false
closes_itself (b ∷ bs) = begins_closed b

abbrev pub ends_before : List ℕ → Bool
ends_before [] = true
ends_before (b ∷ bs) = may_follow b

-- a value's text ends where these bytes begin
abbrev pub Ends : List ℕ → List ℕ → Type 0
Ends text behind = IsTrue (closes_itself text || ends_before behind)

-- Bytes that have these values, each behind white space, with other bytes behind them all.
abbrev pub Values : Choices → List ℕ → List Value → List ℕ → Type 0
Values c bytes [] behind = bytes ≡ []
Values c bytes (v ∷ vs) behind = (white : List ℕ) × (text : List ℕ) × (rest : List ℕ) × (bytes ≡ (white ++ text) ++ rest)
    × Blank white × IsJson c text v × Ends text (rest ++ behind) × Values c rest vs behind

-- A file that has these values and no more.
pub record IsFile (c : Choices) (bytes : List ℕ) (vs : List Value) : Type 0 where
  pub read : List ℕ
  pub white : List ℕ
  pub whole : bytes ≡ read ++ white
  pub values : Values c read vs white
  pub blank : Blank white

-- A file that begins with these values.
pub record Begins (c : Choices) (bytes : List ℕ) (vs : List Value) : Type 0 where
  pub read : List ℕ
  pub rest : List ℕ
  pub whole : bytes ≡ read ++ rest
  pub values : Values c read vs rest

-- whether white space stands first
abbrev pub starts_blank : List ℕ → Bool
starts_blank [] = false
starts_blank (b ∷ bs) = is_blank b

-- A file that begins with these values, behind which a JSON value stands that is refused so, behind so many bytes.
pub record RefusesAt (c : Choices) (bytes : List ℕ) (vs : List Value) (r : Refusal) (place : ℕ) : Type 0 where
  pub read : List ℕ
  pub white : List ℕ
  pub text : List ℕ
  pub rest : List ℕ
  pub whole : bytes ≡ (read ++ white) ++ (text ++ rest)
  pub values : Values c read vs (white ++ (text ++ rest))
  pub blank : Blank white
  pub starts : starts_blank text ≡ false
  pub refused : IsRefused c text r
  pub ends : Ends text rest
  pub stands : place ≡ length read + length white

-- ---- what a reader knows

-- What contracts see of a reader: the number of bytes passed, and what was fetched behind them.
pub record Reading : Type 0 where
  pub place : ℕ
  pub items : FileReading

-- for private functions alone: nothing was read of what was fetched, and all bytes together are few enough
pub record IsAt (place : ℕ) (items : FileReading) : Type 0 where
  pub first : items.text.place ≡ 0
  pub fresh : items.text.refused ≡ None
  pub total : place + items.limit ≡ most_read

-- before the first value of an open file
abbrev pub unread : ℕ → Reading
unread file = record {
  place = 0;
  items = record { file = file; limit = most_read; piece = 8192; text = record { place = 0; left = []; finished = false; refused = None }; past = false };
}

-- so many bytes of those fetched are passed
abbrev pub cut : ℕ → FileReading → FileReading
cut n items = record items { limit = items.limit - n; text = record items.text { left = drop n items.text.left } }

abbrev pub passed : ℕ → Reading → Reading
passed n r = record { place = r.place + n; items = cut n r.items }

-- Since a file with these bytes was opened these values were read, and the white space behind them.
pub record HasPassed (c : Choices) (bytes : List ℕ) (vs : List Value) (now : Reading) (left : Left) : Type 0 where
  pub read : List ℕ
  pub white : List ℕ
  pub rest : List ℕ
  pub whole : bytes ≡ (read ++ white) ++ rest
  pub values : Values c read vs (white ++ rest)
  pub blank : Blank white
  pub stands : now.place ≡ length read + length white
  pub total : now.place + now.items.limit ≡ most_read
  pub fresh : now.items.text.refused ≡ None
  pub fetched : HasFetched (Some (Some rest)) [] now.items left

abbrev pub HasValues : Choices → Left → List Value → Reading → Left → Type 0
HasValues c first vs now left = (bytes : List ℕ) → first ≡ Some (Some bytes) → HasPassed c bytes vs now left

-- after the next value, or the reason why there is none
abbrev pub Told : Choices → Left → List Value → Result (Option Value) JsonError → Reading → Left → Type 0
Told c first vs (Ok (Some v)) now left = HasValues c first (vs ++ v ∷ []) now left
Told c first vs (Ok None) now left = (bytes : List ℕ) → first ≡ Some (Some bytes) → IsFile c bytes vs
Told c first vs (Err (error.Refused r place)) now left = (bytes : List ℕ) → first ≡ Some (Some bytes) → RefusesAt c bytes vs r place
Told c first vs (Err error.TooLong) now left = (bytes : List ℕ) → first ≡ Some (Some bytes) → HasPassed c bytes vs now left × (most_read < length bytes)
Told c first vs (Err e) now left = HasValues c first vs now left

-- the other files are left alone, and this one is open still
pub record Keeps (file : ℕ) (old new : FilesState) : Type 0 where
  pub told : new.told ≡ old.told
  pub others : OtherFiles file old new
  pub is_open : IsSome (new.left file)
  pub later : old.faults ≤ new.faults

-- `next`
pub record NextValue (c : Choices) (result : Result (Option Value) JsonError) (old new : Reading) (files files' : FilesState) : Type 0 where
  pub file : new.items.file ≡ old.items.file
  pub keeps : Keeps old.items.file files files'
  pub failed : result ≡ Err error.Read → Rose files.faults files'.faults
  pub less : (v : Value) → result ≡ Ok (Some v) → to_come new.items < to_come old.items
  pub goes : (first : Left) (vs : List Value) → HasValues c first vs old (files.left old.items.file) → Told c first vs result new (files'.left old.items.file)

-- ---- for private functions alone

abbrev pub IsWithin : ℕ → Found → Type 0
IsWithin n found.More = ⊤
IsWithin n (found.Ends k) = k ≤ n
IsWithin n (found.TooDeep k) = k ≤ n

-- no number or word goes on where these bytes begin, of which no more come where the file has ended
abbrev pub follows : Bool → List ℕ → Bool
follows ended [] = ended
follows ended (b ∷ bs) = may_follow b

-- white space was passed, and none is known to come next
abbrev pub PassesBlank : Reading → Reading → Type 0
PassesBlank old new = (n : ℕ) × (n ≤ length old.items.text.left) × Blank (take n old.items.text.left) × (new ≡ passed n old)
    × (starts_blank new.items.text.left ≡ false)

-- more bytes were fetched, or it was learnt that there are none, or not
pub record FetchesOn (result : Result (Unit {0}) JsonError) (old new : Reading) (files files' : FilesState) : Type 0 where
  pub file : new.items.file ≡ old.items.file
  pub place : new.place ≡ old.place
  pub fresh : new.items.text.refused ≡ old.items.text.refused
  pub limit : new.items.limit ≡ old.items.limit
  pub less : OnOk result (to_come new.items < to_come old.items)
  pub keeps : Keeps old.items.file files files'
  pub failed : result ≡ Err error.Read → Rose files.faults files'.faults
  pub goes : (first : Left) → HasFetched first [] old.items (files.left old.items.file) → HasFetched first [] new.items (files'.left old.items.file)
  pub plain : (r : Refusal) (p : ℕ) → result ≡ Err (error.Refused r p) → ⊥
  pub long : (first : Left) → HasFetched first [] old.items (files.left old.items.file) → result ≡ Err error.TooLong → new.items.past ≡ true

-- what comes of the text of the first bytes
abbrev pub TakesText : Choices → ℕ → Result (Option Value) JsonError → Reading → Reading → Type 0
TakesText c n (Ok (Some v)) old new = IsJson c (take n old.items.text.left) v
    × IsTrue (closes_itself (take n old.items.text.left) || follows old.items.text.finished (drop n old.items.text.left)) × (new ≡ passed n old)
TakesText c n (Ok None) old new = ⊥
TakesText c n (Err (error.Refused r p)) old new = IsRefused c (take n old.items.text.left) r
    × IsTrue (closes_itself (take n old.items.text.left) || follows old.items.text.finished (drop n old.items.text.left)) × (p ≡ old.place) × (new ≡ old)
TakesText c n (Err error.Read) old new = ⊥
TakesText c n (Err error.TooLong) old new = ⊥
TakesText c n (Err (error.TooDeep p)) old new = ⊥
TakesText c n (Err e) old new = new ≡ old

-- what is left where the file has ended
abbrev pub EndsWith : Choices → Result (Option Value) JsonError → Reading → Reading → Type 0
EndsWith c (Ok None) old new = (old.items.text.left ≡ []) × (new ≡ old)
EndsWith c r old new = TakesText c (length old.items.text.left) r old new

abbrev pub fetch_fault : FileError → JsonError
fetch_fault fault.Read = error.Read
fetch_fault fault.NoMemory = error.NoMemory
fetch_fault (fault.Bad p) = error.Bad p
fetch_fault (fault.TooDeep p) = error.TooDeep p
fetch_fault fault.TooLong = error.TooLong

-- what comes of a text that is JSON
abbrev pub Means : Choices → List ℕ → Result Value Refusal → Type 0
Means c text (Ok v) = IsJson c text v
Means c text (Err r) = IsRefused c text r
