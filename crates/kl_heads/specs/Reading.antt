-- What a reader of exchange text with a head knows, and what it answers.
use Rattle.std.specs.Prelude.{◌≡◌, ◌⊎◌, ℕ, ◌+◌, ◌^◌, ◌<◌, ◌≤◌, Bool, true, false, List, [], ◌++◌, length, take, ⊤, IsTrue, Option, Some}
use Rattle.std.specs.Prelude.{None, Result, Ok, Err}
use Rattle.std.specs.Option.{option_map}
use Rattle.kl_value.specs.declared.Value.{Value}
use Rattle.kl_type.specs.Ground.{IsProper}
use Rattle.kl_type.specs.declared.ground.Ty.{Ty}
use Rattle.kl_exchange.specs.Grammar.{Blank, IsItem}
use Rattle.kl_exchange.specs.Reading.{nesting, GivesItem}
use Rattle.kl_exchange.specs.State.{State}
use Rattle.kl_exchange.specs.declared.ReadError.{ReadError}
use Rattle.kl_exchange.specs.declared.ReadError.TheVariants as error
use Rattle.kl_heads.specs.Heads.{IsHead}
use Rattle.kl_heads.specs.Texts.{Begins, MayFollow}
use Rattle.kl_exchange.specs.declared.Item.{Item as AnItem}
use Rattle.kl_exchange.specs.declared.Item.TheVariants as plain
use Rattle.kl_heads.specs.declared.scan.Halt.{Halt}
use Rattle.kl_heads.specs.declared.scan.Halt.TheVariants as halt
use Rattle.kl_heads.specs.declared.reader.Item.{Item}
use Rattle.kl_heads.specs.declared.reader.Item.TheVariants as item

-- What contracts see of a reader: whether it has answered neither a head nor an item, and what it knows of the bytes.
pub record Headed : Type 0 where
  pub first : Bool
  pub text : State

-- ---- a head before a reader of items

-- an answer of that reader
abbrev pub item_as : AnItem → Item
item_as (plain.Value v) = item.Value v
item_as plain.NeedMore = item.NeedMore
item_as plain.End = item.End

-- a refusal of it, behind a head of so many bytes
abbrev pub behind_head : ℕ → ReadError → ReadError
behind_head head (error.Bad place) = error.Bad (head + place)
behind_head head (error.TooDeep place) = error.TooDeep (head + place)
behind_head head error.NoMemory = error.NoMemory

abbrev pub IsWithin : ReadError → Type 0
IsWithin (error.Bad place) = place < 2 ^ 64
IsWithin (error.TooDeep place) = place < 2 ^ 64
IsWithin error.NoMemory = ⊤

-- a refusal of a head, before which nothing stands
abbrev pub refusal_of : Halt → ReadError
refusal_of (halt.Bad place) = error.Bad place
refusal_of (halt.TooDeep place) = error.TooDeep place
refusal_of halt.NoMemory = error.NoMemory

-- what is answered for good
abbrev pub lasting : ReadError → Option ReadError
lasting error.NoMemory = None
lasting e = Some e

abbrev pub refused_by : ℕ → Option ReadError → Option ReadError → Option ReadError
refused_by head (Some e) items = Some e
refused_by head None items = option_map (behind_head head) items

-- a reader of items behind a head of so many bytes, of which this was refused
abbrev pub headed_of : Bool → ℕ → State → Option ReadError → Headed
headed_of first head items refused = record {
  first = first;
  text = record {
    place = head + items.place;
    left = items.left;
    finished = items.finished;
    refused = refused_by head refused items.refused;
  };
}

-- ---- answers

-- A head stands whole at the front of the bytes left. The answer is its type, and the bytes behind it are left.
pub record GivesHead (old : State) (t : Ty) (new : State) : Type 0 where
  pub fresh : old.refused ≡ None
  pub bytes : List ℕ
  pub front : old.left ≡ bytes ++ new.left
  pub states : IsHead nesting bytes t
  pub proper : IsProper t
  pub place : new.place ≡ old.place + length bytes
  pub finished : new.finished ≡ old.finished
  pub refused : new.refused ≡ None

-- an item or, before the first answer, a head
abbrev pub IsNext : Bool → ℕ → List ℕ → Type 0
IsNext true n bytes = ((t : Ty) × IsHead n bytes t) ⊎ ((v : Value) × IsItem n bytes v)
IsNext false n bytes = (v : Value) × IsItem n bytes v

-- The bytes left are a proper prefix of one, and more may come.
pub record Waits (old new : Headed) : Type 0 where
  pub fresh : old.text.refused ≡ None
  pub unfinished : old.text.finished ≡ false
  pub more : List ℕ
  pub proper : 0 < length more
  pub begun : IsNext old.first nesting (old.text.left ++ more)
  pub same : new ≡ old

-- No more bytes come, and only white space is left.
pub record EndsText (old new : Headed) : Type 0 where
  pub fresh : old.text.refused ≡ None
  pub finished : old.text.finished ≡ true
  pub blank : Blank old.text.left
  pub same : new ≡ old

-- None stands whole at the front of the bytes left.
abbrev pub NoneNext : Bool → ℕ → List ℕ → Type 0
NoneNext first n left = (bytes rest : List ℕ) → left ≡ bytes ++ rest → IsNext first n bytes → ⊥

-- The bytes left are in no text that may follow, however many brackets it may have open, and k is the length of their
-- longest prefix that begins one.
pub record IsBad (old : Headed) (k : ℕ) : Type 0 where
  pub within : k ≤ length old.text.left
  pub begins : Begins old.first nesting (take k old.text.left)
  pub longest : (j n : ℕ) → k < j → j ≤ length old.text.left → Begins old.first n (take j old.text.left) → ⊥
  pub in_none : (n : ℕ) (more : List ℕ) → (IsTrue old.text.finished → more ≡ []) → MayFollow old.first n (old.text.left ++ more) → ⊥
  pub none_next : (n : ℕ) → NoneNext old.first n old.text.left

-- The byte at k opens one bracket too many: with it the bytes begin a text that may follow, and none that keeps the limit,
-- and those before it begin one that does.
pub record IsDeep (old : Headed) (k : ℕ) : Type 0 where
  pub within : k < length old.text.left
  pub begins : Begins old.first nesting (take k old.text.left)
  pub deeper : (n : ℕ) × Begins old.first n (take (k + 1) old.text.left)
  pub too_deep : Begins old.first nesting (take (k + 1) old.text.left) → ⊥
  pub none_next : NoneNext old.first nesting old.text.left

abbrev pub refuses : ReadError → Headed → Headed
refuses e s = record s { text = record s.text { refused = Some e } }

-- A refusal is kept: the reader answers it from then on. It comes first where there is cause.
abbrev pub Refuses : Headed → ReadError → Type 0 → Headed → Type 0
Refuses old e cause new = ((old.text.refused ≡ Some e) × (new ≡ old)) ⊎ ((old.text.refused ≡ None) × cause × (new ≡ refuses e old))

-- `next`
abbrev pub ReadsNext : Headed → Result Item ReadError → Headed → Type 0
ReadsNext old (Ok (item.Head t)) new = (old.first ≡ true) × (new.first ≡ false) × GivesHead old.text t new.text
ReadsNext old (Ok (item.Value v)) new = (new.first ≡ false) × GivesItem old.text v new.text
ReadsNext old (Ok item.NeedMore) new = Waits old new
ReadsNext old (Ok item.End) new = EndsText old new
ReadsNext old (Err (error.Bad place)) new = Refuses old (error.Bad place) ((k : ℕ) × (place ≡ old.text.place + k) × IsBad old k) new
ReadsNext old (Err (error.TooDeep place)) new =
    Refuses old (error.TooDeep place) ((k : ℕ) × (place ≡ old.text.place + k) × IsDeep old k) new
ReadsNext old (Err error.NoMemory) new = new ≡ old
