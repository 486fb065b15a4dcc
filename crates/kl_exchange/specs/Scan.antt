-- What a scan over several bytes answers, and what a reader keeps of them. No public contract cites this.
use Rattle.std.specs.Prelude.{◌≡◌, ℕ, ◌+◌, ◌-◌, ◌^◌, ◌<◌, ◌≤◌, List, [], ◌∷◌, ◌++◌, length, take, Bool, true, IsTrue, ⊤, Result, Ok, Err}
use Rattle.std.specs.List.{list_all}
use Rattle.kl_base.specs.Word.{is_word}
use Rattle.kl_value.specs.Canon.{canonical}
use Rattle.kl_value.specs.declared.Kind.{Kind}
use Rattle.kl_value.specs.declared.Kind.TheVariants as kind
use Rattle.kl_value.specs.declared.Value.{Value}
use Rattle.kl_value.specs.declared.Value.TheVariants as value
use Rattle.kl_exchange.specs.Grammar.{signed}
use Rattle.kl_exchange.specs.declared.machine.Frame.TheVariants as frame
use Rattle.std.proofs.Common.{drop}
use Rattle.kl_exchange.specs.Machine.{Brackets, Run, more, ends, fails, deep, run, start, is_plain}
use Rattle.kl_exchange.specs.declared.machine.Holder.TheVariants as holder
use Rattle.kl_exchange.specs.declared.machine.Phase.TheVariants as phase
use Rattle.kl_exchange.specs.declared.machine.Machine.{Machine}
use Rattle.kl_exchange.specs.declared.scan.Scanned.{Scanned}
use Rattle.kl_exchange.specs.declared.scan.Scanned.TheVariants as scanned
use Rattle.kl_exchange.specs.declared.scan.Halt.{Halt}
use Rattle.kl_exchange.specs.declared.scan.Halt.TheVariants as halt

abbrev pub Scans : List ℕ → Machine → Result Scanned Halt → Run → Type 0
Scans bytes now (Ok scanned.More) o = o ≡ more now
Scans bytes now (Ok (scanned.Ends v count)) o = (count ≤ length bytes) × (o ≡ ends v (drop count bytes)) × (now ≡ start)
Scans bytes now (Err (halt.Bad count)) o = (count < length bytes) × (o ≡ fails (drop count bytes))
Scans bytes now (Err (halt.TooDeep count)) o = (count < length bytes) × (o ≡ deep (drop count bytes))
Scans bytes now (Err halt.NoMemory) o = ⊤

-- So many bytes at the front lead from one machine to another.
pub record Takes (count : ℕ) (bytes : List ℕ) (old new : Machine) : Type 0 where
  pub within : count ≤ length bytes
  pub met : run 256 (take count bytes) old ≡ more new

-- The innermost bracket that is open is a collection's, and this is what stands in it and around it.
pub record IsInCollection (st : Brackets) : Type 0 where
  pub kind : Kind
  pub items : List Value
  pub outside : Brackets
  pub top : st ≡ frame.Items kind items ∷ outside

-- the collection with one more item
abbrev pub with_item : Brackets → Value → Brackets
with_item (frame.Items kind items ∷ st) v = frame.Items kind (items ++ v ∷ []) ∷ st
with_item st v = st

-- The innermost bracket that is open is a record's, and this is what stands in it and around it.
pub record IsInRecord (st : Brackets) : Type 0 where
  pub fields : List (List ℕ × Value)
  pub label : List ℕ
  pub outside : Brackets
  pub top : st ≡ frame.Field fields label ∷ outside

-- a machine behind the comma after the value of the record's field
abbrev pub with_field : Brackets → Value → Machine
with_field (frame.Field fields label ∷ st) v = record { stack = st; phase = phase.Label (holder.Record (fields ++ (label, v) ∷ [])) }
with_field st v = start

-- The innermost bracket that is open is a set's, and this is what stands in it and around it.
pub record IsInSet (st : Brackets) : Type 0 where
  pub items : List Value
  pub outside : Brackets
  pub top : st ≡ frame.Items kind.Set items ∷ outside

-- a machine behind the set that ends after an item
abbrev pub with_set : Brackets → Value → Machine
with_set (frame.Items kind.Set items ∷ st) v = record { stack = st; phase = phase.After (canonical kind.Set (items ++ v ∷ [])) }
with_set st v = start

-- The innermost bracket that is open is a variant's, and this is its label and what stands around it.
pub record IsInVariant (st : Brackets) : Type 0 where
  pub label : List ℕ
  pub outside : Brackets
  pub top : st ≡ frame.Variant label ∷ outside

-- a machine behind the variant that ends after its value
abbrev pub with_variant : Brackets → Value → Machine
with_variant (frame.Variant label ∷ st) v = record { stack = st; phase = phase.After (value.Inj label v) }
with_variant st v = start

abbrev pub number : Bool → ℕ → Value
number negative magnitude = value.Int (signed negative magnitude)

-- Bytes in quotes stand at the front, none of which stands for anything but itself.
pub record IsQuoted (body bytes : List ℕ) : Type 0 where
  pub within : length body + 2 ≤ length bytes
  pub front : take (length body + 2) bytes ≡ 34 ∷ (body ++ 34 ∷ [])
  pub plain : list_all is_plain body ≡ true

-- A label and `=` stand at the front.
pub record IsNamed (name bytes : List ℕ) : Type 0 where
  pub within : length name + 1 ≤ length bytes
  pub front : take (length name + 1) bytes ≡ name ++ 61 ∷ []
  pub word : IsTrue (is_word name)

-- The bytes of the buffer from one place to another have come to this machine, and no count can pass its type.
pub record KeepsRun (buffer : List ℕ) (from to place : ℕ) (m : Machine) : Type 0 where
  pub ordered : from ≤ to
  pub within : to ≤ length buffer
  pub room : place + (length buffer - from) < 2 ^ 64
  pub met : run 256 (take (to - from) (drop from buffer)) start ≡ more m

-- The bytes lead to some machine.
pub record IsBegun (bytes : List ℕ) : Type 0 where
  pub machine : Machine
  pub met : run 256 bytes start ≡ more machine
