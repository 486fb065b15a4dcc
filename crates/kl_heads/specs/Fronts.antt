-- What the first bytes of a text come to, as far as they may begin a head. No public contract cites this.
use Rattle.std.specs.Prelude.{◌≡◌, ℕ, ◌+◌, ◌-◌, ◌^◌, ◌<◌, ◌≤◌, Bool, true, false, cond, List, length, take, ⊤, Option, Some, None}
use Rattle.std.specs.Prelude.{Result, Ok, Err}
use Rattle.kl_exchange.specs.State.{State}
use Rattle.kl_exchange.specs.declared.ReadError.{ReadError}
use Rattle.kl_heads.specs.Reading.{IsWithin, behind_head}
use Rattle.kl_heads.specs.Texts.{StaysHeadless}
use Rattle.kl_heads.specs.declared.front.Front.{Front}
use Rattle.kl_heads.specs.Machine.{Run, more, ends, no_head, fails, deep, run, start, may_be_item}
use Rattle.kl_heads.specs.declared.front.Look.{Look}
use Rattle.kl_heads.specs.declared.front.Look.TheVariants as look
use Rattle.kl_heads.specs.declared.machine.Machine.{Machine}
use Rattle.kl_heads.specs.declared.scan.Halt.{Halt}
use Rattle.kl_heads.specs.declared.scan.Halt.TheVariants as halt

-- the bytes before a place lead to this machine
pub record HasTaken (bytes : List ℕ) (place : ℕ) (m : Machine) : Type 0 where
  pub within : place ≤ length bytes
  pub met : run 256 (take place bytes) start ≡ more m

-- nothing was read, and the bytes that came may begin a head
pub record IsBefore (front : Front) (first : Bool) (head : ℕ) (items : State) : Type 0 where
  pub first_answer : first ≡ true
  pub none_read : head + items.place ≡ 0
  pub fresh : items.refused ≡ None
  pub taken : HasTaken items.left front.scanned front.machine

-- the place of what was refused of items, if anything, counted from the first byte of a head of so many bytes
abbrev pub IsRefusedBehind : ℕ → Option ReadError → Type 0
IsRefusedBehind head None = ⊤
IsRefusedBehind head (Some e) = IsWithin (behind_head head e)

-- what stays true of a reader of items behind a head of so many bytes, or behind none
pub record IsBehind (first : Bool) (head : ℕ) (items : State) : Type 0 where
  pub room : head + (items.place + length items.left) < 2 ^ 64
  pub placed : IsRefusedBehind head items.refused
  pub headless : first ≡ true → (head ≡ 0) × StaysHeadless items.finished items.left

-- what stays true of a reader, a part of which reads items
pub record IsHeaded (front : Option Front) (first : Bool) (head : ℕ) (finished : Bool) (items : State)
    (refused : Option ReadError) : Type 0 where
  pub room : head + (items.place + length items.left) < 2 ^ 64
  pub same_end : finished ≡ items.finished
  pub before : (f : Front) → front ≡ Some f → refused ≡ None → IsBefore f first head items
  pub behind : front ≡ None → (refused ≡ None) × IsBehind first head items

-- what stands at the front of bytes that lead there
abbrev pub look_at : List ℕ → Bool → Run → Result Look Halt
look_at bytes finished (ends t rest) = Ok (look.Head t (length bytes - length rest))
look_at bytes finished no_head = Ok look.Items
look_at bytes finished (fails rest) = Err (halt.Bad (length bytes - length rest))
look_at bytes finished (deep rest) = Err (halt.TooDeep (length bytes - length rest))
look_at bytes false (more m) = Ok look.Unknown
look_at bytes true (more m) = cond (may_be_item m.phase) (Ok look.Items) (Err (halt.Bad (length bytes)))

-- the answer is this, unless memory ran out
abbrev pub Looks : Result Look Halt → Result Look Halt → Type 0
Looks (Err halt.NoMemory) said = ⊤
Looks result said = said ≡ result

-- it is not known yet whether a head comes
abbrev pub IsUnsaid : Result Look Halt → Type 0
IsUnsaid (Ok look.Unknown) = ⊤
IsUnsaid (Err halt.NoMemory) = ⊤
IsUnsaid result = ⊥
