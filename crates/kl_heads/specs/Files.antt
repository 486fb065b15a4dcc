-- Which head and which items stand in a file, and what stands behind them.
use Rattle.std.specs.Prelude.{◌≡◌, ℕ, ◌+◌, ◌<◌, nat_le, Bool, true, false, List, [], ◌∷◌, ◌++◌, length, take, Option, Some, None}
use Rattle.kl_value.specs.declared.Value.{Value}
use Rattle.kl_type.specs.declared.ground.Ty.{Ty}
use Rattle.kl_exchange.specs.FileItems.{Items, FileEnd, WholeText, BadAt, TooDeepAt, PastLimit, reading}
use Rattle.kl_exchange.specs.Grammar.{Blank}
use Rattle.kl_exchange.specs.Reading.{nesting}
use Rattle.kl_heads.specs.Heads.{IsHead}
use Rattle.kl_heads.specs.Reading.{Headed, IsNext, IsBad, IsDeep}

-- the bytes are this head, or none where there is none
abbrev pub States : Option Ty → List ℕ → Type 0
States None bytes = bytes ≡ []
States (Some t) bytes = IsHead nesting bytes t

-- neither a head nor an item
abbrev pub is_first : Option Ty → List Value → Bool
is_first None [] = true
is_first None (v ∷ vs) = false
is_first (Some t) vs = false

-- so many bytes were read, and these are left
abbrev pub standing : Bool → ℕ → List ℕ → Bool → Headed
standing first place left finished = record { first = first; text = reading place left finished }

-- the bytes begin an item or, before the first answer, a head, and are less than that
abbrev pub BeginsNext : Bool → List ℕ → Type 0
BeginsNext first left = (more : List ℕ) × (0 < length more) × IsNext first nesting (left ++ more)

-- what the bytes left come to
abbrev pub EndsIn : Bool → ℕ → List ℕ → Bool → FileEnd → Type 0
EndsIn first place left finished WholeText = (finished ≡ true) × Blank left
EndsIn first place left finished (BadAt p) = (k : ℕ) × (p ≡ place + k) × IsBad (standing first place left finished) k
EndsIn first place left finished (TooDeepAt p) = (k : ℕ) × (p ≡ place + k) × IsDeep (standing first place left finished) k
EndsIn first place left finished PastLimit = (finished ≡ false) × BeginsNext first left

-- A file with these bytes, of which at most `limit` are looked at, has this head and these items, and then comes this end.
pub record Shows (limit : ℕ) (bytes : List ℕ) (head : Option Ty) (vs : List Value) (end : FileEnd) : Type 0 where
  pub front : List ℕ
  pub read : List ℕ
  pub left : List ℕ
  pub seen : take limit bytes ≡ front ++ (read ++ left)
  pub states : States head front
  pub items : Items read vs
  pub ends : EndsIn (is_first head vs) (length front + length read) left (nat_le (length bytes) limit) end
