-- Exchange texts that may begin with a head.
use Rattle.std.specs.Prelude.{◌≡◌, ℕ, Bool, true, false, IsTrue, List, [], ◌++◌, codes, Option, Some, None}
use Rattle.kl_value.specs.declared.Value.{Value}
use Rattle.kl_type.specs.declared.ground.Ty.{Ty}
use Rattle.kl_exchange.specs.Grammar.{Blank, IsExchange}
use Rattle.kl_heads.specs.Heads.{IsHead}

-- a text with this head, where it has one, and these items
abbrev pub IsText : ℕ → List ℕ → Option Ty → List Value → Type 0
IsText n bytes None vs = IsExchange n bytes vs
IsText n bytes (Some t) vs = (head : List ℕ) × (rest : List ℕ) × (bytes ≡ head ++ rest) × IsHead n head t × IsExchange n rest vs

-- what may follow: before the first answer a text, and behind it one without a head
abbrev pub MayFollow : Bool → ℕ → List ℕ → Type 0
MayFollow true n bytes = (head : Option Ty) × (vs : List Value) × IsText n bytes head vs
MayFollow false n bytes = (vs : List Value) × IsExchange n bytes vs

-- the bytes begin one, with at most so many brackets open at a place
pub record Begins (first : Bool) (n : ℕ) (bytes : List ℕ) : Type 0 where
  pub more : List ℕ
  pub whole : MayFollow first n (bytes ++ more)

-- No head is begun, or white space and a `t` at most.
abbrev pub IsHeadless : List ℕ → Type 0
IsHeadless bytes = (before more : List ℕ) → Blank before → bytes ≡ before ++ (codes "ty" ++ more) → ⊥

-- No head comes, whatever follows, if anything may.
abbrev pub StaysHeadless : Bool → List ℕ → Type 0
StaysHeadless finished left = (more : List ℕ) → (IsTrue finished → more ≡ []) → IsHeadless (left ++ more)
