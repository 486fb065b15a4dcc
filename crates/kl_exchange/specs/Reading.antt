-- What a reader of exchange text knows, and what it answers.
use Rattle.std.specs.Prelude.{◌≡◌, ℕ, ◌+◌, ◌<◌, ◌≤◌, true, false, List, [], ◌++◌, length, take, ◌⊎◌, IsTrue, Some, None, Result, Ok, Err}
use Rattle.kl_value.specs.IsCanonical.{IsCanonical}
use Rattle.kl_value.specs.declared.Value.{Value}
use Rattle.kl_exchange.specs.Grammar.{Blank, IsItem, IsExchange, Begins}
use Rattle.kl_exchange.specs.declared.error.ReadError.{ReadError}
use Rattle.kl_exchange.specs.declared.error.ReadError.TheVariants as error
use Rattle.kl_exchange.specs.declared.reader.Item.{Item}
use Rattle.kl_exchange.specs.declared.reader.Item.TheVariants as item
use Rattle.kl_exchange.specs.State.{State}

-- how many brackets may be open at a place of an item
abbrev pub nesting : ℕ
nesting = 256

-- An item stands whole at the front of the bytes left. The answer is its value, and the bytes behind it are left.
pub record GivesItem (old : State) (v : Value) (new : State) : Type 0 where
  pub fresh : old.refused ≡ None
  pub bytes : List ℕ
  pub front : old.left ≡ bytes ++ new.left
  pub spells : IsItem nesting bytes v
  pub canonical : IsCanonical v
  pub place : new.place ≡ old.place + length bytes
  pub finished : new.finished ≡ old.finished
  pub refused : new.refused ≡ None

-- The bytes left are a proper prefix of an item, and more may come.
pub record Waits (old new : State) : Type 0 where
  pub fresh : old.refused ≡ None
  pub unfinished : old.finished ≡ false
  pub more : List ℕ
  pub proper : 0 < length more
  pub v : Value
  pub begun : IsItem nesting (old.left ++ more) v
  pub same : new ≡ old

-- No more bytes come, and only white space is left.
pub record EndsText (old new : State) : Type 0 where
  pub fresh : old.refused ≡ None
  pub finished : old.finished ≡ true
  pub blank : Blank old.left
  pub same : new ≡ old

-- No item stands whole at the front of the bytes left.
abbrev pub NoItem : ℕ → List ℕ → Type 0
NoItem n left = (bytes rest : List ℕ) (v : Value) → left ≡ bytes ++ rest → IsItem n bytes v → ⊥

-- The bytes left are in no exchange text, however many brackets it may have open, and k is the length of their longest
-- prefix that begins one.
pub record IsBad (old : State) (k : ℕ) : Type 0 where
  pub within : k ≤ length old.left
  pub begins : Begins nesting (take k old.left)
  pub longest : (j n : ℕ) → k < j → j ≤ length old.left → Begins n (take j old.left) → ⊥
  pub in_none : (n : ℕ) (more : List ℕ) (vs : List Value) → (IsTrue old.finished → more ≡ []) → IsExchange n (old.left ++ more) vs → ⊥
  pub no_item : (n : ℕ) → NoItem n old.left

-- The byte at k opens one bracket too many: with it the bytes begin an exchange text, and none that keeps the limit,
-- and those before it begin one that does.
pub record IsDeep (old : State) (k : ℕ) : Type 0 where
  pub within : k < length old.left
  pub begins : Begins nesting (take k old.left)
  pub deeper : (n : ℕ) × Begins n (take (k + 1) old.left)
  pub too_deep : Begins nesting (take (k + 1) old.left) → ⊥
  pub no_item : NoItem nesting old.left

-- A refusal is kept: the reader answers it from then on. It comes first where there is cause.
abbrev pub RefusesItem : State → ReadError → Type 0 → State → Type 0
RefusesItem old e cause new = ((old.refused ≡ Some e) × (new ≡ old))
    ⊎ ((old.refused ≡ None) × cause × (new ≡ record old { refused = Some e }))

abbrev pub ReadsNext : State → Result Item ReadError → State → Type 0
ReadsNext old (Ok (item.Value v)) new = GivesItem old v new
ReadsNext old (Ok item.NeedMore) new = Waits old new
ReadsNext old (Ok item.End) new = EndsText old new
ReadsNext old (Err (error.Bad place)) new = RefusesItem old (error.Bad place) ((k : ℕ) × (place ≡ old.place + k) × IsBad old k) new
ReadsNext old (Err (error.TooDeep place)) new = RefusesItem old (error.TooDeep place) ((k : ℕ) × (place ≡ old.place + k) × IsDeep old k) new
ReadsNext old (Err error.NoMemory) new = new ≡ old
