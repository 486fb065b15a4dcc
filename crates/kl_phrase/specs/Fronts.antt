-- The place where tokens that spell no text of a grammar are refused, and whether for nesting.
-- S n: its texts nested at most n deep. L ts n: the same, but for parts that are left out behind tokens of ts.
use Rattle.std.specs.Prelude.{◌≡◌, ℕ, suc, ◌-◌, ◌<◌, ◌≤◌, Bool, true, List, [], ◌∷◌, ◌++◌, length, take}
use Rattle.kl_phrase.specs.Words.{Phrase}
use Rattle.kl_phrase.specs.Readers.{Out, ok, fail, bad, deep, Reader, ended}
use Rattle.kl_phrase.specs.Places.{IsWhole, BeginsWhole}

-- in the place of a part stands one token, such as may stand at that number
abbrev pub Missing : {T A : Type 0} → (ℕ → T → Bool) → A → Phrase T A
Missing {T} misses x n a ts = (t : T) × (ts ≡ t ∷ []) × (a ≡ x) × (misses n t ≡ true)

-- the answer
pub data Told (A : Type 0) : Type 0 where
  program : A → Told A
  syntax : ℕ → Told A
  too_deep : ℕ → Told A

module _ {T A : Type 0} (S : ℕ → Phrase T A) (L : List T → ℕ → Phrase T A) where
  -- the first k tokens of ts begin some text that nests at most n deep
  abbrev pub BeginsWithin : ℕ → List T → ℕ → Type 0
  BeginsWithin n ts k = (more : List T) × (a : A) × L ts n 0 a (take k ts ++ more)

  -- So many tokens begin a text nested at most n deep. More of them begin none, however deep, and the whole is none.
  pub record IsSyntax (n : ℕ) (ts : List T) (k : ℕ) : Type 0 where
    pub within : k ≤ length ts
    pub before : BeginsWithin n ts k
    pub begins : BeginsWhole S (take k ts)
    pub no_longer : (j : ℕ) → k < j → j ≤ length ts → BeginsWhole S (take j ts) → ⊥
    pub not_whole : IsWhole S ts → ⊥

  -- So many tokens begin a text nested at most n deep. With the next one they begin a text, but none nested at most n deep.
  pub record IsTooDeep (n : ℕ) (ts : List T) (k : ℕ) : Type 0 where
    pub within : k < length ts
    pub before : BeginsWithin n ts k
    pub begins : BeginsWhole S (take (suc k) ts)
    pub too_deep : BeginsWithin n ts (suc k) → ⊥

  abbrev pub Tells : ℕ → List T → Told A → Type 0
  Tells n ts (program a) = S n 0 a ts
  Tells n ts (syntax k) = IsSyntax n ts k
  Tells n ts (too_deep k) = IsTooDeep n ts k

  -- at most one place, and none in a text
  pub record OneFront (n : ℕ) (ts : List T) : Type 0 where
    pub one_syntax : (j k : ℕ) → IsSyntax n ts j → IsSyntax n ts k → j ≡ k
    pub one_deep : (j k : ℕ) → IsTooDeep n ts j → IsTooDeep n ts k → j ≡ k
    pub apart : (j k : ℕ) → IsSyntax n ts j → IsTooDeep n ts k → ⊥
    pub no_syntax : (a : A) (k : ℕ) → S n 0 a ts → IsSyntax n ts k → ⊥
    pub no_deep : (a : A) (k : ℕ) → S n 0 a ts → IsTooDeep n ts k → ⊥

-- ---- what is told. P N n: the descent, where there are N tokens in all, and nesting goes on n times at most
-- No public contract cites this.

module _ {T A : Type 0} (P : ℕ → ℕ → Reader T A) where
  -- the tokens through one that nests too deep are read once more, as deep as they go
  abbrev pub again_told : ℕ → Out T A → Told A
  again_told k (ok a r) = too_deep k
  again_told k (fail w []) = too_deep k
  again_told k (fail w (t ∷ r)) = syntax k

  abbrev pub deep_told : ℕ → List T → Told A
  deep_told k ts = again_told k (ended (P (length (take (suc k) ts)) (length (take (suc k) ts)) (take (suc k) ts)))

  abbrev pub first_told : List T → Out T A → Told A
  first_told ts (ok a r) = program a
  first_told ts (fail bad r) = syntax (length ts - length r)
  first_told ts (fail deep []) = syntax (length ts)
  first_told ts (fail deep (t ∷ r)) = deep_told (length ts - suc (length r)) ts

  abbrev pub told : ℕ → List T → Told A
  told n ts = first_told ts (ended (P (length ts) n ts))
