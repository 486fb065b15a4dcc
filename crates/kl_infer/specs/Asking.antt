-- What is asked of numbers, one thing after another. No public contract cites this.
use Rattle.std.specs.Prelude.{◌≡◌, ℕ, List, [], ◌∷◌, map, Some, Result, MatchResult, ⊤}
use Rattle.kl_type.specs.Ground.{Ground, arrow, IsGround}
use Rattle.kl_rows.specs.declared.cell.Cell.{Cell}
use Rattle.kl_rows.specs.Lists.{Fields}
use Rattle.kl_rows.specs.Places.{IsFine, AreTypes, sort_at, a_function}
use Rattle.kl_rows.specs.Solutions.{Assignment, Solves}
use Rattle.kl_rows.specs.Steps.{Grown, KeepsCells}
use Rattle.kl_forms.specs.Checks.{OpensItem, OpensMany}
use Rattle.kl_meaning.specs.Typing.{Context}
use Rattle.kl_infer.specs.declared.refusal.Refusal.{Refusal}
use Rattle.kl_infer.specs.declared.refusal.Refusal.TheVariants.{NoType, NoMemory}
use Rattle.kl_infer.specs.declared.typing.Typing.{Typing}

abbrev pub cells : Typing → List Cell
cells t = t.unifier.cells.items

-- From numbers of which D is asked to numbers of which R is left to ask.
pub record Leaves (old new : List Cell) (D R : Assignment → Type 0) : Type 0 where
  pub fine : IsFine new
  pub keeps : KeepsCells old new
  pub down : (s : Assignment) → Solves old s → D s → Grown old new s R
  pub up : (s : Assignment) → Solves new s → R s → Solves old s × D s

-- D is asked, and nothing is left
abbrev pub Asks : List Cell → List Cell → (Assignment → Type 0) → Type 0
Asks old new D = Leaves old new D (λ s. Unit {0})

-- what a refusal for want of a type says
abbrev pub OnNoType : Refusal → Type 0 → Type 0
OnNoType NoType P = P
OnNoType NoMemory P = ⊤

-- no solution meets what was asked
abbrev pub Refuses : List Cell → (Assignment → Type 0) → Refusal → Type 0
Refuses old D refusal = OnNoType refusal ((s : Assignment) → Solves old s → D s → ⊥)

-- what comes of asking D
abbrev pub Asked : Result (Unit {0}) Refusal → List Cell → List Cell → (Assignment → Type 0) → Type 0
Asked result old new D = MatchResult result (λ _. Asks old new D) (Refuses old D)

-- a number of a type of which E is said
abbrev pub Gets : List Cell → List Cell → ℕ → (Ground → Assignment → Type 0) → Type 0
Gets old new item E = OpensItem old new item E

-- what comes of asking for one
abbrev pub Found : Result ℕ Refusal → List Cell → List Cell → (Ground → Assignment → Type 0) → Type 0
Found result old new E = MatchResult result (λ item. Gets old new item E) (Refuses old (λ s. (t : Ground) × IsGround t × E t s))

-- so many numbers of types of which nothing is said
abbrev pub GetsMany : List Cell → List Cell → List ℕ → ℕ → Type 0
GetsMany old new items count = OpensMany old new items count

-- a number of a function from the one type to the other
pub record GetsFunction (old new : List Cell) (item from to : ℕ) : Type 0 where
  pub fine : IsFine new
  pub keeps : KeepsCells old new
  pub sort : sort_at new item ≡ Some a_function
  pub down : (s : Assignment) → Solves old s → Grown old new s (λ u. u.functions item ≡ arrow (s.types from) (s.types to))
  pub up : (s : Assignment) → Solves new s → Solves old s × (s.functions item ≡ arrow (s.types from) (s.types to))

-- variables with the numbers of their types, the last bound first, and their types
abbrev pub context : Assignment → Fields → Context
context s ns = map (λ b. (b.0, s.types b.1)) ns

-- variables more, the last of them bound last
abbrev pub onto : Fields → Fields → Fields
onto [] ns = ns
onto (b ∷ bs) ns = onto bs (b ∷ ns)

-- What a pattern asks of the number of a type, where it binds variables more: D relates the types of variables before it to
-- those behind it.
pub record Binds (old new : List Cell) (bound bound_new ns : Fields) (D : Assignment → Context → Context → Type 0) : Type 0 where
  pub fine : IsFine new
  pub keeps : KeepsCells old new
  pub sorts : AreTypes old bound → AreTypes new bound_new
  pub down : (s : Assignment) (H : Context) → Solves old s → D s (context s (onto bound ns)) H
      → Grown old new s (λ u. context u (onto bound_new ns) ≡ H)
  pub up : (s : Assignment) → Solves new s → Solves old s × D s (context s (onto bound ns)) (context s (onto bound_new ns))

-- what comes of asking it
abbrev pub Bound : Result (Unit {0}) Refusal → List Cell → List Cell → Fields → Fields → Fields
    → (Assignment → Context → Context → Type 0) → Type 0
Bound result old new bound bound_new ns D = MatchResult result (λ _. Binds old new bound bound_new ns D)
    (Refuses old (λ s. (H : Context) × D s (context s (onto bound ns)) H))

-- the same on the way: D is asked at first, and R is left
pub record Binding (old now : List Cell) (bound bound_now ns : Fields) (D R : Assignment → Context → Context → Type 0) : Type 0 where
  pub fine : IsFine now
  pub keeps : KeepsCells old now
  pub sorts : AreTypes old bound → AreTypes now bound_now
  pub leaves : (H : Context) → Leaves old now (λ s. D s (context s (onto bound ns)) H) (λ s. R s (context s (onto bound_now ns)) H)
