-- What is kept of items as they come.
use Rattle.std.specs.Prelude.{◌≡◌, ◌⊎◌, ℕ, ◌+◌, ℤ, pos, ◌+ℤ◌, Bool, true, false, ◌||◌, List, [], ◌∷◌, ◌++◌, fold}
use Rattle.std.specs.Prelude.{Option, Some, None, unwrap_or, ⊤}
use Rattle.std.specs.Ordering.{is_eq}
use Rattle.kl_value.specs.Canon.{canonical}
use Rattle.kl_value.specs.Order.{compare}
use Rattle.kl_value.specs.Views.{as_int}
use Rattle.kl_value.specs.declared.Kind.{Kind}
use Rattle.kl_value.specs.declared.Kind.TheVariants as kind
use Rattle.kl_value.specs.declared.Value.{Value}
use Rattle.kl_prim.specs.Meaning.{Answer, senseless, truth, amount, exact}
use Rattle.kl_prim.specs.Table.{Fits, meaning}
use Rattle.kl_scans.specs.Running.{Running}
use Rattle.kl_plan.specs.declared.plan.Plan.{Plan}
use Rattle.kl_plan.specs.declared.plan.Plan.TheVariants as plans
use Rattle.kl_plan.specs.declared.plan.Scan.{Scan}
use Rattle.kl_scans.specs.Stage.{stage, RepeatsNone}
use Rattle.kl_cursor.specs.declared.gathering.Gathering.{Gathering}
use Rattle.kl_cursor.specs.declared.gathering.Gathering.TheVariants as gathering
use Rattle.kl_cursor.specs.declared.gathering.Tally.{Tally}
use Rattle.kl_cursor.specs.declared.gathering.Tally.TheVariants as tallies

-- all items; whether there is none; how many there are; their total; or whether a value is one of them
pub data Gathered : Type 0 where
  listed : List Value → Gathered
  empty : Bool → Gathered
  counted : ℕ → Gathered
  summed : ℤ → Gathered
  sought : Value → Bool → Gathered

-- the integer that a value is, and 0 of any other value
abbrev pub number : Value → ℤ
number v = unwrap_or (as_int v) (pos 0)

-- one item more
abbrev pub with_one : Gathered → Value → Gathered
with_one (listed us) v = listed (us ++ v ∷ [])
with_one (empty b) v = empty false
with_one (counted n) v = counted (n + 1)
with_one (summed z) v = summed (z +ℤ number v)
with_one (sought w b) v = sought w (b || is_eq (compare v w))

-- some items more
abbrev pub with_all : Gathered → List Value → Gathered
with_all g vs = fold with_one g vs

abbrev pub tally : Tally → Gathered
tally (tallies.Empty b) = empty b
tally (tallies.Count n) = counted n
tally (tallies.Total z) = summed z
tally (tallies.Member v b) = sought v.now b

abbrev pub gathered : Gathering → Gathered
gathered (gathering.Items vs) = listed vs.items
gathered (gathering.Tally t) = tally t

abbrev pub IsListed : Gathered → Type 0
IsListed (listed vs) = ⊤
IsListed _ = ⊥

abbrev pub IsTally : Gathered → Type 0
IsTally (listed vs) = ⊥
IsTally _ = ⊤

-- what is answered of the items
abbrev pub answer_in : Gathered → Answer
answer_in (listed vs) = senseless
answer_in (empty b) = truth b
answer_in (counted n) = amount n
answer_in (summed z) = exact z
answer_in (sought v b) = truth b

-- ---- which primitives ask no more of a collection: 13 is `isempty`, 14 `count`, 15 `sum` and 16 `member`

abbrev pub is_set : Kind → Bool
is_set kind.Set = true
is_set _ = false

-- A tally of the items tells what a primitive makes of their collection of a kind, behind other arguments that it takes.
abbrev pub Tells : ℕ → List Value → Kind → Gathered → Type 0
Tells code before k g = IsTally g × ((vs : List Value) → Fits code (before ++ canonical k vs ∷ [])
    → meaning code (before ++ canonical k vs ∷ []) ≡ answer_in (with_all g vs))

-- the same of items that come item by item
abbrev pub TellsItems : ℕ → List Value → Option Kind → Gathered → Type 0
TellsItems code before (Some k) g = Tells code before k g
TellsItems code before None g = ⊥

-- whether there is an item is asked of any collection, and how many there are or their total of one that loses no repeats
abbrev pub IsTallied : ℕ → Kind → Type 0
IsTallied code k = (code ≡ 13) ⊎ (((code ≡ 14) ⊎ (code ≡ 15)) × (is_set k ≡ false))

abbrev pub AreTallied : ℕ → Option Kind → Type 0
AreTallied code (Some k) = IsTallied code k
AreTallied code None = ⊥

-- a primitive that counts the rows of a scan that repeats none
abbrev pub CountsRows : Running → ℕ → Plan → Type 0
CountsRows w code p = (code ≡ 14) × (c : Scan) × (p ≡ plans.Scan c) × RepeatsNone (stage w) c
