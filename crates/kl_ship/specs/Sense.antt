-- Which plans over the sources of a list make sense.
use Rattle.std.specs.Prelude.{◌≡◌, ◌≢◌, ℕ, true, List, [], Some, slice_get}
use Rattle.kl_value.specs.declared.Kind.{Kind}
use Rattle.kl_value.specs.declared.Kind.TheVariants as kind
use Rattle.kl_type.specs.Ground.{Ground}
use Rattle.kl_core.specs.Trees.{Tree}
use Rattle.kl_core.specs.Typing.{CoreTypes}
use Rattle.kl_ask.specs.Asks.{item_of, kind_of, shown_type, is_allowed, AskFits}
use Rattle.kl_ask.specs.Statements.{RowTypes, SqlFits, sql_type}
use Rattle.kl_sqltext.specs.declared.ast.Spj.{Spj}
use Rattle.kl_sqltext.specs.Reading.{SqlReads}
use Rattle.kl_ask.specs.declared.ask.Ask.{Ask}
use Rattle.kl_ask.specs.declared.ask.Ask.TheVariants as asks
use Rattle.kl_plan.specs.declared.plan.Scan.{Scan}
use Rattle.kl_plan.specs.Nodes.{Node}
use Rattle.kl_plan.specs.Typing.{AnyMemo, PlanTypes}
use Rattle.kl_ship.specs.declared.source.ShipSource.{ShipSource}
use Rattle.kl_ship.specs.Sources.{ground}
use Rattle.kl_ship.specs.Contents.{types_in}

-- types of tables by name that are those of the rows of a driver's sources
abbrev pub AreTypesOf : List ShipSource → ℕ → RowTypes → Type 0
AreTypesOf ss driver types =
    (i : ℕ) (t : ShipSource) → slice_get ss i ≡ Some t → t.driver ≡ driver → types t.name ≡ Some (item_of (ground t))

-- an ask that the driver of a source can be asked of it, as a collection of a kind, with rows of a type
abbrev pub AskOf : List ShipSource → ShipSource → Ask → Kind → Ground → Type 0
AskOf ss s (asks.Rows source keep tests) k u =
    (source ≡ s.name) × (is_allowed s.abilities (ground s) (asks.Rows source keep tests) ≡ true) × AskFits (ground s) keep tests
    × (u ≡ shown_type keep (item_of (ground s))) × (k ≡ kind.List → kind_of (ground s) ≡ kind.List)
AskOf ss s (asks.Sql text) k u =
    (q : Spj) × SqlReads text q × (s.abilities.join ≡ true) × (k ≢ kind.List)
    × ((types : RowTypes) → AreTypesOf ss s.driver types → SqlFits types q × (u ≡ sql_type types q))

-- a scan of one of these sources, with rows of a type
pub record ScanOf (ss : List ShipSource) (c : Scan) (u : Ground) : Type 0 where
  pub place : ℕ
  pub source : ShipSource
  pub listed : slice_get ss place ≡ Some source
  pub driver : c.driver ≡ source.driver
  pub named : c.source ≡ source.name
  pub ask : AskOf ss source c.ask c.kind u

-- the plan makes sense at each type that the term has, over these sources and without free positions
abbrev pub KeepsTypes : List ShipSource → Tree → Node → Type 0
KeepsTypes ss t p = (s : Ground) → CoreTypes (types_in ss) [] t s → PlanTypes (ScanOf ss) AnyMemo [] p s
