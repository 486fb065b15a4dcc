-- The plan of a term over the sources of a catalogue.
use Rattle.std.specs.Prelude.{◌≡◌, true, false, List, [], map, Option, Some, None, slice_get}
use Rattle.kl_value.specs.declared.Kind.TheVariants as kind
use Rattle.kl_type.specs.Ground.{Ground, coll}
use Rattle.kl_outcome.specs.Outcome.{items_of}
use Rattle.kl_core.specs.Core.{Tables, core}
use Rattle.kl_core.specs.Trees.{Tree}
use Rattle.kl_core.specs.Typing.{CoreTypes}
use Rattle.kl_ask.specs.Driver.{DriverKind}
use Rattle.kl_ask.specs.declared.ask.Abilities.{Abilities}
use Rattle.kl_ask.specs.declared.settings.Settings.{Settings}
use Rattle.kl_ship.specs.Contents.{HoldAll, types_in}
use Rattle.kl_ship.specs.Full.{FullyShipped}
use Rattle.kl_plan.specs.Meaning.{Readings, plan, worth, coming}
use Rattle.kl_plan.specs.Nodes.{Node}
use Rattle.kl_plan.specs.Numbers.{NumbersDiffer}
use Rattle.kl_ship.specs.Whole.{ReadsWell, Ships}
use Rattle.kl_ship.specs.Sense.{KeepsTypes}
use Rattle.kl_ship.specs.declared.source.ShipSource.{ShipSource}
use Rattle.kl_sources.specs.declared.source.Source.{Source}

abbrev pub abilities_in : Option DriverKind → Abilities
abilities_in (Some k) = k.abilities
abilities_in None = record { select = false; project = false; join = false; unique = false }

-- the sources of a catalogue over drivers of these kinds, as plans are made for them
abbrev pub ship_source : List DriverKind → Source → ShipSource
ship_source ks s = record { ty = s.ty; driver = s.driver; abilities = abilities_in (slice_get ks s.driver); name = s.name }

abbrev pub ships_of : List DriverKind → List Source → List ShipSource
ships_of ks ss = map (ship_source ks) ss

-- A plan that a term may be shipped as under some settings, which makes sense at each type of the term, and whose numbers differ. With
-- `delegate` no work is left in it that its drivers could do.
pub record IsPlanOf (settings : Settings) (ss : List ShipSource) (t : Tree) (p : Node) : Type 0 where
  pub ships : Ships settings ss t p
  pub sense : KeepsTypes ss t p
  pub numbers : NumbersDiffer p
  pub full : settings.delegate ≡ true → FullyShipped ss p

-- A plan means a term: over all tables of the sources' types that repeat no row in a set whose driver says so, it has the same
-- value or the same overflow, and a list gives the same items in the same order and the same end.
pub record MeansTerm (ss : List ShipSource) (t : Tree) (p : Node) : Type 0 where
  pub value : (R : Readings) (T : Tables) (s : Ground) → HoldAll ss R T → ReadsWell ss R → CoreTypes (types_in ss) [] t s
      → worth (plan R p []) ≡ core T t []
  pub list : (R : Readings) (T : Tables) (s : Ground) → HoldAll ss R T → ReadsWell ss R → CoreTypes (types_in ss) [] t (coll kind.List s)
      → coming (plan R p []) ≡ items_of (core T t [])
