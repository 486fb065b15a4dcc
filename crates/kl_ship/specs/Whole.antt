-- Which plans a term is shipped as.
use Rattle.std.specs.Prelude.{◌≡◌, List, Some}
use Rattle.std.specs.List.{AllByRecursion}
use Rattle.kl_value.specs.declared.Value.{Value}
use Rattle.kl_type.specs.Ground.{Ground}
use Rattle.kl_outcome.specs.Typed.{Inhabits}
use Rattle.kl_core.specs.Trees.{Tree}
use Rattle.kl_ask.specs.declared.settings.Settings.{Settings}
use Rattle.kl_plan.specs.declared.plan.Scan.{Scan}
use Rattle.kl_plan.specs.Meaning.{Readings}
use Rattle.kl_plan.specs.Nodes.{Node}
use Rattle.kl_joins.specs.Finished.{Finishes}
use Rattle.kl_joins.specs.Numbered.{SameScan}
use Rattle.kl_ship.specs.declared.source.ShipSource.{ShipSource}
use Rattle.kl_ship.specs.Sense.{ScanOf}
use Rattle.kl_ship.specs.Ships.{Sends}

-- A term is shipped as a plan: what drivers can do is left to them, then loops become joins, values are kept, and all is numbered.
pub record Ships (how : Settings) (ss : List ShipSource) (t : Tree) (p : Node) : Type 0 where
  pub sent : Node
  pub sends : Sends how.delegate ss t sent
  pub finishes : Finishes how.join how.cache sent p

-- A scan that makes sense reads rows of its type, and what it reads does not rest on its number.
pub record ReadsWell (ss : List ShipSource) (R : Readings) : Type 0 where
  pub typed : (c : Scan) (u : Ground) → ScanOf ss c u → (rows : List Value) × (R c ≡ Some rows) × AllByRecursion (Inhabits u) rows
  pub alike : (c d : Scan) → SameScan c d → R c ≡ R d
