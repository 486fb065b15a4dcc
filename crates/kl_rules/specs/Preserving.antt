-- What a rule keeps.
use Rattle.std.specs.Prelude.{◌≡◌, List}
use Rattle.kl_value.specs.declared.Value.{Value}
use Rattle.kl_type.specs.Ground.{Ground}
use Rattle.kl_outcome.specs.Typed.{HaveTypes}
use Rattle.kl_core.specs.Trees.{Tree}
use Rattle.kl_core.specs.Core.{Tables, core}
use Rattle.kl_core.specs.Typing.{SourceTypes, CoreTypes, HaveSources}

-- Wherever the first term makes sense, the second does, at the same type, and it has the same outcome over all tables
-- and all values of these types: the same value, or the same items and an overflow.
pub record Preserves (t u : Tree) : Type 0 where
  pub typed : (S : SourceTypes) (G : List Ground) (r : Ground) → CoreTypes S G t r → CoreTypes S G u r
  pub means : (S : SourceTypes) (T : Tables) (G : List Ground) (env : List Value) (r : Ground)
      → HaveSources S T → HaveTypes G env → CoreTypes S G t r → core T u env ≡ core T t env
