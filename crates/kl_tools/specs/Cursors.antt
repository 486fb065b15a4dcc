-- Steps of cursors: one is opened, and hands rows. No public contract cites this.
use Rattle.std.specs.Prelude.{◌≡◌, ◌≤◌, ◌⊎◌, ℕ, ◌+◌, List, ◌++◌, Some}
use Rattle.kl_value.specs.declared.Value.{Value}
use Rattle.kl_ask.specs.Named.{asked_source}
use Rattle.kl_ask.specs.declared.ask.Ask.{Ask}
use Rattle.kl_tools.specs.Driver.{Sources}
use Rattle.kl_tools.specs.Made.{rows_from}
use Rattle.kl_tools.specs.declared.parts.Source.{Source}
use Rattle.kl_tools.specs.declared.parts.Open.{Open}

-- a cursor at the first row of the source that is asked
pub record OpensAt (sources : Sources) (ask : Ask) (o : Open) : Type 0 where
  pub source : Source
  pub found : asked_source sources ask ≡ Some source
  pub ask_is : o.ask ≡ ask
  pub seed : o.source.seed ≡ source.seed
  pub rows : o.source.rows ≡ source.rows
  pub start : o.at ≡ 0

-- so many next rows of a cursor are appended, as many as were asked for or all that are left, and it stands behind them
pub record HandsNext (most : ℕ) (into into' : List Value) (old new : Open) (count : ℕ) : Type 0 where
  pub appended : into' ≡ into ++ rows_from old.source.seed old.at count
  pub at : new.at ≡ old.at + count
  pub few : count ≤ most
  pub all : (count ≡ most) ⊎ (new.at ≡ old.source.rows)
  pub ask : new.ask ≡ old.ask
  pub source : new.source ≡ old.source
