-- A table is attached. No public contract cites this.
use Rattle.std.specs.Prelude.{◌≡◌, ℕ, List, Some, length, nat_eq}
use Rattle.std.specs.Cmp.Lexicographic.{pointwise}
use Rattle.std.specs.HashMap.{Updates}
use Rattle.kl_value.specs.declared.Value.{Value}
use Rattle.kl_type.specs.declared.ground.Ty.{Ty}
use Rattle.kl_outcome.specs.Outcome.{Name}
use Rattle.kl_flat.specs.ColumnTable.{rows_of}
use Rattle.kl_flat.specs.declared.parts.Source.{Source}
use Rattle.kl_flat.specs.Flat.{Sources}
use Rattle.kl_sqlserve.specs.Server.{kept_rows}

-- a source with the rows that are kept of these is attached under a name, and has so many
pub record AddsTable (name : Name) (ty : Ty) (rows : List Value) (old new : Sources) (count : ℕ) : Type 0 where
  pub made : Source
  pub added : Updates (pointwise nat_eq) old new name (Some made)
  pub of : made.ty ≡ ty
  pub with : rows_of made.table ≡ kept_rows ty rows
  pub size : count ≡ length (rows_of made.table)
