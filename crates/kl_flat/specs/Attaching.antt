-- Steps of attaching: a file is read as a table, and a source is added. No public contract cites this.
use Rattle.std.specs.Prelude.{◌≡◌, ◌⊎◌, ℕ, List, length, nat_eq, Some, None, Result, Ok, Err}
use Rattle.std.specs.Cmp.Lexicographic.{pointwise}
use Rattle.std.specs.HashMap.{Updates}
use Rattle.kl_value.specs.declared.Value.{Value}
use Rattle.kl_type.specs.declared.ground.Ty.{Ty}
use Rattle.kl_outcome.specs.Outcome.{Name}
use Rattle.kl_outside.specs.Files.{FilesState, ReadsWhole}
use Rattle.kl_outside.specs.declared.files.Whole.{Whole}
use Rattle.kl_outside.specs.declared.files.Whole.TheVariants.{Bytes, TooLong}
use Rattle.kl_outside.specs.declared.stop.Stop.{Stop}
use Rattle.kl_outside.specs.declared.stop.Stop.TheVariants as stop
use Rattle.kl_ask.specs.declared.ask.DriverError.{DriverError}
use Rattle.kl_ask.specs.declared.ask.DriverError.TheVariants as error
use Rattle.kl_flat.specs.ColumnTable.{rows_of}
use Rattle.kl_flat.specs.Flat.{Sources, most_bytes}
use Rattle.kl_flat.specs.Table.{bad_record, table_rows}
use Rattle.kl_flat.specs.declared.column_table.ColumnTable.{ColumnTable}
use Rattle.kl_flat.specs.declared.parts.Source.{Source}

-- the rows of a file that was read whole, or why there are none
abbrev pub RowsOf : Ty → Result Whole Stop → Result (List Value) DriverError → Type 0
RowsOf ty (Ok (Bytes bytes)) (Ok rows) = (rows ≡ table_rows bytes ty) × (bad_record bytes ty ≡ None)
RowsOf ty (Ok (Bytes bytes)) (Err e) =
    (e ≡ error.NoMemory) ⊎ ((place : ℕ) × (e ≡ error.BadSource place) × (bad_record bytes ty ≡ Some place))
RowsOf ty (Ok TooLong) result = result ≡ Err (error.TooLong most_bytes)
RowsOf ty (Err stop.Failed) result = result ≡ Err error.Failed
RowsOf ty (Err stop.NoMemory) result = result ≡ Err error.NoMemory

pub record ReadsRows (path : List ℕ) (ty : Ty) (result : Result (List Value) DriverError) (old new : FilesState) : Type 0 where
  pub read : Result Whole Stop
  pub reads : ReadsWhole path most_bytes read old new
  pub rows : RowsOf ty read result

-- the same with the rows in columns
abbrev pub ReadsTable : List ℕ → Ty → Result ColumnTable DriverError → FilesState → FilesState → Type 0
ReadsTable path ty (Ok table) = ReadsRows path ty (Ok (rows_of table))
ReadsTable path ty (Err e) = ReadsRows path ty (Err e)

-- a source with so many rows is attached under a name
pub record AddsSource (name : Name) (ty : Ty) (rows : List Value) (old new : Sources) (count : ℕ) : Type 0 where
  pub made : Source
  pub added : Updates (pointwise nat_eq) old new name (Some made)
  pub of : made.ty ≡ ty
  pub with : rows_of made.table ≡ rows
  pub size : count ≡ length rows
