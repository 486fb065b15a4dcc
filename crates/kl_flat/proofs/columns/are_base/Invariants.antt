use Rattle.std.proofs.Common.{◌≡◌, drop}
use Rattle.std.specs.List.{list_all}
use Rattle.kl_flat.specs.Columns.{is_base}
use Rattle.kl_flat.proofs.columns.are_base.Given as goal

abbrev pub invariant-loop-column : goal.invariant-loop-column
invariant-loop-column l = list_all (λ c. is_base c.1) (drop l.column-index l.columns) ≡ list_all (λ c. is_base c.1) l.columns
