use Rattle.std.proofs.Common.{◌<◌, All, sym, subst}
use Rattle.kl_flat.specs.Held.{height}
use Rattle.kl_flat.specs.Picking.{PicksRows}
use Rattle.kl_flat.proofs.Picking.{are_there, rows_picked}
use Rattle.kl_flat.proofs.column_table.ColumnTable.picked.Goals as goal

pub picked_columns-requires : goal.picked_columns-requires
picked_columns-requires c = subst (λ columns. All (λ c'. All (λ p. p < height c'.cells) c.args.places.now) columns) (sym c.as_slice.ensures.value) (are_there c.args.self.now c.args.places.now c.requires)

pub returns : goal.returns
returns c = rows_picked c.args.self.now.columns.items c.in_ok-columns.columns.items c.args.places.now (subst (λ columns. PicksRows c.args.places.now columns c.in_ok-columns.columns.items) c.as_slice.ensures.value c.in_ok-columns.ensures.rows)
