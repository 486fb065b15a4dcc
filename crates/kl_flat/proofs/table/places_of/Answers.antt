use Rattle.std.proofs.Common.{◌==◌, ap, sym, ◌∙◌}
use Rattle.std.proofs.lemmas.List.Folds.{list_all_at}
use Rattle.csv.specs.Records.{fields_of}
use Rattle.kl_flat.specs.Table.{times}
use Rattle.kl_flat.proofs.Placing.{not_once}
use Rattle.kl_flat.proofs.table.places_of.Goals as goal

pub returns-in_default : goal.returns-in_default
returns-in_default c =
    list_all_at (λ d. times d.0 (fields_of c.args.header.now) == 1) c.args.columns.now c.loop-column.column-index c.column-item.result c.loop-column-test.true
    (ap (λ d. times d.0 (fields_of c.args.header.now) == 1) (sym c.column-item.is) ∙ not_once c.column-item.result.0 (fields_of c.args.header.now) (λ e. c.in_default.ensures (ap (λ l. times l (fields_of c.args.header.now)) c.slice.ensures ∙ e)))
