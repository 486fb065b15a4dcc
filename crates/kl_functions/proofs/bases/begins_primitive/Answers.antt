use Rattle.std.proofs.Common.{nat_eq, ap, ◌∙◌}
use Rattle.std.specs.List.{list_any, starts_with}
use Rattle.kl_functions.proofs.Basing.{rows_begun}
use Rattle.kl_functions.proofs.bases.begins_primitive.Goals as goal

pub returns : goal.returns
returns c =
    c.begins_row.ensures ∙ rows_begun c.args.base.now c.table.result.rows.now ∙ ap (λ es. list_any (λ e. starts_with nat_eq e.name c.args.base.now) es) c.table.ensures
