use Rattle.std.proofs.Common.{◌≤◌, ◌<◌, ◌∙◌, ap, get_or, length, subst, sym}
use Rattle.kl_flat.specs.Held.{height}
use Rattle.kl_columns.proofs.Narrowed.{rows_within}
use Rattle.kl_columns.proofs.columns.narrowed.Goals as goal

pub narrowest-requires : goal.narrowest-requires
narrowest-requires c =
    let i = c.loop-column.column-index in
    let item = c.column-item.result in
    let within = subst (λ n. i < n) (ap length c.columns-columns.ensures) c.loop-column-test.true in
    let is = c.column-item.is ∙ ap (λ cs. get_or cs i item) c.columns-columns.ensures in
    subst (λ n. n ≤ height item.cells) (sym c.len.ensures) (rows_within c.args.table.now i item within is)
