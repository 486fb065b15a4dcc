use Rattle.std.proofs.Common.{sym, ◌∙◌, ◌++◌, ◌∷◌, []}
use Rattle.std.proofs.lemmas.List.{take_more}
use Rattle.std.proofs.lemmas.Option.{get_or_from_slice_get, slice_get_within}
use Rattle.kl_flat.specs.ColumnTable.{rows_of}
use Rattle.kl_flat.proofs.table.all_rows.Goals as goal

pub loop-at-preserved : goal.loop-at-preserved
loop-at-preserved c =
    let rows = rows_of c.args.table.now in
    let row = c.in_ok-whole_row.field-0 in
    let lt = slice_get_within rows c.loop-at.at row c.in_ok-whole_row.ensures in
    c.in_ok-push.ensures.items ∙ (λ i. c.loop-at.invariant i ++ sym (get_or_from_slice_get rows c.loop-at.at row row c.in_ok-whole_row.ensures) i ∷ []) ∙ sym (take_more rows c.loop-at.at row lt)
