use Rattle.std.proofs.Common.{◌≡◌, Some, take, length, get_or, sym, ap, ◌∙◌, arith}
use Rattle.std.proofs.lemmas.Grind.{common_steps}
use Rattle.kl_value.specs.declared.Value.TheVariants as value
use Rattle.kl_flat.specs.Held.{fields_at}
use Rattle.kl_flat.proofs.Tables.{is_row, is_tall}
use Rattle.kl_flat.proofs.column_table.ColumnTable.whole_row.Goals as goal

pub value-requires : goal.value-requires
value-requires c =
    let columns = c.as_slice-columns.ensures.value in
    is_tall c.args.self.now c.args.at c.loop-column.column-index c.column-item.result c.requires (omega (arith, ap length columns, c.loop-column-test.true))
    (c.column-item.is ∙ ap (λ cs. get_or cs c.loop-column.column-index c.column-item.result) columns)

pub returns : goal.returns
returns c =
    let columns = c.args.self.now.columns.items in
    let all : take c.loop-column.column-index c.as_slice-columns.result.now ≡ c.as_slice-columns.result.now = grind (arith, common_steps) in
    is_row c.args.self.now c.args.at c.requires
    ∙ ap (λ fs. Some (value.Rec fs)) (sym (c.of.ensures ∙ c.loop-column.invariant ∙ ap (λ cs. fields_at cs c.args.at) (all ∙ c.as_slice-columns.ensures.value)))
