use Rattle.std.proofs.Common.{ap, ◌∙◌}
use Rattle.kl_flat.specs.Fitting.{are_rows}
use Rattle.kl_flat.proofs.Typing.{are_table_rows, rows_typed}
use Rattle.kl_flat.proofs.table.read_table.Goals as goal

pub returns-clause-typed : goal.returns-clause-typed
returns-clause-typed c =
    rows_typed c.args.ty.now c.of.result
    (ap (are_rows c.args.ty.now) (c.of.ensures ∙ c.in_ok-rows.ensures ∙ c.in_ok-front.ensures.rows) ∙ are_table_rows c.args.bytes.now c.args.ty.now c.requires.suits c.requires.proper)
