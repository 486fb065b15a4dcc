use Rattle.std.proofs.Common.{ap, ◌∙◌}
use Rattle.kl_rows.specs.declared.cell.Cell.TheVariants.{OfRow}
use Rattle.kl_rows.proofs.Kept.{parts_front}
use Rattle.kl_rows.proofs.keeping.keep_parts.Goals as goal

pub returns-in-Front : goal.returns-in-Front
returns-in-Front c =
    parts_front c.args.cell.now _ _ _ c.in-Front.fields c.slice.result.now c.in-Front.rest _ _ _ (c.in-OfRow.is ∙ ap OfRow c.in-Front.is) c.slice.ensures c.either-in-Front.ensures c.keep_fields-first.ensures c.keep-second-in-Front.ensures
