use Rattle.std.proofs.Common.{◌∙◌, ap, sym}
use Rattle.std.specs.Option.{is_some}
use Rattle.kl_prim.specs.Meaning.{number_in}
use Rattle.kl_columns.proofs.Narrowed.{number_reads}
use Rattle.kl_columns.proofs.narrowing.is_integer.Goals as goal

pub returns : goal.returns
returns c = c.is_some.ensures ∙ ap is_some (c.number_in.ensures ∙ ap number_in c.trimmed.ensures) ∙ sym (number_reads c.args.cell.now)
