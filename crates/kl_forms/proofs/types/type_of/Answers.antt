use Rattle.std.proofs.Common.{sym, ap, ◌∙◌}
use Rattle.kl_type.proofs.GroundLemmas.{ground-Bool, ground-Int, ground-Str}
use Rattle.kl_rows.specs.Solutions.{scalar_type}
use Rattle.kl_forms.proofs.types.type_of.Goals as goal

pub returns-in-Bool : goal.returns-in-Bool
returns-in-Bool c = ground-Bool ∙ sym (ap scalar_type c.in-Bool.is)

pub returns-in-Int : goal.returns-in-Int
returns-in-Int c = ground-Int ∙ sym (ap scalar_type c.in-Int.is)

pub returns-in-Str : goal.returns-in-Str
returns-in-Str c = ground-Str ∙ sym (ap scalar_type c.in-Str.is)
