use Rattle.std.proofs.Common.{◌∙◌, sym, ap, is_le}
use Rattle.kl_prim.specs.Meaning.{truth}
use Rattle.kl_prim.proofs.answers.at_most.Goals as goal

pub returns : goal.returns
returns c = c.two_values.ensures _ ∙ ap truth (sym (c.is_le.ensures ∙ ap is_le c.cmp.ensures))
