use Rattle.std.proofs.Common.{◌∙◌, sym, ap, is_ge}
use Rattle.kl_prim.specs.Meaning.{truth}
use Rattle.kl_prim.proofs.answers.at_least.Goals as goal

pub returns : goal.returns
returns c = c.two_values.ensures _ ∙ ap truth (sym (c.is_ge.ensures ∙ ap is_ge c.cmp.ensures))
