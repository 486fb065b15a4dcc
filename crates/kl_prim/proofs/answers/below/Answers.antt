use Rattle.std.proofs.Common.{◌∙◌, sym, ap, is_lt}
use Rattle.kl_prim.specs.Meaning.{truth}
use Rattle.kl_prim.proofs.answers.below.Goals as goal

pub returns : goal.returns
returns c = c.two_values.ensures _ ∙ ap truth (sym (c.is_lt.ensures ∙ ap is_lt c.cmp.ensures))
