use Rattle.std.proofs.Common.{◌∙◌, sym, ap}
use Rattle.std.specs.Ordering.{is_ne}
use Rattle.kl_prim.specs.Meaning.{truth}
use Rattle.kl_prim.proofs.answers.unequal.Goals as goal

pub returns : goal.returns
returns c = c.two_values.ensures _ ∙ ap truth (sym (c.is_ne.ensures ∙ ap is_ne c.cmp.ensures))
