use Rattle.std.proofs.Common.{◌∙◌, sym, ap, is_gt}
use Rattle.kl_prim.specs.Meaning.{truth}
use Rattle.kl_prim.proofs.answers.above.Goals as goal

pub returns : goal.returns
returns c = c.two_values.ensures _ ∙ ap truth (sym (c.is_gt.ensures ∙ ap is_gt c.cmp.ensures))
