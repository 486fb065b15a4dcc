use Rattle.std.proofs.Common.{◌∙◌, sym, ap, is_eq}
use Rattle.kl_prim.specs.Meaning.{truth}
use Rattle.kl_prim.proofs.answers.equal.Goals as goal

pub returns : goal.returns
returns c = c.two_values.ensures _ ∙ ap truth (sym (c.is_eq.ensures ∙ ap is_eq c.cmp.ensures))
