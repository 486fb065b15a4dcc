use Rattle.std.proofs.Common.{◌∙◌, sym, ap}
use Rattle.kl_prim.specs.Meaning.{truth}
use Rattle.kl_prim.proofs.answers.finishes_with.Goals as goal

pub returns : goal.returns
returns c = c.two_texts.ensures _ ∙ ap truth (sym c.ends_with.ensures.value)
