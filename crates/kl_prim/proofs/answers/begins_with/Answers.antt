use Rattle.std.proofs.Common.{◌∙◌, sym, ap}
use Rattle.kl_prim.specs.Meaning.{truth}
use Rattle.kl_prim.proofs.answers.begins_with.Goals as goal

pub returns : goal.returns
returns c = c.two_texts.ensures _ ∙ ap truth (sym c.starts_with.ensures.value)
