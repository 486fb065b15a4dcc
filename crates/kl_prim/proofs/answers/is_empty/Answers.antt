use Rattle.std.proofs.Common.{◌∙◌, sym, ap}
use Rattle.kl_prim.specs.Meaning.{truth}
use Rattle.kl_prim.proofs.answers.is_empty.Goals as goal

pub returns : goal.returns
returns c = c.one_collection.ensures.reads _ ∙ ap truth (sym c.is_empty.ensures)
