use Rattle.std.proofs.Common.{◌∙◌, sym, ap}
use Rattle.kl_prim.specs.Meaning.{truth}
use Rattle.kl_prim.proofs.answers.member.Goals as goal

pub returns : goal.returns
returns c = c.value_and_collection-kind.ensures.reads _ ∙ ap truth (sym c.member.ensures)
