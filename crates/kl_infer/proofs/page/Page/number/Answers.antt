use Rattle.std.proofs.Common.{◌∙◌, sym, ap}
use Rattle.kl_infer.specs.Numbers.{number}
use Rattle.kl_infer.proofs.PageLemmas.{number_add}
use Rattle.kl_infer.proofs.page.Page.number.Goals as goal

pub returns-clause-number : goal.returns-clause-number
returns-clause-number c = λ e. c.place_in-at.ensures.number ∙ (ap (number c.args.place) c.deref.ensures.value ∙ sym (number_add c.args.place c.args.self.now.seen.items))
