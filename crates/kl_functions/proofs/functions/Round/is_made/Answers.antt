use Rattle.std.proofs.Common.{◌∙◌}
use Rattle.kl_functions.specs.Rounds.{facts_of, makes}
use Rattle.kl_functions.proofs.Searching.{any_place}
use Rattle.kl_functions.proofs.functions.Round.is_made.Goals as goal

pub returns : goal.returns
returns c = c.is_made_among.ensures ∙ any_place (λ s. makes (facts_of c.args.self.now) c.args.x.now s) c.args.self.now.found.now
