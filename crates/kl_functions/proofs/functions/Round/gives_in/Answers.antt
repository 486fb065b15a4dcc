use Rattle.std.proofs.Common.{◌∙◌}
use Rattle.kl_functions.specs.Rounds.{facts_of, gives_at}
use Rattle.kl_functions.proofs.Searching.{literal_any}
use Rattle.kl_functions.proofs.functions.Round.gives_in.Goals as goal

pub returns-in-Some : goal.returns-in-Some
returns-in-Some c =
    c.gives_among.ensures ∙ literal_any (λ f. gives_at (facts_of c.args.self.now) c.args.label.now f) c.args.literal.now c.in-Some.fields c.slice.result.now c.in-Some.is c.slice.ensures
