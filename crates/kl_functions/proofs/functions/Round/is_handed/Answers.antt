use Rattle.std.proofs.Common.{◌∙◌}
use Rattle.kl_functions.specs.Rounds.{facts_of, ref_view, is_handed_at}
use Rattle.kl_functions.proofs.Searching.{literal_any}
use Rattle.kl_functions.proofs.functions.Round.is_handed.Goals as goal

pub returns-in-Some : goal.returns-in-Some
returns-in-Some c =
    c.is_handed_among.ensures
    ∙ literal_any (λ f. is_handed_at (facts_of c.args.self.now) c.args.x.now (ref_view c.args.head.now) f) c.args.literal.now c.in-Some.fields c.slice.result.now c.in-Some.is c.slice.ensures
