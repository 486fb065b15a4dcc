use Rattle.std.proofs.lemmas.Option.{MatchOption-at_none, MatchOption-at_some}
use Rattle.kl_infer.proofs.typing.Typing.conclude.Goals as goal

pub returns-in-Some : goal.returns-in-Some
returns-in-Some c = MatchOption-at_some _ _ _ c.in-Some.is c.in_ok-scheme.ensures

pub returns-in-None : goal.returns-in-None
returns-in-None c = λ s h d. MatchOption-at_none _ _ c.in-None.is c.in_ok-scheme.ensures (record { by = s; solves = h })
