use Rattle.std.proofs.Common.{IsTrue, refl, sym, subst}
use Rattle.kl_infer.proofs.Leaving.{known_so}
use Rattle.kl_infer.proofs.typing.Typing.source.Goals as goal

pub same-requires-clause-first_there : goal.same-requires-clause-first_there
same-requires-clause-first_there c = c.knows.ensures.there (subst IsTrue (sym c.if-knows.true) refl)

pub returns-in-Some : goal.returns-in-Some
returns-in-Some c = known_so c.same.result _ _ c.in-Some.number c.args.want c.args.t.now _ c.if-knows.true c.requires.proper c.knows.ensures c.same.ensures
