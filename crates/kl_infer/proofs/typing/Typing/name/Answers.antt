use Rattle.std.proofs.Common.{◌∙◌, sym}
use Rattle.kl_infer.specs.Names.{names}
use Rattle.kl_infer.proofs.Leaving.{name_there, name_in, name_out}
use Rattle.kl_infer.proofs.typing.Typing.name.Goals as goal

pub same-requires-clause-first_there : goal.same-requires-clause-first_there
same-requires-clause-first_there c = name_there c.args.known.now _ (names c.args.scope.now) _ c.args.name.now _ (sym c.variable.ensures ∙ c.in-Some.is) c.requires

pub returns-in-Some : goal.returns-in-Some
returns-in-Some c = name_in c.same.result c.args.known.now _ _ (names c.args.scope.now) c.args.name.now _ _ (sym c.variable.ensures ∙ c.in-Some.is) c.same.ensures

pub returns-in-None : goal.returns-in-None
returns-in-None c = name_out c.known.result c.args.known.now _ _ (names c.args.scope.now) c.args.name.now _ (sym c.variable.ensures ∙ c.in-None.is) c.known.ensures
