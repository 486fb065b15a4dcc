use Rattle.std.proofs.Common.{ap, sym, ◌∙◌, subst}
use Rattle.kl_meaning.specs.Codes.{IsCalled}
use Rattle.kl_infer.specs.Names.{IfCode, Meant, meant_of, by_function}
use Rattle.kl_infer.proofs.Leaving.{when, call_function, call_code}
use Rattle.kl_infer.proofs.typing.can_call.Goals as goal

pub returns-then-args-eq1 : goal.returns-then-args-eq1
returns-then-args-eq1 c = when _ _ c.uses_function.result (λ v h. call_function v _ _ _ _ c.args.args.now c.args.want (ap meant_of c.in-Function.is ∙ ap by_function (sym c.get.ensures)) c.if-args-eq1.true h) c.uses_function.ensures

pub applied-requires-clause-called : goal.applied-requires-clause-called
applied-requires-clause-called c = subst (λ (m : Meant). IfCode m IsCalled) (ap meant_of c.in-Primitive.is) c.requires.called

pub returns-in-Primitive : goal.returns-in-Primitive
returns-in-Primitive c = when _ _ c.applied.result (λ v h. call_code v _ _ _ _ c.args.args.now c.args.want (ap meant_of c.in-Primitive.is) h) c.applied.ensures
