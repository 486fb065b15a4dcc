use Rattle.kl_value.specs.declared.value.Value.TheVariants as value
use Rattle.kl_eval.proofs.PlainTerms.{plain_sense, told_is}
use Rattle.kl_eval.proofs.public.compared_plain.Goals as goal

pub compared-requires : goal.compared-requires
compared-requires c = (c.requires.0, plain_sense _ _ _ c.requires.1)

pub returns : goal.returns
returns c = told_is (λ yes. value.Bool yes) _ _ _ c.requires.1.0 c.requires.1.1 c.compared.ensures
