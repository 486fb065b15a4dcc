use Rattle.kl_value.specs.declared.Kind.TheVariants as kind
use Rattle.kl_prim.specs.Arguments.{values_in}
use Rattle.kl_prim.proofs.TableLemmas.{answers_by, into_by}
use Rattle.kl_prim.proofs.answers.bagof.Goals as goal

pub returns : goal.returns
returns c = answers_by _ _ _ (into_by kind.Bag (values_in c.args.args) _ c.in_ok-kind.kind _ c.alone.ensures c.in_ok-kind.ensures) c.convert.ensures
