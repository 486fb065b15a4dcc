use Rattle.std.proofs.Common.{ap, sym, ◌∙◌}
use Rattle.kl_infer.specs.Names.{meant_of, by_value}
use Rattle.kl_infer.proofs.Leaving.{value_good, source_good, value_named, source_named, none_named}
use Rattle.kl_infer.proofs.typing.Typing.known.Goals as goal

pub value_of-requires-clause-good : goal.value_of-requires-clause-good
value_of-requires-clause-good c = value_good _ c.args.known.now c.args.name.now _ c.stands_for.ensures.means (ap meant_of c.in-Value.is ∙ ap by_value (sym c.get.ensures)) c.requires.good

pub source-requires-clause-proper : goal.source-requires-clause-proper
source-requires-clause-proper c = source_good _ c.args.known.now c.args.name.now _ c.stands_for.ensures.means (ap meant_of c.in-Source.is) c.requires.good

pub returns-in-Value : goal.returns-in-Value
returns-in-Value c = value_named c.value_of.result _ _ _ c.args.known.now c.args.name.now _ _ c.stands_for.ensures.means (ap meant_of c.in-Value.is ∙ ap by_value (sym c.get.ensures)) c.value_of.ensures

pub returns-in-Source : goal.returns-in-Source
returns-in-Source c = source_named c.source.result _ _ _ c.args.known.now c.args.name.now _ _ c.stands_for.ensures.means (ap meant_of c.in-Source.is) c.source.ensures

pub returns-in_default : goal.returns-in_default
returns-in_default c = none_named _ _ c.args.known.now c.args.name.now _ c.stands_for.ensures.means c.in_default.not-Value c.in_default.not-Source
