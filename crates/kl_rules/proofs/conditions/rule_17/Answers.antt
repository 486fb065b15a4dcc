use Rattle.kl_core.specs.Trees.{view}
use Rattle.kl_rules.specs.Rules.{ConditionOrder}
use Rattle.kl_rules.proofs.Moves.{shallow, not_copied, exchange_nodes}
use Rattle.kl_rules.proofs.conditions.rule_17.Goals as goal

pub exchange-requires : goal.exchange-requires
exchange-requires c = record { within = shallow c.args.term.now c.in_ok-moved.moved c.in_ok-moved.ensures c.requires.small }

pub returns : goal.returns
returns c =
    not_copied ConditionOrder c.args.term.now c.in_ok-moved.moved c.exchange.new.term c.exchange.result c.in_ok-moved.ensures c.exchange.ensures c.if-exchange.false c.requires.small (exchange_nodes (view c.args.term.now))
