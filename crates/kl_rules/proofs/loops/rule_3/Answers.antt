use Rattle.kl_core.specs.Trees.{view}
use Rattle.kl_rules.specs.Rules.{FilterPromotion}
use Rattle.kl_rules.proofs.Moves.{shallow, copied, not_copied, promote_nodes}
use Rattle.kl_rules.proofs.loops.rule_3.Goals as goal

pub promote-requires-clause-within : goal.promote-requires-clause-within
promote-requires-clause-within c = shallow c.args.term.now c.in_ok-moved.moved c.in_ok-moved.ensures c.requires.small

pub returns-then-branch : goal.returns-then-branch
returns-then-branch c = copied FilterPromotion c.args.term.now c.in_ok-moved.moved c.promote.new.term c.in_ok-promote.field-0 c.in_ok-moved.ensures c.in_ok-promote.ensures.moves c.if-branch.true

pub returns : goal.returns
returns c =
    not_copied FilterPromotion c.args.term.now c.in_ok-moved.moved c.promote.new.term c.in_ok-promote.field-0 c.in_ok-moved.ensures c.in_ok-promote.ensures.moves c.if-branch.false c.requires.small (promote_nodes (view c.args.term.now))
