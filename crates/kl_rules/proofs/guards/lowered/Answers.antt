use Rattle.std.proofs.Common.{sym, ap, ◌∙◌}
use Rattle.kl_core.specs.Trees.{view}
use Rattle.kl_core.specs.Positions.{shift_of}
use Rattle.kl_rules.proofs.Lows.{self_room}
use Rattle.kl_core.proofs.Lowering.{never_raised, put_raised}
use Rattle.kl_rules.proofs.guards.lowered.Goals as goal

pub subst-requires : goal.subst-requires
subst-requires c = record { room = self_room (view c.args.term.now) c.requires.small }

pub returns-then-occurs : goal.returns-then-occurs
returns-then-occurs c = λ u e. never_raised (view c.args.term.now) u 0 (sym c.occurs.ensures ∙ c.if-occurs.true) e

pub returns : goal.returns
returns c =
    sym (put_raised (view c.args.term.now) (view c.args.term.now) 0 (sym c.occurs.ensures ∙ c.if-occurs.false))
    ∙ ap (λ x. shift_of x 0 1) (sym c.in_ok-subst.ensures.replaced)
