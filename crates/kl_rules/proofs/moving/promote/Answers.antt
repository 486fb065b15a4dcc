use Rattle.std.proofs.Common.{ap, ◌∙◌}
use Rattle.kl_core.specs.Trees.{view}
use Rattle.kl_rules.specs.Moving.{promoted}
use Rattle.kl_rules.proofs.Moves.{promote_made}
use Rattle.kl_rules.proofs.moving.promote.Goals as goal

pub returns-in-Some-clause-moves : goal.returns-in-Some-clause-moves
returns-in-Some-clause-moves c =
    promote_made c.args.most c.args.term.now c.put.new.slot c.in-Some.test c.in_ok-test.field-0 c.in-Some.is c.requires.within c.in_ok-test.ensures
    (ap view c.put.ensures ∙ c.before_loop.ensures ∙ ap (λ x. promoted (view c.in-Some.test) (view x)) c.replace-whole.ensures.value)
