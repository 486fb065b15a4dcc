use Rattle.std.proofs.Common.{inl}
use Rattle.kl_core.specs.Trees.{view}
use Rattle.kl_rewrite.proofs.Walks.{ended}
use Rattle.kl_rewrite.proofs.normal.rewrite.Goals as goal

pub returns-then-not-branch-clause-ends : goal.returns-then-not-branch-clause-ends
returns-then-not-branch-clause-ends c = inl (ended (view c.steps.term) (view c.advance.new.term) c.in_ok-advance.field-0 c.advance.new.self c.if-not-branch.true c.in_ok-advance.ensures)
