use Rattle.std.proofs.Common.{sym, ◌∙◌}
use Rattle.cases.proofs.Attached.{none_there}
use Rattle.cases.proofs.statement.attach.Goals as goal

pub attach-requires-clause-fresh : goal.attach-requires-clause-fresh
attach-requires-clause-fresh c = none_there _ (sym c.is_attached.ensures ∙ c.if-is_attached.false)
