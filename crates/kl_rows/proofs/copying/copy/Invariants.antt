use Rattle.kl_rows.specs.Copying.{Copied}
use Rattle.kl_rows.proofs.Copies.{IsDone}
use Rattle.kl_rows.proofs.copying.copy.Given as goal

abbrev pub invariant-order : goal.invariant-order
invariant-order l = Copied (IsDone l.kept l.order l.at-index) l.source l.fn.target.items l.target.items l.numbers.items
