use Rattle.std.proofs.Common.{subst, sym}
use Rattle.kl_why.proofs.record.unfit_of.Goals as goal
use Rattle.kl_why.specs.Sources.{IsBadAlone}

pub returns-in_ok-what_of-in-Some : goal.returns-in_ok-what_of-in-Some
returns-in_ok-what_of-in-Some c = (
  c.requires,
  (
    c.in-Some.column.now.1,
    subst (λ x. IsBadAlone c.args.bytes.now c.args.number (x, c.in-Some.column.now.1)) (sym c.in_ok-dup-in-Some.ensures) (rw c.in-Some.is at c.in_ok-column.ensures),
  ),
)
