use Rattle.kl_rows.proofs.Marking.{found_solved}
use Rattle.kl_rows.proofs.finite.solvable.Goals as goal

pub returns : goal.returns
returns c = found_solved c.args.cells.now (λ v. v.items) c.in_ok-found.found _ c.requires c.in_ok-found.ensures c.is_some.ensures
