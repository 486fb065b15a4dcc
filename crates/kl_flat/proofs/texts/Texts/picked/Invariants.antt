use Rattle.kl_flat.specs.Picking.{Picks}
use Rattle.kl_flat.specs.declared.held.Cells.TheVariants as cells
use Rattle.kl_flat.proofs.texts.Texts.picked.Given as goal

abbrev pub invariant-loop-place : goal.invariant-loop-place
invariant-loop-place l = Picks l.places l.place-index (cells.Text l.self) (cells.Text l.picked)
