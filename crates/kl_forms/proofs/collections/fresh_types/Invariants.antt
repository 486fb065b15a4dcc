use Rattle.kl_forms.specs.Checks.{OpensMany}
use Rattle.kl_forms.proofs.collections.fresh_types.Given as goal

abbrev pub invariant-loop-i : goal.invariant-loop-i
invariant-loop-i l = OpensMany l.fn.u.cells.items l.u.cells.items l.items.items l.i
