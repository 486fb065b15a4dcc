use Rattle.std.proofs.Common.{IsSorted, subst}
use Rattle.kl_value.specs.Order.{compare}
use Rattle.kl_value.proofs.CanonLemmas.{sorted_values}
use Rattle.kl_value.proofs.KeyLemmas.{rising_sorted}
use Rattle.kl_value.proofs.sorting.sort.Goals as goal

pub returns-then-rise : goal.returns-then-rise
returns-then-rise c = rising_sorted _ (subst (IsSorted compare) c.deref.ensures.value c.if-rise.ensures)

pub returns : goal.returns
returns c = sorted_values _ _ c.sort_unstable.ensures.permutation c.sort_unstable.ensures.sorted
