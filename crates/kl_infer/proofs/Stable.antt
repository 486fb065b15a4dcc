-- A stable sort by label leaves fields in their one rising order.
use Rattle.std.proofs.Common.{◌≡◌, ℕ, Bool, List, is_lt}
use Rattle.std.specs.Cmp.{IsTotalOrder, IsStrictWeakOrder}
use Rattle.std.specs.List.Sorted.{IsSortedBy, IsStableBy}
use Rattle.std.proofs.lemmas.Cmp.{on_total, nat_list_cmp_total}
use Rattle.std.proofs.lemmas.List.MinMax.{ranks_by}
use Rattle.kl_base.specs.Fields.{bytes_cmp}
use Rattle.kl_base.specs.Sorted.{sorted}
use Rattle.kl_base.proofs.StableSorts as sorts
use Rattle.kl_rows.specs.Lists.{Fields}
use Rattle.kl_infer.specs.Printed.{by_label}

abbrev Field : Type 0
Field = List ℕ × ℕ

total : IsTotalOrder (by_label {X = ℕ})
total = on_total (λ (f : Field). f.0) nat_list_cmp_total

abbrev pub below : Field → Field → Bool
below f g = is_lt (bytes_cmp f.0 g.0)

pub below_ranks : IsStrictWeakOrder below
below_ranks = ranks_by nat_list_cmp_total (λ (f : Field). f.0)

-- what a stable sort by label leaves
pub stable_is : (fs gs : Fields) → IsSortedBy below gs → IsStableBy below fs gs → gs ≡ sorted by_label fs
stable_is = sorts.stable_is by_label total
