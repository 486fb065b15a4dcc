use Rattle.std.proofs.Common.{[], ◌∷◌}
use Rattle.std.proofs.lemmas.List.Elements.{All-from_recursion}
use Rattle.kl_value.specs.IsCanonical.{IsCanonical}
use Rattle.kl_prim.specs.Table.{Fits, row_at, rows}
use Rattle.calls_values.proofs.primitives.arguments_are_lent.Goals as goal

pub apply-less-requires-clause-fits : goal.apply-less-requires-clause-fits
unfolding Fits row_at rows
apply-less-requires-clause-fits g c = c.int.ensures.form

pub apply-less-requires-clause-canonical : goal.apply-less-requires-clause-canonical
apply-less-requires-clause-canonical g c = All-from_recursion IsCanonical (c.int.result ∷ []) (c.int.ensures.canonical, tt)
