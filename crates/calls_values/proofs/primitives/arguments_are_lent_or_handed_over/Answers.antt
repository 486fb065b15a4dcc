use Rattle.std.proofs.Common.{[], ◌∷◌}
use Rattle.std.proofs.lemmas.List.Elements.{All-from_recursion}
use Rattle.kl_value.specs.IsCanonical.{IsCanonical}
use Rattle.kl_prim.specs.Table.{Fits, row_at, rows}
use Rattle.calls_values.proofs.primitives.arguments_are_lent_or_handed_over.Goals as goal

pub apply_args-sum-requires-clause-fits : goal.apply_args-sum-requires-clause-fits
unfolding Fits row_at rows
apply_args-sum-requires-clause-fits g c = (c.int-two.ensures.form, c.int.ensures.form)

pub apply_args-sum-requires-clause-canonical : goal.apply_args-sum-requires-clause-canonical
apply_args-sum-requires-clause-canonical g c =
    All-from_recursion IsCanonical (c.int-two.result ∷ c.int.result ∷ []) (c.int-two.ensures.canonical, (c.int.ensures.canonical, tt))
