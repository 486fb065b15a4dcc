use Rattle.std.proofs.Common.{◌<◌, ◌^◌, sym, subst, arith}
use Rattle.kl_value.proofs.KeyLemmas.{text_room, first_room, second_room}
use Rattle.kl_value.proofs.sorting.key.Goals as goal

pub overflow_add-result : goal.overflow_add-result
overflow_add-result c = omega (
  arith,
  subst (λ k. k < 2 ^ 64) (sym c.counted_from_least.ensures) (first_room _),
  subst (λ k. k < 2 ^ 63) (sym c.second_key.ensures) (second_room _),
)

pub overflow_add-result-in-Text : goal.overflow_add-result-in-Text
overflow_add-result-in-Text c = omega (arith, c.front.ensures, text_room c.slice.result.now)
