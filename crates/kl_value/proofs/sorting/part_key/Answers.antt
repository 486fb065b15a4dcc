use Rattle.std.proofs.Common.{arith}
use Rattle.kl_value.proofs.KeyLemmas.{second_text_room}
use Rattle.kl_value.proofs.sorting.part_key.Goals as goal

pub overflow_add-result-in-Text : goal.overflow_add-result-in-Text
overflow_add-result-in-Text c = omega (arith, c.front.ensures, second_text_room c.slice.result.now)
