use Rattle.std.proofs.Common.{map, slice_get, ap, ◌∙◌}
use Rattle.kl_flat.proofs.Picking.{picks_numbers, picks_truths}
use Rattle.kl_flat.proofs.held.Cells.picked.Goals as goal

pub returns-in_ok-truths_at-in-Bool : goal.returns-in_ok-truths_at-in-Bool
returns-in_ok-truths_at-in-Bool c =
    picks_truths c.args.places.now c.args.self.now c.in-Bool.truths c.in_ok-truths_at-in-Bool.field-0 c.in-Bool.is (c.in_ok-truths_at-in-Bool.ensures ∙ ap (λ xs. map (slice_get xs) c.args.places.now) c.as_slice.ensures.value)

pub returns-in_ok-numbers_at-in-Int : goal.returns-in_ok-numbers_at-in-Int
returns-in_ok-numbers_at-in-Int c =
    picks_numbers c.args.places.now c.args.self.now c.in-Int.numbers c.in_ok-numbers_at-in-Int.field-0 c.in-Int.is (c.in_ok-numbers_at-in-Int.ensures ∙ ap (λ xs. map (slice_get xs) c.args.places.now) c.as_slice-in-Int.ensures.value)
