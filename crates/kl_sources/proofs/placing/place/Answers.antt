use Rattle.std.proofs.Common.{◌<◌, ◌^◌, arith}
use Rattle.kl_sources.proofs.PlacingLemmas.{found_within, place_fits, suits_not, suits_it, is_fit}
use Rattle.kl_sources.proofs.placing.place.Goals as goal

pub overflow_cast-result : goal.overflow_cast-result
overflow_cast-result g c = let lt : c.in-Some.driver < 2 ^ 32 = place_fits _ _ _ c.in-Some.driver c.requires c.in-Some.ensures in omega arith

pub returns-then-not-suits_boxed-clause-answer : goal.returns-then-not-suits_boxed-clause-answer
returns-then-not-suits_boxed-clause-answer g c =
    suits_not _ _ c.args.entry.now c.in-Some.driver c.index.result.now c.in-Some.ensures (found_within _ _ _ c.in-Some.driver c.in-Some.ensures) c.index.ensures
    c.suits_boxed.result c.suits_boxed.ensures.gives c.if-not-suits_boxed.true c.in_ok-dup.field-0 c.in_ok-dup.ensures

pub returns-clause-answer : goal.returns-clause-answer
returns-clause-answer g c =
    suits_it _ _ c.args.entry.now c.in-Some.driver c.index.result.now c.in-Some.ensures (found_within _ _ _ c.in-Some.driver c.in-Some.ensures) c.index.ensures
    c.suits_boxed.result c.suits_boxed.ensures.gives c.if-not-suits_boxed.false c.in_ok-dup-2.field-0 c.in_ok-dup-3.field-0 c.in_ok-dup-4.field-0 c.in_ok-dup-2.ensures c.in_ok-dup-3.ensures c.in_ok-dup-4.ensures

pub returns-clause-fit : goal.returns-clause-fit
returns-clause-fit g c =
    is_fit _ _ c.args.entry.now c.in-Some.driver c.index.result.now c.in-Some.ensures (found_within _ _ _ c.in-Some.driver c.in-Some.ensures) c.index.ensures
    c.suits_boxed.result c.suits_boxed.ensures.only c.if-not-suits_boxed.false c.in_ok-dup-2.field-0 c.in_ok-dup-3.field-0 c.in_ok-dup-4.field-0 c.in_ok-dup-3.ensures
