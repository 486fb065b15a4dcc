use Rattle.std.proofs.Common.{◌≡◌, ◌-◌, ◌<◌, ◌^◌, length, get_or, ap, ◌∙◌, arith, rules}
use Rattle.kl_core.specs.Trees.{view, Let}
use Rattle.kl_core.specs.declared.term.Term.{the_lemmas}
use Rattle.kl_core.specs.Positions.{shift_of}
use Rattle.kl_rules.proofs.Lows.{low_raised}
use Rattle.kl_rules.proofs.Rooms.{bound_last, bound_next, bound_all}
use Rattle.kl_rules.proofs.records.bind_fields.Goals as goal

pub loop-i-init : goal.loop-i-init
loop-i-init c = (omega arith, bound_last c.args.fields.now (view c.args.body))

pub shift-requires : goal.shift-requires
shift-requires c =
    let within = c.loop-i.invariant.0 in
    let above = c.loop-i-test.true in
    let place : c.loop-i.i - 1 < length c.args.fields.now = omega (arith, within, above) in
    let few : c.loop-i.i - 1 < 2 ^ 31 = omega (arith, place, c.requires.few) in
    record { fits = low_raised (view (get_or c.args.fields.now (c.loop-i.i - 1) c.index-fields-i.result).1) 0 (c.loop-i.i - 1) few (c.requires.low (c.loop-i.i - 1) c.index-fields-i.result place) }

pub loop-i-preserved : goal.loop-i-preserved
loop-i-preserved c =
    let within = c.loop-i.invariant.0 in
    let above = c.loop-i-test.true in
    let made : view c.in_ok-whole.whole ≡ Let (view c.in_ok-part.part) (view c.loop-i.whole) = search (rules, the_lemmas, c.in_ok-whole.ensures) in
    let part : view c.in_ok-part.part ≡ shift_of (view (get_or c.args.fields.now (c.loop-i.i - 1) c.index-fields-i.result).1) 0 (c.loop-i.i - 1) = ap view c.in_ok-part.ensures ∙ c.in_ok-shift.ensures.shifted in
    (omega (arith, within), bound_next c.args.fields.now c.loop-i.i c.index-fields-i.result (view c.args.body) c.in_ok-part.part c.loop-i.whole c.in_ok-whole.whole above within part c.loop-i.invariant.1 made)

pub returns : goal.returns
returns c = bound_all c.args.fields.now c.loop-i.i (view c.args.body) _ c.loop-i-test.false c.loop-i.invariant.1
