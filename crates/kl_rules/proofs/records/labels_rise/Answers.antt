use Rattle.std.proofs.Common.{sym, ◌∙◌, arith, ◌≡◌, ap, ◌+◌, ◌-◌, ◌&&◌, drop, is_lt}
use Rattle.kl_base.specs.Fields.{labels_of, rises}
use Rattle.kl_base.proofs.FieldsLemmas.{rise_turn, rise_end}
use Rattle.kl_rules.proofs.records.labels_rise.Goals as goal

pub returns-then-not-is_lt : goal.returns-then-not-is_lt
returns-then-not-is_lt c =
    sym (sym c.loop-i.invariant
    ∙ (rise_turn c.args.fields.now c.loop-i.i c.index-fields-i.result c.index-fields-i-in-loop-i.result c.is_lt.result (omega arith) (omega arith)
    (c.is_lt.ensures ∙ ap is_lt c.cmp.ensures)
    ∙ ap (λ b. b && rises (labels_of (drop c.loop-i.i c.args.fields.now))) c.if-not-is_lt.true))

pub loop-i-preserved : goal.loop-i-preserved
loop-i-preserved c =
    let turn = rise_turn c.args.fields.now c.loop-i.i c.index-fields-i.result c.index-fields-i-in-loop-i.result c.is_lt.result (omega arith) (omega arith)
    (c.is_lt.ensures ∙ ap is_lt c.cmp.ensures) in
    let next : (c.loop-i.i + 1) - 1 ≡ c.loop-i.i = omega arith in
    ap (λ k. rises (labels_of (drop k c.args.fields.now))) next
    ∙ (sym (turn ∙ ap (λ b. b && rises (labels_of (drop c.loop-i.i c.args.fields.now))) c.if-not-is_lt.false) ∙ c.loop-i.invariant)

pub returns : goal.returns
returns c = sym (rise_end c.args.fields.now (c.loop-i.i - 1) (omega arith)) ∙ c.loop-i.invariant
