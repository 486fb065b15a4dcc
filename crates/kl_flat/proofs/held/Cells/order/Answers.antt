use Rattle.std.proofs.Common.{sym, ap, ◌∙◌}
use Rattle.kl_value.specs.Order.{compare}
use Rattle.kl_value.specs.declared.Value.TheVariants as value
use Rattle.kl_flat.specs.Held.{value_at}
use Rattle.kl_flat.proofs.Gaining.{number_at, truth_at}
use Rattle.kl_flat.proofs.Ordering.{bool_first, bools, int_bool, int_first, ints, text_above, text_first, texts}
use Rattle.kl_flat.proofs.held.Cells.order.Goals as goal

pub returns-in-Bool-value : goal.returns-in-Bool-value
returns-in-Bool-value c =
    let left = truth_at c.args.self.now c.args.at c.requires c.in-Bool.truths c.index.result.now c.in-Bool.is c.index.ensures in
    c.cmp.ensures ∙ sym ((λ i. compare (left i) (c.in-Bool-value.is i)) ∙ bools c.index.result.now c.in-Bool-value.b)

pub returns-in_default : goal.returns-in_default
returns-in_default c = sym (ap (λ s. compare (value_at s c.args.at) c.args.value.now) c.in-Bool.is ∙ bool_first c.args.value.now c.in_default.not-Bool _)

pub returns-in-Bool-value-2 : goal.returns-in-Bool-value-2
returns-in-Bool-value-2 c = sym ((λ i. compare (value_at (c.in-Int.is i) c.args.at) (c.in-Bool-value-2.is i)) ∙ int_bool _ c.in-Bool-value-2.field-0)

pub returns-in-Int-value : goal.returns-in-Int-value
returns-in-Int-value c =
    let left = number_at c.args.self.now c.args.at c.requires c.in-Int.numbers c.index-in-Int-value.result.now c.in-Int.is c.index-in-Int-value.ensures in
    c.cmp-in-Int-value.ensures ∙ sym ((λ i. compare (left i) (c.in-Int-value.is i)) ∙ ints c.index-in-Int-value.result.now c.in-Int-value.n)

pub returns-in_default-value : goal.returns-in_default-value
returns-in_default-value c = sym (ap (λ s. compare (value_at s c.args.at) c.args.value.now) c.in-Int.is ∙ int_first c.args.value.now c.in_default-value.not-Bool c.in_default-value.not-Int _)

pub returns-in-Text-value : goal.returns-in-Text-value
returns-in-Text-value c =
    let left = ap (λ s. value_at s c.args.at) c.in-Text.is ∙ ap value.Text (sym c.get.ensures) in
    let right = c.in-Text-value.is ∙ ap value.Text (sym c.slice.ensures) in
    c.cmp-in-Text-value.ensures ∙ sym ((λ i. compare (left i) (right i)) ∙ texts c.get.result.now c.slice.result.now)

pub returns-in_default-value-2 : goal.returns-in_default-value-2
returns-in_default-value-2 c =
    sym (ap (λ s. compare (value_at s c.args.at) c.args.value.now) c.in-Text.is ∙ text_first c.args.value.now c.in_default-value-2.not-Bool c.in_default-value-2.not-Int c.in_default-value-2.not-Text _)

pub returns-in-Bool-value-3 : goal.returns-in-Bool-value-3
returns-in-Bool-value-3 c = sym (ap (λ s. compare (value_at s c.args.at) c.args.value.now) c.in-Text.is ∙ text_above _ c.args.value.now c.in-Bool-value-3.is)

pub returns-in-Bool-value-3-2 : goal.returns-in-Bool-value-3-2
returns-in-Bool-value-3-2 c = sym (ap (λ s. compare (value_at s c.args.at) c.args.value.now) c.in-Text.is ∙ text_above _ c.args.value.now c.in-Bool-value-3.is)
