use Rattle.std.proofs.Common.{sym, ap, ◌∙◌}
use Rattle.kl_value.specs.Order.{compare}
use Rattle.kl_value.specs.declared.Value.TheVariants as value
use Rattle.kl_flat.specs.Held.{value_at}
use Rattle.kl_flat.proofs.Gaining.{number_at, truth_at}
use Rattle.kl_flat.proofs.Ordering.{bools, cells_above, cells_below, int_bool, int_text, ints, texts}
use Rattle.kl_flat.proofs.held.Cells.order_in.Goals as goal

pub returns-in-Bool-other : goal.returns-in-Bool-other
returns-in-Bool-other c =
    let left = truth_at c.args.self.now c.args.at c.requires.left c.in-Bool.truths c.index.result.now c.in-Bool.is c.index.ensures in
    let right = truth_at c.args.other.now c.args.place c.requires.right c.in-Bool-other.others c.index-in-Bool-other.result.now c.in-Bool-other.is c.index-in-Bool-other.ensures in
    c.cmp.ensures ∙ sym ((λ i. compare (left i) (right i)) ∙ bools c.index.result.now c.index-in-Bool-other.result.now)

pub returns-in-Int-other : goal.returns-in-Int-other
returns-in-Int-other c = sym (ap (λ s. compare (value_at s c.args.at) (value_at c.args.other.now c.args.place)) c.in-Bool.is ∙ cells_above _ c.args.other.now c.args.place c.in-Int-other.is)

pub returns-in-Int-other-3 : goal.returns-in-Int-other-3
returns-in-Int-other-3 c = sym (ap (λ s. compare (value_at s c.args.at) (value_at c.args.other.now c.args.place)) c.in-Bool.is ∙ cells_above _ c.args.other.now c.args.place c.in-Int-other.is)

pub returns-in-Bool-other-2 : goal.returns-in-Bool-other-2
returns-in-Bool-other-2 c = sym ((λ i. compare (value_at (c.in-Int.is i) c.args.at) (value_at (c.in-Bool-other-2.is i) c.args.place)) ∙ int_bool _ _)

pub returns-in-Int-other-2 : goal.returns-in-Int-other-2
returns-in-Int-other-2 c =
    let left = number_at c.args.self.now c.args.at c.requires.left c.in-Int.numbers c.index-in-Int-other-2.result.now c.in-Int.is c.index-in-Int-other-2.ensures in
    let right = number_at c.args.other.now c.args.place c.requires.right c.in-Int-other-2.others c.index-in-Int-other-2-2.result.now c.in-Int-other-2.is c.index-in-Int-other-2-2.ensures in
    c.cmp-in-Int-other-2.ensures ∙ sym ((λ i. compare (left i) (right i)) ∙ ints c.index-in-Int-other-2.result.now c.index-in-Int-other-2-2.result.now)

pub returns-in-Text-other : goal.returns-in-Text-other
returns-in-Text-other c = sym ((λ i. compare (value_at (c.in-Int.is i) c.args.at) (value_at (c.in-Text-other.is i) c.args.place)) ∙ int_text _ _)

pub returns-in-Text-other-2 : goal.returns-in-Text-other-2
returns-in-Text-other-2 c =
    let left = ap (λ s. value_at s c.args.at) c.in-Text.is ∙ ap value.Text (sym c.get.ensures) in
    let right = ap (λ s. value_at s c.args.place) c.in-Text-other-2.is ∙ ap value.Text (sym c.get-in-Text-other-2.ensures) in
    c.cmp-in-Text-other-2.ensures ∙ sym ((λ i. compare (left i) (right i)) ∙ texts c.get.result.now c.get-in-Text-other-2.result.now)

pub returns-in-Bool-other-3 : goal.returns-in-Bool-other-3
returns-in-Bool-other-3 c = sym (ap (λ s. compare (value_at s c.args.at) (value_at c.args.other.now c.args.place)) c.in-Text.is ∙ cells_below _ c.args.other.now c.args.place c.in-Bool-other-3.is)

pub returns-in-Bool-other-3-2 : goal.returns-in-Bool-other-3-2
returns-in-Bool-other-3-2 c = sym (ap (λ s. compare (value_at s c.args.at) (value_at c.args.other.now c.args.place)) c.in-Text.is ∙ cells_below _ c.args.other.now c.args.place c.in-Bool-other-3.is)
