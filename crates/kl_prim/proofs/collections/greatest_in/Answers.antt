use Rattle.std.proofs.Common.{◌≡◌, ◌+◌, ◌∙◌, sym, ap, subst, List, take, is_gt, arith}
use Rattle.std.specs.List.{All, Contains}
use Rattle.std.proofs.lemmas.List.{take_all}
use Rattle.std.proofs.lemmas.List.Elements.{Contains-get_or}
use Rattle.kl_value.specs.declared.Value.{Value}
use Rattle.kl_value.specs.Order.{compare}
use Rattle.kl_prim.proofs.CollectionLemmas.{High, high_takes, high_keeps}
use Rattle.kl_prim.proofs.collections.greatest_in.Goals as goal
use Rattle.kl_prim.proofs.collections.greatest_in.Goals.{then-is_gt, else-is_gt}

pub loop-item-preserved : goal.loop-item-preserved
loop-item-preserved c =
    let vs : List Value = c.args.items.now in
    let item : Value = c.item-item.result in
    let i = c.loop-item.item-index in
    let kept = c.loop-item.invariant in
    let answer : is_gt (compare item c.loop-item.greatest.now) ≡ c.is_gt.result = ap is_gt (sym c.cmp.ensures) ∙ sym c.is_gt.ensures in
    elim c.if-is_gt.branch [
      | then-is_gt w ↦ (let now : item ≡ c.if-is_gt.greatest.now = sym (ap (λ r. r.now) w.greatest-is) in
          record {
            there = subst (Contains vs) (sym c.item-item.is ∙ now) (Contains-get_or vs i item c.loop-item-test.true);
            greatest = subst (λ v. All (High v) (take (i + 1) vs)) now
                (high_takes vs i item c.loop-item.greatest.now c.loop-item-test.true c.item-item.is (answer ∙ w.if-is_gt.true) kept.greatest);
          })
      | else-is_gt w ↦ (let now : c.loop-item.greatest.now ≡ c.if-is_gt.greatest.now = sym (ap (λ r. r.now) w.greatest-is) in
          record {
            there = subst (Contains vs) now kept.there;
            greatest = subst (λ v. All (High v) (take (i + 1) vs)) now
                (high_keeps vs i item c.loop-item.greatest.now c.loop-item-test.true c.item-item.is (answer ∙ w.if-is_gt.false) kept.greatest);
          })
    ]

pub returns : goal.returns
returns c =
    let vs : List Value = c.args.items.now in
    let all : take c.loop-item.item-index vs ≡ vs = take_all c.loop-item.item-index vs (omega arith) in
    (c.loop-item.invariant.there, subst (All (High c.loop-item.greatest.now)) all c.loop-item.invariant.greatest)
