use Rattle.std.proofs.Common.{◌≡◌, ◌+◌, ◌∙◌, sym, ap, subst, List, take, is_lt, arith}
use Rattle.std.specs.List.{All, Contains}
use Rattle.std.proofs.lemmas.List.{take_all}
use Rattle.std.proofs.lemmas.List.Elements.{Contains-get_or}
use Rattle.kl_value.specs.declared.Value.{Value}
use Rattle.kl_value.specs.Order.{compare}
use Rattle.kl_prim.proofs.CollectionLemmas.{Low, low_takes, low_keeps}
use Rattle.kl_prim.proofs.collections.least_in.Goals as goal
use Rattle.kl_prim.proofs.collections.least_in.Goals.{then-is_lt, else-is_lt}

pub loop-item-preserved : goal.loop-item-preserved
loop-item-preserved c =
    let vs : List Value = c.args.items.now in
    let item : Value = c.item-item.result in
    let i = c.loop-item.item-index in
    let kept = c.loop-item.invariant in
    let answer : is_lt (compare item c.loop-item.least.now) ≡ c.is_lt.result = ap is_lt (sym c.cmp.ensures) ∙ sym c.is_lt.ensures in
    elim c.if-is_lt.branch [
      | then-is_lt w ↦ (let now : item ≡ c.if-is_lt.least.now = sym (ap (λ r. r.now) w.least-is) in
          record {
            there = subst (Contains vs) (sym c.item-item.is ∙ now) (Contains-get_or vs i item c.loop-item-test.true);
            least = subst (λ v. All (Low v) (take (i + 1) vs)) now
                (low_takes vs i item c.loop-item.least.now c.loop-item-test.true c.item-item.is (answer ∙ w.if-is_lt.true) kept.least);
          })
      | else-is_lt w ↦ (let now : c.loop-item.least.now ≡ c.if-is_lt.least.now = sym (ap (λ r. r.now) w.least-is) in
          record {
            there = subst (Contains vs) now kept.there;
            least = subst (λ v. All (Low v) (take (i + 1) vs)) now
                (low_keeps vs i item c.loop-item.least.now c.loop-item-test.true c.item-item.is (answer ∙ w.if-is_lt.false) kept.least);
          })
    ]

pub returns : goal.returns
returns c =
    let vs : List Value = c.args.items.now in
    let all : take c.loop-item.item-index vs ≡ vs = take_all c.loop-item.item-index vs (omega arith) in
    (c.loop-item.invariant.there, subst (All (Low c.loop-item.least.now)) all c.loop-item.invariant.least)
