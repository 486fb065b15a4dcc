use Rattle.std.proofs.Common.{◌≡◌, pos, ◌+ℤ◌, ap, subst, sym, ◌∙◌, List, take, map, fold, get_or, unwrap_or, arith}
use Rattle.std.proofs.lemmas.Int.{ints}
use Rattle.std.proofs.lemmas.List.{take_all}
use Rattle.std.proofs.lemmas.List.Sums.{fold_more}
use Rattle.kl_value.specs.declared.Value.{Value}
use Rattle.kl_prim.specs.Meaning.{AnswersMeaning, with_some, exact, total}
use Rattle.kl_value.specs.Views.{as_int}
use Rattle.kl_prim.proofs.ItemLemmas.{int_at, all_some_is, some_from_ok, total_is}
use Rattle.kl_prim.proofs.numbers.sum.Goals as goal

pub loop-item-preserved : goal.loop-item-preserved
loop-item-preserved c =
    let xs : List Value = c.args.items.now in
    let item : int_at c.item-item.result ≡ c.int_of.result = ap (λ o. unwrap_or o (pos 0)) c.int_of.ensures in
    let more = fold_more (λ t v. t +ℤ int_at v) (pos 0) xs c.loop-item.item-index c.item-item.result c.loop-item-test.true in
    let read : int_at (get_or xs c.loop-item.item-index c.item-item.result) ≡ c.int_of.result = ap int_at (sym c.item-item.is) ∙ item in
    record {
      so_far = omega (arith, ints, more, read, c.loop-item.invariant.so_far);
      low = omega (arith, ints);
      high = omega (arith, ints);
    }

pub returns : goal.returns
returns c =
    let xs : List Value = c.args.items.now in
    let read = all_some_is as_int (pos 0) xs c.requires in
    let all : take c.loop-item.item-index xs ≡ xs = take_all c.loop-item.item-index xs (omega arith) in
    let sum : total (map int_at xs) ≡ c.loop-item.total =
    total_is xs ∙ (ap (fold (λ t v. t +ℤ int_at v) (pos 0)) (sym all) ∙ (sym c.loop-item.invariant.so_far ∙ c.loop-item.total-is)) in
    let fits = some_from_ok _ _ _ _ c.try_from.ensures c.ok.ensures.value in
    subst (λ o. AnswersMeaning (with_some o (λ ns. exact (total ns))) c.checked.result) (sym read)
    (subst (λ z. AnswersMeaning (exact z) c.checked.result) (sym (sum ∙ sym c.loop-item.total-is)) (c.checked.ensures _ fits))
