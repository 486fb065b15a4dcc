use Rattle.std.proofs.Common.{◌≡◌, ◌+◌, ◌++◌, ◌∷◌, [], drop, sym, ap, subst, ◌∙◌, arith, IfOk}
use Rattle.std.proofs.lemmas.List.{drop_more, drop_all}
use Rattle.json.specs.Value.{value_view, items_view, members_view}
use Rattle.json.proofs.Trees.{view-Object}
use Rattle.kl_json.specs.Meaning.{each, then, record_of, meaning, items_meaning, members_meaning, label_meaning}
use Rattle.kl_json.proofs.Meanings.{begun, item_more, item_refused, items_ended, ItemsSo, member_more, label_refused, member_refused, members_ended, MembersSo}
use Rattle.kl_json.proofs.meaning.+value_of.Goals as goal

pub items_of-loop-item-init : goal.items_of-loop-item-init
items_of-loop-item-init t c =
    let all = items_meaning c.args.choices.now (items_view c.args.items.now) in
    begun all ∙ ap (λ done. each (λ vs. done ++ vs) all) (sym c.in_ok-values.ensures.items)

pub items_of-returns-in-Err : goal.items_of-returns-in-Err
items_of-returns-in-Err t c =
    let i = c.loop-item.item-index in
    let xs = c.args.items.now in
    let x = c.item-item.result in
    let rest = drop (i + 1) xs in
    let here : drop i xs ≡ x ∷ rest = drop_more xs i x (omega arith) ∙ ap (λ y. y ∷ rest) (sym c.item-item.is) in
    item_refused c.args.choices.now xs rest (drop i xs) x c.in-Err.refusal c.loop-item.values.items here (sym c.in-Err.is ∙ c.in_ok-value.ensures) c.loop-item.invariant

pub items_of-loop-item-preserved : goal.items_of-loop-item-preserved
items_of-loop-item-preserved t c =
    let i = c.loop-item.item-index in
    let xs = c.args.items.now in
    let x = c.item-item.result in
    let rest = drop (i + 1) xs in
    let here : drop i xs ≡ x ∷ rest = drop_more xs i x (omega arith) ∙ ap (λ y. y ∷ rest) (sym c.item-item.is) in
    let more = item_more c.args.choices.now xs rest (drop i xs) x c.in-Ok.value c.loop-item.values.items here (sym c.in-Ok.is ∙ c.in_ok-value.ensures) c.loop-item.invariant in
    subst (λ done. ItemsSo c.args.choices.now xs done rest) (sym c.in_ok-push-in-Ok.ensures.items) more

pub items_of-returns : goal.items_of-returns
items_of-returns t c =
    let i = c.loop-item.item-index in
    let xs = c.args.items.now in
    let none : drop i xs ≡ [] = drop_all i xs (omega arith) in
    items_ended c.args.choices.now xs (drop i xs) c.loop-item.values.items none c.loop-item.invariant

pub members_of-loop-member-init : goal.members_of-loop-member-init
members_of-loop-member-init t c =
    let all = members_meaning c.args.choices.now (members_view c.args.members.now) in
    begun all ∙ ap (λ done. each (λ fs. done ++ fs) all) (sym c.in_ok-pairs.ensures.items)

pub members_of-returns-in-Err : goal.members_of-returns-in-Err
members_of-returns-in-Err t c =
    let i = c.loop-member.member-index in
    let xs = c.args.members.now in
    let x = c.member-item.result in
    let rest = drop (i + 1) xs in
    let here : drop i xs ≡ x ∷ rest = drop_more xs i x (omega arith) ∙ ap (λ y. y ∷ rest) (sym c.member-item.is) in
    let named = sym c.in-Err.is ∙ c.in_ok-label.ensures ∙ ap (label_meaning c.args.choices.now) c.as_bytes.ensures.value in
    label_refused c.args.choices.now xs rest (drop i xs) x c.in-Err.refusal c.loop-member.pairs.items here named c.loop-member.invariant

pub members_of-returns-in-Err-2 : goal.members_of-returns-in-Err-2
members_of-returns-in-Err-2 t c =
    let i = c.loop-member.member-index in
    let xs = c.args.members.now in
    let x = c.member-item.result in
    let rest = drop (i + 1) xs in
    let here : drop i xs ≡ x ∷ rest = drop_more xs i x (omega arith) ∙ ap (λ y. y ∷ rest) (sym c.member-item.is) in
    let named = sym c.in-Ok.is ∙ c.in_ok-label.ensures ∙ ap (label_meaning c.args.choices.now) c.as_bytes.ensures.value in
    member_refused c.args.choices.now xs rest (drop i xs) x c.in-Ok.label c.in-Err-2.refusal c.loop-member.pairs.items here named (sym c.in-Err-2.is ∙ c.in_ok-value.ensures) c.loop-member.invariant

pub members_of-loop-member-preserved : goal.members_of-loop-member-preserved
members_of-loop-member-preserved t c =
    let i = c.loop-member.member-index in
    let xs = c.args.members.now in
    let x = c.member-item.result in
    let rest = drop (i + 1) xs in
    let here : drop i xs ≡ x ∷ rest = drop_more xs i x (omega arith) ∙ ap (λ y. y ∷ rest) (sym c.member-item.is) in
    let named = sym c.in-Ok.is ∙ c.in_ok-label.ensures ∙ ap (label_meaning c.args.choices.now) c.as_bytes.ensures.value in
    let more = member_more c.args.choices.now xs rest (drop i xs) x c.in-Ok.label c.in-Ok-2.value c.loop-member.pairs.items here named (sym c.in-Ok-2.is ∙ c.in_ok-value.ensures) c.loop-member.invariant in
    subst (λ done. MembersSo c.args.choices.now xs done rest) (sym c.in_ok-push-in-Ok-2.ensures.items) more

pub members_of-returns : goal.members_of-returns
members_of-returns t c =
    let i = c.loop-member.member-index in
    let xs = c.args.members.now in
    let none : drop i xs ≡ [] = drop_all i xs (omega arith) in
    members_ended c.args.choices.now xs (drop i xs) c.loop-member.pairs.items none c.loop-member.invariant

pub value_of-returns-in-Ok-2 : goal.value_of-returns-in-Ok-2
value_of-returns-in-Ok-2 t c =
    let ch = c.args.choices.now in
    let pairs = ap (each (λ v. v.items)) (sym c.in-Ok-2.is) ∙ c.in_ok-pairs-in-Object.ensures ∙ ap (λ ms. members_meaning ch (members_view ms)) c.deref-in-Object.ensures.value in
    let whole = ap (λ j. meaning ch (value_view j)) c.in-Object.is ∙ ap (meaning ch) (view-Object c.in-Object.members) in
    subst (λ m. IfOk c.record.result (λ r. r ≡ m)) (ap (λ r. then r record_of) pairs ∙ sym whole) c.record.ensures
