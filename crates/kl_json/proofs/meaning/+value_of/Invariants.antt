use Rattle.std.proofs.Common.{◌≡◌, ◌++◌, drop}
use Rattle.json.specs.Value.{items_view, members_view}
use Rattle.kl_json.specs.Meaning.{each, items_meaning, members_meaning}
use Rattle.kl_json.proofs.meaning.+value_of.Given as goal

abbrev pub invariant-items_of-loop-item : goal.invariant-items_of-loop-item
invariant-items_of-loop-item l =
    items_meaning l.choices (items_view l.items) ≡ each (λ vs. l.values.items ++ vs) (items_meaning l.choices (items_view (drop l.item-index l.items)))

abbrev pub invariant-members_of-loop-member : goal.invariant-members_of-loop-member
invariant-members_of-loop-member l =
    members_meaning l.choices (members_view l.members)
    ≡ each (λ fs. l.pairs.items ++ fs) (members_meaning l.choices (members_view (drop l.member-index l.members)))
