use Rattle.std.proofs.Common.{◌≡◌, ℕ, ◌+◌, drop, List, if◌then◌else◌, Option, Some, None, ap, sym, ◌∙◌}
use Rattle.std.specs.Option.{MatchOption}
use Rattle.kl_outside.specs.Changes.{bytes_by, change_bytes}
use Rattle.kl_outside.proofs.Places.{found_bytes, past_change, past_changes}
use Rattle.kl_outside.proofs.memory.find_change.Goals as goal
use Rattle.kl_outside.proofs.memory.find_change.Goals.{then-has_come, else-has_come}

pub loop-i-preserved : goal.loop-i-preserved
loop-i-preserved c first =
    let changes = c.args.changes.now in
    let path = c.args.path.now in
    let i = c.loop-i.i in
    let before = found_bytes changes c.loop-i.found first in
    let step = past_change changes path i c.index-changes-i.result before c.loop-i-test.true c.index-changes-i.is in
    let there = λ (f : Option (List ℕ)). bytes_by (drop (i + 1) changes) path f in
    c.loop-i.invariant first ∙ (step ∙ elim c.if-has_come.branch [
      | then-has_come w ↦ ap there (ap (λ come. if come then Some (change_bytes changes i) else before) (sym c.has_come.ensures ∙ w.if-has_come.true)
          ∙ sym (ap (λ f. found_bytes changes f first) w.found-is))
      | else-has_come w ↦ ap there (ap (λ come. if come then Some (change_bytes changes i) else before) (sym c.has_come.ensures ∙ w.if-has_come.false)
          ∙ sym (ap (λ f. found_bytes changes f first) w.found-is))
    ])

pub returns : goal.returns
returns c = go c.loop-i.found (λ first. c.loop-i.invariant first ∙ past_changes c.args.changes.now c.args.path.now c.loop-i.i (found_bytes c.args.changes.now c.loop-i.found first) c.loop-i-test.false)
  where
    go : (found : Option ℕ) → ((first : Option (List ℕ)) → bytes_by c.args.changes.now c.args.path.now first ≡ found_bytes c.args.changes.now found first)
        → MatchOption found ((first : Option (List ℕ)) → bytes_by c.args.changes.now c.args.path.now first ≡ first) (λ i. (first : Option (List ℕ)) → bytes_by c.args.changes.now c.args.path.now first ≡ Some (change_bytes c.args.changes.now i))
    go None h = h
    go (Some i) h = h
