use Rattle.std.proofs.Common.{◌≡◌, ◌+◌, ◌++◌, ◌∷◌, [], rules, arith, ap, ◌∙◌}
use Rattle.std.proofs.lemmas.Grind.{common_steps}
use Rattle.kl_plan.specs.Nodes.{view}
use Rattle.kl_joins.proofs.Positioned.{frees_above, frees_push, frees_pass}
use Rattle.kl_joins.proofs.frees.frees_of.Goals as goal
use Rattle.kl_joins.proofs.frees.frees_of.Goals.{then-occurs+in_ok-push, else-occurs}

pub loop-at-preserved : goal.loop-at-preserved
loop-at-preserved c = elim c.if-occurs.branch [
  | then-occurs+in_ok-push w ↦
      let pushed : c.if-occurs.frees.items ≡ c.loop-at.frees.items ++ c.loop-at.at ∷ [] = first_of
      (search rules, cc, grind (arith, common_steps)) in
      frees_push c.loop-at.at c.args.depth (view c.args.plan.now) c.occurs.result c.loop-at.frees.items c.if-occurs.frees.items _
      c.loop-at-test.true c.occurs.ensures w.if-occurs.true pushed c.loop-at.invariant
  | else-occurs w ↦
      let same : c.if-occurs.frees.items ≡ c.loop-at.frees.items = first_of (cc, search rules) in
      ap (λ fs. fs ++ frees_above (c.loop-at.at + 1) c.args.depth (view c.args.plan.now)) same
      ∙ frees_pass c.loop-at.at c.args.depth (view c.args.plan.now) c.occurs.result c.loop-at.frees.items _ c.loop-at-test.true
      c.occurs.ensures w.if-occurs.false c.loop-at.invariant
]
