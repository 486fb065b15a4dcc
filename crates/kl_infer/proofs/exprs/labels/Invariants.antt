use Rattle.std.proofs.Common.{◌≡◌, ◌++◌, drop, map}
use Rattle.kl_syntax.specs.declared.tree.Branch.{out-Branch}
use Rattle.kl_infer.specs.Names.{labelled}
use Rattle.kl_infer.proofs.exprs.labels.Given as goal

abbrev pub invariant-branches : goal.invariant-branches
invariant-branches l = l.all.items ++ labelled (map (λ b. (out-Branch b).label.text) (drop l.i l.branches)) (drop l.i l.types) ≡ labelled (map (λ b. (out-Branch b).label.text) l.branches) l.types
