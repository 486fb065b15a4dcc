use Rattle.std.proofs.Common.{◌≡◌, map, take}
use Rattle.kl_syntax.specs.declared.tree.Branch.{out-Branch}
use Rattle.kl_scope.specs.Senses.{behind_each}
use Rattle.kl_scope.proofs.findings.Findings.branch_labels.Given as goal

abbrev pub invariant-branches : goal.invariant-branches
invariant-branches l = behind_each l.words.items ≡ map (λ b. (out-Branch b).label) (take l.branch-index l.branches)
