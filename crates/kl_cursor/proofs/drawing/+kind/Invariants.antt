use Rattle.std.proofs.Common.{◌≡◌, map, drop}
use Rattle.kl_plan.specs.Kinds.{kind_of_branches}
use Rattle.kl_plan.specs.Nodes.{branches_of, no_branches, view_branch}
use Rattle.kl_cursor.proofs.drawing.+kind.Given as goal

abbrev pub invariant-kind_of_branches-branches : goal.invariant-kind_of_branches-branches
invariant-kind_of_branches-branches l = kind_of_branches (branches_of (map view_branch l.branches) no_branches) ≡ kind_of_branches (branches_of (map view_branch (drop l.branch-index l.branches)) no_branches)
