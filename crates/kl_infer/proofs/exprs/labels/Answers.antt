use Rattle.kl_syntax.specs.declared.tree.Branch.{out-Branch}
use Rattle.kl_infer.proofs.Naming.{labels_start, labels_more, labels_done}
use Rattle.kl_infer.proofs.exprs.labels.Goals as goal

pub branches-init : goal.branches-init
branches-init c = labels_start _ _ _ c.in_ok-all.ensures.items

pub branches-preserved : goal.branches-preserved
branches-preserved c = labels_more (λ b. (out-Branch b).label.text) _ _ _ _ c.branches.i c.index-branches-i.result _ _ c.requires c.branches-test.true c.index-branches-i.is c.index-branches-i.is c.in_ok-dup.ensures c.in_ok-push.ensures.items c.branches.invariant

pub returns : goal.returns
returns c = labels_done (λ b. (out-Branch b).label.text) _ _ _ c.branches.i c.branches-test.false c.branches.invariant
