use Rattle.kl_scope.proofs.SizeForms.{labels_more, labels_none}
use Rattle.kl_scope.proofs.counting.projected.Goals as goal
use Rattle.kl_base.proofs.Places.{drop_at}

pub labels-preserved : goal.labels-preserved
labels-preserved c =
    labels_more c.args.labels.now c.labels._label-index c._label-item.result c.node-size.result c.labels.size _ (drop_at c.args.labels.now c.labels._label-index c._label-item.result c.labels-test.true c._label-item.is) c.node-size.ensures c.labels.invariant

pub returns : goal.returns
returns c = labels_none c.args.labels.now c.labels._label-index c.kept.result c.labels.size _ c.labels-test.false c.kept.ensures c.labels.invariant
