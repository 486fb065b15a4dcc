use Rattle.std.proofs.Common.{◌≡◌, ◌++◌, drop}
use Rattle.kl_tools.specs.Explained.{labels_text}
use Rattle.kl_tools.proofs.explaining.put_labels.Given as goal

abbrev pub invariant-labels : goal.invariant-labels
invariant-labels l = l.out.items ++ labels_text (drop l.label-index l.labels) ≡ l.fn.out.items ++ labels_text l.labels
