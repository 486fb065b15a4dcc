use Rattle.std.proofs.Common.{All}
use Rattle.kl_core.specs.Trees.{view}
use Rattle.kl_core.specs.Leaves.{Leaves}
use Rattle.kl_core.specs.Positions.{AnySource}
use Rattle.kl_rules.specs.Rewriting.{IsLowPosition}
use Rattle.cases.proofs.terms.+read.Given as goal

abbrev pub invariant-read_list-loop-item : goal.invariant-read_list-loop-item
invariant-read_list-loop-item l = All (λ t. Leaves IsLowPosition AnySource (view t)) l.terms.items

abbrev pub invariant-read_fields-loop-field : goal.invariant-read_fields-loop-field
invariant-read_fields-loop-field l = All (λ f. Leaves IsLowPosition AnySource (view f.1)) l.terms.items
