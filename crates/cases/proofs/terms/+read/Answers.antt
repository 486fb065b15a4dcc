use Rattle.std.proofs.Common.{All, sym, subst}
use Rattle.kl_core.specs.Trees.{view}
use Rattle.kl_core.specs.Leaves.{Leaves}
use Rattle.kl_core.specs.Positions.{AnySource}
use Rattle.kl_rules.specs.Rewriting.{IsLowPosition}
use Rattle.cases.proofs.terms.+read.Goals as goal

pub read_list-returns : goal.read_list-returns
read_list-returns t c = subst (λ ts. All (λ t. Leaves IsLowPosition AnySource (view t)) ts) (sym c.of.ensures) c.loop-item.invariant

pub read_fields-returns : goal.read_fields-returns
read_fields-returns t c = subst (λ fs. All (λ f. Leaves IsLowPosition AnySource (view f.1)) fs) (sym c.of.ensures) c.loop-field.invariant
