-- How a plan of a term is seen.
use Rattle.std.proofs.Common.{◌≡◌, rules}
use Rattle.kl_core.specs.declared.term.Term.{Term}
use Rattle.kl_core.specs.Trees.{view as term_view}
use Rattle.kl_plan.specs.declared.plan.Plan.{the_lemmas}
use Rattle.kl_plan.specs.declared.plan.Plan.TheVariants as plan
use Rattle.kl_plan.specs.Nodes as node
use Rattle.kl_plan.specs.Nodes.{view}

pub view_Plain : (t : Term) → view (plan.Plain t) ≡ node.Plain (term_view t)
view_Plain t = search (rules, the_lemmas)
