use Rattle.std.proofs.Common.{sym, ap, ◌∙◌, subst}
use Rattle.kl_type.specs.Ground.{IsProper}
use Rattle.kl_type.specs.declared.ground.Ty.TheVariants as ty
use Rattle.kl_value.specs.declared.Kind.TheVariants as kind
use Rattle.kl_flat.proofs.OneColumn.{one_proper}
use Rattle.calls_sources.proofs.tables.counts.Goals as goal

pub returns-clause-proper : goal.returns-clause-proper
returns-clause-proper c =
    subst (λ t. IsProper (ty.Coll kind.Bag t)) (sym (c.in_ok-item.ensures ∙ ap ty.Rec (c.of.ensures ∙ c.in_ok-fields.ensures.items))) (one_proper kind.Bag c.in_ok-label.label)
