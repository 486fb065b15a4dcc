use Rattle.std.proofs.Common.{sym, ap, ◌∙◌, subst}
use Rattle.kl_type.specs.Ground.{IsProper, ground_of}
use Rattle.kl_type.specs.declared.ground.Ty.TheVariants as ty
use Rattle.kl_value.specs.declared.Kind.TheVariants as kinds
use Rattle.measure.proofs.Scanning.{sets_ground, sets_proper}
use Rattle.measure.proofs.scans.lists_of_sets.Goals as goal

pub returns-clause-ground : goal.returns-clause-ground
returns-clause-ground c = ap (λ t. ground_of (ty.Coll kinds.List t)) (c.in_ok-set.ensures ∙ ap (ty.Coll kinds.Set) c.in_ok-text.ensures) ∙ sets_ground

pub returns-clause-proper : goal.returns-clause-proper
returns-clause-proper c = subst (λ t. IsProper (ty.Coll kinds.List t)) (sym (c.in_ok-set.ensures ∙ ap (ty.Coll kinds.Set) c.in_ok-text.ensures)) sets_proper
