-- What is needed of a plan against the outcome of its term.
use Rattle.std.proofs.Common.{◌≡◌, subst}
use Rattle.kl_value.specs.declared.Kind.{Kind}
use Rattle.kl_type.specs.Ground.{Ground, coll}
use Rattle.kl_outcome.specs.Outcome.{Outcome, items_of}
use Rattle.kl_outcome.proofs.OutcomeTypes.{FlowOf}
use Rattle.kl_ship.specs.declared.needs.Need.{Need}
use Rattle.kl_ship.specs.declared.needs.Need.TheVariants as need
use Rattle.kl_ship.specs.Ships.{passed_on}
use Rattle.kl_plan.specs.Alike.{Alike}
use Rattle.kl_plan.specs.Meaning.{Come, worth, drawn_for}
use Rattle.kl_plan.proofs.Comings.{ComesAs, Same, drawn_alike}

abbrev pub Shows : Need → Ground → Outcome → Come → Type 0
Shows (need.Source k) s o c = (j : Kind) (u : Ground) → s ≡ coll j u → Alike k (items_of o) (drawn_for k c) × FlowOf u (drawn_for k c)
Shows need.Whole s o c = Same s o c
Shows need.Items s o c = Same s o c

-- what is needed of branches is never a loop's source
pub passed : (u : Need) (s : Ground) (o : Outcome) (c : Come) → Shows (passed_on u) s o c → Same s o c
passed need.Whole s o c h = h
passed need.Items s o c h = h
passed (need.Source k) s o c h = h

pub lift : (n : Need) (s : Ground) (o : Outcome) (c : Come) → worth c ≡ o → ComesAs s c → Shows n s o c
lift need.Whole s o c e h = (e, h)
lift need.Items s o c e h = (e, h)
lift (need.Source k) s o c e h = λ j u q. let d = drawn_alike k s c h j u q in (subst (λ p. Alike k (items_of p) (drawn_for k c)) e d.0, d.1)
