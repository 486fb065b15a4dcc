-- Where the table of kinds says so, items may be drawn as they come: the source's canonical form changes nothing.
use Rattle.std.proofs.Common.{◌≡◌, ◌≢◌, true, List, refl, sym, ap, ◌∙◌}
use Rattle.std.specs.List.{AllByRecursion}
use Rattle.kl_base.specs.Sorted.{sorted}
use Rattle.kl_base.proofs.SortedLemmas.{all-sorted}
use Rattle.kl_value.specs.Order.{compare}
use Rattle.kl_type.specs.Ground.{Ground}
use Rattle.kl_outcome.specs.Typed.{Inhabits}
use Rattle.kl_outcome.proofs.OutcomeTypes.{FlowOf}
use Rattle.kl_core.specs.Counts.{fits_in}
use Rattle.kl_value.proofs.OrderLemmas.{compare_total}
use Rattle.kl_value.specs.declared.Kind.{Kind}
use Rattle.kl_value.specs.declared.Kind.TheVariants as kind
use Rattle.kl_value.specs.declared.Value.{Value}
use Rattle.kl_outcome.specs.Outcome.{End, fine, overflow, broken, Flow, flow, items_in, end_in, drawn, items_of, kept, gathered, collected}
use Rattle.kl_outcome.proofs.Flows.{flow_is}
use Rattle.kl_outcome.proofs.Drawing.{members, items_canonical, sound_of, items_all, sorted_order, dedup_order, drawn_over}

module _ (t u : Ground) (go : Value → Flow) (good : (v : Value) → Inhabits u v → FlowOf t (go v)) where
  -- items may be drawn as they come
  members_order : (j k : Kind) (vs : List Value) → fits_in j k ≡ true → AllByRecursion (Inhabits u) vs → collected k (drawn (flow (members j vs) fine) go) ≡ collected k (drawn (flow vs fine) go)
  members_order kind.Set kind.Set vs e all = dedup_order t u go good (sorted compare vs) (all-sorted compare compare_total (Inhabits u) vs all) ∙ sorted_order kind.Set t u go good (λ q. cc) vs all
  members_order kind.Set kind.Bag vs e all = absurd cc
  members_order kind.Set kind.List vs e all = absurd cc
  members_order kind.Bag kind.Set vs e all = sorted_order kind.Set t u go good (λ q. cc) vs all
  members_order kind.Bag kind.Bag vs e all = sorted_order kind.Bag t u go good (λ q. cc) vs all
  members_order kind.Bag kind.List vs e all = absurd cc
  members_order kind.List k vs e all = refl

  over_order : (j k : Kind) (vs : List Value) → fits_in j k ≡ true → AllByRecursion (Inhabits u) vs → collected k (drawn (flow (kept j vs) overflow) go) ≡ collected k (drawn (flow vs overflow) go)
  over_order kind.List k vs e all = refl
  over_order kind.Set kind.Set vs e all = sym (ap (λ d. gathered kind.Set d (items_in (drawn (flow vs overflow) go))) (drawn_over t u go good vs all))
  over_order kind.Set kind.Bag vs e all = absurd cc
  over_order kind.Set kind.List vs e all = absurd cc
  over_order kind.Bag kind.Set vs e all = sym (ap (λ d. gathered kind.Set d (items_in (drawn (flow vs overflow) go))) (drawn_over t u go good vs all))
  over_order kind.Bag kind.Bag vs e all = sym (ap (λ d. gathered kind.Bag d (items_in (drawn (flow vs overflow) go))) (drawn_over t u go good vs all))
  over_order kind.Bag kind.List vs e all = absurd cc

  pub drawn_as_they_come : (j k : Kind) (f : Flow) → fits_in j k ≡ true → FlowOf u f → collected k (drawn (items_of (collected j f)) go) ≡ collected k (drawn f go)
  drawn_as_they_come j k f e h =
      by_end (end_in f) (items_in f) (sound_of u f h) (items_all u f h) ∙ sym (ap (λ g. collected k (drawn g go)) (flow_is f))
    where
      by_end : (d : End) (vs : List Value) → d ≢ broken → AllByRecursion (Inhabits u) vs → collected k (drawn (items_of (gathered j d vs)) go) ≡ collected k (drawn (flow vs d) go)
      by_end fine vs a all = ap (λ g. collected k (drawn g go)) (items_canonical j vs) ∙ members_order j k vs e all
      by_end overflow vs a all = over_order j k vs e all
      by_end broken vs a all = absurd (a refl)
