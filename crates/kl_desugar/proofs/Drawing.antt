-- What is drawn of a collection may be collected before: nothing changes.
use Rattle.std.proofs.Common.{◌≡◌, List, [], ◌++◌, refl, ap}
use Rattle.kl_value.specs.Canon.{canonical}
use Rattle.kl_value.specs.declared.Kind.{Kind}
use Rattle.kl_value.specs.declared.Kind.TheVariants as kind
use Rattle.kl_value.specs.declared.Value.{Value}
use Rattle.kl_outcome.specs.Outcome.{Outcome, done, over, stuck, End, fine, overflow, broken, Flow, more, stop, flow, items_in, end_in, followed, drawn, items_of, kept, gathered, collected}
use Rattle.kl_outcome.proofs.Drawing.{members, canonical_both, cut_short, kept_kept, collected_both, items_canonical}
use Rattle.kl_outcome.proofs.Flows.{flow_is, collected_flow}
use Rattle.kl_outcome.proofs.Refining.{Refines, refines_same}

kept_both : (k : Kind) (vs ws ws' : List Value) → kept k ws' ≡ kept k ws → kept k (members k vs ++ ws') ≡ kept k (vs ++ ws)
kept_both kind.Set vs ws ws' e = refl
kept_both kind.Bag vs ws ws' e = refl
kept_both kind.List vs ws ws' e = ap (λ xs. vs ++ xs) e

abbrev items_past : Outcome → List Value
items_past (over vs) = vs
items_past _ = []

abbrev value_in : Value → Outcome → Value
value_in v (done w) = w
value_in v _ = v

gathered_both : (k : Kind) (e e' : End) (vs ws ws' : List Value) → Refines (gathered k e ws) (gathered k e' ws') → Refines (gathered k e (vs ++ ws)) (gathered k e' (members k vs ++ ws'))
gathered_both k fine fine vs ws ws' h = ap done (canonical_both k vs ws ws' (ap (value_in (canonical k ws')) h))
gathered_both k fine overflow vs ws ws' h = let n : ⊥ = cc in absurd n
gathered_both k fine broken vs ws ws' h = let n : ⊥ = cc in absurd n
gathered_both k overflow fine vs ws ws' h = let n : ⊥ = cc in absurd n
gathered_both k overflow overflow vs ws ws' h = ap over (kept_both k vs ws ws' (ap items_past h))
gathered_both k overflow broken vs ws ws' h = let n : ⊥ = cc in absurd n
gathered_both k broken e' vs ws ws' h = tt

follow_flow : (k : Kind) (vs : List Value) (e : End) (o : Outcome) (g g' : Flow) → Refines (gathered k e vs) o → Refines (collected k g) (collected k g')
    → Refines (collected k (followed (flow vs e) g)) (collected k (followed (items_of o) g'))
follow_flow k vs fine o g g' h r =
    rw (h, items_canonical k vs, collected_both k vs g, collected_both k (members k vs) g') (gathered_both k (end_in g) (end_in g') vs (items_in g) (items_in g') r)
follow_flow k vs overflow o g g' h r =
    rw (h, cut_short vs overflow g refl, cut_short (kept k vs) overflow g' refl, collected_flow k vs overflow, collected_flow k (kept k vs) overflow) (ap over (kept_kept k vs))
follow_flow k vs broken o g g' h r = rw (cut_short vs broken g refl, collected_flow k vs broken) tt

follow_up : (k : Kind) (f : Flow) (o : Outcome) (g g' : Flow) → Refines (collected k f) o → Refines (collected k g) (collected k g')
    → Refines (collected k (followed f g)) (collected k (followed (items_of o) g'))
follow_up k f o g g' h r =
    rw (flow_is f) (follow_flow k (items_in f) (end_in f) o g g' h r)

-- what is drawn for each item, collected at once or first for each item
pub draw_up : (k : Kind) (f : Flow) (go : Value → Flow) (to : Value → Outcome) → ((v : Value) → Refines (collected k (go v)) (to v))
    → Refines (collected k (drawn f go)) (collected k (drawn f (λ v. items_of (to v))))
draw_up k (more v f) go to h = follow_up k (go v) (to v) _ _ (h v) (draw_up k f go to h)
draw_up k (stop e) go to h = refines_same (collected k (stop e))

pub draw_from_up : (k : Kind) (o q : Outcome) (go : Value → Flow) (to : Value → Outcome) → Refines o q → ((v : Value) → Refines (collected k (go v)) (to v))
    → Refines (collected k (drawn (items_of o) go)) (collected k (drawn (items_of q) (λ v. items_of (to v))))
draw_from_up k (done v) q go to h r = rw h (draw_up k (items_of (done v)) go to r)
draw_from_up k (over vs) q go to h r = rw h (draw_up k (items_of (over vs)) go to r)
draw_from_up k stuck q go to h r = tt
