-- The items and the end of what is drawn of a list.
use Rattle.std.proofs.Common.{◌≡◌, List, [], ◌∷◌, refl, ap}
use Rattle.kl_value.specs.declared.Kind.{Kind}
use Rattle.kl_value.specs.declared.Value.{Value}
use Rattle.kl_outcome.specs.Outcome.{End, Flow, more, stop, flow, items_in, end_in, gathered, collected}

pub flow_items : (vs : List Value) (e : End) → items_in (flow vs e) ≡ vs
flow_items [] e = refl
flow_items (v ∷ vs) e = ap (λ xs. v ∷ xs) (flow_items vs e)

pub flow_end : (vs : List Value) (e : End) → end_in (flow vs e) ≡ e
flow_end [] e = refl
flow_end (v ∷ vs) e = flow_end vs e

pub flow_is : (f : Flow) → f ≡ flow (items_in f) (end_in f)
flow_is (more v f) = ap (more v) (flow_is f)
flow_is (stop e) = refl

pub collected_flow : (k : Kind) (vs : List Value) (e : End) → collected k (flow vs e) ≡ gathered k e vs
collected_flow k vs e = rw (flow_items vs e, flow_end vs e) refl
