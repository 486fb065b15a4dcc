-- Stands in for lemmas of terms that are private there, until these are handed out.
use Rattle.std.proofs.Common.{◌≡◌, ◌≢◌, ◌⊎◌, inl, inr, ℕ, true, List, [], ◌∷◌, Option, Some, None, refl, sym, subst}
use Rattle.kl_value.specs.declared.Kind.{Kind}
use Rattle.kl_value.specs.declared.Value.{Value}
use Rattle.kl_value.specs.Views.{as_collection, Collection}
use Rattle.kl_prim.specs.Meaning.{Answer, gives, overflows, senseless}
use Rattle.kl_prim.specs.Table.{Row as Primitive, row_at, meaning, meaning_of, IsTotal, IsTotalRow}
use Rattle.kl_prim.proofs.MeaningLemmas.{meaning_total}
use Rattle.kl_outcome.specs.Outcome.{Name, Outcome, done, over, stuck, fine, overflow, broken, Flow, more, stop, flow, items_in, end_in, followed, drawn, after, outcome_of, answered, args_then, parts_then, field_in, items_at_all, items_of, item_then, gathered, collected, joined_to, union_of}
use Rattle.kl_core.specs.Counts.{total_row, total_code}
use Rattle.kl_core.proofs.Totals.{NoOverflow, NoOverflowIn}

pub calm_flow : (vs : List Value) → NoOverflowIn (flow vs fine)
calm_flow [] = tt
calm_flow (v ∷ vs) = calm_flow vs

pub calm_after : (o : Outcome) (go : Value → Outcome) → NoOverflow o → ((v : Value) → NoOverflow (go v)) → NoOverflow (after o go)
calm_after (done v) go h g = g v
calm_after (over vs) go h g = absurd h
calm_after stuck go h g = tt

pub calm_some : (o : Option Value) → NoOverflow (outcome_of o)
calm_some (Some v) = tt
calm_some None = tt

pub calm_field : (l : Name) (fs : Option (List (Name × Value))) → NoOverflow (field_in l fs)
calm_field l (Some fs) = calm_some _
calm_field l None = tt

pub calm_at_all : (c : Option Collection) → NoOverflowIn (items_at_all c)
calm_at_all (Some c) = calm_flow c.items
calm_at_all None = tt

pub calm_items : (o : Outcome) → NoOverflow o → NoOverflowIn (items_of o)
calm_items (done v) h = calm_at_all (as_collection v)
calm_items (over vs) h = absurd h
calm_items stuck h = tt

pub calm_followed : (f g : Flow) → NoOverflowIn f → NoOverflowIn g → NoOverflowIn (followed f g)
calm_followed (more v f) g h k = calm_followed f g h k
calm_followed (stop fine) g h k = k
calm_followed (stop overflow) g h k = absurd h
calm_followed (stop broken) g h k = tt

pub calm_drawn : (f : Flow) (go : Value → Flow) → NoOverflowIn f → ((v : Value) → NoOverflowIn (go v)) → NoOverflowIn (drawn f go)
calm_drawn (more v f) go h g = calm_followed (go v) (drawn f go) (g v) (calm_drawn f go h g)
calm_drawn (stop fine) go h g = tt
calm_drawn (stop overflow) go h g = absurd h
calm_drawn (stop broken) go h g = tt

pub calm_item : (o : Outcome) (f : Flow) → NoOverflow o → NoOverflowIn f → NoOverflowIn (item_then o f)
calm_item (done v) f h g = g
calm_item (over vs) f h g = absurd h
calm_item stuck f h g = tt

pub calm_gathered : (k : Kind) (f : Flow) (vs : List Value) → NoOverflowIn f → NoOverflow (gathered k (end_in f) vs)
calm_gathered k (more v f) vs h = calm_gathered k f vs h
calm_gathered k (stop fine) vs h = tt
calm_gathered k (stop overflow) vs h = absurd h
calm_gathered k (stop broken) vs h = tt

pub calm_collected : (k : Kind) (f : Flow) → NoOverflowIn f → NoOverflow (collected k f)
calm_collected k f h = calm_gathered k f (items_in f) h

pub calm_joined : (c : Option Collection) (q : Outcome) → NoOverflow q → NoOverflow (joined_to c q)
calm_joined (Some c) q h = calm_collected c.kind (followed (flow c.items fine) (items_of q)) (calm_followed (flow c.items fine) (items_of q) (calm_flow c.items) (calm_items q h))
calm_joined None q h = tt

pub calm_union : (o q : Outcome) → NoOverflow o → NoOverflow q → NoOverflow (union_of o q)
calm_union (done v) q h g = calm_joined (as_collection v) q g
calm_union (over vs) q h g = absurd h
calm_union stuck q h g = tt

abbrev pub NoOverflowAll : List Outcome → Type 0
NoOverflowAll [] = Unit {0}
NoOverflowAll (o ∷ os) = NoOverflow o × NoOverflowAll os

pub calm_args : (os : List Outcome) (go : List Value → Outcome) → NoOverflowAll os → ((vs : List Value) → NoOverflow (go vs)) → NoOverflow (args_then os go)
calm_args [] go h g = g []
calm_args (o ∷ os) go h g = calm_after o _ h.0 (λ v. calm_args os _ h.1 (λ vs. g (v ∷ vs)))

abbrev pub NoOverflowParts : List (Name × Outcome) → Type 0
NoOverflowParts [] = Unit {0}
NoOverflowParts (p ∷ ps) = NoOverflow p.1 × NoOverflowParts ps

pub calm_parts : (ps : List (Name × Outcome)) (go : List (Name × Value) → Outcome) → NoOverflowParts ps → ((fs : List (Name × Value)) → NoOverflow (go fs)) → NoOverflow (parts_then ps go)
calm_parts [] go h g = g []
calm_parts (p ∷ ps) go h g = calm_after p.1 _ h.0 (λ v. calm_parts ps _ h.1 (λ fs. g ((p.0, v) ∷ fs)))

pub calm_answer : (a : Answer) → a ≢ overflows → NoOverflow (answered a)
calm_answer (gives v) n = tt
calm_answer overflows n = n refl
calm_answer senseless n = tt

known_or_none : (o : Option Primitive) → total_row o ≡ true → IsTotalRow o ⊎ (o ≡ None)
known_or_none (Some p) h = inl h
known_or_none None h = inr refl

pub calm_prim : (code : ℕ) (vs : List Value) → total_code code ≡ true → NoOverflow (answered (meaning code vs))
unfolding total_code meaning IsTotal
calm_prim code vs h = elim (known_or_none (row_at code) h) [
  | inl t ↦ calm_answer (meaning_of (row_at code) vs) (meaning_total code vs t)
  | inr e ↦ subst (λ o. NoOverflow (answered (meaning_of o vs))) (sym e) tt
]
