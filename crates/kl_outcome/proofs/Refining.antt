-- An outcome is kept unless it makes no sense.
use Rattle.std.proofs.Common.{◌≡◌, ◌≢◌, ◌⊎◌, inl, inr, Bool, true, false, List, [], ◌∷◌, Option, Some, None, refl, sym, ap}
use Rattle.kl_value.specs.declared.Kind.{Kind}
use Rattle.kl_value.specs.declared.Value.{Value}
use Rattle.kl_value.specs.Views.{as_bool, as_collection, Collection}
use Rattle.kl_outcome.specs.Outcome.{Outcome, done, over, stuck, fine, broken, Flow, more, flow, end_in, followed, Name, after, args_then, parts_then, chosen, if_then, opened, items_of, item_then, collected, joined_to, union_of}

abbrev pub Refines : Outcome → Outcome → Type 0
Refines (done v) q = q ≡ done v
Refines (over vs) q = q ≡ over vs
Refines stuck q = Unit {0}

pub refines_by : (o q : Outcome) → q ≡ o → Refines o q
refines_by (done v) q h = h
refines_by (over vs) q h = h
refines_by stuck q h = tt

pub refines_same : (o : Outcome) → Refines o o
refines_same o = refines_by o o refl

pub refines_is : (o q : Outcome) → Refines o q → o ≢ stuck → q ≡ o
refines_is (done v) q h n = h
refines_is (over vs) q h n = h
refines_is stuck q h n = absurd (n refl)

pub after_up : (o q : Outcome) (go to : Value → Outcome) → Refines o q → ((v : Value) → Refines (go v) (to v)) → Refines (after o go) (after q to)
after_up (done v) q go to h k = rw h (k v)
after_up (over vs) q go to h k = rw h refl
after_up stuck q go to h k = tt

pub chosen_up : (b : Option Bool) (o q o' q' : Outcome) → Refines o o' → Refines q q' → Refines (chosen b o q) (chosen b o' q')
chosen_up (Some true) o q o' q' h k = h
chosen_up (Some false) o q o' q' h k = k
chosen_up None o q o' q' h k = tt

pub if_up : (c o q c' o' q' : Outcome) → Refines c c' → Refines o o' → Refines q q' → Refines (if_then c o q) (if_then c' o' q')
if_up c o q c' o' q' g h k = after_up c c' _ _ g (λ v. chosen_up (as_bool v) o q o' q' h k)

pub opened_up : (c : Option (Name × Value)) (go to : Name → Value → Outcome) → ((l : Name) (v : Value) → Refines (go l v) (to l v)) → Refines (opened c go) (opened c to)
opened_up (Some c) go to k = k c.0 c.1
opened_up None go to k = tt

-- parts in order
abbrev pub RefinesAll : List Outcome → List Outcome → Type 0
RefinesAll [] [] = Unit {0}
RefinesAll (o ∷ os) (q ∷ qs) = Refines o q × RefinesAll os qs
RefinesAll _ _ = ⊥

pub args_up : (os qs : List Outcome) (go : List Value → Outcome) → RefinesAll os qs → Refines (args_then os go) (args_then qs go)
args_up [] [] go h = refines_same (go [])
args_up [] (q ∷ qs) go h = absurd h
args_up (o ∷ os) [] go h = absurd h
args_up (o ∷ os) (q ∷ qs) go h = after_up o q _ _ h.0 (λ v. args_up os qs (λ vs. go (v ∷ vs)) h.1)

-- pairs of the same labels in the same order
abbrev pub Pairs : {A B : Type 0} → (A → B → Type 0) → List (Name × A) → List (Name × B) → Type 0
Pairs R [] [] = Unit {0}
Pairs R (x ∷ xs) (y ∷ ys) = (x.0 ≡ y.0) × R x.1 y.1 × Pairs R xs ys
Pairs R _ _ = ⊥

pub parts_up : (os qs : List (Name × Outcome)) (go : List (Name × Value) → Outcome) → Pairs Refines os qs → Refines (parts_then os go) (parts_then qs go)
parts_up [] [] go h = refines_same (go [])
parts_up [] (q ∷ qs) go h = absurd h
parts_up (o ∷ os) [] go h = absurd h
parts_up (o ∷ os) (q ∷ qs) go (e, h, k) = rw (sym e) (after_up o.1 q.1 _ _ h (λ v. parts_up os qs (λ fs. go ((o.0, v) ∷ fs)) k))

-- a flow is kept unless it ends in no sense
abbrev pub FlowUp : Flow → Flow → Type 0
FlowUp f g = (end_in f ≡ broken) ⊎ (g ≡ f)

pub item_up : (o q : Outcome) (f g : Flow) → Refines o q → FlowUp f g → FlowUp (item_then o f) (item_then q g)
item_up (done v) q f g h (inl e) = inl e
item_up (done v) q f g h (inr e) = inr (rw (h, e) refl)
item_up (over vs) q f g h k = inr (rw h refl)
item_up stuck q f g h k = inl refl

pub items_up : (o q : Outcome) → Refines o q → FlowUp (items_of o) (items_of q)
items_up (done v) q h = inr (rw h refl)
items_up (over vs) q h = inr (rw h refl)
items_up stuck q h = inl refl

pub followed_up : (vs : List Value) (f g : Flow) → FlowUp f g → FlowUp (followed (flow vs fine) f) (followed (flow vs fine) g)
followed_up [] f g h = h
followed_up (v ∷ vs) f g (inl e) = more_up (followed_up vs f g (inl e))
  where
    more_up : FlowUp (followed (flow vs fine) f) (followed (flow vs fine) g) → FlowUp (more v (followed (flow vs fine) f)) (more v (followed (flow vs fine) g))
    more_up (inl d) = inl d
    more_up (inr d) = inr (ap (more v) d)
followed_up (v ∷ vs) f g (inr e) = inr (ap (λ h. more v (followed (flow vs fine) h)) e)

pub collected_up : (k : Kind) (f g : Flow) → FlowUp f g → Refines (collected k f) (collected k g)
collected_up k f g (inl e) = rw e tt
collected_up k f g (inr e) = rw e (refines_same (collected k f))

pub joined_up : (c : Option Collection) (o q : Outcome) → Refines o q → Refines (joined_to c o) (joined_to c q)
joined_up (Some c) o q h = collected_up c.kind _ _ (followed_up c.items _ _ (items_up o q h))
joined_up None o q h = tt

pub union_up : (a b a' b' : Outcome) → Refines a a' → Refines b b' → Refines (union_of a b) (union_of a' b')
union_up (done v) b a' b' h k = rw h (joined_up (as_collection v) b b' k)
union_up (over vs) b a' b' h k = rw h refl
union_up stuck b a' b' h k = tt
