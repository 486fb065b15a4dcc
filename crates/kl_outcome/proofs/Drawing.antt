-- What is drawn of a collection, and what is collected of it: collecting in between changes nothing, and of sets and
-- bags neither does the order.
use Rattle.std.proofs.Common.{◌≡◌, ◌≢◌, ◌+◌, true, false, cond, List, [], ◌∷◌, ◌++◌, Option, Some, None, refl, sym, ap, ap₂, subst, ◌∙◌, ⊎_elim, inr, is_gt, arith}
use Rattle.std.specs.List.{AllByRecursion, Contains, dedup, dedup_from}
use Rattle.std.specs.Ordering.{eq_by_cmp}
use Rattle.std.proofs.lemmas.List.Elements.{Contains-append_left, Contains-append_right, Contains-append_cases}
use Rattle.std.proofs.lemmas.List.Sums.{sum_by-append}
use Rattle.kl_base.specs.Sorted.{count_of, put_in, sorted}
use Rattle.kl_base.proofs.SortedLemmas.{all-sorted, count-sorted, members-to, members-from, IsStrictlySortedBy-dedup_sorted, IsRising-sorted}
use Rattle.kl_base.proofs.Orders.{tied}
use Rattle.kl_value.specs.Canon.{canonical}
use Rattle.kl_value.specs.Order.{compare}
use Rattle.kl_value.proofs.CanonLemmas.{canonical_only, canonical_list, set_again, bag_again}
use Rattle.kl_value.proofs.ViewLemmas.{collection_form}
use Rattle.kl_value.specs.IsCanonical.{IsCanonical}
use Rattle.kl_type.specs.Ground.{Ground, coll}
use Rattle.kl_outcome.specs.Typed.{Inhabits, OfType}
use Rattle.kl_outcome.proofs.OutcomeTypes.{FlowOf, drawn_typed, items_inhabit}
use Rattle.kl_value.proofs.OrderLemmas.{compare_total, compare_exact}
use Rattle.kl_value.specs.declared.Kind.{Kind}
use Rattle.kl_value.specs.declared.Kind.TheVariants as kind
use Rattle.kl_value.specs.declared.Value.{Value}
use Rattle.kl_value.specs.declared.Value.TheVariants as value
use Rattle.kl_value.specs.Views.{as_collection, Collection}
use Rattle.kl_outcome.specs.Outcome.{Outcome, done, over, stuck, End, fine, overflow, broken, Flow, more, stop, flow, items_in, end_in, at_end, followed, drawn, items_at_all, items_of, kept, gathered, collected, joined_to, union_of}
use Rattle.kl_outcome.proofs.Flows.{flow_is, flow_items, flow_end, collected_flow}

-- the items of a collection in canonical form
abbrev pub members : Kind → List Value → List Value
members kind.Set vs = dedup (eq_by_cmp compare) (sorted compare vs)
members kind.Bag vs = sorted compare vs
members kind.List vs = vs

canonical_collection : (k : Kind) (vs : List Value) → as_collection (canonical k vs) ≡ Some (record { kind = k; items = members k vs })
unfolding canonical
canonical_collection kind.Set vs = rw value.outs-Set refl
canonical_collection kind.Bag vs = rw value.outs-Bag refl
canonical_collection kind.List vs = rw value.outs-List refl

same_members : (k : Kind) (xs ys : List Value) → canonical k xs ≡ canonical k ys → members k xs ≡ members k ys
same_members k xs ys e =
    let h : as_collection (canonical k xs) ≡ as_collection (canonical k ys) = ap as_collection e in
    let d = sym (canonical_collection k xs) ∙ h ∙ canonical_collection k ys in
    let c = ap items_or d in c
  where
    items_or : Option Collection → List Value
    items_or (Some c) = c.items
    items_or None = []

canonical_set : (xs : List Value) → canonical kind.Set xs ≡ value.Set (members kind.Set xs)
unfolding canonical
canonical_set xs = refl

canonical_bag : (xs : List Value) → canonical kind.Bag xs ≡ value.Bag (members kind.Bag xs)
unfolding canonical
canonical_bag xs = refl

count_both : (w : Value) (xs ys : List Value) → count_of compare w (xs ++ ys) ≡ count_of compare w xs + count_of compare w ys
count_both w xs ys = sum_by-append (λ x. cond (eq_by_cmp compare w x) 1 0) xs ys

set_to : (vs ws ws' : List Value) (w : Value) → members kind.Set ws' ≡ members kind.Set ws → Contains (members kind.Set vs ++ ws') w → Contains (vs ++ ws) w
set_to vs ws ws' w e h =
    ⊎_elim (λ a. Contains-append_left vs ws w (members-to compare compare_total compare_exact vs w a))
    (λ b. Contains-append_right vs ws w (members-to compare compare_total compare_exact ws w (subst (λ xs. Contains xs w) e (members-from compare compare_total compare_exact ws' w b))))
    (Contains-append_cases (members kind.Set vs) ws' w h)

set_from : (vs ws ws' : List Value) (w : Value) → members kind.Set ws' ≡ members kind.Set ws → Contains (vs ++ ws) w → Contains (members kind.Set vs ++ ws') w
set_from vs ws ws' w e h =
    ⊎_elim (λ a. Contains-append_left (members kind.Set vs) ws' w (members-from compare compare_total compare_exact vs w a))
    (λ b. Contains-append_right (members kind.Set vs) ws' w (members-to compare compare_total compare_exact ws' w (subst (λ xs. Contains xs w) (sym e) (members-from compare compare_total compare_exact ws w b))))
    (Contains-append_cases vs ws w h)

pub canonical_both : (k : Kind) (vs ws ws' : List Value) → canonical k ws' ≡ canonical k ws → canonical k (members k vs ++ ws') ≡ canonical k (vs ++ ws)
canonical_both kind.Set vs ws ws' e =
    let d = same_members kind.Set ws' ws e in
    sym (canonical_only kind.Set (members kind.Set vs ++ ws') (canonical kind.Set (vs ++ ws)) (
      members kind.Set (vs ++ ws),
      canonical_set (vs ++ ws),
      IsStrictlySortedBy-dedup_sorted compare compare_total compare_exact (vs ++ ws),
      λ w. (
        λ h. set_from vs ws ws' w d (members-to compare compare_total compare_exact (vs ++ ws) w h),
        λ h. members-from compare compare_total compare_exact (vs ++ ws) w (set_to vs ws ws' w d h),
      ),
    ))
canonical_both kind.Bag vs ws ws' e =
    let d = same_members kind.Bag ws' ws e in
    let c : (w : Value) → count_of compare w ws' ≡ count_of compare w ws = λ w. sym (count-sorted compare compare_total w ws') ∙ ap (count_of compare w) d ∙ count-sorted compare compare_total w ws in
    sym (canonical_only kind.Bag (members kind.Bag vs ++ ws') (canonical kind.Bag (vs ++ ws)) (
      members kind.Bag (vs ++ ws),
      canonical_bag (vs ++ ws),
      IsRising-sorted compare compare_total (vs ++ ws),
      λ w. count-sorted compare compare_total w (vs ++ ws) ∙ count_both w vs ws ∙ ap₂ ◌+◌ (sym (count-sorted compare compare_total w vs)) (sym (c w)) ∙ sym (count_both w (sorted compare vs) ws'),
    ))
canonical_both kind.List vs ws ws' e = ap (λ xs. canonical kind.List (vs ++ xs)) (same_members kind.List ws' ws e)

-- flows of a list and an end
pub cut_short : (vs : List Value) (e : End) (g : Flow) → at_end e g ≡ stop e → followed (flow vs e) g ≡ flow vs e
cut_short [] e g h = h
cut_short (v ∷ vs) e g h = ap (more v) (cut_short vs e g h)

pub both_items : (vs : List Value) (g : Flow) → items_in (followed (flow vs fine) g) ≡ vs ++ items_in g
both_items [] g = refl
both_items (v ∷ vs) g = ap (λ xs. v ∷ xs) (both_items vs g)

pub both_end : (vs : List Value) (g : Flow) → end_in (followed (flow vs fine) g) ≡ end_in g
both_end [] g = refl
both_end (v ∷ vs) g = both_end vs g

pub kept_kept : (k : Kind) (vs : List Value) → kept k (kept k vs) ≡ kept k vs
kept_kept kind.Set vs = refl
kept_kept kind.Bag vs = refl
kept_kept kind.List vs = refl

pub collected_both : (k : Kind) (vs : List Value) (g : Flow) → collected k (followed (flow vs fine) g) ≡ gathered k (end_in g) (vs ++ items_in g)
collected_both k vs g = rw (both_items vs g, both_end vs g) refl

pub items_canonical : (k : Kind) (vs : List Value) → items_of (done (canonical k vs)) ≡ flow (members k vs) fine
items_canonical k vs = ap items_at_all (canonical_collection k vs)

-- ---- algebra of flows

pub followed_fine : (f : Flow) → followed f (stop fine) ≡ f
followed_fine (more v f) = ap (more v) (followed_fine f)
followed_fine (stop fine) = refl
followed_fine (stop overflow) = refl
followed_fine (stop broken) = refl

pub followed_assoc : (f g h : Flow) → followed (followed f g) h ≡ followed f (followed g h)
followed_assoc (more v f) g h = ap (more v) (followed_assoc f g h)
followed_assoc (stop fine) g h = refl
followed_assoc (stop overflow) g h = refl
followed_assoc (stop broken) g h = refl

pub drawn_followed : (f g : Flow) (go : Value → Flow) → drawn (followed f g) go ≡ followed (drawn f go) (drawn g go)
drawn_followed (more v f) g go = ap (followed (go v)) (drawn_followed f g go) ∙ sym (followed_assoc (go v) (drawn f go) (drawn g go))
drawn_followed (stop fine) g go = refl
drawn_followed (stop overflow) g go = refl
drawn_followed (stop broken) g go = refl

pub drawn_drawn : (f : Flow) (go to : Value → Flow) → drawn (drawn f go) to ≡ drawn f (λ v. drawn (go v) to)
drawn_drawn (more v f) go to = drawn_followed (go v) (drawn f go) to ∙ ap (followed (drawn (go v) to)) (drawn_drawn f go to)
drawn_drawn (stop e) go to = refl

-- ---- collecting in between

canonical_members : (k : Kind) (vs : List Value) → canonical k (members k vs) ≡ canonical k vs
canonical_members kind.Set vs =
    sym (canonical_only kind.Set (members kind.Set vs) (canonical kind.Set vs) (members kind.Set vs, canonical_set vs, IsStrictlySortedBy-dedup_sorted compare compare_total compare_exact vs, λ w. (λ c. c, λ c. c)))
canonical_members kind.Bag vs =
    sym (canonical_only kind.Bag (members kind.Bag vs) (canonical kind.Bag vs) (members kind.Bag vs, canonical_bag vs, IsRising-sorted compare compare_total vs, λ w. refl))
canonical_members kind.List vs = refl

kept_members : (k : Kind) (vs ws : List Value) → kept k (members k vs ++ kept k ws) ≡ kept k (vs ++ ws)
kept_members kind.Set vs ws = refl
kept_members kind.Bag vs ws = refl
kept_members kind.List vs ws = refl

-- an overflow before any item
pub kept_none : (k : Kind) → collected k (stop overflow) ≡ over []
kept_none kind.Set = refl
kept_none kind.Bag = refl
kept_none kind.List = refl

-- the items of what was collected, collected again
pub collected_again : (k : Kind) (f : Flow) → collected k (items_of (collected k f)) ≡ collected k f
collected_again k f = by_end (end_in f) (items_in f)
  where
    by_end : (e : End) (vs : List Value) → collected k (items_of (gathered k e vs)) ≡ gathered k e vs
    by_end fine vs = rw (items_canonical k vs, collected_flow k (members k vs) fine) (ap done (canonical_members k vs))
    by_end overflow vs = collected_flow k (kept k vs) overflow ∙ ap over (kept_kept k vs)
    by_end broken vs = refl

-- two flows, collected at once or each by itself
pub followed_is : (k : Kind) (f g : Flow) → collected k (followed f g) ≡ union_of (collected k f) (collected k g)
followed_is k f g = ap (λ h. collected k (followed h g)) (flow_is f) ∙ by_end (end_in f) (items_in f)
  where
    behind : (d : End) (vs ws : List Value) → gathered k d (vs ++ ws) ≡ collected k (followed (flow (members k vs) fine) (items_of (gathered k d ws)))
    behind fine vs ws =
        sym (ap (λ h. collected k (followed (flow (members k vs) fine) h)) (items_canonical k ws)
        ∙ collected_both k (members k vs) (flow (members k ws) fine)
        ∙ rw (flow_end (members k ws) fine, flow_items (members k ws) fine) (ap done (canonical_both k vs ws (members k ws) (canonical_members k ws))))
    behind overflow vs ws =
        sym (collected_both k (members k vs) (flow (kept k ws) overflow)
        ∙ rw (flow_end (kept k ws) overflow, flow_items (kept k ws) overflow) (ap over (kept_members k vs ws)))
    behind broken vs ws = sym (ap (λ e. gathered k e (items_in (followed (flow (members k vs) fine) (stop broken)))) (both_end (members k vs) (stop broken)))

    by_end : (e : End) (vs : List Value) → collected k (followed (flow vs e) g) ≡ union_of (gathered k e vs) (collected k g)
    by_end fine vs =
        collected_both k vs g ∙ behind (end_in g) vs (items_in g)
        ∙ sym (ap (λ c. joined_to c (collected k g)) (canonical_collection k vs))
    by_end overflow vs = ap (collected k) (cut_short vs overflow g refl) ∙ collected_flow k vs overflow
    by_end broken vs = ap (collected k) (cut_short vs broken g refl) ∙ collected_flow k vs broken

pub behind_same : (k : Kind) (f g h : Flow) → collected k g ≡ collected k h → collected k (followed f g) ≡ collected k (followed f h)
behind_same k f g h e = followed_is k f g ∙ ap (union_of (collected k f)) e ∙ sym (followed_is k f h)

pub before_same : (k : Kind) (f g h : Flow) → collected k f ≡ collected k g → collected k (followed f h) ≡ collected k (followed g h)
before_same k f g h e = followed_is k f h ∙ ap (λ o. union_of o (collected k h)) e ∙ sym (followed_is k g h)

-- what is drawn for each item, collected at once or first for each item
pub drawn_collected : (k : Kind) (f : Flow) (go : Value → Flow) → collected k (drawn f (λ v. items_of (collected k (go v)))) ≡ collected k (drawn f go)
drawn_collected k (more v f) go =
    before_same k (items_of (collected k (go v))) (go v) (drawn f (λ v. items_of (collected k (go v)))) (collected_again k (go v))
    ∙ behind_same k (go v) (drawn f (λ v. items_of (collected k (go v)))) (drawn f go) (drawn_collected k f go)
drawn_collected k (stop e) go = refl

-- ---- the order of sets and bags

-- an end that makes sense
abbrev pub Unbroken : Flow → Type 0
Unbroken f = end_in f ≢ broken

pub sound_of : (t : Ground) (f : Flow) → FlowOf t f → Unbroken f
sound_of t (more v f) h = sound_of t f h.1
sound_of t (stop fine) h = λ e. cc
sound_of t (stop overflow) h = λ e. cc
sound_of t (stop broken) h = absurd h

pub items_all : (t : Ground) (f : Flow) → FlowOf t f → AllByRecursion (Inhabits t) (items_in f)
items_all t (more v f) h = (h.0, items_all t f h.1)
items_all t (stop e) h = tt

none_kept : (k : Kind) (vs : List Value) → k ≢ kind.List → kept k vs ≡ []
none_kept kind.Set vs n = refl
none_kept kind.Bag vs n = refl
none_kept kind.List vs n = absurd (n refl)

turned : (vs ws : List Value) (w : Value) → Contains (vs ++ ws) w → Contains (ws ++ vs) w
turned vs ws w h = ⊎_elim (λ a. Contains-append_right ws vs w a) (λ b. Contains-append_left ws vs w b) (Contains-append_cases vs ws w h)

canonical_turned : (k : Kind) (vs ws : List Value) → k ≢ kind.List → canonical k (vs ++ ws) ≡ canonical k (ws ++ vs)
canonical_turned kind.Set vs ws n =
    canonical_only kind.Set (ws ++ vs) (canonical kind.Set (vs ++ ws)) (
      members kind.Set (vs ++ ws),
      canonical_set (vs ++ ws),
      IsStrictlySortedBy-dedup_sorted compare compare_total compare_exact (vs ++ ws),
      λ w. (
        λ h. turned vs ws w (members-to compare compare_total compare_exact (vs ++ ws) w h),
        λ h. members-from compare compare_total compare_exact (vs ++ ws) w (turned ws vs w h),
      ),
    )
canonical_turned kind.Bag vs ws n =
    canonical_only kind.Bag (ws ++ vs) (canonical kind.Bag (vs ++ ws)) (
      members kind.Bag (vs ++ ws),
      canonical_bag (vs ++ ws),
      IsRising-sorted compare compare_total (vs ++ ws),
      λ w. count-sorted compare compare_total w (vs ++ ws) ∙ omega (arith, count_both w vs ws, count_both w ws vs),
    )
canonical_turned kind.List vs ws n = absurd (n refl)

canonical_twice : (vs : List Value) → canonical kind.Set (vs ++ vs) ≡ canonical kind.Set vs
canonical_twice vs =
    canonical_only kind.Set vs (canonical kind.Set (vs ++ vs)) (
      members kind.Set (vs ++ vs),
      canonical_set (vs ++ vs),
      IsStrictlySortedBy-dedup_sorted compare compare_total compare_exact (vs ++ vs),
      λ w. (
        λ h. ⊎_elim (λ a. a) (λ b. b) (Contains-append_cases vs vs w (members-to compare compare_total compare_exact (vs ++ vs) w h)),
        λ h. members-from compare compare_total compare_exact (vs ++ vs) w (Contains-append_left vs vs w h),
      ),
    )

-- a flow of a list before another
first_fine : (k : Kind) (vs ws : List Value) (d : End) → collected k (followed (flow vs fine) (flow ws d)) ≡ gathered k d (vs ++ ws)
first_fine k vs ws d = collected_both k vs (flow ws d) ∙ rw (flow_end ws d, flow_items ws d) refl

first_over : (k : Kind) (vs : List Value) (g : Flow) → collected k (followed (flow vs overflow) g) ≡ over (kept k vs)
first_over k vs g = ap (collected k) (cut_short vs overflow g refl) ∙ collected_flow k vs overflow

pub swapped : (k : Kind) (f g : Flow) → k ≢ kind.List → Unbroken f → Unbroken g → collected k (followed f g) ≡ collected k (followed g f)
swapped k f g n a b =
    ap (λ h. collected k (followed h g)) (flow_is f) ∙ ap (λ h. collected k (followed (flow (items_in f) (end_in f)) h)) (flow_is g)
    ∙ by_ends (end_in f) (end_in g) (items_in f) (items_in g) a b
    ∙ sym (ap (λ h. collected k (followed h f)) (flow_is g) ∙ ap (λ h. collected k (followed (flow (items_in g) (end_in g)) h)) (flow_is f))
  where
    by_ends : (e d : End) (vs ws : List Value) → e ≢ broken → d ≢ broken → collected k (followed (flow vs e) (flow ws d)) ≡ collected k (followed (flow ws d) (flow vs e))
    by_ends broken d vs ws a b = absurd (a refl)
    by_ends e broken vs ws a b = absurd (b refl)
    by_ends fine fine vs ws a b = first_fine k vs ws fine ∙ ap done (canonical_turned k vs ws n) ∙ sym (first_fine k ws vs fine)
    by_ends fine overflow vs ws a b = first_fine k vs ws overflow ∙ ap over (none_kept k (vs ++ ws) n ∙ sym (none_kept k ws n)) ∙ sym (first_over k ws (flow vs fine))
    by_ends overflow fine vs ws a b = first_over k vs (flow ws fine) ∙ ap over (none_kept k vs n ∙ sym (none_kept k (ws ++ vs) n)) ∙ sym (first_fine k ws vs overflow)
    by_ends overflow overflow vs ws a b = first_over k vs (flow ws overflow) ∙ ap over (none_kept k vs n ∙ sym (none_kept k ws n)) ∙ sym (first_over k ws (flow vs overflow))

twice : (f : Flow) → Unbroken f → collected kind.Set (followed f f) ≡ collected kind.Set f
twice f a = ap (λ h. collected kind.Set (followed h h)) (flow_is f) ∙ by_end (end_in f) (items_in f) a ∙ sym (ap (collected kind.Set) (flow_is f))
  where
    by_end : (e : End) (vs : List Value) → e ≢ broken → collected kind.Set (followed (flow vs e) (flow vs e)) ≡ collected kind.Set (flow vs e)
    by_end fine vs a = first_fine kind.Set vs vs fine ∙ ap done (canonical_twice vs) ∙ sym (collected_flow kind.Set vs fine)
    by_end overflow vs a = first_over kind.Set vs (flow vs overflow) ∙ sym (collected_flow kind.Set vs overflow)
    by_end broken vs a = absurd (a refl)

-- the two in front
pub front_swapped : (k : Kind) (f g h : Flow) → k ≢ kind.List → Unbroken f → Unbroken g → collected k (followed f (followed g h)) ≡ collected k (followed g (followed f h))
front_swapped k f g h n a b =
    ap (collected k) (sym (followed_assoc f g h)) ∙ before_same k (followed f g) (followed g f) h (swapped k f g n a b) ∙ ap (collected k) (followed_assoc g f h)

front_twice : (f h : Flow) → Unbroken f → collected kind.Set (followed f h) ≡ collected kind.Set (followed f (followed f h))
front_twice f h a = before_same kind.Set f (followed f f) h (sym (twice f a)) ∙ ap (collected kind.Set) (followed_assoc f f h)

pub exchanged : (k : Kind) (f p g q : Flow) → k ≢ kind.List → Unbroken p → Unbroken g
    → collected k (followed (followed f p) (followed g q)) ≡ collected k (followed (followed f g) (followed p q))
exchanged k f p g q n a b =
    ap (collected k) (followed_assoc f p (followed g q)) ∙ behind_same k f (followed p (followed g q)) (followed g (followed p q)) (front_swapped k p g q n a b)
    ∙ ap (collected k) (sym (followed_assoc f g (followed p q)))

module _ (k : Kind) (t u : Ground) (go : Value → Flow) (good : (v : Value) → Inhabits u v → FlowOf t (go v)) where
  -- two things drawn for each item, one list of items after the other or both for each item
  pub drawn_beside : (to : Value → Flow) → ((v : Value) → Inhabits u v → FlowOf t (to v)) → k ≢ kind.List → (f : Flow) → FlowOf u f
      → collected k (followed (drawn f go) (drawn f to)) ≡ collected k (drawn f (λ v. followed (go v) (to v)))
  drawn_beside to fair n (more v f) h =
      exchanged k (go v) (drawn f go) (to v) (drawn f to) n (sound_of t (drawn f go) (drawn_typed t u f go h.1 good)) (sound_of t (to v) (fair v h.0))
      ∙ behind_same k (followed (go v) (to v)) (followed (drawn f go) (drawn f to)) (drawn f (λ v. followed (go v) (to v))) (drawn_beside to fair n f h.1)
  drawn_beside to fair n (stop fine) h = refl
  drawn_beside to fair n (stop overflow) h = refl
  drawn_beside to fair n (stop broken) h = absurd h

  put_order : k ≢ kind.List → (x : Value) (ys : List Value) → Inhabits u x → AllByRecursion (Inhabits u) ys
      → collected k (drawn (flow (put_in compare x ys) fine) go) ≡ collected k (drawn (flow (x ∷ ys) fine) go)
  put_order n x [] h all = refl
  put_order n x (y ∷ ys) h all =
      elim (is_gt (compare x y)) as (λ b. collected k (drawn (flow (cond b (y ∷ put_in compare x ys) (x ∷ y ∷ ys)) fine) go) ≡ collected k (drawn (flow (x ∷ y ∷ ys) fine) go)) [
        | true ↦ behind_same k (go y) (drawn (flow (put_in compare x ys) fine) go) (drawn (flow (x ∷ ys) fine) go) (put_order n x ys h all.1)
            ∙ front_swapped k (go y) (go x) (drawn (flow ys fine) go) n (sound_of t (go y) (good y all.0)) (sound_of t (go x) (good x h))
        | false ↦ refl
      ]

  pub sorted_order : k ≢ kind.List → (vs : List Value) → AllByRecursion (Inhabits u) vs → collected k (drawn (flow (sorted compare vs) fine) go) ≡ collected k (drawn (flow vs fine) go)
  sorted_order n [] all = refl
  sorted_order n (v ∷ vs) all =
      put_order n v (sorted compare vs) all.0 (all-sorted compare compare_total (Inhabits u) vs all.1)
      ∙ behind_same k (go v) (drawn (flow (sorted compare vs) fine) go) (drawn (flow vs fine) go) (sorted_order n vs all.1)

module _ (t u : Ground) (go : Value → Flow) (good : (v : Value) → Inhabits u v → FlowOf t (go v)) where
  kept_order : (x : Value) (ys : List Value) → Inhabits u x → AllByRecursion (Inhabits u) ys
      → collected kind.Set (drawn (flow (dedup_from (eq_by_cmp compare) x ys) fine) go) ≡ collected kind.Set (drawn (flow (x ∷ ys) fine) go)
  kept_order x [] h all = refl
  kept_order x (y ∷ ys) h all =
      elim (eq_by_cmp compare y x) as (λ b. eq_by_cmp compare y x ≡ b → collected kind.Set (drawn (flow (cond b (dedup_from (eq_by_cmp compare) x ys) (x ∷ dedup_from (eq_by_cmp compare) y ys)) fine) go) ≡ collected kind.Set (drawn (flow (x ∷ y ∷ ys) fine) go)) [
        | true ↦ λ e. (
            let same : x ≡ y = sym (compare_exact y x (tied (compare y x) e)) in
            kept_order x ys h all.1 ∙ front_twice (go x) (drawn (flow ys fine) go) (sound_of t (go x) (good x h))
            ∙ ap (λ z. collected kind.Set (followed (go x) (followed (go z) (drawn (flow ys fine) go)))) same)
        | false ↦ λ e. behind_same kind.Set (go x) (drawn (flow (dedup_from (eq_by_cmp compare) y ys) fine) go) (drawn (flow (y ∷ ys) fine) go) (kept_order y ys all.0 all.1)
      ] refl

  pub dedup_order : (vs : List Value) → AllByRecursion (Inhabits u) vs → collected kind.Set (drawn (flow (dedup (eq_by_cmp compare) vs) fine) go) ≡ collected kind.Set (drawn (flow vs fine) go)
  dedup_order [] all = refl
  dedup_order (v ∷ vs) all = kept_order v vs all.0 all.1

  over_behind : (f g : Flow) → Unbroken f → end_in g ≡ overflow → end_in (followed f g) ≡ overflow
  over_behind (more v f) g a e = over_behind f g a e
  over_behind (stop fine) g a e = e
  over_behind (stop overflow) g a e = refl
  over_behind (stop broken) g a e = absurd (a refl)

  pub drawn_over : (vs : List Value) → AllByRecursion (Inhabits u) vs → end_in (drawn (flow vs overflow) go) ≡ overflow
  drawn_over [] all = refl
  drawn_over (v ∷ vs) all = over_behind (go v) (drawn (flow vs overflow) go) (sound_of t (go v) (good v all.0)) (drawn_over vs all.1)

-- ---- what is drawn depends on the items alone

pub drawn_same : (u : Ground) (f : Flow) (go to : Value → Flow) → FlowOf u f → ((v : Value) → Inhabits u v → go v ≡ to v) → drawn f go ≡ drawn f to
drawn_same u (more v f) go to h e = ap₂ followed (e v h.0) (drawn_same u f go to h.1 e)
drawn_same u (stop d) go to h e = refl

-- a collection of a kind is what is collected of its items
pub typed_collected : (k : Kind) (t : Ground) (o : Outcome) → OfType (coll k t) o → collected k (items_of o) ≡ o
typed_collected k t (done v) h =
    let i = items_inhabit k t v h in
    ap (λ c. collected k (items_at_all c)) i.1 ∙ collected_flow k i.0 fine ∙ ap done (sym (whole k t v h i.0 i.1))
  where
    whole : (k : Kind) (t : Ground) (v : Value) → Inhabits (coll k t) v → (vs : List Value) → as_collection v ≡ Some (record { kind = k; items = vs }) → v ≡ canonical k vs
    whole kind.Set t v h vs e = let f = collection_form v _ e in f ∙ set_again vs (subst IsCanonical f h.1)
    whole kind.Bag t v h vs e = let f = collection_form v _ e in f ∙ bag_again kind.Bag vs (subst IsCanonical f h.1) (inr refl)
    whole kind.List t v h vs e = let f = collection_form v _ e in f ∙ canonical_list vs
typed_collected kind.Set t (over vs) h = rw h refl
typed_collected kind.Bag t (over vs) h = rw h refl
typed_collected kind.List t (over vs) h = collected_flow kind.List vs overflow
typed_collected k t stuck h = absurd h
