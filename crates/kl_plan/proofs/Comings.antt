-- What a plan comes to against the outcome of a term.
use Rattle.std.proofs.Common.{◌≡◌, Bool, true, false, cond, List, Option, Some, None, IsSome, refl, sym, ap, subst, ◌∙◌}
use Rattle.std.specs.Option.{option_map}
use mathlib.Core.Path.{ap₂}
use Rattle.kl_value.specs.Views.{as_bool, as_collection, Collection}
use Rattle.kl_value.specs.declared.Kind.{Kind}
use Rattle.kl_value.specs.declared.Kind.TheVariants as kind
use Rattle.kl_value.specs.declared.Value.{Value}
use Rattle.kl_type.specs.Ground.{Ground, Row, bool, var, coll, at}
use Rattle.kl_outcome.specs.Outcome.{Name, Outcome, done, over, stuck, Flow, overflow, kept, collected, items_at_all, items_of, followed, drawn, after, chosen, if_then, as_variant, opened, cases, joined_to, union_of}
use Rattle.kl_outcome.specs.Typed.{Inhabits, OfType, HasItems}
use Rattle.kl_core.specs.Counts.{fits_in}
use Rattle.kl_outcome.proofs.OutcomeTypes.{FlowOf, followed_typed, drawn_typed, items_typed, items_inhabit, over_nil, collected_typed, union_typed, variant_is}
use Rattle.kl_outcome.proofs.Flows.{collected_flow}
use Rattle.kl_outcome.proofs.Drawing.{cut_short}
use Rattle.kl_plan.specs.Alike.{Alike}
use Rattle.kl_plan.specs.Kinds.{first_kind}
use Rattle.kl_plan.specs.Meaning.{Come, one, many, worth, coming, drawn_for, come_after, come_chosen, come_opened, kind_come, joined_as, come_union}
use Rattle.kl_plan.proofs.Likeness.{alike_itself, alike_back, alike_on, alike_followed, alike_drawn, alike_bodies, alike_fits}
use Rattle.kl_plan.proofs.Collections.{alike_same, alike_items}
use Rattle.kl_plan.proofs.KindLaws.{by_first}

-- what a plan comes to is of a type
abbrev pub ComesAs : Ground → Come → Type 0
ComesAs s (one o) = OfType s o
ComesAs s (many k f) = (u : Ground) × (s ≡ coll k u) × FlowOf u f

-- Of a term and its plan: the value is the same; where a loop of a kind draws it, the items are alike there.
abbrev pub Same : Ground → Outcome → Come → Type 0
Same s o c = (worth c ≡ o) × ComesAs s c

pub same_type : (j k : Kind) (t u : Ground) → coll j t ≡ coll k u → t ≡ u
same_type j k t u e = cc

pub same_kind : (j k : Kind) (t u : Ground) → coll j t ≡ coll k u → j ≡ k
same_kind j k t u e = cc

pub worth_typed : (s : Ground) (c : Come) → ComesAs s c → OfType s (worth c)
worth_typed s (one o) h = h
worth_typed s (many k f) h = subst (λ q. OfType q (collected k f)) (sym h.1) (collected_typed k h.0 f h.2)

pub coming_typed : (k : Kind) (u : Ground) (c : Come) → ComesAs (coll k u) c → FlowOf u (coming c)
coming_typed k u (one o) h = items_typed k u o h
coming_typed k u (many j f) h = subst (λ q. FlowOf q f) (sym (same_type k j u h.0 h.1)) h.2

pub coming_alike : (k : Kind) (u : Ground) (c : Come) → ComesAs (coll k u) c → Alike k (items_of (worth c)) (coming c)
coming_alike k u (one o) h = alike_itself k (items_of o)
coming_alike k u (many j f) h =
    subst (λ q. Alike k (items_of (collected q f)) f) (same_kind k j u h.0 h.1) (alike_back k f (items_of (collected k f)) (alike_items k h.0 f h.2))

pub drawn_alike : (k : Kind) (s : Ground) (c : Come) → ComesAs s c → (j : Kind) (u : Ground) → s ≡ coll j u → Alike k (items_of (worth c)) (drawn_for k c) × FlowOf u (drawn_for k c)
drawn_alike k s (one o) h j u e = (alike_itself k (items_of o), items_typed j u o (subst (λ q. OfType q o) e h))
drawn_alike k s (many i f) h j u e =
    let same : h.0 ≡ u = same_type i j h.0 u (sym h.1 ∙ e) in
    let typed : FlowOf u f = subst (λ q. FlowOf q f) same h.2 in
    elim (fits_in i k) as (λ b. fits_in i k ≡ b → Alike k (items_of (collected i f)) (cond b f (items_of (collected i f))) × FlowOf u (cond b f (items_of (collected i f)))) [
      | true ↦ λ fit. (alike_back k f (items_of (collected i f)) (alike_fits i k f (items_of (collected i f)) fit (alike_items i u f typed)), typed)
      | false ↦ λ fit. (alike_itself k (items_of (collected i f)), items_typed i u (collected i f) (collected_typed i u f typed))
    ] refl

-- where the kinds fit, a loop draws all as it comes, and else canonically
pub drawn_fitting : (into j : Kind) (u : Ground) (c : Come) → ComesAs (coll j u) c → fits_in j into ≡ true → drawn_for into c ≡ coming c
drawn_fitting into j u (one o) h e = refl
drawn_fitting into j u (many i f) h e = ap (λ b. cond b f (items_of (collected i f))) (ap (λ k. fits_in k into) (sym (same_kind j i u h.0 h.1)) ∙ e)

pub drawn_for_typed : (k j : Kind) (u : Ground) (c : Come) → ComesAs (coll j u) c → FlowOf u (drawn_for k c)
drawn_for_typed k j u c h = (drawn_alike k (coll j u) c h j u refl).1

-- ---- after a part

pub after_shows : (s u : Ground) (o : Outcome) (go : Value → Outcome) (to : Value → Come) → OfType u o → ((v : Value) → Inhabits u v → Same s (go v) (to v)) → Same s (after o go) (come_after o to)
after_shows s u (done v) go to h k = k v h
after_shows s u (over vs) go to h k = (refl, over_nil s)
after_shows s u stuck go to h k = absurd h

pub chosen_shows : (s : Ground) (b : Option Bool) (o q : Outcome) (c d : Come) → IsSome b → Same s o c → Same s q d → Same s (chosen b o q) (come_chosen b c d)
chosen_shows s (Some true) o q c d i h g = h
chosen_shows s (Some false) o q c d i h g = g
chosen_shows s None o q c d i h g = cc

pub choice_shows : (s : Ground) (a o q : Outcome) (c d : Come) → OfType bool a → Same s o c → Same s q d → Same s (if_then a o q) (come_after a (λ v. come_chosen (as_bool v) c d))
choice_shows s a o q c d t h g = after_shows s bool a (λ v. chosen (as_bool v) o q) (λ v. come_chosen (as_bool v) c d) t (λ v i. chosen_shows s (as_bool v) o q c d i.0 h g)

pub cases_shows : (r : Row) (s : Ground) (o : Outcome) (go : Name → Value → Outcome) (to : Name → Value → Come) → OfType (var r) o
    → ((l : Name) (u : Ground) (v : Value) → at l r ≡ Some u → Inhabits u v → Same s (go l v) (to l v)) → Same s (cases o go) (come_after o (λ v. come_opened (as_variant v) to))
cases_shows r s o go to h k = after_shows s (var r) o (λ v. opened (as_variant v) go) (λ v. come_opened (as_variant v) to) h got
  where
    got : (v : Value) → Inhabits (var r) v → Same s (opened (as_variant v) go) (come_opened (as_variant v) to)
    got v i =
        let f = variant_is r v i in
        subst (λ q. Same s (opened q go) (come_opened q to)) (sym f.3) (k f.0 f.1 f.2 f.4 f.5)

-- ---- two collections as one

kept_all : (k : Kind) (u : Ground) (vs : List Value) → HasItems (coll k u) vs → kept k vs ≡ vs
kept_all kind.Set u vs h = sym h
kept_all kind.Bag u vs h = sym h
kept_all kind.List u vs h = refl

union_is : (k : Kind) (u : Ground) (o q : Outcome) → OfType (coll k u) o → union_of o q ≡ collected k (followed (items_of o) (items_of q))
union_is k u (done v) q h =
    let i = items_inhabit k u v h in
    ap (λ c. joined_to c q) i.1 ∙ sym (ap (λ c. collected k (followed (items_at_all c) (items_of q))) i.1)
union_is k u (over vs) q h = sym (ap (collected k) (cut_short vs overflow (items_of q) refl) ∙ collected_flow k vs overflow ∙ ap over (kept_all k u vs h))
union_is k u stuck q h = absurd h

-- the values of two parts as one, and their items as they come
pub union_worth : (k : Kind) (u : Ground) (c d : Come) → ComesAs (coll k u) c → ComesAs (coll k u) d → collected k (followed (coming c) (coming d)) ≡ union_of (worth c) (worth d)
union_worth k u c d h g = alike_same k u _ _ whole typed alike ∙ sym (union_is k u (worth c) (worth d) (worth_typed (coll k u) c h))
  where
    typed : FlowOf u (followed (coming c) (coming d))
    typed = followed_typed u (coming c) (coming d) (coming_typed k u c h) (coming_typed k u d g)

    alike : Alike k (followed (items_of (worth c)) (items_of (worth d))) (followed (coming c) (coming d))
    alike = alike_followed k (items_of (worth c)) (coming c) (items_of (worth d)) (coming d) (coming_alike k u c h) (coming_alike k u d g)

    whole : FlowOf u (followed (items_of (worth c)) (items_of (worth d)))
    whole = followed_typed u _ _ (items_typed k u (worth c) (worth_typed (coll k u) c h)) (items_typed k u (worth d) (worth_typed (coll k u) d g))

joined_shows : (k : Kind) (u : Ground) (i : Option Kind) (o q : Outcome) (c d : Come) → ((j : Kind) → i ≡ Some j → j ≡ k) → Same (coll k u) o c → Same (coll k u) q d → Same (coll k u) (union_of o q) (joined_as i c d)
joined_shows k u (Some j) o q c d e h g = (
  ap (λ z. collected z (followed (coming c) (coming d))) (e j refl) ∙ union_worth k u c d h.1 g.1 ∙ ap₂ union_of h.0 g.0,
  (u, ap (λ z. coll z u) (sym (e j refl)), followed_typed u (coming c) (coming d) (coming_typed k u c h.1) (coming_typed k u d g.1)),
)
joined_shows k u None o q c d e h g = (ap₂ union_of h.0 g.0, union_typed k u (worth c) (worth d) (worth_typed (coll k u) c h.1) (worth_typed (coll k u) d g.1))

-- the kind of what comes is that of its type
kind_is : (k : Kind) (u : Ground) (c : Come) → ComesAs (coll k u) c → (i : Kind) → kind_come c ≡ Some i → i ≡ k
kind_is k u (one (done v)) h i e =
    let x = items_inhabit k u v h in
    let y : Some k ≡ Some i = sym (ap (option_map (λ c. c.kind)) x.1) ∙ e in
    cc
kind_is k u (one (over vs)) h i e = cc
kind_is k u (one stuck) h i e = absurd h
kind_is k u (many j f) h i e = let y : Some j ≡ Some i = e in let z : j ≡ k = sym (same_kind k j u h.0 h.1) in cc

pub union_shows : (k : Kind) (u : Ground) (o q : Outcome) (c d : Come) → Same (coll k u) o c → Same (coll k u) q d → Same (coll k u) (union_of o q) (come_union c d)
union_shows k u o q c d h g = joined_shows k u (first_kind (kind_come c) (kind_come d)) o q c d (λ i e. by_first (kind_come c) (kind_come d) i k (kind_is k u c h.1) (kind_is k u d g.1) e) h g

-- ---- the items of two collections come one behind the other

no_collection : (o : Option Collection) (q : Outcome) (g : Flow) → option_map (λ c. c.kind) o ≡ None → items_of (joined_to o q) ≡ followed (items_at_all o) g
no_collection None q g e = refl
no_collection (Some c) q g e = cc

joined_coming : (i : Option Kind) (c d : Come) → (i ≡ None → kind_come c ≡ None) → coming (joined_as i c d) ≡ followed (coming c) (coming d)
joined_coming (Some k) c d h = refl
joined_coming None (one (done v)) d h = no_collection (as_collection v) (worth d) (coming d) (h refl)
joined_coming None (one (over vs)) d h = sym (cut_short vs overflow (coming d) refl)
joined_coming None (one stuck) d h = refl
joined_coming None (many k f) d h = let e : Some k ≡ None = h refl in cc

pub union_coming : (c d : Come) → coming (come_union c d) ≡ followed (coming c) (coming d)
union_coming c d = joined_coming (first_kind (kind_come c) (kind_come d)) c d (first_none (kind_come c) (kind_come d))
  where
    first_none : (a b : Option Kind) → first_kind a b ≡ None → a ≡ None
    first_none (Some k) b e = cc
    first_none None b e = refl

-- ---- a loop

pub loop_shows : (k : Kind) (u s : Ground) (o : Outcome) (go : Value → Outcome) (f : Flow) (to : Value → Come)
    → FlowOf u (items_of o) → Alike k (items_of o) f → FlowOf u f → ((v : Value) → Inhabits u v → Same (coll k s) (go v) (to v))
    → Same (coll k s) (collected k (drawn (items_of o) (λ v. items_of (go v)))) (many k (drawn f (λ v. coming (to v))))
loop_shows k u s o go f to source drawing typed h = (alike_same k s _ _ before after_ (alike_on k _ _ _ moved_on bodies), (s, refl, after_))
  where
    before : FlowOf s (drawn (items_of o) (λ v. items_of (go v)))
    before = drawn_typed s u (items_of o) (λ v. items_of (go v)) source (λ v i. items_typed k s (go v) (subst (OfType (coll k s)) (h v i).0 (worth_typed (coll k s) (to v) (h v i).1)))

    after_ : FlowOf s (drawn f (λ v. coming (to v)))
    after_ = drawn_typed s u f (λ v. coming (to v)) typed (λ v i. coming_typed k s (to v) (h v i).1)

    moved_on : Alike k (drawn (items_of o) (λ v. items_of (go v))) (drawn f (λ v. items_of (go v)))
    moved_on = alike_drawn k (items_of o) f (λ v. items_of (go v)) drawing

    bodies : Alike k (drawn f (λ v. items_of (go v))) (drawn f (λ v. coming (to v)))
    bodies = alike_bodies k u f (λ v. items_of (go v)) (λ v. coming (to v)) typed (λ v i. subst (λ x. Alike k (items_of x) (coming (to v))) (h v i).0 (coming_alike k s (to v) (h v i).1))

-- The same, where work of the body is left to the source: the loop draws other items through another body, and comes to the same.
pub loop_by : (k : Kind) (u s : Ground) (f g : Flow) (go : Value → Outcome) (to : Value → Come) → FlowOf s f → Alike k f (drawn g (λ v. items_of (go v))) → FlowOf u g
    → ((v : Value) → Inhabits u v → Same (coll k s) (go v) (to v)) → Same (coll k s) (collected k f) (many k (drawn g (λ v. coming (to v))))
loop_by k u s f g go to before alike typed h = (alike_same k s f (drawn g (λ v. coming (to v))) before behind (alike_on k f (drawn g (λ v. items_of (go v))) (drawn g (λ v. coming (to v))) alike bodies), (s, refl, behind))
  where
    behind : FlowOf s (drawn g (λ v. coming (to v)))
    behind = drawn_typed s u g (λ v. coming (to v)) typed (λ v i. coming_typed k s (to v) (h v i).1)

    bodies : Alike k (drawn g (λ v. items_of (go v))) (drawn g (λ v. coming (to v)))
    bodies = alike_bodies k u g (λ v. items_of (go v)) (λ v. coming (to v)) typed (λ v i. subst (λ x. Alike k (items_of x) (coming (to v))) (h v i).0 (coming_alike k s (to v) (h v i).1))
