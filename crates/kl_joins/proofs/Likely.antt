-- What is made of parts that come to like things comes to like things.
use Rattle.std.proofs.Common.{◌≡◌, Bool, true, false, cond, Option, Some, None, IsSome, refl, sym, ap, subst, ◌∙◌}
use mathlib.Core.Path.{ap₂}
use Rattle.kl_value.specs.Views.{as_bool}
use Rattle.kl_value.specs.declared.Kind.{Kind}
use Rattle.kl_value.specs.declared.Value.{Value}
use Rattle.kl_type.specs.Ground.{Ground, bool, coll}
use Rattle.kl_outcome.specs.Outcome.{Outcome, done, over, stuck, union_of}
use Rattle.kl_outcome.specs.Outcome.{Flow, stop, fine, overflow, followed, drawn, items_of, collected}
use Rattle.kl_outcome.specs.Typed.{Inhabits, OfType}
use Rattle.kl_core.specs.Counts.{fits_in}
use Rattle.kl_outcome.proofs.OutcomeTypes.{FlowOf, drawn_typed, items_typed, collected_typed, over_nil}
use Rattle.kl_plan.specs.Alike.{Alike}
use Rattle.kl_plan.specs.Kinds.{first_kind}
use Rattle.kl_plan.specs.Meaning.{Come, one, many, worth, coming, drawn_for, come_after, come_chosen, kind_come, joined_as, come_union}
use Rattle.kl_plan.specs.Meaning.{come_kept, on_test, tested, under_key}
use Rattle.kl_plan.proofs.Likeness.{alike_itself, alike_on, alike_followed, alike_drawn, alike_bodies, alike_fits}
use Rattle.kl_plan.proofs.Collections.{alike_same, alike_items}
use Rattle.kl_plan.proofs.Comings.{ComesAs, same_type, same_kind, worth_typed, coming_typed, drawn_for_typed, union_shows}

-- the same outcome, or items of one kind that are the same as far as a collection of that kind tells
abbrev pub LikeCome : Come → Come → Type 0
LikeCome (one o) (one q) = q ≡ o
LikeCome (one o) (many j g) = ⊥
LikeCome (many k f) (one q) = ⊥
LikeCome (many k f) (many j g) = (j ≡ k) × Alike k f g

-- like one another, and of a type
abbrev pub Like : Ground → Come → Come → Type 0
Like s c d = LikeCome c d × ComesAs s c × ComesAs s d

-- alike in a collection of a kind, and of a type
abbrev pub Both : Kind → Ground → Flow → Flow → Type 0
Both k t f g = Alike k f g × FlowOf t f × FlowOf t g

pub like_itself : (c : Come) → LikeCome c c
like_itself (one o) = refl
like_itself (many k f) = (refl, alike_itself k f)

pub like_same : (s : Ground) (c d : Come) → d ≡ c → ComesAs s c → Like s c d
like_same s c d e h = subst (Like s c) (sym e) (like_itself c, h, h)

pub both_itself : (k : Kind) (t : Ground) (f : Flow) → FlowOf t f → Both k t f f
both_itself k t f h = (alike_itself k f, h, h)

-- ---- what is read of it

pub like_worth : (s : Ground) (c d : Come) → Like s c d → worth d ≡ worth c
like_worth s (one o) (one q) h = h.0
like_worth s (one o) (many j g) h = absurd h.0
like_worth s (many k f) (one q) h = absurd h.0
like_worth s (many k f) (many j g) h =
    let typed : FlowOf h.1.0 g = subst (λ q. FlowOf q g) (same_type j k h.2.0 h.1.0 (sym h.2.1 ∙ h.1.1)) h.2.2 in
    ap (λ i. collected i g) h.0.0 ∙ alike_same k h.1.0 f g h.1.2 typed h.0.1

same_items : (k : Kind) (o q : Outcome) → q ≡ o → Alike k (items_of o) (items_of q)
same_items k o q e = subst (λ x. Alike k (items_of o) (items_of x)) (sym e) (alike_itself k (items_of o))

coming_alike : (k : Kind) (u : Ground) (c d : Come) → Like (coll k u) c d → Alike k (coming c) (coming d)
coming_alike k u (one o) (one q) h = same_items k o q h.0
coming_alike k u (one o) (many j g) h = absurd h.0
coming_alike k u (many i f) (one q) h = absurd h.0
coming_alike k u (many i f) (many j g) h = subst (λ z. Alike z f g) (sym (same_kind k i u h.1.0 h.1.1)) h.0.1

pub coming_both : (k : Kind) (u : Ground) (c d : Come) → Like (coll k u) c d → Both k u (coming c) (coming d)
coming_both k u c d h = (coming_alike k u c d h, coming_typed k u c h.1, coming_typed k u d h.2)

drawn_alike : (k j : Kind) (u : Ground) (c d : Come) → Like (coll j u) c d → Alike k (drawn_for k c) (drawn_for k d)
drawn_alike k j u (one o) (one q) h = same_items k o q h.0
drawn_alike k j u (one o) (many m g) h = absurd h.0
drawn_alike k j u (many i f) (one q) h = absurd h.0
drawn_alike k j u (many i f) (many m g) h =
    subst (λ z. Alike k (drawn_for k (many i f)) (cond (fits_in z k) g (items_of (collected m g)))) (sym h.0.0)
    (elim (fits_in i k) as (λ b. fits_in i k ≡ b → Alike k (cond b f (items_of (collected i f))) (cond b g (items_of (collected m g)))) [
      | true ↦ λ fit. alike_fits i k f g fit h.0.1
      | false ↦ λ fit. same_items k (collected i f) (collected m g) (like_worth (coll j u) (many i f) (many m g) h)
    ] refl)

pub drawn_for_both : (k j : Kind) (u : Ground) (c d : Come) → Like (coll j u) c d → Both k u (drawn_for k c) (drawn_for k d)
drawn_for_both k j u c d h = (drawn_alike k j u c d h, drawn_for_typed k j u c h.1, drawn_for_typed k j u d h.2)

-- ---- what is made of it

pub many_like : (k : Kind) (t : Ground) (f g : Flow) → Both k t f g → Like (coll k t) (many k f) (many k g)
many_like k t f g h = ((refl, h.0), (t, refl, h.1), (t, refl, h.2))

pub drawn_both : (k : Kind) (t u : Ground) (f g : Flow) (go to : Value → Flow) → Both k u f g
    → ((x : Value) → Inhabits u x → Both k t (go x) (to x)) → Both k t (drawn f go) (drawn g to)
drawn_both k t u f g go to h b = (
  alike_on k (drawn f go) (drawn g go) (drawn g to) (alike_drawn k f g go h.0) (alike_bodies k u g go to h.2 (λ x i. (b x i).0)),
  drawn_typed t u f go h.1 (λ x i. (b x i).1),
  drawn_typed t u g to h.2 (λ x i. (b x i).2),
)

after_same : (s u : Ground) (o : Outcome) (go to : Value → Come) → OfType u o → ((v : Value) → Inhabits u v → Like s (go v) (to v))
    → Like s (come_after o go) (come_after o to)
after_same s u (done v) go to h k = k v h
after_same s u (over vs) go to h k = (refl, over_nil s, over_nil s)
after_same s u stuck go to h k = absurd h

pub after_like : (s u : Ground) (c d : Come) (go to : Value → Come) → Like u c d
    → ((v : Value) → Inhabits u v → Like s (go v) (to v)) → Like s (come_after (worth c) go) (come_after (worth d) to)
after_like s u c d go to h k =
    subst (λ o. Like s (come_after (worth c) go) (come_after o to)) (sym (like_worth u c d h))
    (after_same s u (worth c) go to (worth_typed u c h.1) k)

pub chosen_like : (s : Ground) (b : Option Bool) (c d c' d' : Come) → IsSome b → Like s c c' → Like s d d'
    → Like s (come_chosen b c d) (come_chosen b c' d')
chosen_like s (Some true) c d c' d' i h g = h
chosen_like s (Some false) c d c' d' i h g = g
chosen_like s None c d c' d' i h g = absurd cc

like_kind : (s : Ground) (c d : Come) → Like s c d → kind_come d ≡ kind_come c
like_kind s (one o) (one q) h = ap (λ x. kind_come (one x)) h.0
like_kind s (one o) (many j g) h = absurd h.0
like_kind s (many k f) (one q) h = absurd h.0
like_kind s (many k f) (many j g) h = ap (λ i. Some i) h.0.0

joined_like : (k : Kind) (u : Ground) (i : Option Kind) (c d c' d' : Come) → Like (coll k u) c c' → Like (coll k u) d d'
    → ComesAs (coll k u) (joined_as i c d) → LikeCome (joined_as i c d) (joined_as i c' d')
joined_like k u (Some j) c d c' d' h g t = (
  refl,
  subst (λ z. Alike z (followed (coming c) (coming d)) (followed (coming c') (coming d'))) (same_kind k j u t.0 t.1)
      (alike_followed k (coming c) (coming c') (coming d) (coming d') (coming_alike k u c c' h) (coming_alike k u d d' g)),
)
joined_like k u None c d c' d' h g t = ap₂ union_of (like_worth (coll k u) c c' h) (like_worth (coll k u) d d' g)

pub union_like : (k : Kind) (u : Ground) (c d c' d' : Come) → Like (coll k u) c c' → Like (coll k u) d d'
    → Like (coll k u) (come_union c d) (come_union c' d')
union_like k u c d c' d' h g = (
  subst (λ i. LikeCome (come_union c d) (joined_as i c' d'))
      (sym (ap₂ first_kind (like_kind (coll k u) c c' h) (like_kind (coll k u) d d' g)))
      (joined_like k u (first_kind (kind_come c) (kind_come d)) c d c' d' h g (typed c d h.1 g.1)),
  typed c d h.1 g.1,
  typed c' d' h.2 g.2,
)
  where
    typed : (x y : Come) → ComesAs (coll k u) x → ComesAs (coll k u) y → ComesAs (coll k u) (come_union x y)
    typed x y a b = (union_shows k u (worth x) (worth y) x y (refl, a) (refl, b)).1

-- what is kept of a part is like what it comes to
pub kept_like : (s : Ground) (c : Come) → ComesAs s c → Like s c (come_kept c)
kept_like s (one o) h = (refl, h, h)
kept_like s (many k f) h =
    ((refl, alike_items k h.0 f h.2), h, (h.0, h.1, items_typed k h.0 (collected k f) (collected_typed k h.0 f h.2)))

-- ---- joins

pub on_test_both : (k : Kind) (t : Ground) (b : Option Bool) (f g : Flow) → IsSome b → Both k t f g → Both k t (on_test b f) (on_test b g)
on_test_both k t (Some true) f g i h = h
on_test_both k t (Some false) f g i h = both_itself k t (stop fine) tt
on_test_both k t None f g i h = absurd cc

tested_same : (k : Kind) (t : Ground) (o : Outcome) (f g : Flow) → OfType bool o → Both k t f g → Both k t (tested o f) (tested o g)
tested_same k t (done v) f g i h = on_test_both k t (as_bool v) f g i.0 h
tested_same k t (over vs) f g i h = both_itself k t (stop overflow) tt
tested_same k t stuck f g i h = absurd i

pub tested_both : (k : Kind) (t : Ground) (c d : Come) (f g : Flow) → Like bool c d → Both k t f g
    → Both k t (tested (worth c) f) (tested (worth d) g)
tested_both k t c d f g i h =
    subst (λ o. Both k t (tested (worth c) f) (tested o g)) (sym (like_worth bool c d i))
    (tested_same k t (worth c) f g (worth_typed bool c i.1) h)

under_same : (k : Kind) (t u : Ground) (o : Outcome) (go to : Value → Flow) → OfType u o
    → ((v : Value) → Inhabits u v → Both k t (go v) (to v)) → Both k t (under_key o go) (under_key o to)
under_same k t u (done v) go to i h = h v i
under_same k t u (over vs) go to i h = both_itself k t (stop overflow) tt
under_same k t u stuck go to i h = absurd i

pub under_both : (k : Kind) (t u : Ground) (c d : Come) (go to : Value → Flow) → Like u c d
    → ((v : Value) → Inhabits u v → Both k t (go v) (to v)) → Both k t (under_key (worth c) go) (under_key (worth d) to)
under_both k t u c d go to i h =
    subst (λ o. Both k t (under_key (worth c) go) (under_key o to)) (sym (like_worth u c d i))
    (under_same k t u (worth c) go to (worth_typed u c i.1) h)
