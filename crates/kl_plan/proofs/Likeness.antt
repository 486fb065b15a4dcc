-- What keeps drawings alike.
use Rattle.std.proofs.Common.{◌≡◌, ⊎_elim, ℕ, ◌+◌, ◌≤◌, min, true, refl, sym, ap, subst, ◌∙◌, arith}
use Rattle.std.specs.List.{sum_by}
use Rattle.std.proofs.lemmas.Bool.{cases_eq}
use Rattle.std.proofs.lemmas.List.Sums.{sum_by-cons}
use mathlib.Core.Path.{ap₂}
use Rattle.kl_value.specs.declared.Kind.{Kind}
use Rattle.kl_value.specs.declared.Kind.TheVariants as kind
use Rattle.kl_value.specs.declared.Value.{Value}
use Rattle.kl_type.specs.Ground.{Ground}
use Rattle.kl_outcome.specs.Outcome.{Flow, more, stop, fine, overflow, broken, items_in, followed, drawn}
use Rattle.kl_outcome.specs.Typed.{Inhabits}
use Rattle.kl_core.specs.Counts.{fits_in}
use Rattle.kl_outcome.proofs.Drawing.{drawn_same}
use Rattle.kl_outcome.proofs.OutcomeTypes.{FlowOf}
use Rattle.kl_plan.specs.Alike.{harm, weight, IsAlike, Alike}

pub harm_bound : (f : Flow) → harm f ≤ 1
harm_bound (more v f) = harm_bound f
harm_bound (stop fine) = omega arith
harm_bound (stop overflow) = omega arith
harm_bound (stop broken) = omega arith

pub harm_followed : (f g : Flow) → harm (followed f g) ≡ min 1 (harm f + harm g)
harm_followed (more v f) g = harm_followed f g
harm_followed (stop fine) g = let low = harm_bound g in omega arith
harm_followed (stop overflow) g = omega arith
harm_followed (stop broken) g = omega arith

pub weight_followed : (w : Value → ℕ) (f g : Flow) → harm f ≡ 0 → weight w (followed f g) ≡ weight w f + weight w g
weight_followed w (more v f) g z = omega (arith, sum_by-cons w v (items_in (followed f g)), sum_by-cons w v (items_in f), weight_followed w f g z)
weight_followed w (stop fine) g z = omega arith
weight_followed w (stop overflow) g z = absurd (omega arith)
weight_followed w (stop broken) g z = absurd (omega arith)

abbrev harms : (Value → Flow) → Value → ℕ
harms go v = harm (go v)

abbrev weights : (Value → ℕ) → (Value → Flow) → Value → ℕ
weights w go v = weight w (go v)

pub harm_drawn : (f : Flow) (go : Value → Flow) → harm (drawn f go) ≡ min 1 (sum_by (harms go) (items_in f) + harm f)
harm_drawn (more v f) go = omega (arith, harm_followed (go v) (drawn f go), harm_drawn f go, sum_by-cons (harms go) v (items_in f))
harm_drawn (stop fine) go = omega arith
harm_drawn (stop overflow) go = omega arith
harm_drawn (stop broken) go = omega arith

pub weight_drawn : (w : Value → ℕ) (f : Flow) (go : Value → Flow) → harm (drawn f go) ≡ 0 → weight w (drawn f go) ≡ sum_by (weights w go) (items_in f)
weight_drawn w (more v f) go z =
    let here : harm (go v) ≡ 0 = omega (arith, harm_followed (go v) (drawn f go)) in
    let there : harm (drawn f go) ≡ 0 = omega (arith, harm_followed (go v) (drawn f go)) in
    omega (arith, weight_followed w (go v) (drawn f go) here, weight_drawn w f go there, sum_by-cons (weights w go) v (items_in f))
weight_drawn w (stop fine) go z = refl
weight_drawn w (stop overflow) go z = absurd (omega arith)
weight_drawn w (stop broken) go z = absurd (omega arith)

-- what is asked of a way to count
record IsCount (c : ℕ → ℕ) : Type 0 where
  adds : (a b m n : ℕ) → c a ≡ c b → c m ≡ c n → c (a + m) ≡ c (b + n)
  sign : (a b : ℕ) → c a ≡ c b → min 1 a ≡ min 1 b

all_count : IsCount (λ n. n)
all_count = record { adds = λ a b m n p q. omega arith; sign = λ a b p. omega arith }

some_count : IsCount (min 1)
some_count = record { adds = λ a b m n p q. omega arith; sign = λ a b p. p }

module _ (c : ℕ → ℕ) (ok : IsCount c) where
  like_itself : (f : Flow) → IsAlike c f f
  like_itself f = record { end = refl; same = λ z w. refl }

  like_back : (f g : Flow) → IsAlike c f g → IsAlike c g f
  like_back f g p = record { end = sym p.end; same = λ z w. sym (p.same (sym p.end ∙ z) w) }

  like_on : (f g h : Flow) → IsAlike c f g → IsAlike c g h → IsAlike c f h
  like_on f g h p q = record { end = q.end ∙ p.end; same = λ z w. q.same (p.end ∙ z) w ∙ p.same z w }

  like_followed : (f f' g g' : Flow) → IsAlike c f f' → IsAlike c g g' → IsAlike c (followed f g) (followed f' g')
  like_followed f f' g g' p q = record {
    end = let a = p.end in let b = q.end in omega (arith, harm_followed f g, harm_followed f' g');
    same = λ z w.
        let here : harm f ≡ 0 = omega (arith, harm_followed f g) in
        let there : harm g ≡ 0 = omega (arith, harm_followed f g) in
        ap c (weight_followed w f' g' (p.end ∙ here))
        ∙ ok.adds (weight w f') (weight w f) (weight w g') (weight w g) (p.same here w) (q.same there w)
        ∙ sym (ap c (weight_followed w f g here));
  }

  like_drawn : (f f' : Flow) (go : Value → Flow) → IsAlike c f f' → IsAlike c (drawn f go) (drawn f' go)
  like_drawn f f' go p = record {
    end = ⊎_elim ends harms_on (cases_eq (harm f) 0);
    same = λ z w.
        let here : harm f ≡ 0 = omega (arith, harm_drawn f go) in
        let there : harm (drawn f' go) ≡ 0 = ⊎_elim ends harms_on (cases_eq (harm f) 0) ∙ z in
        ap c (weight_drawn w f' go there) ∙ p.same here (weights w go) ∙ sym (ap c (weight_drawn w f go z));
  }
    where
      ends : harm f ≡ 0 → harm (drawn f' go) ≡ harm (drawn f go)
      ends z =
          let e = p.end in
          let s : min 1 (sum_by (harms go) (items_in f')) ≡ min 1 (sum_by (harms go) (items_in f)) = ok.sign _ _ (p.same z (harms go)) in
          omega (arith, harm_drawn f go, harm_drawn f' go)

      harms_on : (harm f ≡ 0 → ⊥) → harm (drawn f' go) ≡ harm (drawn f go)
      harms_on n =
          let e = p.end in
          let one : harm f ≡ 1 = grind (arith, harm_bound f) in
          omega (arith, harm_drawn f go, harm_drawn f' go)

  like_bodies : (t : Ground) (f : Flow) (go to : Value → Flow) → FlowOf t f → ((v : Value) → Inhabits t v → IsAlike c (go v) (to v)) → IsAlike c (drawn f go) (drawn f to)
  like_bodies t (more v f) go to h k = like_followed (go v) (to v) (drawn f go) (drawn f to) (k v h.0) (like_bodies t f go to h.1 k)
  like_bodies t (stop e) go to h k = like_itself (stop e)

-- ---- by kinds

pub alike_itself : (k : Kind) (f : Flow) → Alike k f f
alike_itself kind.Set f = like_itself (min 1) some_count f
alike_itself kind.Bag f = like_itself (λ n. n) all_count f
alike_itself kind.List f = refl

pub alike_back : (k : Kind) (f g : Flow) → Alike k f g → Alike k g f
alike_back kind.Set f g p = like_back (min 1) some_count f g p
alike_back kind.Bag f g p = like_back (λ n. n) all_count f g p
alike_back kind.List f g p = sym p

pub alike_on : (k : Kind) (f g h : Flow) → Alike k f g → Alike k g h → Alike k f h
alike_on kind.Set f g h p q = like_on (min 1) some_count f g h p q
alike_on kind.Bag f g h p q = like_on (λ n. n) all_count f g h p q
alike_on kind.List f g h p q = q ∙ p

pub alike_followed : (k : Kind) (f f' g g' : Flow) → Alike k f f' → Alike k g g' → Alike k (followed f g) (followed f' g')
alike_followed kind.Set f f' g g' p q = like_followed (min 1) some_count f f' g g' p q
alike_followed kind.Bag f f' g g' p q = like_followed (λ n. n) all_count f f' g g' p q
alike_followed kind.List f f' g g' p q = ap₂ followed p q

pub alike_drawn : (k : Kind) (f f' : Flow) (go : Value → Flow) → Alike k f f' → Alike k (drawn f go) (drawn f' go)
alike_drawn kind.Set f f' go p = like_drawn (min 1) some_count f f' go p
alike_drawn kind.Bag f f' go p = like_drawn (λ n. n) all_count f f' go p
alike_drawn kind.List f f' go p = ap (λ h. drawn h go) p

pub alike_bodies : (k : Kind) (t : Ground) (f : Flow) (go to : Value → Flow) → FlowOf t f → ((v : Value) → Inhabits t v → Alike k (go v) (to v)) → Alike k (drawn f go) (drawn f to)
alike_bodies kind.Set t f go to h p = like_bodies (min 1) some_count t f go to h p
alike_bodies kind.Bag t f go to h p = like_bodies (λ n. n) all_count t f go to h p
alike_bodies kind.List t f go to h p = sym (drawn_same t f go to h (λ v i. sym (p v i)))

-- what is alike in a source is so in each collection into which its items may be drawn as they come
pub alike_fits : (j k : Kind) (f g : Flow) → fits_in j k ≡ true → Alike j f g → Alike k f g
alike_fits kind.Set kind.Set f g e p = p
alike_fits kind.Set kind.Bag f g e p = cc
alike_fits kind.Set kind.List f g e p = cc
alike_fits kind.Bag kind.Set f g e p = record { end = p.end; same = λ z w. ap (min 1) (p.same z w) }
alike_fits kind.Bag kind.Bag f g e p = p
alike_fits kind.Bag kind.List f g e p = cc
alike_fits kind.List k f g e p = subst (Alike k f) (sym p) (alike_itself k f)
