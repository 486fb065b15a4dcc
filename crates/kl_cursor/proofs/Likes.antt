-- Drawings that differ in order alone.
use Rattle.std.proofs.Common.{◌≡◌, ℕ, ◌+◌, min, true, refl, sym, ap, subst, ◌∙◌, arith}
use Rattle.std.proofs.lemmas.List.Sums.{sum_by-cons}
use Rattle.kl_value.specs.declared.Kind.{Kind}
use Rattle.kl_value.specs.declared.Kind.TheVariants as kind
use Rattle.kl_value.specs.declared.Value.{Value}
use Rattle.kl_outcome.specs.Outcome.{Flow, more, items_in, followed, drawn}
use Rattle.kl_core.specs.Counts.{fits_in}
use Rattle.kl_plan.specs.Alike.{harm, weight, Alike}
use Rattle.kl_plan.proofs.Likeness.{alike_itself, alike_on, alike_followed, alike_drawn, harm_followed, harm_drawn}
use Rattle.kl_cursor.specs.Likeness.{Same}

pub same_itself : (k : Kind) (f : Flow) → Same k f f
same_itself kind.Set f = alike_itself kind.Bag f
same_itself kind.Bag f = alike_itself kind.Bag f
same_itself kind.List f = refl

pub same_at : (k : Kind) (f g : Flow) → f ≡ g → Same k f g
same_at k f g e = subst (Same k f) e (same_itself k f)

pub same_on : (k : Kind) (f g h : Flow) → Same k f g → Same k g h → Same k f h
same_on kind.Set f g h p q = alike_on kind.Bag f g h p q
same_on kind.Bag f g h p q = alike_on kind.Bag f g h p q
same_on kind.List f g h p q = q ∙ p

pub same_followed : (k : Kind) (f f' g g' : Flow) → Same k f f' → Same k g g' → Same k (followed f g) (followed f' g')
same_followed kind.Set f f' g g' p q = alike_followed kind.Bag f f' g g' p q
same_followed kind.Bag f f' g g' p q = alike_followed kind.Bag f f' g g' p q
same_followed kind.List f f' g g' p q = alike_followed kind.List f f' g g' p q

pub same_drawn : (k : Kind) (f f' : Flow) (go : Value → Flow) → Same k f f' → Same k (drawn f go) (drawn f' go)
same_drawn kind.Set f f' go p = alike_drawn kind.Bag f f' go p
same_drawn kind.Bag f f' go p = alike_drawn kind.Bag f f' go p
same_drawn kind.List f f' go p = alike_drawn kind.List f f' go p

-- into each collection into which items may be drawn as they come
pub same_fits : (j k : Kind) (f g : Flow) → fits_in j k ≡ true → Same j f g → Same k f g
same_fits kind.Set kind.Set f g e p = p
same_fits kind.Set kind.Bag f g e p = cc
same_fits kind.Set kind.List f g e p = cc
same_fits kind.Bag kind.Set f g e p = p
same_fits kind.Bag kind.Bag f g e p = p
same_fits kind.Bag kind.List f g e p = cc
same_fits kind.List k f g e p = subst (Same k f) (sym p) (same_itself k f)

-- what drawings have that differ in order alone
pub same_harm : (k : Kind) (f g : Flow) → Same k f g → harm g ≡ harm f
same_harm kind.Set f g p = p.end
same_harm kind.Bag f g p = p.end
same_harm kind.List f g p = ap harm p

pub same_weight : (k : Kind) (f g : Flow) → Same k f g → harm f ≡ 0 → (w : Value → ℕ) → weight w g ≡ weight w f
same_weight kind.Set f g p z w = p.same z w
same_weight kind.Bag f g p z w = p.same z w
same_weight kind.List f g p z w = ap (weight w) p

pub same_alike : (k : Kind) (f g : Flow) → Same k f g → Alike k f g
same_alike kind.Set f g p = record { end = p.end; same = λ z w. ap (min 1) (p.same z w) }
same_alike kind.Bag f g p = p
same_alike kind.List f g p = p

-- ---- what ends well

pub well_first : (f g : Flow) → harm (followed f g) ≡ 0 → harm f ≡ 0
well_first f g z = omega (arith, harm_followed f g, z)

pub well_source : (f : Flow) (go : Value → Flow) → harm (drawn f go) ≡ 0 → harm f ≡ 0
well_source f go z = omega (arith, harm_drawn f go, z)

pub weight_more : (w : Value → ℕ) (v : Value) (f : Flow) → weight w (more v f) ≡ w v + weight w f
weight_more w v f = sum_by-cons w v (items_in f)
