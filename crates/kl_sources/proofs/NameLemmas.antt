-- Names of sources.
use Rattle.std.proofs.Common.{◌≡◌, ◌≢◌, ℕ, zero, suc, true, false, List, [], ◌∷◌, Some, refl, sym, ap, subst, ◌∙◌, slice_get}
use Rattle.std.proofs.lemmas.Slice.Eq.{bytes_eq-Decides}
use Rattle.std.specs.List.{AllByRecursion, IsDistinct}
use Rattle.std.proofs.lemmas.Option.{same_Some}
use Rattle.kl_outcome.specs.Outcome.{Name}
use Rattle.kl_ask.proofs.Names.{not_same}
use Rattle.kl_sources.specs.declared.source.Source.{Source}
use Rattle.kl_sources.specs.Sources.{same, names_of}

pub same_is : (a b : Name) → same a b ≡ true → a ≡ b
same_is a b h = (bytes_eq-Decides a b).0 h

pub same_here : (a b : Name) → a ≡ b → same a b ≡ true
same_here a b h = (bytes_eq-Decides a b).1 h

pub differ_of : (a b : Name) → same a b ≡ false → a ≢ b
differ_of a b h e = let t : same a b ≡ true = same_here a b e in cc

pub turned : (a b : Name) → same a b ≡ false → same b a ≡ false
turned a b h = not_same b a (λ e. differ_of a b h (sym e))

apart : (ss : List Source) (i : ℕ) (t : Source) (x : Name) → AllByRecursion (λ y. same x y ≡ false) (names_of ss) → slice_get ss i ≡ Some t → same x t.name ≡ false
apart [] i t x h is = absurd cc
apart (s ∷ ss) zero t x h is = subst (λ (q : Source). same x q.name ≡ false) (same_Some _ _ is) h.0
apart (s ∷ ss) (suc i) t x h is = apart ss i t x h.1 is

-- two sources of one name are one
pub one_of_name : (ss : List Source) (i j : ℕ) (s t : Source) → IsDistinct same (names_of ss) → slice_get ss i ≡ Some s → slice_get ss j ≡ Some t → s.name ≡ t.name → i ≡ j
unfolding IsDistinct
one_of_name [] i j s t d is it e = absurd cc
one_of_name (x ∷ ss) zero zero s t d is it e = refl
one_of_name (x ∷ ss) zero (suc j) s t d is it e = absurd (differ_of x.name t.name (apart ss j t x.name d.0 it) (ap (λ (q : Source). q.name) (same_Some _ _ is) ∙ e))
one_of_name (x ∷ ss) (suc i) zero s t d is it e = absurd (differ_of x.name s.name (apart ss i s x.name d.0 is) (ap (λ (q : Source). q.name) (same_Some _ _ it) ∙ sym e))
one_of_name (x ∷ ss) (suc i) (suc j) s t d is it e = ap suc (one_of_name ss i j s t d.1 is it e)
