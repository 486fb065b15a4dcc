-- Many fresh types.
use Rattle.std.proofs.Common.{◌≡◌, ℕ, ◌+◌, List, [], ◌∷◌, ◌++◌, length, map, refl, sym, ap, ◌∙◌, subst, arith, length-append}
use Rattle.std.specs.List.{AllByRecursion}
use Rattle.kl_type.specs.Ground.{Ground, IsGround}
use Rattle.kl_rows.specs.declared.cell.TypeNode.TheVariants.{AnyType}
use Rattle.kl_rows.specs.declared.cell.Cell.{Cell}
use Rattle.kl_rows.specs.declared.cell.Cell.TheVariants.{OfType}
use Rattle.kl_rows.specs.Places.{a_type, IsFine, IsType}
use Rattle.kl_rows.specs.Solutions.{Assignment, Solves}
use Rattle.kl_rows.specs.Steps.{Agrees, Grown}
use Rattle.kl_rows.specs.Making.{AddsCell}
use Rattle.kl_rows.proofs.Advancing.{agrees_refl, agrees_on, keeps_refl, keeps_on}
use Rattle.kl_rows.proofs.Growing.{grown_type}
use Rattle.kl_forms.specs.Checks.{OpensMany}
use Rattle.kl_forms.proofs.Opening.{type_within, can_any}
use Rattle.kl_base.proofs.Each.{all_map}

last_of : (t : Ground) (ts : List Ground) → (us : List Ground) × (x : Ground) × (t ∷ ts ≡ us ++ x ∷ [])
last_of t [] = ([], t, refl)
last_of t (s ∷ ts) = let w = last_of s ts in (t ∷ w.0, w.1, ap (λ l. t ∷ l) w.2)

all_but_last : (us : List Ground) (x : Ground) → AllByRecursion IsGround (us ++ x ∷ []) → AllByRecursion IsGround us × IsGround x
all_but_last [] x h = (tt, h.0)
all_but_last (u ∷ us) x h = let w = all_but_last us x h.1 in ((h.0, w.0), w.1)

all_and_last : (P : ℕ → Type 0) (is : List ℕ) (i : ℕ) → AllByRecursion P is → P i → AllByRecursion P (is ++ i ∷ [])
all_and_last P [] i h k = (k, tt)
all_and_last P (j ∷ is) i h k = (h.0, all_and_last P is i h.1 k)

-- numbers that are there have the same types after a step
pub same_all : (ns : List Cell) (s u : Assignment) (is : List ℕ) → Agrees (length ns) s u → AllByRecursion (IsType ns) is → map u.types is ≡ map s.types is
same_all ns s u [] a h = refl
same_all ns s u (i ∷ is) a h = ap (λ t. t ∷ map u.types is) (a.types i (type_within ns i h.0)) ∙ ap (λ ts. s.types i ∷ ts) (same_all ns s u is a h.1)

map_last : (f : ℕ → Ground) (is : List ℕ) (i : ℕ) → map f (is ++ i ∷ []) ≡ map f is ++ f i ∷ []
map_last f [] i = refl
map_last f (j ∷ is) i = ap (λ l. f j ∷ l) (map_last f is i)

lasts : (f : ℕ → Ground) (is : List ℕ) (i : ℕ) (vs us : List Ground) (x : Ground) (ts : List Ground) → map f is ≡ vs → vs ≡ us → f i ≡ x → ts ≡ us ++ x ∷ [] → map f (is ++ i ∷ []) ≡ ts
lasts f is i vs us x ts c d e k = map_last f is i ∙ (ap (λ l. l ++ f i ∷ []) (c ∙ d) ∙ (ap (λ z. us ++ z ∷ []) e ∙ sym k))

pub many_none : (ns : List Cell) (items : List ℕ) → items ≡ [] → IsFine ns → OpensMany ns ns items 0
many_none ns items e f = subst (λ is. OpensMany ns ns is 0) (sym e) (record {
  fine = f;
  keeps = keeps_refl ns;
  size = refl;
  sorts = tt;
  down = λ s ts h size all. record { to = s; agrees = agrees_refl (length ns) s; solves = h; holds = none ts size };
  up = λ s h. h;
})
  where
    none : (ts : List Ground) → length ts ≡ 0 → [] ≡ ts
    none [] size = refl
    none (t ∷ ts) size = absurd (omega arith)

module _ (a b c : List Cell) (items : List ℕ) (i n : ℕ) (many : OpensMany a b items n) (adds : AddsCell b c (OfType AnyType) i) where
  more_down : (s : Assignment) (ts : List Ground) → Solves a s → length ts ≡ n + 1 → AllByRecursion IsGround ts → Grown a c s (λ u. map u.types (items ++ i ∷ []) ≡ ts)
  more_down s [] h size all = absurd (omega arith)
  more_down s (t ∷ ts) h size all =
      let w = last_of t ts in
      let both = all_but_last w.0 w.1 (subst (AllByRecursion IsGround) w.2 all) in
      let long : length w.0 ≡ n = omega (arith, ap length w.2, length-append w.0 (w.1 ∷ [])) in
      let x = many.down s w.0 h long both.0 in
      let y = grown_type b c i many.fine AnyType (can_any b) adds x.to x.solves w.1 both.1 tt in
      let le = many.keeps.grows in
      record {
        to = y.to;
        agrees = agrees_on (length a) (length b) s x.to y.to le x.agrees y.agrees;
        solves = y.solves;
        holds = lasts y.to.types items i (map x.to.types items) w.0 w.1 (t ∷ ts) (same_all b x.to y.to items y.agrees many.sorts) x.holds y.holds w.2;
      }

  many_pushed : OpensMany a c (items ++ i ∷ []) (n + 1)
  many_pushed = record {
    fine = adds.fine;
    keeps = keeps_on a b c many.keeps adds.keeps;
    size = let e = many.size in omega (arith, length-append items (i ∷ []));
    sorts = all_and_last (IsType c) items i (all_map (IsType b) (IsType c) items (λ j. adds.keeps.sorts j a_type) many.sorts) adds.sort;
    down = more_down;
    up = λ s h. many.up s ((adds.solves s).0 h).0;
  }

  pub many_more : (after : List ℕ) → after ≡ items ++ i ∷ [] → OpensMany a c after (n + 1)
  many_more after e = subst (λ is. OpensMany a c is (n + 1)) (sym e) many_pushed
