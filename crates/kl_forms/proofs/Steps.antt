-- Checks, one after another: what is asked is put together from the last step to the first.
use Rattle.std.proofs.Common.{◌≡◌, ℕ, Bool, true, false, List, length, refl, sym, ap, ◌∙◌, subst}
use Rattle.kl_value.specs.declared.value.Kind.{Kind}
use Rattle.kl_type.specs.Ground.{Ground, IsGround}
use Rattle.kl_rows.specs.declared.cell.TypeNode.{TypeNode}
use Rattle.kl_rows.specs.declared.cell.KindNode.{KindNode}
use Rattle.kl_rows.specs.declared.cell.Cell.{Cell}
use Rattle.kl_rows.specs.declared.cell.Cell.TheVariants.{OfType, OfKind}
use Rattle.kl_rows.specs.Places.{IsFine, IsType, sort_at}
use Rattle.kl_rows.specs.Solutions.{Assignment, TypeSays, KindSays, Solves}
use Rattle.kl_rows.specs.Steps.{Agrees, Advances}
use Rattle.kl_rows.specs.Making.{CanMake, AddsCell}
use Rattle.kl_rows.specs.declared.schemes.Scheme.{Scheme}
use Rattle.kl_rows.specs.Schemes.{Instance, Instantiates, cells_of, given}
use Rattle.kl_rows.proofs.Advancing.{Fact, agrees_refl, agrees_on, keeps_refl, keeps_on, absurd_true}
use Rattle.kl_rows.proofs.Growing.{grown_type, grown_kind}
use Rattle.kl_forms.specs.Checks.{Checks}

-- D speaks of numbers below n alone
abbrev pub Stable : ℕ → Fact → Type 0
Stable n D = (s u : Assignment) → Agrees n s u → D s → D u

-- nothing is asked
pub stays : (ns : List Cell) → IsFine ns → Checks true ns ns (λ s. Unit {0})
stays ns f = record {
  fine = f;
  keeps = keeps_refl ns;
  down = λ s h d. (refl, record { to = s; agrees = agrees_refl (length ns) s; solves = h; holds = tt });
  up = λ t s h. (h, tt);
}

-- a merge
pub merges : (ans : Bool) (old new : List Cell) (D : Fact) → Advances ans old new D (λ s. Unit {0}) → Checks ans old new D
merges ans old new D m = record { fine = m.fine; keeps = m.keeps; down = m.down; up = λ t s h. m.up t s h tt }

-- what can not be
pub never : (ns : List Cell) (D : Fact) → IsFine ns → ((s : Assignment) → Solves ns s → D s → ⊥) → Checks false ns ns D
never ns D f none = record { fine = f; keeps = keeps_refl ns; down = λ s h d. absurd (none s h d); up = λ t s h. absurd_true _ t }

-- the same in other words
pub told : (ans : Bool) (old new : List Cell) (D E : Fact) → ((s : Assignment) → Solves old s → E s → D s) → ((s : Assignment) → Solves old s → D s → E s) → Checks ans old new D → Checks ans old new E
told ans old new D E go come c = record { fine = c.fine; keeps = c.keeps; down = λ s h e. c.down s h (go s h e); up = λ t s h. let w = c.up t s h in (w.0, come s w.0 w.1) }

-- a refusal of what is asked with more
pub cut : (old new : List Cell) (D E : Fact) → ((s : Assignment) → Solves old s → E s → D s) → Checks false old new D → Checks false old new E
cut old new D E go c = record { fine = c.fine; keeps = c.keeps; down = λ s h e. c.down s h (go s h e); up = λ t s h. absurd_true _ t }

-- one check, and another that asks of numbers that were there before
pub both : (ans : Bool) (a b c : List Cell) (D E : Fact) → Stable (length a) E → Checks true a b D → Checks ans b c E → Checks ans a c (λ s. D s × E s)
both ans a b c D E stable f g = record {
  fine = g.fine;
  keeps = keeps_on a b c f.keeps g.keeps;
  down = λ s h d.
      let w = (f.down s h d.0).1 in
      let z = g.down w.to w.solves (stable s w.to w.agrees d.1) in
      (z.0, record { to = z.1.to; agrees = let le = f.keeps.grows in agrees_on (length a) (length b) s w.to z.1.to le w.agrees z.1.agrees; solves = z.1.solves; holds = tt });
  up = λ t s h. let w = g.up t s h in let z = f.up refl s w.0 in (z.0, (z.1, w.1));
}

-- a new type of which something is said, and what is asked where it is t
module _ (old new : List Cell) (i : ℕ) (fine : IsFine old) where
  pub with_type : (n : TypeNode) → CanMake old (OfType n) → AddsCell old new (OfType n) i → (ans : Bool) (end : List Cell) (D : Fact) (E : Ground → Fact) → ((t : Ground) → Stable (length old) (E t))
      → ((s : Assignment) → E (s.types i) s → D s) → ((s : Assignment) → D s → E (s.types i) s) → Checks ans new end D
      → Checks ans old end (λ s. (t : Ground) × IsGround t × TypeSays n s t × E t s)
  with_type n can adds ans end D E stable go come c = record {
    fine = c.fine;
    keeps = keeps_on old new end adds.keeps c.keeps;
    down = λ s h d.
        let w = grown_type old new i fine n can adds s h d.0 d.1 d.2 in
        let z = c.down w.to w.solves (go w.to (subst (λ t. E t w.to) (sym w.holds) (stable d.0 s w.to w.agrees d.3))) in
        (z.0, record { to = z.1.to; agrees = let le = adds.keeps.grows in agrees_on (length old) (length new) s w.to z.1.to le w.agrees z.1.agrees; solves = z.1.solves; holds = tt });
    up = λ t s h. let w = c.up t s h in let z = (adds.solves s).0 w.0 in (z.0, (s.types i, s.types_ground i, z.1, come s w.1));
  }

  pub with_kind : (n : KindNode) → CanMake old (OfKind n) → AddsCell old new (OfKind n) i → (ans : Bool) (end : List Cell) (D : Fact) (E : Kind → Fact) → ((k : Kind) → Stable (length old) (E k))
      → ((s : Assignment) → E (s.kinds i) s → D s) → ((s : Assignment) → D s → E (s.kinds i) s) → Checks ans new end D
      → Checks ans old end (λ s. (k : Kind) × KindSays n s k × E k s)
  with_kind n can adds ans end D E stable go come c = record {
    fine = c.fine;
    keeps = keeps_on old new end adds.keeps c.keeps;
    down = λ s h d.
        let w = grown_kind old new i fine n can adds s h d.0 d.1 in
        let z = c.down w.to w.solves (go w.to (subst (λ t. E t w.to) (sym w.holds) (stable d.0 s w.to w.agrees d.2))) in
        (z.0, record { to = z.1.to; agrees = let le = adds.keeps.grows in agrees_on (length old) (length new) s w.to z.1.to le w.agrees z.1.agrees; solves = z.1.solves; holds = tt });
    up = λ t s h. let w = c.up t s h in let z = (adds.solves s).0 w.0 in (z.0, (s.kinds i, z.1, come s w.1));
  }

-- a use of a scheme of a type
given_type : (new : List Cell) (i : ℕ) (s : Assignment) → IsType new i → given (sort_at new i) s i ≡ s.types i
given_type new i s e = ap (λ o. given o s i) e

pub with_instance : (old new : List Cell) (scheme : Scheme) (i : ℕ) → IsType (cells_of scheme.nodes) scheme.root → Instantiates old new scheme i → (ans : Bool) (end : List Cell) (D : Fact) (E : Ground → Fact) → ((t : Ground) → Stable (length old) (E t))
    → ((s : Assignment) → E (s.types i) s → D s) → ((s : Assignment) → D s → E (s.types i) s) → Checks ans new end D
    → Checks ans old end (λ s. (t : Ground) × Instance scheme t × E t s)
with_instance old new scheme i is_type used ans end D E stable go come c = record {
  fine = c.fine;
  keeps = keeps_on old new end used.keeps c.keeps;
  down = λ s h d.
      let w = used.down s d.0 h d.1 in
      let e = sym (given_type new i w.to (used.sort ∙ is_type)) ∙ w.holds in
      let z = c.down w.to w.solves (go w.to (subst (λ t. E t w.to) (sym e) (stable d.0 s w.to w.agrees d.2))) in
      (z.0, record { to = z.1.to; agrees = let le = used.keeps.grows in agrees_on (length old) (length new) s w.to z.1.to le w.agrees z.1.agrees; solves = z.1.solves; holds = tt });
  up = λ t s h. let w = c.up t s h in let z = used.up s w.0 in (z.0, (s.types i, subst (Instance scheme) (given_type new i s (used.sort ∙ is_type)) z.1, come s w.1));
}
