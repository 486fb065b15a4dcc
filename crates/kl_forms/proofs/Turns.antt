-- Checks of one item after another.
use Rattle.std.proofs.Common.{◌≡◌, ◌⊎◌, ⊎_elim, ℕ, zero, suc, ◌+◌, ◌<◌, ◌≤◌, Bool, true, false, List, [], ◌∷◌, length, map, get_or, refl, sym, ◌∙◌, subst, arith}
use Rattle.std.specs.List.{All, AllByRecursion}
use Rattle.kl_value.specs.declared.Value.{Value}
use Rattle.kl_type.specs.Ground.{Ground}
use Rattle.kl_outcome.specs.Typed.{Inhabits}
use Rattle.kl_rows.specs.declared.cell.Cell.{Cell}
use Rattle.kl_rows.specs.Places.{IsFine, IsType}
use Rattle.kl_rows.specs.Solutions.{Assignment}
use Rattle.kl_rows.proofs.Advancing.{Fact}
use Rattle.kl_forms.specs.Checks.{Checks}
use Rattle.kl_forms.specs.Constants.{ValueFields, EachHas}
use Rattle.kl_forms.proofs.Steps.{Stable, stays, both, cut, told}
use Rattle.kl_forms.proofs.Opening.{type_within}

abbrev pub Before : ℕ → (ℕ → Fact) → Fact
Before n P s = (k : ℕ) → k < n → P k s

module _ (P : ℕ → Fact) where
  pub turn_none : (ns : List Cell) → IsFine ns → Checks true ns ns (Before 0 P)
  turn_none ns fine = told true ns ns (λ s. Unit {0}) (Before 0 P) (λ s h d. tt) (λ s h d k lt. absurd (omega arith)) (stays ns fine)

  last : (n k : ℕ) (s : Assignment) → Before n P s → P n s → k < n + 1 → P k s
  last n k s h p lt = ⊎_elim (λ l. h k l) (λ e. subst (λ j. P j s) (sym e) p) (by n k lt)
    where
      by : (n k : ℕ) → k < n + 1 → (k < n) ⊎ (k ≡ n)
      by n k lt = grind arith

  module _ (n : ℕ) (a b c : List Cell) (ans : Bool) (so_far : Checks true a b (Before n P)) (stable : Stable (length a) (P n)) (one : Checks ans b c (P n)) where
    pub turn_more : ans ≡ true → Checks true a c (Before (n + 1) P)
    turn_more e = told true a c _ _
        (λ s h d. (λ k lt. d k (omega arith), d n (omega arith)))
        (λ s h d k lt. last n k s d.0 d.1 lt)
        (both true a b c (Before n P) (P n) stable so_far (subst (λ o. Checks o b c (P n)) e one))

    pub turn_fails : ans ≡ false → (D : Fact) → ((s : Assignment) → D s → (k : ℕ) → P k s) → Checks false a c D
    turn_fails e D go = cut a c _ D (λ s h d. (λ k lt. go s d k, go s d n)) (both false a b c (Before n P) (P n) stable so_far (subst (λ o. Checks o b c (P n)) e one))

-- the items of a collection
abbrev pub ItemHas : List Value → ℕ → ℕ → Fact
ItemHas vs item k s = (d : Value) → k < length vs → Inhabits (s.types item) (get_or vs k d)

same_get : {X : Type 0} (xs : List X) (k : ℕ) (d e : X) → k < length xs → get_or xs k d ≡ get_or xs k e
same_get [] k d e lt = absurd (omega arith)
same_get (x ∷ xs) zero d e lt = refl
same_get (x ∷ xs) (suc k) d e lt = same_get xs k d e (omega arith)

pub item_stable : (ns : List Cell) (vs : List Value) (item k : ℕ) → IsType ns item → Stable (length ns) (ItemHas vs item k)
item_stable ns vs item k h s u a d e lt = subst (λ t. Inhabits t (get_or vs k e)) (sym (a.types item (type_within ns item h))) (d e lt)

pub item_check : (old new : List Cell) (vs : List Value) (item k : ℕ) (v : Value) (ans : Bool) → k < length vs → v ≡ get_or vs k v → Checks ans old new (λ s. Inhabits (s.types item) v) → Checks ans old new (ItemHas vs item k)
item_check old new vs item k v ans lt e c = told ans old new _ _
    (λ s h d. subst (Inhabits (s.types item)) (sym e) (d v lt))
    (λ s h d x l. subst (Inhabits (s.types item)) (e ∙ same_get vs k v x lt) d)
    c

pub items_end : (old new : List Cell) (vs : List Value) (item n : ℕ) → length vs ≤ n → Checks true old new (Before n (ItemHas vs item)) → Checks true old new (λ s. All (Inhabits (s.types item)) vs)
items_end old new vs item n past c = told true old new _ _ (λ s h d k lt e l. d k e l) (λ s h d k e l. d k (omega arith) e l) c

-- the fields of a record
abbrev pub FieldHas : ValueFields → List ℕ → ℕ → Fact
FieldHas fs is k s = (d : List ℕ × Value) → k < length fs → Inhabits (s.types (get_or is k 0)) (get_or fs k d).1

pub type_at : (ns : List Cell) (is : List ℕ) (k : ℕ) → k < length is → AllByRecursion (IsType ns) is → IsType ns (get_or is k 0)
type_at ns [] k lt h = absurd (omega arith)
type_at ns (i ∷ is) zero lt h = h.0
type_at ns (i ∷ is) (suc k) lt h = type_at ns is k (omega arith) h.1

pub field_stable : (ns : List Cell) (fs : ValueFields) (is : List ℕ) (k : ℕ) → k < length is → AllByRecursion (IsType ns) is → Stable (length ns) (FieldHas fs is k)
field_stable ns fs is k lt h s u a d e l = subst (λ t. Inhabits t (get_or fs k e).1) (sym (a.types (get_or is k 0) (type_within ns (get_or is k 0) (type_at ns is k lt h)))) (d e l)

pub field_check : (old new : List Cell) (fs : ValueFields) (is : List ℕ) (k : ℕ) (f : List ℕ × Value) (ans : Bool) → k < length fs → Checks ans old new (λ s. Inhabits (s.types (get_or is k 0)) (get_or fs k f).1) → Checks ans old new (FieldHas fs is k)
field_check old new fs is k f ans lt c = told ans old new _ _
    (λ s h d. d f lt)
    (λ s h d x l. subst (λ g. Inhabits (s.types (get_or is k 0)) g.1) (same_get fs k f x lt) d)
    c

from_each : (g : ℕ → Ground) (fs : ValueFields) (is : List ℕ) → length is ≡ length fs → EachHas (map g is) fs → (k : ℕ) (d : List ℕ × Value) → k < length fs → Inhabits (g (get_or is k 0)) (get_or fs k d).1
from_each g [] is e h k d lt = absurd (omega arith)
from_each g (f ∷ fs) [] e h k d lt = absurd h
from_each g (f ∷ fs) (i ∷ is) e h zero d lt = h.0
from_each g (f ∷ fs) (i ∷ is) e h (suc k) d lt = from_each g fs is (omega arith) h.1 k d (omega arith)

to_each : (g : ℕ → Ground) (fs : ValueFields) (is : List ℕ) → length is ≡ length fs → ((k : ℕ) (d : List ℕ × Value) → k < length fs → Inhabits (g (get_or is k 0)) (get_or fs k d).1) → EachHas (map g is) fs
to_each g [] [] e h = tt
to_each g [] (i ∷ is) e h = absurd (omega arith)
to_each g (f ∷ fs) [] e h = absurd (omega arith)
to_each g (f ∷ fs) (i ∷ is) e h = (h 0 f (omega arith), to_each g fs is (omega arith) (λ k d lt. h (suc k) d (omega arith)))

pub fields_fail : (fs : ValueFields) (is : List ℕ) → length is ≡ length fs → (s : Assignment) → EachHas (map s.types is) fs → (k : ℕ) → FieldHas fs is k s
fields_fail fs is e s h k d lt = from_each s.types fs is e h k d lt

pub fields_end : (old new : List Cell) (fs : ValueFields) (is : List ℕ) (n : ℕ) → length is ≡ length fs → length fs ≤ n → Checks true old new (Before n (FieldHas fs is)) → Checks true old new (λ s. EachHas (map s.types is) fs)
fields_end old new fs is n e past c = told true old new _ _
    (λ s h d k lt x l. from_each s.types fs is e d k x l)
    (λ s h d. to_each s.types fs is e (λ k x l. d k (omega arith) x l))
    c
