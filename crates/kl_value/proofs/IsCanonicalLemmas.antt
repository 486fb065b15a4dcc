-- Which values are canonical, and what a canonical collection holds.
use Rattle.std.proofs.Common.{◌≡◌, ◌⊎◌, ℕ, ℤ, Bool, List, [], ◌∷◌, map, refl, ap, subst, ◌∙◌, inl, inr}
use Rattle.std.specs.List.{All, AllByRecursion}
use Rattle.std.specs.List.Sorted.{IsStrictlySortedBy}
use Rattle.std.proofs.lemmas.List.Elements.{All-from_recursion}
use Rattle.kl_base.specs.Fields.{LabelsRise}
use Rattle.kl_base.specs.Sorted.{IsRising}
use Rattle.kl_base.proofs.SortedLemmas.{IsRising-from_strict}
use Rattle.kl_value.specs.IsCanonical.{IsCanonical, IsCanonicalLayer}
use Rattle.kl_value.specs.Order.{compare}
use Rattle.kl_value.specs.Views.{collection}
use Rattle.kl_value.specs.declared.value.Kind.{Kind}
use Rattle.kl_value.specs.declared.value.Kind.TheVariants as kind
use Rattle.kl_value.specs.declared.value.Value.{Value, Value-F, map-Value, every-Value, every_made-Value, every_here-Value, every_held-Value}
use Rattle.kl_value.specs.declared.value.Value.TheVariants as value
use Rattle.kl_value.proofs.OrderLemmas.{compare_total, compare_exact}

abbrev Such : Type 0
Such = (v : Value) × every-Value IsCanonicalLayer v

-- ---- values that are canonical

pub bool_made : (b : Bool) → IsCanonical (value.Bool b)
unfolding IsCanonical
bool_made b = subst (every-Value IsCanonicalLayer) (value.rolls-Bool b) (every_made-Value IsCanonicalLayer (Value-F.Bool b) (Value-F.Bool b) refl tt)

pub int_made : (n : ℤ) → IsCanonical (value.Int n)
unfolding IsCanonical
int_made n = subst (every-Value IsCanonicalLayer) (value.rolls-Int n) (every_made-Value IsCanonicalLayer (Value-F.Int n) (Value-F.Int n) refl tt)

pub text_made : (t : List ℕ) → IsCanonical (value.Text t)
unfolding IsCanonical
text_made t = subst (every-Value IsCanonicalLayer) (value.rolls-Text t) (every_made-Value IsCanonicalLayer (Value-F.Text t) (Value-F.Text t) refl tt)

pub variant_made : (l : List ℕ) (v : Value) → IsCanonical v → IsCanonical (value.Inj l v)
unfolding IsCanonical
variant_made l v c =
    subst (every-Value IsCanonicalLayer) (value.rolls-Inj l v) (every_made-Value IsCanonicalLayer (Value-F.Inj l v) (Value-F.Inj l (v, c)) refl tt)

abbrev CanonicalField : List ℕ × Value → Type 0
CanonicalField f = IsCanonical f.1

abbrev fields : (fs : List (List ℕ × Value)) → AllByRecursion (λ f. every-Value IsCanonicalLayer f.1) fs → List (List ℕ × Such)
fields [] all = []
fields (f ∷ fs) all = (f.0, (f.1, all.0)) ∷ fields fs all.1

map-fields : (fs : List (List ℕ × Value)) (all : AllByRecursion (λ f. every-Value IsCanonicalLayer f.1) fs) → map (λ g. (g.0, g.1.0)) (fields fs all) ≡ fs
map-fields [] all = refl
map-fields (f ∷ fs) all = ap (λ gs. f ∷ gs) (map-fields fs all.1)

-- a record of canonical values by rising label
pub record_made : (fs : List (List ℕ × Value)) → AllByRecursion CanonicalField fs → LabelsRise fs → IsCanonical (value.Rec fs)
unfolding IsCanonical
record_made fs all up =
    subst (every-Value IsCanonicalLayer) (value.rolls-Rec fs)
    (every_made-Value IsCanonicalLayer (Value-F.Rec fs) (Value-F.Rec (fields fs all)) (ap (λ gs. Value-F.Rec gs) (map-fields fs all)) up)

abbrev beside : (vs : List Value) → AllByRecursion (every-Value IsCanonicalLayer) vs → List Such
beside [] all = []
beside (v ∷ vs) all = (v, all.0) ∷ beside vs all.1

map-beside : (vs : List Value) (all : AllByRecursion (every-Value IsCanonicalLayer) vs) → map (λ e. e.0) (beside vs all) ≡ vs
map-beside [] all = refl
map-beside (v ∷ vs) all = ap (λ ws. v ∷ ws) (map-beside vs all.1)

-- a collection of canonical values in its form
pub set_made : (vs : List Value) → AllByRecursion IsCanonical vs → IsStrictlySortedBy compare vs → IsCanonical (value.Set vs)
unfolding IsCanonical
set_made vs all up =
    subst (every-Value IsCanonicalLayer) (value.rolls-Set vs)
    (every_made-Value IsCanonicalLayer (Value-F.Set vs) (Value-F.Set (beside vs all)) (ap (λ ws. Value-F.Set ws) (map-beside vs all)) up)

pub bag_made : (vs : List Value) → AllByRecursion IsCanonical vs → IsRising compare vs → IsCanonical (value.Bag vs)
unfolding IsCanonical
bag_made vs all up =
    subst (every-Value IsCanonicalLayer) (value.rolls-Bag vs)
    (every_made-Value IsCanonicalLayer (Value-F.Bag vs) (Value-F.Bag (beside vs all)) (ap (λ ws. Value-F.Bag ws) (map-beside vs all)) up)

pub list_made : (vs : List Value) → AllByRecursion IsCanonical vs → IsCanonical (value.List vs)
unfolding IsCanonical
list_made vs all =
    subst (every-Value IsCanonicalLayer) (value.rolls-List vs)
    (every_made-Value IsCanonicalLayer (Value-F.List vs) (Value-F.List (beside vs all)) (ap (λ ws. Value-F.List ws) (map-beside vs all)) tt)

-- ---- the items of a canonical collection

abbrev AllCanonical : List Value → Type 0
AllCanonical = AllByRecursion (every-Value IsCanonicalLayer)

firsts : (es : List Such) → AllCanonical (map (λ e. e.0) es)
firsts [] = tt
firsts (e ∷ es) = (e.1, firsts es)

held_set : (x : Value-F Such) (vs : List Value) → map-Value Such Value (λ e. e.0) x ≡ Value-F.Set vs → AllCanonical vs
held_set (Value-F.Set es) vs e = let same : map (λ e. e.0) es ≡ vs = cc in subst AllCanonical same (firsts es)
held_set x vs e = cc

held_bag : (x : Value-F Such) (vs : List Value) → map-Value Such Value (λ e. e.0) x ≡ Value-F.Bag vs → AllCanonical vs
held_bag (Value-F.Bag es) vs e = let same : map (λ e. e.0) es ≡ vs = cc in subst AllCanonical same (firsts es)
held_bag x vs e = cc

held_list : (x : Value-F Such) (vs : List Value) → map-Value Such Value (λ e. e.0) x ≡ Value-F.List vs → AllCanonical vs
held_list (Value-F.List es) vs e = let same : map (λ e. e.0) es ≡ vs = cc in subst AllCanonical same (firsts es)
held_list x vs e = cc

pub items_canonical : (k : Kind) (vs : List Value) → IsCanonical (collection k vs) → All IsCanonical vs
unfolding IsCanonical
items_canonical kind.Set vs h = let held = every_held-Value IsCanonicalLayer (value.Set vs) h in All-from_recursion (every-Value IsCanonicalLayer) vs (held_set held.0 vs (held.1 ∙ value.outs-Set vs))
items_canonical kind.Bag vs h = let held = every_held-Value IsCanonicalLayer (value.Bag vs) h in All-from_recursion (every-Value IsCanonicalLayer) vs (held_bag held.0 vs (held.1 ∙ value.outs-Bag vs))
items_canonical kind.List vs h = let held = every_held-Value IsCanonicalLayer (value.List vs) h in All-from_recursion (every-Value IsCanonicalLayer) vs (held_list held.0 vs (held.1 ∙ value.outs-List vs))

-- ---- their order

pub set_strict : (vs : List Value) → IsCanonical (value.Set vs) → IsStrictlySortedBy compare vs
unfolding IsCanonical
set_strict vs h = subst IsCanonicalLayer (value.outs-Set vs) (every_here-Value IsCanonicalLayer (value.Set vs) h)

pub bag_rising : (vs : List Value) → IsCanonical (value.Bag vs) → IsRising compare vs
unfolding IsCanonical
bag_rising vs h = subst IsCanonicalLayer (value.outs-Bag vs) (every_here-Value IsCanonicalLayer (value.Bag vs) h)

abbrev pub IsSorting : Kind → Type 0
IsSorting k = (k ≡ kind.Set) ⊎ (k ≡ kind.Bag)

-- sets and bags rise
pub rising : (k : Kind) (vs : List Value) → IsCanonical (collection k vs) → IsSorting k → IsRising compare vs
rising kind.Set vs h s = IsRising-from_strict compare compare_total compare_exact vs (set_strict vs h)
rising kind.Bag vs h s = bag_rising vs h
rising kind.List vs h s = elim s [ inl e ↦ cc | inr e ↦ cc ]
