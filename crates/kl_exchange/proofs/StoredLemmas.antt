-- What stands one level below a value, and which values are stored.
use Rattle.std.proofs.Common.{◌≡◌, ℕ, ℤ, ◌+◌, ◌<◌, suc, zero, Bool, List, [], ◌∷◌, length, take, map, get_or, refl, sym, ap, subst, ◌∙◌, arith, IsTrue}
use Rattle.std.specs.Prelude.{FitsSigned}
use Rattle.std.specs.Int.{w64}
use Rattle.std.specs.List.{AllByRecursion}
use Rattle.std.proofs.Math.Nat.{suc-add}
use Rattle.kl_base.specs.Word.{is_word}
use Rattle.kl_value.specs.Views.{collection}
use Rattle.kl_value.specs.declared.Kind.{Kind}
use Rattle.kl_value.specs.declared.Kind.TheVariants as kind
use Rattle.kl_value.specs.declared.Value.{Value, Value-F, out-Value, roll-Value, map-Value, every-Value, every_made-Value, every_here-Value, every_held-Value}
use Rattle.kl_value.specs.declared.Value.TheVariants as value
use Rattle.kl_exchange.specs.Stored.{IsStored, IsStoredLayer}
use Rattle.kl_exchange.proofs.Pairs.{Pair}

-- what stands one level below
abbrev pub parts : Value-F Value → List Value
parts (Value-F.Rec fs) = map (λ f. f.1) fs
parts (Value-F.Inj l v) = v ∷ []
parts (Value-F.Set vs) = vs
parts (Value-F.Bag vs) = vs
parts (Value-F.List vs) = vs
parts _ = []

module _ (Q : Value-F Value → Type 0) where
  abbrev Such : Type 0
  Such = (v : Value) × every-Value Q v

  each : (es : List Such) → AllByRecursion (every-Value Q) (map (λ e. e.0) es)
  each [] = tt
  each (e ∷ es) = (e.1, each es)

  each_field : (es : List (List ℕ × Such)) → AllByRecursion (every-Value Q) (map (λ (f : Pair). f.1) (map (λ (e : List ℕ × Such). (e.0, e.1.0)) es))
  each_field [] = tt
  each_field (e ∷ es) = (e.1.1, each_field es)

  kept : (y : Value-F Such) → AllByRecursion (every-Value Q) (parts (map-Value Such Value (λ e. e.0) y))
  kept (Value-F.Rec es) = each_field es
  kept (Value-F.Inj l e) = (e.1, tt)
  kept (Value-F.Set es) = each es
  kept (Value-F.Bag es) = each es
  kept (Value-F.List es) = each es
  kept _ = tt

  pub children : (v : Value) → every-Value Q v → AllByRecursion (every-Value Q) (parts (out-Value v))
  children v c = let held = every_held-Value Q v c in subst (λ x. AllByRecursion (every-Value Q) (parts x)) held.1 (kept held.0)

  abbrev beside : (vs : List Value) → AllByRecursion (every-Value Q) vs → List Such
  beside [] all = []
  beside (v ∷ vs) all = (v, all.0) ∷ beside vs all.1

  map-beside : (vs : List Value) (all : AllByRecursion (every-Value Q) vs) → map (λ e. e.0) (beside vs all) ≡ vs
  map-beside [] all = refl
  map-beside (v ∷ vs) all = ap (λ ws. v ∷ ws) (map-beside vs all.1)

  abbrev fields : (fs : List Pair) → AllByRecursion (every-Value Q) (map (λ f. f.1) fs) → List (List ℕ × Such)
  fields [] all = []
  fields (f ∷ fs) all = (f.0, (f.1, all.0)) ∷ fields fs all.1

  map-fields : (fs : List Pair) (all : AllByRecursion (every-Value Q) (map (λ f. f.1) fs)) → map (λ g. (g.0, g.1.0)) (fields fs all) ≡ fs
  map-fields [] all = refl
  map-fields (f ∷ fs) all = ap (λ gs. f ∷ gs) (map-fields fs all.1)

  -- What holds here and of the parts holds of the whole.
  made : (x : Value-F Value) → Q x → AllByRecursion (every-Value Q) (parts x) → every-Value Q (roll-Value x)
  made (Value-F.Bool b) here all = every_made-Value Q (Value-F.Bool b) (Value-F.Bool b) refl here
  made (Value-F.Int n) here all = every_made-Value Q (Value-F.Int n) (Value-F.Int n) refl here
  made (Value-F.Text t) here all = every_made-Value Q (Value-F.Text t) (Value-F.Text t) refl here
  made (Value-F.Rec fs) here all = every_made-Value Q (Value-F.Rec fs) (Value-F.Rec (fields fs all)) (ap (λ gs. Value-F.Rec gs) (map-fields fs all)) here
  made (Value-F.Inj l v) here all = every_made-Value Q (Value-F.Inj l v) (Value-F.Inj l (v, all.0)) refl here
  made (Value-F.Set vs) here all = every_made-Value Q (Value-F.Set vs) (Value-F.Set (beside vs all)) (ap (λ ws. Value-F.Set ws) (map-beside vs all)) here
  made (Value-F.Bag vs) here all = every_made-Value Q (Value-F.Bag vs) (Value-F.Bag (beside vs all)) (ap (λ ws. Value-F.Bag ws) (map-beside vs all)) here
  made (Value-F.List vs) here all = every_made-Value Q (Value-F.List vs) (Value-F.List (beside vs all)) (ap (λ ws. Value-F.List ws) (map-beside vs all)) here

stored : (x : Value-F Value) → IsStoredLayer x → AllByRecursion IsStored (parts x) → (v : Value) → v ≡ roll-Value x → IsStored v
unfolding IsStored
stored x here all v is = subst (every-Value IsStoredLayer) (sym is) (made IsStoredLayer x here all)

pub stored_here : (v : Value) → IsStored v → IsStoredLayer (out-Value v) × AllByRecursion IsStored (parts (out-Value v))
unfolding IsStored
stored_here v s = (every_here-Value IsStoredLayer v s, children IsStoredLayer v s)

pub bool_stored : (v : Value) (b : Bool) → v ≡ value.Bool b → IsStored v
bool_stored v b is = stored (Value-F.Bool b) tt tt v (is ∙ sym (value.rolls-Bool b))

pub int_stored : (v : Value) (n : ℤ) → v ≡ value.Int n → FitsSigned w64 n → IsStored v
int_stored v n is fits = stored (Value-F.Int n) fits tt v (is ∙ sym (value.rolls-Int n))

pub text_stored : (v : Value) (t : List ℕ) → v ≡ value.Text t → IsStored v
text_stored v t is = stored (Value-F.Text t) tt tt v (is ∙ sym (value.rolls-Text t))

pub variant_stored : (v : Value) (l : List ℕ) (w : Value) → v ≡ value.Inj l w → IsTrue (is_word l) → IsStored w → IsStored v
variant_stored v l w is word s = stored (Value-F.Inj l w) word (s, tt) v (is ∙ sym (value.rolls-Inj l w))

abbrev pub StoredField : Pair → Type 0
StoredField f = IsTrue (is_word f.0) × IsStored f.1

words : (fs : List Pair) → AllByRecursion StoredField fs → AllByRecursion (λ f. IsTrue (is_word f.0)) fs
words [] all = tt
words (f ∷ fs) all = (all.0.0, words fs all.1)

below : (fs : List Pair) → AllByRecursion StoredField fs → AllByRecursion IsStored (map (λ f. f.1) fs)
below [] all = tt
below (f ∷ fs) all = (all.0.1, below fs all.1)

pub record_stored : (v : Value) (fs : List Pair) → v ≡ value.Rec fs → AllByRecursion StoredField fs → IsStored v
record_stored v fs is all = stored (Value-F.Rec fs) (words fs all) (below fs all) v (is ∙ sym (value.rolls-Rec fs))

pub items_stored : (k : Kind) (v : Value) (vs : List Value) → v ≡ collection k vs → AllByRecursion IsStored vs → IsStored v
items_stored kind.Set v vs is all = stored (Value-F.Set vs) tt all v (is ∙ sym (value.rolls-Set vs))
items_stored kind.Bag v vs is all = stored (Value-F.Bag vs) tt all v (is ∙ sym (value.rolls-Bag vs))
items_stored kind.List v vs is all = stored (Value-F.List vs) tt all v (is ∙ sym (value.rolls-List vs))

-- one item more
pub all_more : {A : Type 0} (P : A → Type 0) (xs : List A) (i : ℕ) (a : A) → i < length xs → a ≡ get_or xs i a → AllByRecursion P (take i xs) → P a → AllByRecursion P (take (i + 1) xs)
all_more P [] i a within is all one = absurd (omega arith)
all_more P (x ∷ xs) zero a within is all one = (subst P is one, tt)
all_more P (x ∷ xs) (suc i) a within is all one = rw (suc-add i 1) (all.0, all_more P xs i a (omega arith) is all.1 one)
