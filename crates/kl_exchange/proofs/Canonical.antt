-- What is spelled is canonical, stored, and nests no deeper than its brackets.
use Rattle.std.proofs.Common.{◌≡◌, ◌≤◌, ℕ, suc, zero, List, [], ◌∷◌, ◌++◌, codes, IsTrue, refl, sym, subst, arith, inl, inr}
use Rattle.std.specs.List.{All, AllByRecursion, dedup}
use Rattle.std.specs.Ordering.{eq_by_cmp}
use Rattle.std.proofs.lemmas.List.Elements.{recursion_from_All, All-from_recursion}
use Rattle.std.proofs.lemmas.List.Filters.{All-dedup}
use Rattle.std.proofs.lemmas.List.Sorted.{All-permutation}
use Rattle.kl_base.specs.Sorted.{sorted}
use Rattle.kl_base.specs.Word.{is_word}
use Rattle.kl_base.proofs.SortedLemmas.{all-sorted}
use Rattle.kl_value.specs.Canon.{canonical}
use Rattle.kl_value.specs.IsCanonical.{IsCanonical}
use Rattle.kl_value.specs.Order.{compare}
use Rattle.kl_value.specs.Shape.{depth_of, greatest}
use Rattle.kl_value.specs.Views.{collection}
use Rattle.kl_value.specs.Written.{text_of}
use Rattle.kl_value.proofs.IsCanonicalLemmas.{bool_made, int_made, text_made, variant_made, record_made}
use Rattle.kl_value.proofs.CanonLemmas.{canonical_keeps}
use Rattle.kl_value.proofs.OrderLemmas.{compare_total}
use Rattle.kl_value.proofs.ShapeLemmas.{depth-Bool, depth-Int, depth-Text, depth-Rec, depth-Inj, depth-Set, depth-Bag, depth-List}
use Rattle.kl_value.specs.declared.Kind.{Kind}
use Rattle.kl_value.specs.declared.Kind.TheVariants as kind
use Rattle.kl_value.specs.declared.Value.{Value}
use Rattle.kl_value.specs.declared.Value.TheVariants as value
use Rattle.kl_exchange.specs.Grammar.{Padded, More, Listed, SpellsPlain, SpellsField, SpellsBracket, Spells, IsItem}
use Rattle.kl_exchange.specs.Stored.{IsStored}
use Rattle.kl_exchange.proofs.Pairs.{Pair}
use Rattle.kl_exchange.proofs.ReadsBack.{item_back}
use Rattle.kl_exchange.proofs.StoredLemmas.{bool_stored, int_stored, text_stored, variant_stored, record_stored, items_stored}

abbrev FieldOf : (Value → Type 0) → Pair → Type 0
FieldOf P f = IsTrue (is_word f.0) × P f.1

-- What holds of each value inside.
module _ (S : List ℕ → Value → Type 0) (P : Value → Type 0) (each : (bytes : List ℕ) (v : Value) → S bytes v → P v) where
  more_items : (bytes : List ℕ) (vs : List Value) → More (Padded S) bytes vs → AllByRecursion P vs
  more_items bytes [] spells = tt
  more_items bytes (v ∷ vs) spells = (each spells.3.inside v spells.3.spells, more_items spells.1 vs spells.4)

  items : (bytes : List ℕ) (vs : List Value) → Listed (Padded S) bytes vs → All P vs
  items bytes [] spells = All-from_recursion P [] tt
  items bytes (v ∷ vs) spells = All-from_recursion P (v ∷ vs) (each spells.3.inside v spells.3.spells, more_items spells.1 vs spells.4)

  field : (bytes : List ℕ) (f : Pair) → SpellsField S bytes f → FieldOf P f
  field bytes f spells = (spells.label.spells.1, each spells.value.inside f.1 spells.value.spells)

  more_fields : (bytes : List ℕ) (fs : List Pair) → More (SpellsField S) bytes fs → AllByRecursion (FieldOf P) fs
  more_fields bytes [] spells = tt
  more_fields bytes (f ∷ fs) spells = (field spells.0 f spells.3, more_fields spells.1 fs spells.4)

  fields : (bytes : List ℕ) (fs : List Pair) → Listed (SpellsField S) bytes fs → All (FieldOf P) fs
  fields bytes [] spells = All-from_recursion (FieldOf P) [] tt
  fields bytes (f ∷ fs) spells = All-from_recursion (FieldOf P) (f ∷ fs) (field spells.0 f spells.3, more_fields spells.1 fs spells.4)

-- ---- canonical

plain_made : (bytes : List ℕ) (v : Value) → SpellsPlain bytes v → IsCanonical v
plain_made bytes v (SpellsPlain.truth b is e) = subst IsCanonical (sym e) (bool_made b)
plain_made bytes v (SpellsPlain.number n spells e) = subst IsCanonical (sym e) (int_made n)
plain_made bytes v (SpellsPlain.text inside t is spells e) = subst IsCanonical (sym e) (text_made t)

fields_canonical : (fs : List Pair) → AllByRecursion (FieldOf IsCanonical) fs → AllByRecursion (λ f. IsCanonical f.1) fs
fields_canonical [] all = tt
fields_canonical (f ∷ fs) all = (all.0.1, fields_canonical fs all.1)

module _ (S : List ℕ → Value → Type 0) (each : (bytes : List ℕ) (v : Value) → S bytes v → IsCanonical v) where
  bracket_made : (bytes : List ℕ) (v : Value) → SpellsBracket S bytes v → IsCanonical v
  bracket_made bytes v (SpellsBracket.collection k inside vs is listed e) = subst IsCanonical (sym e) (canonical_keeps k vs (items S IsCanonical each inside vs listed))
  bracket_made bytes v (SpellsBracket.fields inside pairs sorted is listed of e) =
      let all = All-permutation (FieldOf IsCanonical) pairs sorted of.0 (fields S IsCanonical each inside pairs listed) in
      subst IsCanonical (sym e) (record_made sorted (fields_canonical sorted (recursion_from_All (FieldOf IsCanonical) sorted all)) of.1)
  bracket_made bytes v (SpellsBracket.variant inside f is spells e) = subst IsCanonical (sym e) (variant_made f.0 f.1 (each spells.value.inside f.1 spells.value.spells))

pub spelled_canonical : (n : ℕ) (bytes : List ℕ) (v : Value) → Spells n bytes v → IsCanonical v
spelled_canonical zero bytes v spells = plain_made bytes v spells
spelled_canonical (suc n) bytes v (inl spells) = plain_made bytes v spells
spelled_canonical (suc n) bytes v (inr spells) = bracket_made (Spells n) (spelled_canonical n) bytes v spells

pub item_canonical : (n : ℕ) (bytes : List ℕ) (v : Value) → IsItem n bytes v → IsCanonical v
item_canonical n bytes v spells = spelled_canonical n spells.value.inside v spells.value.spells

-- ---- stored, and no deeper than so many levels

abbrev Fits : ℕ → Value → Type 0
Fits n v = IsStored v × (depth_of v ≤ n)

plain_fits : (n : ℕ) (bytes : List ℕ) (v : Value) → SpellsPlain bytes v → Fits n v
plain_fits n bytes v (SpellsPlain.truth b is e) = (bool_stored v b e, rw (e, depth-Bool b) (omega arith))
plain_fits n bytes v (SpellsPlain.number m spells e) = (int_stored v m e spells.fits, rw (e, depth-Int m) (omega arith))
plain_fits n bytes v (SpellsPlain.text inside t is spells e) = (text_stored v t e, rw (e, depth-Text t) (omega arith))

module _ (n : ℕ) where
  all_stored : (vs : List Value) → AllByRecursion (Fits n) vs → AllByRecursion IsStored vs
  all_stored [] all = tt
  all_stored (v ∷ vs) all = (all.0.0, all_stored vs all.1)

  depth_within : (vs : List Value) → AllByRecursion (Fits n) vs → greatest depth_of vs ≤ n
  depth_within [] all = omega arith
  depth_within (v ∷ vs) all = let one = all.0.1 in let rest = depth_within vs all.1 in omega arith

  fields_stored : (fs : List Pair) → AllByRecursion (FieldOf (Fits n)) fs → AllByRecursion (FieldOf IsStored) fs
  fields_stored [] all = tt
  fields_stored (f ∷ fs) all = ((all.0.0, all.0.1.0), fields_stored fs all.1)

  fields_within : (fs : List Pair) → AllByRecursion (FieldOf (Fits n)) fs → greatest (λ f. depth_of f.1) fs ≤ n
  fields_within [] all = omega arith
  fields_within (f ∷ fs) all = let one = all.0.1.1 in let rest = fields_within fs all.1 in omega arith

  deeper : (k : Kind) (vs : List Value) → AllByRecursion (Fits n) vs → depth_of (collection k vs) ≤ suc n
  deeper kind.Set vs all = let inside = depth_within vs all in rw (depth-Set vs) (omega arith)
  deeper kind.Bag vs all = let inside = depth_within vs all in rw (depth-Bag vs) (omega arith)
  deeper kind.List vs all = let inside = depth_within vs all in rw (depth-List vs) (omega arith)

  collection_fits : (k : Kind) (v : Value) (vs : List Value) → v ≡ collection k vs → AllByRecursion (Fits n) vs → Fits (suc n) v
  collection_fits k v vs is all = (items_stored k v vs is (all_stored vs all), subst (λ w. depth_of w ≤ suc n) (sym is) (deeper k vs all))

  sorted_all : (vs : List Value) → All (Fits n) vs → All (Fits n) (sorted compare vs)
  sorted_all vs all = All-from_recursion (Fits n) (sorted compare vs) (all-sorted compare compare_total (Fits n) vs (recursion_from_All (Fits n) vs all))

  canonical_fits : (k : Kind) (vs : List Value) → All (Fits n) vs → Fits (suc n) (canonical k vs)
  unfolding canonical
  canonical_fits kind.Set vs all =
      let kept = All-dedup (eq_by_cmp compare) (Fits n) (sorted compare vs) (sorted_all vs all) in
      collection_fits kind.Set _ (dedup (eq_by_cmp compare) (sorted compare vs)) refl (recursion_from_All (Fits n) _ kept)
  canonical_fits kind.Bag vs all = collection_fits kind.Bag _ (sorted compare vs) refl (recursion_from_All (Fits n) _ (sorted_all vs all))
  canonical_fits kind.List vs all = collection_fits kind.List _ vs refl (recursion_from_All (Fits n) vs all)

  record_fits : (v : Value) (fs : List Pair) → v ≡ value.Rec fs → AllByRecursion (FieldOf (Fits n)) fs → Fits (suc n) v
  record_fits v fs is all = (
    record_stored v fs is (fields_stored fs all),
    (let inside = fields_within fs all in rw (is, depth-Rec fs) (omega arith)),
  )

  bracket_fits : (S : List ℕ → Value → Type 0) → ((bytes : List ℕ) (v : Value) → S bytes v → Fits n v) → (bytes : List ℕ) (v : Value) → SpellsBracket S bytes v → Fits (suc n) v
  bracket_fits S each bytes v (SpellsBracket.collection k inside vs is listed e) = subst (Fits (suc n)) (sym e) (canonical_fits k vs (items S (Fits n) each inside vs listed))
  bracket_fits S each bytes v (SpellsBracket.fields inside pairs sorted is listed of e) =
      let all = All-permutation (FieldOf (Fits n)) pairs sorted of.0 (fields S (Fits n) each inside pairs listed) in
      record_fits v sorted e (recursion_from_All (FieldOf (Fits n)) sorted all)
  bracket_fits S each bytes v (SpellsBracket.variant inside f is spells e) =
      let fits = field S (Fits n) each inside f spells in
      let depth = fits.1.1 in
      (variant_stored v f.0 f.1 e fits.0 fits.1.0, rw (e, depth-Inj f.0 f.1) (omega arith))

spelled_fits : (n : ℕ) (bytes : List ℕ) (v : Value) → Spells n bytes v → Fits n v
spelled_fits zero bytes v spells = plain_fits zero bytes v spells
spelled_fits (suc n) bytes v (inl spells) = plain_fits (suc n) bytes v spells
spelled_fits (suc n) bytes v (inr spells) = bracket_fits n (Spells n) (spelled_fits n) bytes v spells

pub item_nests : (n : ℕ) (bytes : List ℕ) (v : Value) → IsItem n bytes v → depth_of v ≤ n
item_nests n bytes v spells = (spelled_fits n spells.value.inside v spells.value.spells).1

-- So the text of a value that was read is an item of it again.
pub item_again : (n : ℕ) (bytes : List ℕ) (v : Value) → IsItem n bytes v → IsItem n (text_of v ++ codes ";") v
item_again n bytes v spells =
    let fits = spelled_fits n spells.value.inside v spells.value.spells in
    item_back n v (item_canonical n bytes v spells) fits.0 fits.1
