-- Canonical text spells the value.
use Rattle.std.proofs.Common.{◌≡◌, ℕ, ℤ, pos, negsuc, ◌+◌, ◌*◌, ◌/◌, ◌%◌, ◌<◌, ◌≤◌, suc, zero, Bool, true, false, cond, ◌&&◌, ◌||◌, ◌==◌, nat_lt, nat_le, neg_ℤ, List, [], ◌∷◌, ◌++◌, map, codes, refl, sym, ap, subst, ◌∙◌, arith, inl, inr, Some, IsTrue, append_assoc, append-nil}
use Rattle.std.specs.Prelude.{FitsSigned}
use Rattle.std.specs.Char.{is_ascii_hexdigit, digit_value}
use Rattle.std.specs.Fmt.{signed_decimal, decimal}
use Rattle.std.specs.Int.{w64}
use Rattle.std.specs.List.{AllByRecursion, flat_map}
use Rattle.std.proofs.lemmas.Bool.Decides.{nat_tests}
use Rattle.std.proofs.lemmas.Fmt.{decimal_is_IsNumeral}
use Rattle.std.proofs.lemmas.List.Sorted.{IsPermutation-refl}
use Rattle.kl_base.specs.Word.{is_word}
use Rattle.kl_value.specs.IsCanonical.{IsCanonical, IsCanonicalLayer}
use Rattle.kl_value.specs.Shape.{depth_of, depth_layer, greatest}
use Rattle.kl_value.specs.Written.{text_of, byte_text, hex_digit, with_commas}
use Rattle.kl_value.proofs.CanonLemmas.{canonical_only, canonical_list}
use Rattle.kl_value.proofs.ShapeLemmas.{depth-out}
use Rattle.kl_value.specs.declared.Kind.TheVariants as kind
use Rattle.kl_value.specs.declared.Value.{Value, Value-F, out-Value, roll-Value, roll-out-Value, every_here-Value}
use Rattle.kl_value.specs.declared.Value.TheVariants as value
use Rattle.kl_value.specs.Quoted.{Part, Parts, escape_of}
use Rattle.kl_exchange.specs.Grammar.{Padded, More, Listed, SpellsInt, SpellsPlain, SpellsLabel, SpellsField, SpellsBracket, Spells, IsItem}
use Rattle.kl_exchange.proofs.Bytes.{equal, unequal}
use Rattle.kl_exchange.specs.Printing.{field_text}
use Rattle.kl_exchange.specs.Stored.{IsStored, IsStoredLayer}
use Rattle.kl_exchange.proofs.Pairs.{Pair}
use Rattle.kl_exchange.proofs.StoredLemmas.{parts, children, stored_here}
use Rattle.kl_exchange.proofs.TextLemmas.{text-Bool, text-Int, text-Text, text-Rec, text-Inj, text-Set, text-Bag, text-List}

-- numbers
number_back : (n : ℤ) → FitsSigned w64 n → SpellsInt (signed_decimal n) n
number_back (pos n) fits =
    let small = fits.sfits in
    let numeral = decimal_is_IsNumeral n (omega arith) in
    record { negative = false; digits = decimal n; is = refl; numeral = numeral.0; value = ap pos (sym numeral.1); fits = fits }
number_back (negsuc n) fits =
    let small = fits.sfits in
    let numeral = decimal_is_IsNumeral (suc n) (omega arith) in
    record { negative = true; digits = decimal (suc n); is = refl; numeral = numeral.0; value = ap (λ m. neg_ℤ (pos m)) (sym numeral.1); fits = fits }

-- texts
hex_is : (n : ℕ) → n < 16 → (is_ascii_hexdigit (hex_digit n) ≡ true) × (digit_value (hex_digit n) ≡ n)
hex_is n small = (grind (arith, nat_tests), grind (arith, nat_tests))

hex_back : (b : ℕ) → b < 128 → Part b (92 ∷ 120 ∷ hex_digit (b / 16) ∷ hex_digit (b % 16) ∷ [])
hex_back b small =
    let high = hex_is (b / 16) (omega arith) in
    let low = hex_is (b % 16) (omega arith) in
    let same : digit_value (hex_digit (b / 16)) * 16 + digit_value (hex_digit (b % 16)) ≡ b = rw (high.1, low.1) (omega arith) in
    subst (λ n. Part n (92 ∷ 120 ∷ hex_digit (b / 16) ∷ hex_digit (b % 16) ∷ [])) same (Part.hex high.0 low.0)

split : (b : ℕ) (c : Bool) (x y : List ℕ) → (c ≡ true → Part b x) → (c ≡ false → Part b y) → Part b (cond c x y)
split b true x y p q = p refl
split b false x y p q = q refl

below_128 : (b : ℕ) → ((nat_le 32 b && nat_lt b 127) || nat_le 128 b) ≡ false → b < 128
below_128 b h = grind (arith, nat_tests)

escaped : (b c e : ℕ) → (b == c) ≡ true → escape_of e ≡ Some c → Part b (92 ∷ e ∷ [])
escaped b c e is of = Part.escaped (of ∙ ap Some (sym (equal b c is)))

byte_back : (b : ℕ) → Part b (byte_text b)
byte_back b =
    split b (b == 34) _ _ (λ e. escaped b 34 34 e refl)
    (λ quote. split b (b == 92) _ _ (λ e. escaped b 92 92 e refl)
    (λ slash. split b (b == 10) _ _ (λ e. escaped b 10 110 e refl)
    (λ _. split b (b == 13) _ _ (λ e. escaped b 13 114 e refl)
    (λ _. split b (b == 9) _ _ (λ e. escaped b 9 116 e refl)
    (λ _. split b ((nat_le 32 b && nat_lt b 127) || nat_le 128 b) _ _ (λ _. Part.plain (unequal b 34 quote) (unequal b 92 slash))
    (λ e. hex_back b (below_128 b e)))))))

bytes_back : (t : List ℕ) → Parts t (flat_map byte_text t)
bytes_back [] = refl
bytes_back (b ∷ bs) = (byte_text b, flat_map byte_text bs, refl, byte_back b, bytes_back bs)

-- lists with commas
module _ {A : Type 0} (P : List ℕ → A → Type 0) (f : A → List ℕ) where
  abbrev Both : A → Type 0
  Both a = P (f a) a × P (32 ∷ f a) a

  tail : List A → List ℕ
  tail as' = flat_map (λ a. codes ", " ++ f a) as'

  commas : (a : A) (as' : List A) → with_commas (map f (a ∷ as')) ≡ f a ++ tail as'
  unfolding tail
  commas a [] = sym (append-nil (f a))
  commas a (b ∷ bs) = append_assoc (f a) (codes ", ") (with_commas (map f (b ∷ bs))) ∙ ap (λ t. f a ++ (codes ", " ++ t)) (commas b bs)

  more_back : (as' : List A) → AllByRecursion Both as' → More P (tail as') as'
  unfolding tail
  more_back [] all = refl
  more_back (a ∷ as') all = (32 ∷ f a, flat_map (λ b. codes ", " ++ f b) as', refl, all.0.1, more_back as' all.1)

  list_back : (as' : List A) → AllByRecursion Both as' → Listed P (with_commas (map f as')) as'
  list_back [] all = tt
  list_back (a ∷ as') all = (f a, tail as', commas a as', all.0.0, more_back as' all.1)

padded : {A : Type 0} (S : List ℕ → A → Type 0) (bytes : List ℕ) (a : A) → S bytes a → Padded S bytes a
padded S bytes a s = record { before = []; inside = bytes; after = []; is = sym (append-nil bytes); blank_before = tt; blank_after = tt; spells = s }

spaced : {A : Type 0} (S : List ℕ → A → Type 0) (bytes : List ℕ) (a : A) → S bytes a → Padded S (32 ∷ bytes) a
spaced S bytes a s =
    record { before = 32 ∷ []; inside = bytes; after = []; is = ap (λ bs. 32 ∷ bs) (sym (append-nil bytes)); blank_before = (refl, tt); blank_after = tt; spells = s }

rolled : (v : Value) (x : Value-F Value) → out-Value v ≡ x → v ≡ roll-Value x
rolled v x e = sym (roll-out-Value v) ∙ ap roll-Value e

-- One level, where the values below are spelled by their texts.
module _ (n : ℕ) (back : (v : Value) → IsCanonical v → IsStored v → depth_of v ≤ n → Spells n (text_of v) v) where
  items_back : (vs : List Value) → AllByRecursion IsCanonical vs → AllByRecursion IsStored vs → greatest depth_of vs ≤ n → AllByRecursion (Both (Padded (Spells n)) text_of) vs
  items_back [] c s deep = tt
  items_back (v ∷ vs) c s deep =
      let one = back v c.0 s.0 (omega arith) in
      ((padded (Spells n) (text_of v) v one, spaced (Spells n) (text_of v) v one), items_back vs c.1 s.1 (omega arith))

  field_back : (name : List ℕ) (f : Pair) → Padded SpellsLabel name f.0 → Spells n (text_of f.1) f.1 → SpellsField (Spells n) ((name ++ codes "=") ++ text_of f.1) f
  field_back name f label spells = record {
    name = name;
    text = text_of f.1;
    is = append_assoc name (codes "=") (text_of f.1);
    label = label;
    value = padded (Spells n) (text_of f.1) f.1 spells;
  }

  fields_back : (fs : List Pair) → AllByRecursion IsCanonical (map (λ f. f.1) fs) → AllByRecursion IsStored (map (λ f. f.1) fs) → AllByRecursion (λ f. IsTrue (is_word f.0)) fs
      → greatest (λ f. depth_of f.1) fs ≤ n → AllByRecursion (Both (SpellsField (Spells n)) field_text) fs
  fields_back [] c s words deep = tt
  fields_back (f ∷ fs) c s words deep =
      let one = back f.1 c.0 s.0 (omega arith) in (
        (
          field_back f.0 f (padded SpellsLabel f.0 f.0 (refl, words.0)) one,
          field_back (32 ∷ f.0) f (spaced SpellsLabel f.0 f.0 (refl, words.0)) one,
        ),
        fields_back fs c.1 s.1 words.1 (omega arith),
      )

  between : (left inside right : List ℕ) → (left ++ inside) ++ right ≡ left ++ (inside ++ right)
  between left inside right = append_assoc left inside right

  level_back : (v : Value) (x : Value-F Value) → out-Value v ≡ x → IsCanonicalLayer x → IsStoredLayer x → AllByRecursion IsCanonical (parts x) → AllByRecursion IsStored (parts x)
      → depth_layer depth_of x ≤ suc n → Spells (suc n) (text_of v) v
  level_back v (Value-F.Bool b) e here stored c s deep = inl (SpellsPlain.truth b (ap text_of (rolled v _ e ∙ value.rolls-Bool b) ∙ text-Bool b) (rolled v _ e ∙ value.rolls-Bool b))
  level_back v (Value-F.Int m) e here stored c s deep =
      let is = rolled v _ e ∙ value.rolls-Int m in
      inl (SpellsPlain.number m (subst (λ t. SpellsInt t m) (sym (ap text_of is ∙ text-Int m)) (number_back m stored)) is)
  level_back v (Value-F.Text t) e here stored c s deep =
      let is = rolled v _ e ∙ value.rolls-Text t in
      inl (SpellsPlain.text (flat_map byte_text t) t (ap text_of is ∙ (text-Text t ∙ between (codes "\"") (flat_map byte_text t) (codes "\""))) (bytes_back t) is)
  level_back v (Value-F.Rec fs) e here stored c s deep =
      let is = rolled v _ e ∙ value.rolls-Rec fs in
      inr (SpellsBracket.fields (with_commas (map field_text fs)) fs fs (ap text_of is ∙ (text-Rec fs ∙ between (codes "[") (with_commas (map field_text fs)) (codes "]")))
      (list_back (SpellsField (Spells n)) field_text fs (fields_back fs c s stored (omega arith))) (IsPermutation-refl fs, here) is)
  level_back v (Value-F.Inj l w) e here stored c s deep =
      let is = rolled v _ e ∙ value.rolls-Inj l w in
      inr (SpellsBracket.variant ((l ++ codes "=") ++ text_of w) (l, w)
      (ap text_of is ∙ (text-Inj l w ∙ simp append_assoc))
      (field_back l (l, w) (padded SpellsLabel l l (refl, stored)) (back w c.0 s.0 (omega arith))) is)
  level_back v (Value-F.Set vs) e here stored c s deep =
      let is = rolled v _ e ∙ value.rolls-Set vs in
      inr (SpellsBracket.collection kind.Set (with_commas (map text_of vs)) vs (ap text_of is ∙ (text-Set vs ∙ between (codes "{") (with_commas (map text_of vs)) (codes "}")))
      (list_back (Padded (Spells n)) text_of vs (items_back vs c s (omega arith)))
      (is ∙ canonical_only kind.Set vs (value.Set vs) (vs, refl, here, λ w. (λ h. h, λ h. h))))
  level_back v (Value-F.Bag vs) e here stored c s deep =
      let is = rolled v _ e ∙ value.rolls-Bag vs in
      inr (SpellsBracket.collection kind.Bag (with_commas (map text_of vs)) vs (ap text_of is ∙ (text-Bag vs ∙ between (codes "{|") (with_commas (map text_of vs)) (codes "|}")))
      (list_back (Padded (Spells n)) text_of vs (items_back vs c s (omega arith)))
      (is ∙ canonical_only kind.Bag vs (value.Bag vs) (vs, refl, here, λ w. refl)))
  level_back v (Value-F.List vs) e here stored c s deep =
      let is = rolled v _ e ∙ value.rolls-List vs in
      inr (SpellsBracket.collection kind.List (with_commas (map text_of vs)) vs (ap text_of is ∙ (text-List vs ∙ between (codes "[|") (with_commas (map text_of vs)) (codes "|]")))
      (list_back (Padded (Spells n)) text_of vs (items_back vs c s (omega arith))) (is ∙ canonical_list vs))

no_bracket : (v : Value) (x : Value-F Value) → out-Value v ≡ x → IsStoredLayer x → depth_layer depth_of x ≤ 0 → Spells 0 (text_of v) v
no_bracket v (Value-F.Bool b) e stored deep = SpellsPlain.truth b (ap text_of (rolled v _ e ∙ value.rolls-Bool b) ∙ text-Bool b) (rolled v _ e ∙ value.rolls-Bool b)
no_bracket v (Value-F.Int m) e stored deep =
    let is = rolled v _ e ∙ value.rolls-Int m in
    SpellsPlain.number m (subst (λ t. SpellsInt t m) (sym (ap text_of is ∙ text-Int m)) (number_back m stored)) is
no_bracket v (Value-F.Text t) e stored deep =
    let is = rolled v _ e ∙ value.rolls-Text t in
    SpellsPlain.text (flat_map byte_text t) t (ap text_of is ∙ (text-Text t ∙ append_assoc (codes "\"") (flat_map byte_text t) (codes "\""))) (bytes_back t) is
no_bracket v (Value-F.Rec fs) e stored deep = absurd (omega arith)
no_bracket v (Value-F.Inj l w) e stored deep = absurd (omega arith)
no_bracket v (Value-F.Set vs) e stored deep = absurd (omega arith)
no_bracket v (Value-F.Bag vs) e stored deep = absurd (omega arith)
no_bracket v (Value-F.List vs) e stored deep = absurd (omega arith)

canonical_here : (v : Value) → IsCanonical v → IsCanonicalLayer (out-Value v) × AllByRecursion IsCanonical (parts (out-Value v))
unfolding IsCanonical
canonical_here v c = (every_here-Value IsCanonicalLayer v c, children IsCanonicalLayer v c)

pub text_back : (n : ℕ) (v : Value) → IsCanonical v → IsStored v → depth_of v ≤ n → Spells n (text_of v) v
text_back zero v c s deep = no_bracket v (out-Value v) refl (stored_here v s).0 (subst (λ d. d ≤ 0) (depth-out v) deep)
text_back (suc n) v c s deep =
    let cs = canonical_here v c in
    let ss = stored_here v s in
    level_back n (text_back n) v (out-Value v) refl cs.0 ss.0 cs.1 ss.1 (subst (λ d. d ≤ suc n) (depth-out v) deep)

-- with its `;` it is an item
pub item_back : (n : ℕ) (v : Value) → IsCanonical v → IsStored v → depth_of v ≤ n → IsItem n (text_of v ++ codes ";") v
item_back n v c s deep = record { text = text_of v; is = refl; value = padded (Spells n) (text_of v) v (text_back n v c s deep) }
