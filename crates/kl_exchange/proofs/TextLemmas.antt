-- The canonical text, shape by shape, and lists of pieces with commas.
use Rattle.std.proofs.Common.{◌≡◌, ℕ, ℤ, ◌+◌, ◌-◌, ◌<◌, ◌≤◌, nat_le, nat_lt, suc, zero, Bool, true, false, not, ◌&&◌, ◌||◌, cond, ◌==◌, List, [], ◌∷◌, ◌++◌, length, length-drop, map, take, take_all, drop, get_or, ap₂, codes, refl, sym, ap, ◌∙◌, arith, append_assoc, append-nil}
use Rattle.std.specs.Fmt.{signed_decimal}
use Rattle.std.specs.List.{flat_map, list_all}
use Rattle.std.proofs.lemmas.Grind.{flat_map-append}
use Rattle.std.proofs.Math.Seq.{take-add}
use Rattle.std.proofs.lemmas.Bool.Decides.{nat_tests}
use Rattle.std.proofs.Math.Nat.{suc-add}
use Rattle.std.proofs.lemmas.Bool.{and_parts, not-true}
use Rattle.kl_value.specs.Written.{byte_text, with_commas, text_layer, text_of, separator}
use Rattle.kl_value.specs.declared.Value.{Value, Value-F, out-Value, map-Value, fold_out-Value}
use Rattle.kl_value.specs.declared.Value.TheVariants as value
use Rattle.kl_exchange.specs.Grammar.{word_of}
use Rattle.kl_exchange.specs.Printing.{field_text, is_plain}

text-out : (v : Value) → text_of v ≡ text_layer (map-Value Value (List ℕ) text_of (out-Value v))
unfolding text_of
text-out v = fold_out-Value (List ℕ) text_layer v

at_layer : (v : Value) (x : Value-F Value) → out-Value v ≡ x → text_of v ≡ text_layer (map-Value Value (List ℕ) text_of x)
at_layer v x e = text-out v ∙ ap (λ y. text_layer (map-Value Value (List ℕ) text_of y)) e

pub text-Bool : (b : Bool) → text_of (value.Bool b) ≡ word_of b
text-Bool true = at_layer _ _ (value.outs-Bool true)
text-Bool false = at_layer _ _ (value.outs-Bool false)

pub text-Int : (n : ℤ) → text_of (value.Int n) ≡ signed_decimal n
text-Int n = at_layer _ _ (value.outs-Int n)

pub text-Text : (t : List ℕ) → text_of (value.Text t) ≡ (codes "\"" ++ flat_map byte_text t) ++ codes "\""
text-Text t = at_layer _ _ (value.outs-Text t)

written_fields : (fs : List (List ℕ × Value)) → map (λ (f : List ℕ × List ℕ). (f.0 ++ codes "=") ++ f.1) (map (λ (f : List ℕ × Value). (f.0, text_of f.1)) fs) ≡ map field_text fs
written_fields [] = refl
written_fields (f ∷ fs) = ap (λ ps. field_text f ∷ ps) (written_fields fs)

pub text-Rec : (fs : List (List ℕ × Value)) → text_of (value.Rec fs) ≡ (codes "[" ++ with_commas (map field_text fs)) ++ codes "]"
text-Rec fs = at_layer _ _ (value.outs-Rec fs) ∙ ap (λ ps. (codes "[" ++ with_commas ps) ++ codes "]") (written_fields fs)

pub text-Inj : (l : List ℕ) (v : Value) → text_of (value.Inj l v) ≡ (((codes "<" ++ l) ++ codes "=") ++ text_of v) ++ codes ">"
text-Inj l v = at_layer _ _ (value.outs-Inj l v)

pub text-Set : (vs : List Value) → text_of (value.Set vs) ≡ (codes "{" ++ with_commas (map text_of vs)) ++ codes "}"
text-Set vs = at_layer _ _ (value.outs-Set vs)

pub text-Bag : (vs : List Value) → text_of (value.Bag vs) ≡ (codes "{|" ++ with_commas (map text_of vs)) ++ codes "|}"
text-Bag vs = at_layer _ _ (value.outs-Bag vs)

pub text-List : (vs : List Value) → text_of (value.List vs) ≡ (codes "[|" ++ with_commas (map text_of vs)) ++ codes "|]"
text-List vs = at_layer _ _ (value.outs-List vs)

-- one piece more
not_zero : (n : ℕ) → (suc n == 0) ≡ false
not_zero n = grind (arith, nat_tests)

pub comma_more : (ps : List (List ℕ)) (p : List ℕ) → with_commas (ps ++ p ∷ []) ≡ (with_commas ps ++ separator (length ps)) ++ p
comma_more [] p = refl
comma_more (q ∷ []) p = ap (λ b. (q ++ cond b [] (codes ", ")) ++ p) (sym (not_zero 0))
comma_more (q ∷ r ∷ rs) p =
    let again = comma_more (r ∷ rs) p in
    let same : separator (length (r ∷ rs)) ≡ separator (length (q ∷ r ∷ rs)) =
    ap (λ b. cond b [] (codes ", ")) (not_zero (length rs) ∙ sym (not_zero (suc (length rs)))) in
    ap (λ t. (q ++ codes ", ") ++ t) (again ∙ ap (λ t. (with_commas (r ∷ rs) ++ t) ++ p) same)
    ∙ (sym (append_assoc (q ++ codes ", ") (with_commas (r ∷ rs) ++ separator (length (q ∷ r ∷ rs))) p)
    ∙ ap (λ t. t ++ p) (sym (append_assoc (q ++ codes ", ") (with_commas (r ∷ rs)) (separator (length (q ∷ r ∷ rs))))))

module _ {A : Type 0} (f : A → List ℕ) where
  map_more : (xs : List A) (i : ℕ) (x : A) → i < length xs → x ≡ get_or xs i x → map f (take (i + 1) xs) ≡ map f (take i xs) ++ f x ∷ []
  map_more [] i x within is = absurd (omega arith)
  map_more (y ∷ ys) zero x within is = ap (λ z. f z ∷ []) (sym is)
  map_more (y ∷ ys) (suc i) x within is = rw (suc-add i 1) (ap (λ zs. f y ∷ zs) (map_more ys i x (omega arith) is))

  size : (xs : List A) (i : ℕ) → i < length xs → length (map f (take i xs)) ≡ i
  size [] i within = absurd (omega arith)
  size (y ∷ ys) zero within = refl
  size (y ∷ ys) (suc i) within = ap suc (size ys i (omega arith))

  pub commas_more : (xs : List A) (i : ℕ) (x : A) → i < length xs → x ≡ get_or xs i x
      → with_commas (map f (take (i + 1) xs)) ≡ (with_commas (map f (take i xs)) ++ separator i) ++ f x
  commas_more xs i x within is =
      ap with_commas (map_more xs i x within is)
      ∙ (comma_more (map f (take i xs)) (f x) ∙ ap (λ n. (with_commas (map f (take i xs)) ++ separator n) ++ f x) (size xs i within))

pub bytes_more : (text : List ℕ) (i : ℕ) → i < length text → flat_map byte_text (take (i + 1) text) ≡ flat_map byte_text (take i text) ++ byte_text (get_or text i 0)
bytes_more [] i within = absurd (omega arith)
bytes_more (b ∷ bs) zero within = append-nil (byte_text b)
bytes_more (b ∷ bs) (suc i) within =
    rw (suc-add i 1) (ap (λ t. byte_text b ++ t) (bytes_more bs i (omega arith)) ∙ sym (append_assoc (byte_text b) (flat_map byte_text (take i bs)) (byte_text (get_or bs i 0))))

-- a byte that stands as it is
plain_byte : (b : ℕ) → is_plain b ≡ true → byte_text b ≡ b ∷ []
plain_byte b plain =
    let both = and_parts ((nat_le 32 b && nat_lt b 127) || nat_le 128 b) (not (b == 34) && not (b == 92)) plain in
    let marks = and_parts (not (b == 34)) (not (b == 92)) both.1 in
    rw (not-true (b == 34) marks.0, not-true (b == 92) marks.1, controls b both.0 10 (omega arith), controls b both.0 13 (omega arith), controls b both.0 9 (omega arith), both.0)
  where
    controls : (b : ℕ) → ((nat_le 32 b && nat_lt b 127) || nat_le 128 b) ≡ true → (k : ℕ) → k < 32 → (b == k) ≡ false
    controls b e k small = grind (arith, nat_tests, e)

plain_run : (bs : List ℕ) → list_all is_plain bs ≡ true → flat_map byte_text bs ≡ bs
plain_run [] all = refl
plain_run (b ∷ bs) all =
    let both = and_parts (is_plain b) (list_all is_plain bs) all in
    ap₂ ◌++◌ (plain_byte b both.0) (plain_run bs both.1)

-- a run more
pub run_more : (text : List ℕ) (at count : ℕ) → list_all is_plain (take count (drop at text)) ≡ true → flat_map byte_text (take (at + count) text) ≡ flat_map byte_text (take at text) ++ take count (drop at text)
run_more text at count all =
    ap (flat_map byte_text) (take-add at count text)
    ∙ (flat_map-append byte_text (take at text) (take count (drop at text)) ∙ ap (λ t. flat_map byte_text (take at text) ++ t) (plain_run (take count (drop at text)) all))

pub run_printed : (text : List ℕ) (at count : ℕ) → at ≤ length text → list_all is_plain (take count (take (length text - at) (drop at text))) ≡ true
    → 34 ∷ flat_map byte_text (take (at + count) text) ≡ 34 ∷ (flat_map byte_text (take at text) ++ take ((at + count) - at) (drop at text))
run_printed text at count within all =
    let rest : take (length text - at) (drop at text) ≡ drop at text = take_all (length text - at) (drop at text) (omega (arith, length-drop at text)) in
    let size : (at + count) - at ≡ count = omega arith in
    ap (λ t. 34 ∷ t) (run_more text at count (sym (ap (λ t. list_all is_plain (take count t)) rest) ∙ all) ∙ ap (λ n. flat_map byte_text (take at text) ++ take n (drop at text)) (sym size))
