-- The text of a type, shape by shape, and lists of fields with commas.
use Rattle.std.proofs.Common.{◌≡◌, ℕ, zero, suc, ◌+◌, ◌<◌, ◌==◌, false, cond, List, [], ◌∷◌, ◌++◌, length, drop, get_or, map, codes, Result, Ok, Err, refl, sym, ap, ◌∙◌, arith, add-one, append_assoc, append-nil, drop-cons}
use Rattle.std.proofs.lemmas.Bool.Decides.{nat_tests}
use Rattle.std.specs.Prelude.{OnOk}
use Rattle.std.specs.List.{flat_map}
use Rattle.kl_value.specs.declared.Kind.{Kind}
use Rattle.kl_value.specs.Written.{opening, closing, separator, with_commas}
use Rattle.kl_type.specs.Written.{type_layer, type_text, field_text}
use Rattle.kl_type.specs.declared.ground.Ty.{Ty, Ty-F, out-Ty, map-Ty, fold_out-Ty}
use Rattle.kl_type.specs.declared.ground.Ty.TheVariants as ty

at_layer : (t : Ty) (x : Ty-F Ty) → out-Ty t ≡ x → type_text t ≡ type_layer (map-Ty Ty (List ℕ) type_text x)
unfolding type_text
at_layer t x e = fold_out-Ty (List ℕ) type_layer t ∙ ap (λ y. type_layer (map-Ty Ty (List ℕ) type_text y)) e

pub text-Bool : type_text ty.Bool ≡ codes "bool"
text-Bool = at_layer _ _ ty.outs-Bool

pub text-Int : type_text ty.Int ≡ codes "int"
text-Int = at_layer _ _ ty.outs-Int

pub text-Str : type_text ty.Str ≡ codes "string"
text-Str = at_layer _ _ ty.outs-Str

fields_texts : (fs : List (List ℕ × Ty)) → map (λ (f : List ℕ × List ℕ). (f.0 ++ codes ": ") ++ f.1) (map (λ (f : List ℕ × Ty). (f.0, type_text f.1)) fs) ≡ map field_text fs
fields_texts [] = refl
fields_texts (f ∷ fs) = ap (λ ps. field_text f ∷ ps) (fields_texts fs)

pub text-Rec : (fs : List (List ℕ × Ty)) → type_text (ty.Rec fs) ≡ (codes "[" ++ with_commas (map field_text fs)) ++ codes "]"
text-Rec fs = at_layer _ _ (ty.outs-Rec fs) ∙ ap (λ ps. (codes "[" ++ with_commas ps) ++ codes "]") (fields_texts fs)

pub text-Var : (fs : List (List ℕ × Ty)) → type_text (ty.Var fs) ≡ (codes "<" ++ with_commas (map field_text fs)) ++ codes ">"
text-Var fs = at_layer _ _ (ty.outs-Var fs) ∙ ap (λ ps. (codes "<" ++ with_commas ps) ++ codes ">") (fields_texts fs)

pub text-Coll : (k : Kind) (t : Ty) → type_text (ty.Coll k t) ≡ (opening k ++ type_text t) ++ closing k
text-Coll k t = at_layer _ _ (ty.outs-Coll k t)

pub ruleset type_texts = (text-Bool, text-Int, text-Str, text-Rec, text-Var, text-Coll)

abbrev pub Field : Type 0
Field = List ℕ × Ty

-- the fields behind the first, each with a comma before it
abbrev more_text : List Field → List ℕ
more_text fs = flat_map (λ g. codes ", " ++ field_text g) fs

-- the fields from a place on, with what stands before them
abbrev pub rest_text : ℕ → List Field → List ℕ
rest_text zero fs = with_commas (map field_text fs)
rest_text (suc i) fs = more_text fs

first_then_more : (f : Field) (fs : List Field) → with_commas (map field_text (f ∷ fs)) ≡ field_text f ++ more_text fs
first_then_more f [] = sym (append-nil (field_text f))
first_then_more f (g ∷ fs) =
    ap (λ t. (field_text f ++ codes ", ") ++ t) (first_then_more g fs)
    ∙ (sym (append_assoc (field_text f ++ codes ", ") (field_text g) (more_text fs))
    ∙ (ap (λ t. t ++ more_text fs) (append_assoc (field_text f) (codes ", ") (field_text g))
    ∙ append_assoc (field_text f) (codes ", " ++ field_text g) (more_text fs)))

rest_first : (i : ℕ) (f : Field) (fs : List Field) → rest_text i (f ∷ fs) ≡ (separator i ++ field_text f) ++ rest_text (suc i) fs
rest_first zero f fs = first_then_more f fs
rest_first (suc i) f fs = let e : (suc i == 0) ≡ false = grind (arith, nat_tests) in ap (λ b. (cond b [] (codes ", ") ++ field_text f) ++ more_text fs) (sym e)

pub rest_none : (i : ℕ) → rest_text i [] ≡ []
rest_none zero = refl
rest_none (suc i) = refl

-- one field more is written
pub field_more : (fs : List Field) (i : ℕ) (f : Field) (sep label out start : List ℕ) → i < length fs → f ≡ get_or fs i f → sep ≡ separator i → label ≡ f.0
    → {one two three four : List ℕ} → one ≡ out ++ sep → two ≡ one ++ label → three ≡ two ++ codes ": " → four ≡ three ++ type_text f.1
    → out ++ rest_text i (drop i fs) ≡ start → four ++ rest_text (i + 1) (drop (i + 1) fs) ≡ start
field_more fs i f sep label out start within is same named a b c d before =
    let first : drop i fs ≡ f ∷ drop (suc i) fs = drop-cons fs i f within ∙ ap (λ g. g ∷ drop (suc i) fs) (sym is) in
    let all : _ ≡ (((out ++ separator i) ++ f.0) ++ codes ": ") ++ type_text f.1 =
    d ∙ ap (λ t. t ++ type_text f.1) (c ∙ ap (λ t. t ++ codes ": ") (b ∙ (ap (λ t. t ++ label) (a ∙ ap (λ t. out ++ t) same) ∙ ap (λ t. (out ++ separator i) ++ t) named))) in
    rw add-one
    (ap (λ t. t ++ rest_text (suc i) (drop (suc i) fs)) all
    ∙ (regroup out (separator i) f.0 (codes ": ") (type_text f.1) (rest_text (suc i) (drop (suc i) fs))
    ∙ (ap (λ t. out ++ t) (sym (rest_first i f (drop (suc i) fs)))
    ∙ (ap (λ gs. out ++ rest_text i gs) (sym first) ∙ before))))
  where
    regroup : (a b c d e r : List ℕ) → ((((a ++ b) ++ c) ++ d) ++ e) ++ r ≡ a ++ ((b ++ ((c ++ d) ++ e)) ++ r)
    regroup a b c d e r = simp append_assoc

regroup_three : (out a b c : List ℕ) → ((out ++ a) ++ b) ++ c ≡ out ++ ((a ++ b) ++ c)
regroup_three out a b c = simp append_assoc

-- three pieces are written
pub three : {T E : Type 0} (r : Result T E) (a b c text out one two all : List ℕ) → text ≡ (a ++ b) ++ c → one ≡ out ++ a → two ≡ one ++ b → OnOk r (all ≡ two ++ c) → OnOk r (all ≡ out ++ text)
three (Err e) a b c text out one two all is p q r = tt
three (Ok x) a b c text out one two all is p q r = r ∙ (ap (λ t. t ++ c) (q ∙ ap (λ t. t ++ b) p) ∙ (regroup_three out a b c ∙ ap (λ t. out ++ t) (sym is)))
