-- A sound shape's type has it.
use Rattle.std.proofs.Common.{◌≡◌, inl, inr, ℕ, true, false, ◌&&◌, List, [], ◌∷◌, map, cond, Some, refl, sym, ap, subst, ◌∙◌, nat_eq}
use Rattle.std.specs.List.{AllByRecursion, list_all}
use Rattle.std.specs.List.Sorted.{IsStrictlySortedBy}
use Rattle.std.specs.Cmp.Lexicographic.{pointwise}
use Rattle.std.specs.Option.{option_map_or}
use Rattle.std.specs.declared.cmp.Ordering.TheVariants.{Less}
use Rattle.std.proofs.lemmas.Bool.{and_parts}
use Rattle.kl_base.specs.Fields.{bytes_cmp, field, rises}
use Rattle.kl_base.proofs.FieldsLemmas.{rise_strictly}
use Rattle.kl_type.proofs.RowLemmas.{never_less, same_label, told}
use Rattle.kl_type.specs.Has.{fields_have}
use Rattle.kl_type.specs.Parts.{items_of}
use Rattle.kl_type.specs.declared.ground.Ty.{Ty}
use Rattle.kl_type.specs.declared.ground.Ty.TheVariants as ty
use Rattle.kl_value.specs.declared.Kind.{Kind}
use Rattle.kl_value.specs.declared.Kind.TheVariants as kind
use Rattle.kl_shape.specs.Shapes.{filled, filled_field, fits, has_at, sound}
use Rattle.kl_shape.specs.declared.shape.Shape.{Shape, Shape-F, roll-Shape, map-Shape, ind-Shape}
use Rattle.kl_shape.specs.declared.shape.Shape.TheVariants as shape
use Rattle.kl_shape.proofs.ShapeLemmas.{filled-Bool, filled-Coll, filled-Int, filled-Rec, filled-Str, filled-Var, fits-Bool, fits-Coll, fits-Int, fits-Rec, fits-Str, fits-Unseen, fits-Var, sound-Coll, sound-Rec, sound-Var}

abbrev Fields : Type 0
Fields = List (List ℕ × Shape)

abbrev IsFilled : Shape → Type 0
IsFilled s = sound s ≡ true → fits s (filled s) ≡ true

abbrev AreFilled : Fields → Type 0
AreFilled fs = AllByRecursion (λ f. IsFilled f.1) fs

-- ---- records

rec_fields : (fs : Fields) → AreFilled fs → list_all (λ f. sound f.1) fs ≡ true → fields_have fits fs (map filled_field fs) ≡ true
rec_fields [] all are = refl
rec_fields (f ∷ fs) all are =
    let both = and_parts (sound f.1) (list_all (λ f. sound f.1) fs) are in
    λ i. (same_label f.0 i && all.0 both.0 i) && rec_fields fs all.1 both.1 i

-- ---- variants

abbrev IsBelow : List ℕ → List ℕ → Type 0
IsBelow l m = bytes_cmp l m ≡ Less

abbrev IsFoundIn : List (List ℕ × Ty) → List ℕ × Shape → Type 0
IsFoundIn ts f = field f.0 ts ≡ Some (filled f.1)

other_label : (l m : List ℕ) → IsBelow l m → pointwise nat_eq m l ≡ false
other_label l m less = elim (told m l) [
  | inl same ↦ absurd (never_less l (subst (λ k. bytes_cmp l k ≡ Less) same.1 less))
  | inr other ↦ other.0
]

found_behind : (f : List ℕ × Shape) (fs : Fields) (ts : List (List ℕ × Ty)) → AllByRecursion (IsBelow f.0) (map (λ g. g.0) fs) → AllByRecursion (IsFoundIn ts) fs → AllByRecursion (IsFoundIn (filled_field f ∷ ts)) fs
found_behind f [] ts below found = tt
found_behind f (g ∷ fs) ts below found = (ap (λ b. cond b (Some (filled f.1)) (field g.0 ts)) (other_label f.0 g.0 below.0) ∙ found.0, found_behind f fs ts below.1 found.1)

-- each label is found among the types
found_all : (fs : Fields) → IsStrictlySortedBy bytes_cmp (map (λ f. f.0) fs) → AllByRecursion (IsFoundIn (map filled_field fs)) fs
unfolding IsStrictlySortedBy
found_all [] up = tt
found_all (f ∷ fs) up =
    (ap (λ b. cond b (Some (filled f.1)) (field f.0 (map filled_field fs))) (same_label f.0), found_behind f fs (map filled_field fs) up.0 (found_all fs up.1))

var_fields : (fs : Fields) (ts : List (List ℕ × Ty)) → AllByRecursion (IsFoundIn ts) fs → AreFilled fs → list_all (λ f. sound f.1) fs ≡ true → list_all (λ f. has_at (fits f.1) f.0 ts) fs ≡ true
var_fields [] ts found all are = refl
var_fields (f ∷ fs) ts found all are =
    let both = and_parts (sound f.1) (list_all (λ f. sound f.1) fs) are in
    let here : has_at (fits f.1) f.0 ts ≡ true = ap (λ o. option_map_or (fits f.1) o false) found.0 ∙ all.0 both.0 in
    λ i. here i && var_fields fs ts found.1 all.1 both.1 i

-- ---- all shapes

abbrev Each : Type 0
Each = (s : Shape) × IsFilled s

each_field : (es : List (List ℕ × Each)) → AreFilled (map (λ e. (e.0, e.1.0)) es)
each_field [] = tt
each_field (e ∷ es) = (e.1.1, each_field es)

rec_filled : (fs : Fields) → AreFilled fs → IsFilled (shape.Rec fs)
rec_filled fs all is =
    ap (fits (shape.Rec fs)) (filled-Rec fs) ∙ fits-Rec fs (ty.Rec (map filled_field fs)) ∙ (rw (ty.outs-Rec (map filled_field fs)) (rec_fields fs all (sym (sound-Rec fs) ∙ is)))

var_filled : (fs : Fields) → AreFilled fs → IsFilled (shape.Var fs)
var_filled fs all is =
    let both = and_parts (rises (map (λ f. f.0) fs)) (list_all (λ f. sound f.1) fs) (sym (sound-Var fs) ∙ is) in
    let found = found_all fs (rise_strictly (map (λ f. f.0) fs) both.0) in
    ap (fits (shape.Var fs)) (filled-Var fs) ∙ fits-Var fs (ty.Var (map filled_field fs)) ∙ (rw (ty.outs-Var (map filled_field fs)) (var_fields fs (map filled_field fs) found all both.1))

own_items : (k : Kind) (t : Ty) → items_of k (ty.Coll k t) ≡ Some t
own_items kind.Set t = rw (ty.outs-Coll kind.Set t) refl
own_items kind.Bag t = rw (ty.outs-Coll kind.Bag t) refl
own_items kind.List t = rw (ty.outs-Coll kind.List t) refl

coll_filled : (k : Kind) (s : Shape) → IsFilled s → IsFilled (shape.Coll k s)
coll_filled k s here is =
    ap (fits (shape.Coll k s)) (filled-Coll k s) ∙ fits-Coll k s (ty.Coll k (filled s)) ∙ ap (λ o. option_map_or (fits s) o false) (own_items k (filled s)) ∙ here (sym (sound-Coll k s) ∙ is)

made : (y : Shape-F Each) → IsFilled (roll-Shape (map-Shape Each Shape (λ e. e.0) y))
made Shape-F.Unseen = subst IsFilled (sym shape.rolls-Unseen) (λ is. fits-Unseen (filled shape.Unseen))
made Shape-F.Bool = subst IsFilled (sym shape.rolls-Bool) (λ is. ap (fits shape.Bool) filled-Bool ∙ fits-Bool ty.Bool ∙ (rw ty.outs-Bool refl))
made Shape-F.Int = subst IsFilled (sym shape.rolls-Int) (λ is. ap (fits shape.Int) filled-Int ∙ fits-Int ty.Int ∙ (rw ty.outs-Int refl))
made Shape-F.Str = subst IsFilled (sym shape.rolls-Str) (λ is. ap (fits shape.Str) filled-Str ∙ fits-Str ty.Str ∙ (rw ty.outs-Str refl))
made (Shape-F.Rec es) = subst IsFilled (sym (shape.rolls-Rec (map (λ e. (e.0, e.1.0)) es))) (rec_filled (map (λ e. (e.0, e.1.0)) es) (each_field es))
made (Shape-F.Var es) = subst IsFilled (sym (shape.rolls-Var (map (λ e. (e.0, e.1.0)) es))) (var_filled (map (λ e. (e.0, e.1.0)) es) (each_field es))
made (Shape-F.Coll k e) = subst IsFilled (sym (shape.rolls-Coll k e.0)) (coll_filled k e.0 e.1)

pub is_filled : (s : Shape) → sound s ≡ true → fits s (filled s) ≡ true
is_filled = ind-Shape IsFilled (λ x y is. subst (λ z. IsFilled (roll-Shape z)) is (made y))
