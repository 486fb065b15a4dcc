-- Variants: the shapes under their labels.
use Rattle.std.proofs.Common.{◌≡◌, ℕ, Bool, true, false, ◌&&◌, List, [], ◌∷◌, ◌++◌, take, drop, map, Option, Some, None, refl, sym, ap, ◌∙◌, Ordering, Less, Equal, Greater, is_lt}
use Rattle.std.specs.List.{list_all}
use Rattle.std.specs.Ordering.{ordering_reverse}
use Rattle.std.specs.Option.{option_map_or}
use Rattle.std.proofs.lemmas.Bool.{and_parts}
use Rattle.std.proofs.lemmas.Cmp.{nat_list_cmp_total}
use Rattle.kl_base.specs.Fields.{bytes_cmp, field, rises, rises_from}
use Rattle.kl_value.proofs.OrderLemmas.{same_bytes}
use Rattle.kl_value.specs.declared.Value.{Value}
use Rattle.kl_type.specs.Has.{has_type}
use Rattle.kl_type.specs.declared.ground.Ty.{Ty}
use Rattle.kl_shape.specs.Joining.{are_sound, sound_variant}
use Rattle.kl_shape.specs.Parts.{put, shape_under, under, with_label}
use Rattle.kl_shape.specs.Shapes.{fits, has_at, sound}
use Rattle.kl_shape.specs.declared.shape.Shape.{Shape}
use Rattle.kl_shape.specs.declared.shape.Shape.TheVariants as shape
use Rattle.kl_shape.proofs.Records.{Shapes, Types}
use Rattle.kl_shape.proofs.ShapeLemmas.{fits-Unseen, sound-Unseen}

-- ---- in order

pub above : (l m : List ℕ) → bytes_cmp l m ≡ Greater → is_lt (bytes_cmp m l) ≡ true
above l m e = ap is_lt (nat_list_cmp_total.antisymm m l ∙ ap ordering_reverse e)

abbrev labels : Shapes → List (List ℕ)
labels fs = map (λ f. f.0) fs

module _ (l : List ℕ) (j : Shape) where
  rises_from_put : (m : List ℕ) (fs : Shapes) → is_lt (bytes_cmp m l) ≡ true → rises_from m (labels fs) ≡ true → rises_from m (labels (with_label l j fs)) ≡ true
  rises_from_put m [] less up = λ i. less i && true
  rises_from_put m (f ∷ fs) less up =
      let both = and_parts (is_lt (bytes_cmp m f.0)) (rises_from f.0 (labels fs)) up in
      by (λ below. rises_from_put f.0 fs below both.1) both.0 both.1 (bytes_cmp f.0 l) refl
    where
      by : (is_lt (bytes_cmp f.0 l) ≡ true → rises_from f.0 (labels (with_label l j fs)) ≡ true) → is_lt (bytes_cmp m f.0) ≡ true → rises_from f.0 (labels fs) ≡ true
          → (o : Ordering) → bytes_cmp f.0 l ≡ o → rises_from m (labels (put o (l, j) f fs (with_label l j fs))) ≡ true
      by more first rest Less e = λ i. first i && more (ap is_lt e) i
      by more first rest Equal e = (λ i. less i && rises_from (sym (same_bytes f.0 l e) i) (labels fs)) ∙ rest
      by more first rest Greater e = λ i. less i && (above f.0 l e i && rest i)

  rises_put : (fs : Shapes) → rises (labels fs) ≡ true → rises (labels (with_label l j fs)) ≡ true
  rises_put [] up = refl
  rises_put (f ∷ fs) up = by (bytes_cmp f.0 l) refl
    where
      by : (o : Ordering) → bytes_cmp f.0 l ≡ o → rises (labels (put o (l, j) f fs (with_label l j fs))) ≡ true
      by Less e = rises_from_put f.0 fs (ap is_lt e) up
      by Equal e = (λ i. rises_from (sym (same_bytes f.0 l e) i) (labels fs)) ∙ up
      by Greater e = λ i. above f.0 l e i && up i

  sound_put : (fs : Shapes) → sound j ≡ true → are_sound fs ≡ true → are_sound (with_label l j fs) ≡ true
  sound_put [] one all = λ i. one i && true
  sound_put (f ∷ fs) one all =
      let both = and_parts (sound f.1) (are_sound fs) all in
      by (sound_put fs one both.1) both.0 both.1 (bytes_cmp f.0 l)
    where
      by : are_sound (with_label l j fs) ≡ true → sound f.1 ≡ true → are_sound fs ≡ true → (o : Ordering) → are_sound (put o (l, j) f fs (with_label l j fs)) ≡ true
      by more first rest Less = λ i. first i && more i
      by more first rest Equal = λ i. one i && rest i
      by more first rest Greater = λ i. one i && all i

  pub sound_with : (fs : Shapes) → sound_variant fs ≡ true → sound j ≡ true → sound_variant (with_label l j fs) ≡ true
  sound_with fs is one =
      let both = and_parts (rises (labels fs)) (are_sound fs) is in
      λ i. rises_put fs both.0 i && sound_put fs one both.1 i

sound_in : (l : List ℕ) (fs : Shapes) → are_sound fs ≡ true → sound (shape_under l fs) ≡ true
sound_in l [] all = sound-Unseen
sound_in l (f ∷ fs) all =
    let both = and_parts (sound f.1) (are_sound fs) all in
    by (sound_in l fs both.1) both.0 (bytes_cmp f.0 l)
  where
    by : sound (shape_under l fs) ≡ true → sound f.1 ≡ true → (o : Ordering) → sound (under o f.1 (shape_under l fs)) ≡ true
    by more first Less = more
    by more first Equal = first
    by more first Greater = sound-Unseen

pub sound_under : (l : List ℕ) (fs : Shapes) → sound_variant fs ≡ true → sound (shape_under l fs) ≡ true
sound_under l fs is = sound_in l fs (and_parts (rises (labels fs)) (are_sound fs) is).1

-- ---- the types of a variant with one more label

abbrev pub all_at : Types → Shapes → Bool
all_at ts fs = list_all (λ f. has_at (fits f.1) f.0 ts) fs

apart_and : (a b c : Bool) → a && (b && c) ≡ (a && b) && c
apart_and true b c = refl
apart_and false b c = refl

new_last : (a b : Bool) → a && b ≡ b && a
new_last true true = refl
new_last true false = refl
new_last false true = refl
new_last false false = refl

shared : (a b c : Bool) → (a && c) && b ≡ (a && b) && c
shared true b c = new_last c b
shared false b c = refl

module _ (l : List ℕ) (v : Value) (ts : Types) where
  abbrev here : Shape → Bool
  here s = has_at (fits s) l ts

  abbrev its : Bool
  its = has_at (has_type v) l ts

  joined_at : (s j : Shape) → ((t : Ty) → fits j t ≡ (fits s t && has_type v t)) → here j ≡ here s && its
  joined_at s j joins = by (field l ts)
    where
      by : (o : Option Ty) → option_map_or (fits j) o false ≡ option_map_or (fits s) o false && option_map_or (has_type v) o false
      by None = refl
      by (Some t) = joins t

  in_gap : here shape.Unseen && its ≡ its
  in_gap = by (field l ts)
    where
      by : (o : Option Ty) → option_map_or (fits shape.Unseen) o false && option_map_or (has_type v) o false ≡ option_map_or (has_type v) o false
      by None = refl
      by (Some t) = λ i. fits-Unseen t i && has_type v t

  pub labels_joined : (fs : Shapes) (j : Shape) → ((t : Ty) → fits j t ≡ (fits (shape_under l fs) t && has_type v t)) → all_at ts (with_label l j fs) ≡ all_at ts fs && its
  labels_joined [] j joins = (λ i. joined_at shape.Unseen j joins i && true) ∙ (λ i. in_gap i && true) ∙ new_last its true
  labels_joined (f ∷ fs) j joins = by (labels_joined fs j) (bytes_cmp f.0 l) refl joins
    where
      by : (((t : Ty) → fits j t ≡ (fits (shape_under l fs) t && has_type v t)) → all_at ts (with_label l j fs) ≡ all_at ts fs && its)
          → (o : Ordering) → bytes_cmp f.0 l ≡ o → ((t : Ty) → fits j t ≡ (fits (under o f.1 (shape_under l fs)) t && has_type v t))
          → all_at ts (put o (l, j) f fs (with_label l j fs)) ≡ all_at ts (f ∷ fs) && its
      by more Less e joins = ap (λ b. has_at (fits f.1) f.0 ts && b) (more joins) ∙ apart_and (has_at (fits f.1) f.0 ts) (all_at ts fs) its
      by more Equal e joins =
          (λ i. joined_at f.1 j joins i && all_at ts fs) ∙ shared (here f.1) (all_at ts fs) its ∙ (λ i. (has_at (fits f.1) (sym (same_bytes f.0 l e) i) ts && all_at ts fs) && its)
      by more Greater e joins = (λ i. joined_at shape.Unseen j joins i && all_at ts (f ∷ fs)) ∙ (λ i. in_gap i && all_at ts (f ∷ fs)) ∙ new_last its (all_at ts (f ∷ fs))

  none_at : (s : Shape) → ((t : Ty) → fits s t && has_type v t ≡ false) → here s && its ≡ false
  none_at s none = by (field l ts)
    where
      by : (o : Option Ty) → option_map_or (fits s) o false && option_map_or (has_type v) o false ≡ false
      by None = refl
      by (Some t) = none t

  and_false : (a b : Bool) → b ≡ false → a && b ≡ false
  and_false true b e = e
  and_false false b e = refl

  pub labels_apart : (fs : Shapes) → ((t : Ty) → fits (shape_under l fs) t && has_type v t ≡ false) → all_at ts fs && its ≡ false
  labels_apart [] none = sym in_gap ∙ none_at shape.Unseen none
  labels_apart (f ∷ fs) none = by (labels_apart fs) (bytes_cmp f.0 l) refl none
    where
      by : (((t : Ty) → fits (shape_under l fs) t && has_type v t ≡ false) → all_at ts fs && its ≡ false)
          → (o : Ordering) → bytes_cmp f.0 l ≡ o → ((t : Ty) → fits (under o f.1 (shape_under l fs)) t && has_type v t ≡ false) → all_at ts (f ∷ fs) && its ≡ false
      by more Less e none = sym (apart_and (has_at (fits f.1) f.0 ts) (all_at ts fs) its) ∙ and_false (has_at (fits f.1) f.0 ts) (all_at ts fs && its) (more none)
      by more Equal e none =
          (λ i. (has_at (fits f.1) (same_bytes f.0 l e i) ts && all_at ts fs) && its) ∙ sym (shared (here f.1) (all_at ts fs) its) ∙ (λ i. none_at f.1 none i && all_at ts fs)
      by more Greater e none = and_false (all_at ts (f ∷ fs)) its (sym in_gap ∙ none_at shape.Unseen none)

-- ---- the place of a label

-- it does not come among the first labels
abbrev pub IsBehind : List ℕ → Shapes → ℕ → Type 0
IsBehind l fs i = (s : Shape) → take i fs ++ with_label l s (drop i fs) ≡ with_label l s fs
