-- Fields and items, turn by turn.
use Rattle.std.proofs.Common.{◌≡◌, inl, inr, ℕ, zero, suc, ◌+◌, ◌<◌, ◌≤◌, Bool, true, false, ◌&&◌, List, [], ◌∷◌, ◌++◌, length, get_or, take, map, Option, None, Some, refl, sym, ap, subst, ◌∙◌, true≢false, nat_eq, arith}
use Rattle.std.specs.Cmp.Lexicographic.{pointwise}
use Rattle.std.proofs.lemmas.List.{get_or-map, length-map, take_all, take_more}
use Rattle.kl_value.specs.declared.Kind.{Kind}
use Rattle.kl_value.specs.declared.Value.{Value}
use Rattle.kl_type.proofs.RowLemmas.{told}
use Rattle.kl_type.specs.Has.{has_type}
use Rattle.kl_shape.specs.Joining.{Answers, AnswersItems, AnswersLabel, AnswersRecord, Joins, are_sound, sound_variant}
use Rattle.kl_shape.specs.Parts.{shape_under, with_label}
use Rattle.kl_shape.specs.Shapes.{fits, sound}
use Rattle.kl_shape.specs.declared.shape.Shape.{Shape}
use Rattle.kl_shape.specs.declared.shape.Shape.TheVariants as shape
use Rattle.kl_shape.proofs.Joins.{HasJoined, items_done, record_apart, record_done, variant_apart, variant_done}
use Rattle.kl_shape.proofs.Records.{AreJoined, IsApart, Shapes, Values, both_false, joined_more, mapped_more, rest_false, sound_more, unseen}

-- ---- an answer, and what was read for it

pub answered : (s : Shape) (v : Value) (o p : Option Shape) → o ≡ p → Answers s v o → Answers s v p
answered s v o p is a = subst (Answers s v) is a

-- whatever stands for what is not there
pub same_at : {X : Type 0} (fs : List (List ℕ × X)) (i : ℕ) (f d : List ℕ × X) → i < length fs → f ≡ get_or fs i f → get_or fs i d ≡ f
same_at [] i f d less is = absurd (omega arith)
same_at (g ∷ gs) zero f d less is = sym is
same_at (g ∷ gs) (suc i) f d less is = same_at gs i f d (omega (arith, less)) is

pub answered_at : (ss : Shapes) (fs : Values) (i : ℕ) (s d : List ℕ × Shape) (f e : List ℕ × Value) (o p : Option Shape) → i < length ss → i < length fs → s ≡ get_or ss i s → f ≡ get_or fs i f
    → o ≡ p → Answers (get_or ss i d).1 (get_or fs i e).1 o → Answers s.1 f.1 p
answered_at ss fs i s d f e o p less less' is is' same a =
    subst (λ (x : Shape × Value × Option Shape). Answers x.0 x.1 x.2) (λ k. ((same_at ss i s d less is k).1, (same_at fs i f e less' is' k).1, same k)) a

-- two labels are one
pub labels_same : (l m : List ℕ) → pointwise nat_eq l m ≡ true → l ≡ m
labels_same l m e = elim (told l m) [ inl one ↦ one.1 | inr two ↦ absurd (true≢false (sym e ∙ two.0)) ]

-- ---- fields without a type in common

not_both : (l m k : List ℕ) → (l ≡ m → ⊥) → pointwise nat_eq l k && pointwise nat_eq m k ≡ false
not_both l m k other = elim (told l k) [
  | inl one ↦ elim (told m k) [
    | inl two ↦ absurd (other (one.1 ∙ sym two.1))
    | inr two ↦ ap (λ b. pointwise nat_eq l k && b) two.0 ∙ last (pointwise nat_eq l k)
  ]
  | inr one ↦ ap (λ b. b && pointwise nat_eq m k) one.0
]
  where
    last : (b : Bool) → b && false ≡ false
    last true = refl
    last false = refl

pub other_labels : (s : List ℕ × Shape) (f : List ℕ × Value) → (s.0 ≡ f.0 → ⊥) → IsApart s f
other_labels s f other u = both_false (pointwise nat_eq s.0 u.0) (fits s.1 u.1) (pointwise nat_eq f.0 u.0) (has_type f.1 u.1) (not_both s.0 f.0 u.0 other)

pub no_type : (s : List ℕ × Shape) (f : List ℕ × Value) → Joins s.1 f.1 None → IsApart s f
no_type s f none u = rest_false (pointwise nat_eq s.0 u.0) (fits s.1 u.1) (pointwise nat_eq f.0 u.0) (has_type f.1 u.1) (none u.1)

-- ---- one field more

pub field_more : (ss : Shapes) (fs : Values) (i : ℕ) (s : List ℕ × Shape) (f : List ℕ × Value) (label : List ℕ) (j : Shape) (old new : Shapes) → i < length ss → i < length fs
    → s ≡ get_or ss i s → f ≡ get_or fs i f → AreJoined (take i ss) (take i fs) old → are_sound old ≡ true → s.0 ≡ f.0 → label ≡ f.0 → Answers s.1 f.1 (Some j)
    → new ≡ old ++ (label, j) ∷ [] → AreJoined (take (i + 1) ss) (take (i + 1) fs) new × (are_sound new ≡ true)
field_more ss fs i s f label j old new less less' is is' all are one two a puts = (
  subst (λ (ps : Shapes × Values × Shapes). AreJoined ps.0 ps.1 ps.2) (λ k. (sym (take_more ss i s less ∙ (λ m. take i ss ++ sym is m ∷ [])) k, sym (take_more fs i f less' ∙ (λ m. take i fs ++ sym is' m ∷ [])) k, sym puts k))
      (joined_more (take i ss) (take i fs) old s f (label, j) all one two a.joins),
  ap are_sound puts ∙ sound_more old (label, j) are a.is_sound,
)

pub unseen_more : (fs : Values) (i : ℕ) (f : List ℕ × Value) (label : List ℕ) (j : Shape) (old new : Shapes) → i < length fs
    → f ≡ get_or fs i f → AreJoined (map unseen (take i fs)) (take i fs) old → are_sound old ≡ true → label ≡ f.0 → Answers shape.Unseen f.1 (Some j)
    → new ≡ old ++ (label, j) ∷ [] → AreJoined (map unseen (take (i + 1) fs)) (take (i + 1) fs) new × (are_sound new ≡ true)
unseen_more fs i f label j old new less is all are two a puts = (
  subst (λ (ps : Shapes × Values × Shapes). AreJoined ps.0 ps.1 ps.2) (λ k. (sym (mapped_more fs i f less is) k, sym (take_more fs i f less ∙ (λ m. take i fs ++ sym is m ∷ [])) k, sym puts k))
      (joined_more (map unseen (take i fs)) (take i fs) old (unseen f) f (label, j) all refl two a.joins),
  ap are_sound puts ∙ sound_more old (label, j) are a.is_sound,
)

pub unseen_apart : (fs : Values) (i : ℕ) (f : List ℕ × Value) → i < length fs → f ≡ get_or fs i f → Joins shape.Unseen f.1 None → AnswersRecord (map unseen fs) fs None
unseen_apart fs i f less is none =
    record_apart fs (map unseen fs) i (unseen f) f (subst (λ n. i < n) (sym (length-map fs unseen)) less) less
    (ap unseen is ∙ sym (get_or-map unseen fs i f (unseen f) less)) is (no_type (unseen f) f none)

-- ---- all fields

pub fields_done : (ss : Shapes) (fs : Values) (i : ℕ) (old made : Shapes) → length ss ≤ i → length fs ≤ i → AreJoined (take i ss) (take i fs) old → are_sound old ≡ true → made ≡ old
    → AnswersRecord ss fs (Some (shape.Rec made))
fields_done ss fs i old made end end' all are same =
    subst (λ js. AnswersRecord ss fs (Some (shape.Rec js))) (sym same)
    (record_done fs ss old (subst (λ xs. AreJoined xs fs old) (take_all i ss end) (subst (λ xs. AreJoined (take i ss) xs old) (take_all i fs end') all)) are)

pub unseen_done : (fs : Values) (i : ℕ) (old made : Shapes) → length fs ≤ i → AreJoined (map unseen (take i fs)) (take i fs) old → are_sound old ≡ true → made ≡ old
    → AnswersRecord (map unseen fs) fs (Some (shape.Rec made))
unseen_done fs i old made end all are same =
    subst (λ js. AnswersRecord (map unseen fs) fs (Some (shape.Rec js))) (sym same)
    (record_done fs (map unseen fs) old (subst (λ xs. AreJoined (map unseen xs) xs old) (take_all i fs end) all) are)

-- ---- a variant

pub label_done : (label : List ℕ) (inner : Value) (shapes joined made : Shapes) (under j : Shape) → sound_variant shapes ≡ true → under ≡ shape_under label shapes → Answers under inner (Some j)
    → joined ≡ with_label label j shapes → made ≡ joined → AnswersLabel shapes label inner (Some (shape.Var made))
label_done label inner shapes joined made under j is at a puts same =
    subst (λ js. AnswersLabel shapes label inner (Some (shape.Var js))) (sym (same ∙ puts))
    (variant_done label inner shapes j is (subst (λ s. Answers s inner (Some j)) at a))

pub label_apart : (label : List ℕ) (inner : Value) (shapes : Shapes) (under : Shape) → under ≡ shape_under label shapes → Answers under inner None → AnswersLabel shapes label inner None
label_apart label inner shapes under at a = variant_apart label inner shapes (subst (λ s. Answers s inner None) at a)

-- ---- all items

pub items_whole : (k : Kind) (item j made : Shape) (vs : List Value) (i : ℕ) → length vs ≤ i → HasJoined item (take i vs) j → sound j ≡ true → made ≡ j → AnswersItems k item vs (Some (shape.Coll k made))
items_whole k item j made vs i end has is same =
    subst (λ s. AnswersItems k item vs (Some (shape.Coll k s))) (sym same) (items_done k item j vs (subst (λ xs. HasJoined item xs j) (take_all i vs end) has) is)
