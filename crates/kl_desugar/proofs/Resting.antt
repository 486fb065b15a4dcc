-- The record of a pattern's labels, and what a record has beside them.
use Rattle.std.proofs.Common.{◌≡◌, Bool, true, false, not, ◌||◌, cond, List, [], ◌∷◌, Some, None, IsSome, IsTrue, is_some, is_gt, refl, sym, ap, subst, ◌∙◌, ⊎_elim, Less}
use Rattle.std.specs.Cmp.Lexicographic.{same_text}
use Rattle.std.specs.List.{AllByRecursion, list_all}
use Rattle.std.specs.List.Sorted.{IsStrictlySortedBy}
use Rattle.std.proofs.lemmas.Bool.{or_parts}
use Rattle.kl_base.specs.Fields.{bytes_cmp, field, labels_of, LabelsRise}
use Rattle.kl_base.specs.Sorted.{put_in}
use Rattle.kl_value.specs.IsCanonical.{IsCanonical}
use Rattle.kl_value.specs.declared.Value.{Value}
use Rattle.kl_value.specs.declared.Value.TheVariants as value
use Rattle.kl_value.proofs.IsCanonicalLemmas.{record_made}
use Rattle.kl_prim.specs.Records.{Fields, by_label, in_order, is_label_of, has_all, without}
use Rattle.kl_prim.specs.Table.{meaning, row_at, rows}
use Rattle.kl_prim.proofs.RecordLemmas.{AllApart, in_order_all, in_order_rises}
use Rattle.kl_type.specs.Ground.{Ground, Row, bool, rec, row_by, at, IsBefore, IsRow}
use Rattle.kl_type.proofs.RowLemmas.{told, same_label, at_there, none_some}
use Rattle.kl_outcome.specs.Outcome.{Name, done, answered, as_record}
use Rattle.kl_outcome.proofs.RowFields.{labels_stand}
use Rattle.kl_outcome.specs.Typed.{HasFields, Inhabits, IsWithout, stands_in, PrimTypes}
use Rattle.kl_syntax.specs.Syntax.{Pats, no_pats, pats}
use Rattle.kl_meaning.specs.Match.{same_name, has_label}
use Rattle.kl_meaning.specs.Tidy.{AreTidyPatterns}
use Rattle.kl_meaning.specs.Typing.{Context, TakesFields}
use Rattle.kl_meaning.proofs.Safety.{truth_typed}
use Rattle.kl_core.specs.Typing.{SourceTypes, CoreTypes}
use Rattle.kl_desugar.specs.Translation.{marks, mask}

-- ---- the labels

put_label : (l : Name) (x : Name × Value) (ys : Fields) → is_label_of (put_in by_label x ys) l ≡ (same_name l x.0 || is_label_of ys l)
put_label l x [] = elim (same_name l x.0) as (λ b. is_some (cond b (Some x.1) None) ≡ (b || false)) [ true ↦ refl | false ↦ refl ]
put_label l x (y ∷ ys) =
    elim (is_gt (by_label x y)) as (λ b. is_label_of (cond b (y ∷ put_in by_label x ys) (x ∷ y ∷ ys)) l ≡ (same_name l x.0 || is_label_of (y ∷ ys) l)) [
      | true ↦ behind (same_name l y.0) (same_name l x.0) (put_label l x ys)
      | false ↦ first (same_name l x.0)
    ]
  where
    behind : (c b : Bool) → is_label_of (put_in by_label x ys) l ≡ (b || is_label_of ys l) → is_some (cond c (Some y.1) (field l (put_in by_label x ys))) ≡ (b || is_some (cond c (Some y.1) (field l ys)))
    behind true true h = refl
    behind true false h = refl
    behind false b h = h

    first : (b : Bool) → is_some (cond b (Some x.1) (field l (y ∷ ys))) ≡ (b || is_label_of (y ∷ ys) l)
    first true = refl
    first false = refl

marks_label : (ps : Pats) (l : Name) → is_label_of (in_order (marks ps)) l ≡ has_label ps l
marks_label no_pats l = refl
marks_label (pats m p ps) l = put_label l (m.text, value.Bool true) (in_order (marks ps)) ∙ ap (λ b. same_name l m.text || b) (marks_label ps l)

-- each label of a pattern stands in the fields
abbrev pub HasLabels : Pats → Fields → Type 0
HasLabels no_pats fs = Unit {0}
HasLabels (pats l p ps) fs = IsSome (field l.text fs) × HasLabels ps fs

every : {X : Type 0} (test : X → Bool) (xs : List X) → AllByRecursion (λ x. test x ≡ true) xs → list_all test xs ≡ true
every test [] h = refl
every test (x ∷ xs) h = rw h.0 (every test xs h.1)

marks_there : (ps : Pats) (fs : Fields) → HasLabels ps fs → AllByRecursion (λ g. is_label_of fs g.0 ≡ true) (marks ps)
marks_there no_pats fs h = tt
marks_there (pats l p ps) fs h = (h.0, marks_there ps fs h.1)

all_there : (ps : Pats) (fs : Fields) → HasLabels ps fs → has_all fs (in_order (marks ps)) ≡ true
all_there ps fs h = every (λ g. is_label_of fs g.0) (in_order (marks ps)) (in_order_all (λ g. is_label_of fs g.0 ≡ true) (marks ps) (marks_there ps fs h))

-- ---- what is left

without_same : (p q : Name → Bool) → ((l : Name) → p l ≡ q l) → (fs : Fields) → without p fs ≡ without q fs
without_same p q h [] = refl
without_same p q h (f ∷ fs) = ap (λ b. cond (not b) (f ∷ without p fs) (without p fs)) (h f.0) ∙ ap (λ gs. cond (not (q f.0)) (f ∷ gs) gs) (without_same p q h fs)

rest_of : (v : Value) (fs gs : Fields) → as_record v ≡ Some fs → has_all fs gs ≡ true → answered (meaning 28 (v ∷ value.Rec gs ∷ [])) ≡ done (value.Rec (without (is_label_of gs) fs))
unfolding meaning row_at rows
rest_of v fs gs r h = rw (r, value.outs-Rec gs, h) refl

pub rest_means : (v : Value) (fs : Fields) (ps : Pats) → as_record v ≡ Some fs → HasLabels ps fs
    → answered (meaning 28 (v ∷ value.Rec (in_order (marks ps)) ∷ [])) ≡ done (value.Rec (without (has_label ps) fs))
rest_means v fs ps r h = rest_of v fs (in_order (marks ps)) r (all_there ps fs h) ∙ ap (λ gs. done (value.Rec gs)) (without_same _ _ (marks_label ps) fs)

-- ---- types

marks_apart : (ps : Pats) → AreTidyPatterns ps → AllApart (marks ps)
marks_apart no_pats h = tt
marks_apart (pats l p ps) h = (labels_apart ps l.text h.0, marks_apart ps h.2)
  where
    labels_apart : (qs : Pats) (m : Name) → has_label qs m ≡ false → AllByRecursion (λ f. m ≡ f.0 → ⊥) (marks qs)
    labels_apart no_pats m h = tt
    labels_apart (pats k q qs) m h =
        let both = or_parts (same_name m k.text) (has_label qs m) h in
        ((λ e. let f : true ≡ false = sym (subst (λ x. same_name m x ≡ true) e (same_label m)) ∙ both.0 in let n : ⊥ = cc in n), labels_apart qs m both.1)

marks_truths : (ps : Pats) → AllByRecursion (λ f. Inhabits bool f.1) (marks ps)
marks_truths no_pats = tt
marks_truths (pats l p ps) = (truth_typed true, marks_truths ps)

abbrev truths : Fields → Row
truths fs = row_by (λ v. bool) fs

before_truths : (l : Name) (fs : Fields) → AllByRecursion (λ m. bytes_cmp l m ≡ Less) (labels_of fs) → IsBefore l (truths fs)
before_truths l [] h m t e = none_some t _ e
before_truths l (f ∷ fs) h m t e =
    ⊎_elim
    (λ p. subst (λ k. bytes_cmp l k ≡ Less) (sym p.1) h.0)
    (λ d. before_truths l fs h.1 m t (sym (at_there m f.0 bool (truths fs) d.1) ∙ e))
    (told m f.0)

truths_row : (fs : Fields) → LabelsRise fs → IsRow (truths fs)
unfolding IsStrictlySortedBy
truths_row [] h = tt
truths_row (f ∷ fs) h = (before_truths f.0 fs h.0, tt, truths_row fs h.1)

truths_held : (fs : Fields) → AllByRecursion (λ f. Inhabits bool f.1) fs → HasFields (truths fs) fs
truths_held [] h = refl
truths_held (f ∷ fs) h = (f.1, fs, refl, h.0.0, truths_held fs h.1)

truths_canonical : (fs : Fields) → AllByRecursion (λ f. Inhabits bool f.1) fs → AllByRecursion (λ f. IsCanonical f.1) fs
truths_canonical [] h = tt
truths_canonical (f ∷ fs) h = (h.0.1, truths_canonical fs h.1)

all_truths : (ps : Pats) → AllByRecursion (λ f. Inhabits bool f.1) (in_order (marks ps))
all_truths ps = in_order_all (λ f. Inhabits bool f.1) (marks ps) (marks_truths ps)

abbrev pub mask_row : Pats → Row
mask_row ps = truths (in_order (marks ps))

pub mask_typed : (S : SourceTypes) (G : List Ground) (ps : Pats) → AreTidyPatterns ps → CoreTypes S G (mask ps) (rec (mask_row ps))
mask_typed S G ps h =
    let fs = in_order (marks ps) in
    let up = in_order_rises (marks ps) (marks_apart ps h) in
    (truths_row fs up, ((fs, refl, truths_held fs (all_truths ps)), record_made fs (truths_canonical fs (all_truths ps)) up))

in_mask : (ps : Pats) (l : Name) → stands_in (mask_row ps) l ≡ has_label ps l
in_mask ps l = sym (labels_stand (mask_row ps) (in_order (marks ps)) l (truths_held (in_order (marks ps)) (all_truths ps))) ∙ marks_label ps l

-- a pattern's labels stand in the row that it takes
pub takes_labels : (ps : Pats) (outside : Name → Ground → Type 0) (r : Row) (G H : Context) → TakesFields ps outside r G H → (l : Name) → IsTrue (has_label ps l) → IsSome (at l r)
takes_labels no_pats outside r G H h l there = let n : ⊥ = cc in absurd n
takes_labels (pats m p ps) outside r G H h l there = by_label (same_name l m.text) refl there (takes_labels ps outside r h.1 H h.4 l)
  where
    by_label : (b : Bool) → b ≡ same_name l m.text → IsTrue (b || has_label ps l) → (IsTrue (has_label ps l) → IsSome (at l r)) → IsSome (at l r)
    by_label true e k next = rw (same_text l m.text e, h.2) refl
    by_label false e k next = next k

pub rest_types : (ps : Pats) (r q : Row) → ((l : Name) → IsTrue (has_label ps l) → IsSome (at l r)) → IsWithout (has_label ps) r q → PrimTypes 28 (rec r ∷ rec (mask_row ps) ∷ []) (rec q)
unfolding PrimTypes row_at rows
rest_types ps r q has h =
    (r, mask_row ps, q, refl, refl, (λ l there. has l (sym (in_mask ps l) ∙ there)), (h.0, λ l. h.1 l ∙ ap (λ b. cond b None (at l r)) (sym (in_mask ps l))))
