-- The fields of a record by rising label are those of a row, and parts of it.
use Rattle.std.proofs.Common.{◌≡◌, ◌≢◌, ⊎_elim, Bool, true, false, not, ◌&&◌, cond, List, [], ◌∷◌, ◌++◌, Option, Some, None, IsSome, is_some, nat_eq, refl, sym, ap, ap₂, ◌∙◌, subst, true≢false, Less}
use Rattle.std.specs.Cmp.Lexicographic.{pointwise, same_text}
use Rattle.std.specs.List.{AllByRecursion, list_all}
use Rattle.std.specs.List.Sorted.{IsStrictlySortedBy}
use Rattle.std.proofs.lemmas.Cmp.{nat_list_cmp_total}
use Rattle.kl_base.specs.Fields.{bytes_cmp, field, LabelsRise}
use Rattle.kl_base.proofs.Each.{all_append, all_map}
use Rattle.kl_value.specs.declared.Value.{Value}
use Rattle.kl_type.specs.Ground.{Ground, Row, no_row, row, at, IsRow}
use Rattle.kl_type.proofs.RowLemmas.{told, same_label, at_here, at_there, at_drops, drops, drops_row, never_less, none_some}
use Rattle.kl_prim.specs.Records.{Fields, has_all, in_order, is_label_of, share_none, without}
use Rattle.kl_prim.proofs.RecordLemmas.{Above, both_apart, in_order_all, in_order_found, in_order_rises, rise_apart, without_rises}
use Rattle.kl_outcome.specs.Outcome.{Name, Outcome}
use Rattle.kl_outcome.specs.Typed.{Has, HasFields, IsBoth, IsWithout, OfType, stands_in}
use Rattle.kl_outcome.proofs.OutcomeTypes.{PartsOf}

-- ---- a row's fields

some_none : (s : Ground) → None ≡ Some s → ⊥
some_none s e = cc

above_found : {T : Type 0} (k l : Name) (ps : List (Name × T)) → Above k ps → IsSome (field l ps) → bytes_cmp k l ≡ Less
above_found k l [] h g = absurd (true≢false (sym g))
above_found k l (p ∷ ps) h g =
    ⊎_elim
    (λ e. subst (λ m. bytes_cmp k m ≡ Less) (sym e.1) h.0)
    (λ d. above_found k l ps h.1 (rw d.0 at g))
    (told l p.0)

-- fields of anything that has types
module _ {T : Type 0} (P : T → Ground → Type 0) where
  -- of the type that the row has at its label
  abbrev pub IsFieldOf : Row → Name × T → Type 0
  IsFieldOf r p = (s : Ground) × (at p.0 r ≡ Some s) × P p.1 s

  abbrev pub HasAll : Row → List (Name × T) → Type 0
  HasAll r ps = (l : Name) → IsSome (at l r) → IsSome (field l ps)

  -- what is left of a row behind its first label
  module _ (l : Name) (t : Ground) (r : Row) (i : IsRow (row l t r)) where
    tail_fields : (ps : List (Name × T)) → Above l ps → AllByRecursion (IsFieldOf (row l t r)) ps → AllByRecursion (IsFieldOf r) ps
    tail_fields [] up all = tt
    tail_fields (p ∷ ps) up all =
        let other : p.0 ≢ l = λ e. never_less l (subst (λ m. bytes_cmp l m ≡ Less) e up.0) in
        ((all.0.0, sym (at_there p.0 l t r other) ∙ all.0.1, all.0.2), tail_fields ps up.1 all.1)

    not_in_tail : at l r ≡ None
    not_in_tail = by_option (at l r) refl
      where
        by_option : (o : Option Ground) → at l r ≡ o → o ≡ None
        by_option (Some s) e = absurd (never_less l (i.0 l s e))
        by_option None e = refl

    tail_found : (p : Name × T) (ps : List (Name × T)) → p.0 ≡ l → HasAll (row l t r) (p ∷ ps) → HasAll r ps
    tail_found p ps e has m s =
        let other : m ≢ l = λ d. true≢false (sym s ∙ ap is_some (ap (λ k. at k r) d ∙ not_in_tail)) in
        let off : pointwise nat_eq m p.0 ≡ false = ⊎_elim (λ d. absurd (other (d.1 ∙ e))) (λ d. d.0) (told m p.0) in
        let found : IsSome (field m (p ∷ ps)) = has m (subst IsSome (sym (at_there m l t r other)) s) in
        rw off at found

    head_same : (p : Name × T) (ps : List (Name × T)) → Above p.0 ps → IsFieldOf (row l t r) p → HasAll (row l t r) (p ∷ ps) → p.0 ≡ l
    head_same p ps up f has =
        ⊎_elim
        (λ e. e.1)
        (λ d.
        let after : bytes_cmp l p.0 ≡ Less = i.0 p.0 f.0 (sym (at_there p.0 l t r d.1) ∙ f.1) in
        let found : IsSome (field l (p ∷ ps)) = has l (rw (same_label l) refl) in
        let off : pointwise nat_eq l p.0 ≡ false = ⊎_elim (λ e. absurd (d.1 (sym e.1))) (λ e. e.0) (told l p.0) in
        let before : bytes_cmp p.0 l ≡ Less = above_found p.0 l ps up (rw off at found) in
        absurd (never_less l (nat_list_cmp_total.trans l p.0 l after before)))
        (told p.0 l)

    head_type : (p : Name × T) → p.0 ≡ l → IsFieldOf (row l t r) p → P p.1 t
    head_type p e f =
        let same : Some f.0 ≡ Some t = sym f.1 ∙ at_here p.0 l t r e in
        let one : f.0 ≡ t = cc in
        subst (P p.1) one f.2

  -- a relation that goes along a row, label by label
  module _ (Q : List (Name × T) → Row → Type 0) (none : Q [] no_row) (more : (p : Name × T) (ps : List (Name × T)) (s : Ground) (r : Row) → P p.1 s → Q ps r → Q (p ∷ ps) (row p.0 s r)) where
    pub along_row : (r : Row) (ps : List (Name × T)) → IsRow r → LabelsRise ps → AllByRecursion (IsFieldOf r) ps → HasAll r ps → Q ps r
    unfolding IsStrictlySortedBy
    along_row no_row [] i up all has = none
    along_row no_row (p ∷ ps) i up all has = absurd (some_none _ all.0.1)
    along_row (row l t r) [] i up all has = absurd (true≢false (sym (has l (rw (same_label l) refl))))
    along_row (row l t r) (p ∷ ps) i up all has =
        let e = head_same l t r i p ps up.0 all.0 has in
        let above : Above l ps = subst (λ m. Above m ps) e up.0 in
        subst (λ m. Q (p ∷ ps) (row m t r)) e
        (more p ps t r (head_type l t r i p e all.0) (along_row r ps i.2 up.1 (tail_fields l t r i ps above all.1) (tail_found l t r i p ps e has)))

pub parts_of_row : (r : Row) (ps : List (Name × Outcome)) → IsRow r → LabelsRise ps → AllByRecursion (IsFieldOf (λ o t. OfType t o) r) ps → HasAll (λ o t. OfType t o) r ps → PartsOf ps r
parts_of_row = along_row (λ o t. OfType t o) PartsOf refl (λ p ps s r h k. (s, r, refl, h, k))

-- ---- the fields of a record of a type

module _ (test : Name → Bool) where
  -- a test that names each label of the row names each of the fields
  pub all_named : (r : Row) (fs : Fields) → HasFields r fs → ((l : Name) → IsSome (at l r) → test l ≡ true) → list_all (λ f. test f.0) fs ≡ true
  all_named no_row fs h names = ap (list_all (λ f. test f.0)) h
  all_named (row m t r) fs h names =
      let rest = all_named r h.1 h.4 (λ l s. names l (elim (pointwise nat_eq l m) as (λ b. IsSome (cond b (Some t) (at l r))) [ true ↦ refl | false ↦ s ])) in
      ap (list_all (λ f. test f.0)) h.2 ∙ ap₂ ◌&&◌ (names m (rw (same_label m) refl)) rest

-- labels of the row, and of the fields
pub labels_stand : (r : Row) (fs : Fields) (l : Name) → HasFields r fs → is_label_of fs l ≡ stands_in r l
labels_stand no_row fs l h = ap (λ gs. is_label_of gs l) h
labels_stand (row m t r) fs l h =
    ap (λ gs. is_label_of gs l) h.2
    ∙ elim (pointwise nat_eq l m) as (λ b. is_some (cond b (Some h.0) (field l h.1)) ≡ is_some (cond b (Some t) (at l r))) [ true ↦ refl | false ↦ labels_stand r h.1 l h.4 ]

abbrev Types : Value → Ground → Type 0
Types v t = Has t v

behind : (m : Name) (t : Ground) (r : Row) (fs : Fields) → Above m fs → AllByRecursion (IsFieldOf Types r) fs → AllByRecursion (IsFieldOf Types (row m t r)) fs
behind m t r [] up all = tt
behind m t r (f ∷ fs) up all =
    let other : f.0 ≢ m = λ e. never_less m (subst (λ k. bytes_cmp m k ≡ Less) e up.0) in
    ((all.0.0, at_there f.0 m t r other ∙ all.0.1, all.0.2), behind m t r fs up.1 all.1)

-- each field of the type that the row has at its label
pub fields_of_row : (r : Row) (fs : Fields) → LabelsRise fs → HasFields r fs → AllByRecursion (IsFieldOf Types r) fs
unfolding IsStrictlySortedBy
fields_of_row no_row fs up h = subst (AllByRecursion (IsFieldOf Types no_row)) (sym h) tt
fields_of_row (row m t r) fs up h =
    let rise : LabelsRise ((m, h.0) ∷ h.1) = subst LabelsRise h.2 up in
    subst (AllByRecursion (IsFieldOf Types (row m t r))) (sym h.2)
    ((t, at_here m m t r refl, h.3), behind m t r h.1 rise.0 (fields_of_row r h.1 rise.1 h.4))

-- fields by rising label, each of its type in the row and all of them
pub has_row : (r : Row) (fs : Fields) → IsRow r → LabelsRise fs → AllByRecursion (IsFieldOf Types r) fs → HasAll Types r fs → HasFields r fs
has_row = along_row Types (λ fs r. HasFields r fs) refl (λ f fs s r h k. (f.1, fs, refl, h, k))

kept_at : (b : Bool) (o : Option Ground) (t : Ground) → cond b None o ≡ Some t → (b ≡ false) × (o ≡ Some t)
kept_at true o t h = none_some t _ h
kept_at false o t h = (refl, h)

-- ---- a row without some labels

module _ (test : Name → Bool) (r q : Row) (w : IsWithout test r q) where
  kept_fields : (fs : Fields) → AllByRecursion (IsFieldOf Types r) fs → AllByRecursion (IsFieldOf Types q) (without test fs)
  kept_fields [] all = tt
  kept_fields (f ∷ fs) all = by_test (test f.0) refl (kept_fields fs all.1)
    where
      by_test : (b : Bool) → test f.0 ≡ b → AllByRecursion (IsFieldOf Types q) (without test fs) → AllByRecursion (IsFieldOf Types q) (cond (not b) (f ∷ without test fs) (without test fs))
      by_test true e rest = rest
      by_test false e rest = ((all.0.0, w.1 f.0 ∙ ap (λ b. cond b None (at f.0 r)) e ∙ all.0.1, all.0.2), rest)

  kept_found : (l : Name) (fs : Fields) → test l ≡ false → IsSome (field l fs) → IsSome (field l (without test fs))
  kept_found l [] e h = h
  kept_found l (f ∷ fs) e h = by_label (pointwise nat_eq l f.0) refl h (kept_found l fs e)
    where
      by_label : (b : Bool) → pointwise nat_eq l f.0 ≡ b → IsSome (cond b (Some f.1) (field l fs)) → (IsSome (field l fs) → IsSome (field l (without test fs))) → IsSome (field l (without test (f ∷ fs)))
      by_label true d k next = let off : test f.0 ≡ false = ap test (sym (same_text l f.0 (sym d))) ∙ e in rw (off, d) refl
      by_label false d k next =
          elim (test f.0) as (λ c. IsSome (field l (cond (not c) (f ∷ without test fs) (without test fs)))) [ true ↦ next k | false ↦ rw d (next k) ]

  -- a record without these fields has the type of the row without them
  pub without_typed : (fs : Fields) → LabelsRise fs → HasFields r fs → HasFields q (without test fs)
  without_typed fs up h =
      has_row q (without test fs) w.0 (without_rises test fs up) (kept_fields fs (fields_of_row r fs up h))
      (λ l s. stays l (test l) refl (subst IsSome (w.1 l) s))
    where
      stays : (l : Name) (b : Bool) → test l ≡ b → IsSome (cond b None (at l r)) → IsSome (field l (without test fs))
      stays l true e s = absurd (true≢false (sym s))
      stays l false e s = kept_found l fs e (labels_stand r fs l h ∙ s)

-- the same by another test that tells the same
pub without_by : (one two : Name → Bool) (r q : Row) → ((l : Name) → one l ≡ two l) → IsWithout one r q → IsWithout two r q
without_by one two r q same w = (w.0, λ l. w.1 l ∙ ap (λ b. cond b None (at l r)) (same l))

-- ---- two rows in one

module _ (r s u : Row) (b : IsBoth r s u) (fs gs : Fields) (hf : HasFields r fs) (hg : HasFields s gs) where
  apart : (l : Name) → IsSome (at l r) → not (is_label_of gs l) ≡ true
  apart l h = ap not (labels_stand s gs l hg) ∙ by_test (stands_in s l) refl (subst IsSome (b.1.1 l) h)
    where
      by_test : (c : Bool) → stands_in s l ≡ c → IsSome (cond c None (at l u)) → not c ≡ true
      by_test true e k = absurd (true≢false (sym k))
      by_test false e k = refl

  pub none_shared : share_none fs gs ≡ true
  none_shared = all_named (λ l. not (is_label_of gs l)) r fs hf apart

  lifted : (test : Name → Bool) (q : Row) → IsWithout test u q → (ps : Fields) → AllByRecursion (IsFieldOf Types q) ps → AllByRecursion (IsFieldOf Types u) ps
  lifted test q w ps all = all_map (IsFieldOf Types q) (IsFieldOf Types u) ps (λ p f. (f.0, (kept_at (test p.0) (at p.0 u) f.0 (sym (w.1 p.0) ∙ f.1)).1, f.2)) all

  found_left : (l : Name) (ps qs : Fields) → IsSome (field l ps) → IsSome (field l (ps ++ qs))
  found_left l [] qs h = absurd (true≢false (sym h))
  found_left l (p ∷ ps) qs h =
      elim (pointwise nat_eq l p.0) as (λ c. IsSome (cond c (Some p.1) (field l ps)) → IsSome (cond c (Some p.1) (field l (ps ++ qs)))) [ true ↦ λ k. refl | false ↦ λ k. found_left l ps qs k ] h

  found_right : (l : Name) (ps qs : Fields) → IsSome (field l qs) → IsSome (field l (ps ++ qs))
  found_right l [] qs h = h
  found_right l (p ∷ ps) qs h =
      elim (pointwise nat_eq l p.0) as (λ c. IsSome (cond c (Some p.1) (field l (ps ++ qs)))) [ true ↦ refl | false ↦ found_right l ps qs h ]

  found_either : (l : Name) → IsSome (at l u) → IsSome (field l (fs ++ gs))
  found_either l h = by_test (stands_in s l) refl (b.1.1 l)
    where
      by_test : (c : Bool) → stands_in s l ≡ c → at l r ≡ cond c None (at l u) → IsSome (field l (fs ++ gs))
      by_test true e k = found_right l fs gs (labels_stand s gs l hg ∙ e)
      by_test false e k = found_left l fs gs (labels_stand r fs l hf ∙ ap is_some k ∙ h)

  -- a record of both has the type of both
  pub both_typed : LabelsRise fs → LabelsRise gs → HasFields u (in_order (fs ++ gs))
  both_typed up vp =
      has_row u (in_order (fs ++ gs)) b.0
      (in_order_rises (fs ++ gs) (both_apart fs gs (rise_apart fs up) (rise_apart gs vp) none_shared))
      (in_order_all (IsFieldOf Types u) (fs ++ gs)
      (all_append (IsFieldOf Types u) fs gs (lifted (stands_in s) r b.1 fs (fields_of_row r fs up hf)) (lifted (stands_in r) s b.2 gs (fields_of_row s gs vp hg))))
      (λ l h. in_order_found l (fs ++ gs) (found_either l h))

-- a row that has all labels of another: so have the fields
pub all_there : (r s : Row) (fs gs : Fields) → HasFields r fs → HasFields s gs → ((l : Name) → IsSome (at l s) → IsSome (at l r)) → has_all fs gs ≡ true
all_there r s fs gs h k names = all_named (is_label_of fs) s gs k (λ l i. labels_stand r fs l h ∙ names l i)

-- the labels that a test names, and the others
pub divided : (test : Name → Bool) (r q : Row) → IsRow r → IsWithout test r q → IsBoth (drops (λ l. not (test l)) r) q r
divided test r q i w = (
  i,
  (drops_row (λ l. not (test l)) r i, λ l. at_drops (λ l. not (test l)) l r ∙ kept (test l) (at l r) (at l q) (w.1 l)),
  (w.0, λ l. w.1 l ∙ left (test l) (at l r) (at l (drops (λ l. not (test l)) r)) (at_drops (λ l. not (test l)) l r)),
)
  where
    kept : (b : Bool) (o p : Option Ground) → p ≡ cond b None o → cond (not b) None o ≡ cond (is_some p) None o
    kept true o p e = rw e refl
    kept false (Some t) p e = rw e refl
    kept false None p e = rw e refl

    left : (b : Bool) (o p : Option Ground) → p ≡ cond (not b) None o → cond b None o ≡ cond (is_some p) None o
    left false o p e = rw e refl
    left true (Some t) p e = rw e refl
    left true None p e = rw e refl
