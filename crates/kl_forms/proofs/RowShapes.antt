-- The row of a record's labels.
use Rattle.std.proofs.Common.{◌≡◌, ⊎_elim, ℕ, Bool, false, suc, ◌+◌, ◌<◌, ◌≤◌, List, [], ◌∷◌, ◌++◌, length, map, drop, get_or, Option, Some, None, option_map, IsSome, refl, sym, ap, ◌∙◌, subst, arith, Less, drop-cons}
use Rattle.std.proofs.lemmas.List.{drop_all}
use Rattle.std.specs.List.{AllByRecursion}
use Rattle.std.specs.List.Sorted.{IsStrictlySortedBy}
use Rattle.std.proofs.lemmas.Map.Keys.{sorted_head, sorted_tail}
use Rattle.kl_base.specs.Fields.{bytes_cmp, field, labels_of, LabelsRise}
use Rattle.kl_value.specs.declared.Value.{Value}
use Rattle.kl_type.specs.Ground.{Ground, Row, rec, row, row_by, at, IsGround, IsRow}
use Rattle.kl_type.proofs.RowLemmas.{told, at_here, at_there, never_less, one_row}
use Rattle.kl_rows.specs.declared.cell.Cell.{Cell}
use Rattle.kl_rows.specs.Lists.{Fields}
use Rattle.kl_rows.specs.Places.{IsType, AreTypes}
use Rattle.kl_rows.specs.Solutions.{Assignment}
use Rattle.kl_rows.proofs.ListLemmas.{Label, field_here, field_there, all_at}
use Rattle.kl_rows.proofs.Advancing.{agrees_on, keeps_on}
use Rattle.kl_forms.specs.Checks.{Checks, OpensMany}
use Rattle.kl_forms.specs.Forms.{HasFields, IsRecord}
use Rattle.kl_forms.specs.Constants.{ValueFields, numbered, row_with, EachHas, TakesFields}
use Rattle.kl_forms.proofs.Opening.{type_within}
use Rattle.kl_forms.proofs.Fronts.{at_label, others_of}

module _ (g : ℕ → Ground) where
  at_row_by : (fs : Fields) (l : Label) → at l (row_by g fs) ≡ option_map g (field l fs)
  at_row_by [] l = refl
  at_row_by ((m, t) ∷ fs) l = ⊎_elim
      (λ p. at_here l m (g t) (row_by g fs) p.1 ∙ sym (ap (option_map g) (field_here l m t fs p.1)))
      (λ p. at_there l m (g t) (row_by g fs) p.1 ∙ (at_row_by fs l ∙ sym (ap (option_map g) (field_there l m t fs p.1))))
      (told l m)

  above : (m : Label) (fs : Fields) → AllByRecursion (λ l. bytes_cmp m l ≡ Less) (labels_of fs) → AllByRecursion (λ f. at f.0 (row_by g fs) ≡ Some (g f.1)) fs → (t : Ground) (r : Row)
      → AllByRecursion (λ f. at f.0 r ≡ Some (g f.1)) fs → AllByRecursion (λ f. at f.0 (row m t r) ≡ Some (g f.1)) fs
  above m [] h k t r e = tt
  above m ((l, i) ∷ fs) h k t r e =
      (at_there l m t r (λ q. never_less m (subst (λ x. bytes_cmp m x ≡ Less) q h.0)) ∙ e.0, rest m fs h.1 t r e.1)
    where
      rest : (m : Label) (fs : Fields) → AllByRecursion (λ l. bytes_cmp m l ≡ Less) (labels_of fs) → (t : Ground) (r : Row) → AllByRecursion (λ f. at f.0 r ≡ Some (g f.1)) fs → AllByRecursion (λ f. at f.0 (row m t r) ≡ Some (g f.1)) fs
      rest m [] h t r e = tt
      rest m ((l, i) ∷ fs) h t r e = (at_there l m t r (λ q. never_less m (subst (λ x. bytes_cmp m x ≡ Less) q h.0)) ∙ e.0, rest m fs h.1 t r e.1)

  each_at : (fs : Fields) → LabelsRise fs → AllByRecursion (λ f. at f.0 (row_by g fs) ≡ Some (g f.1)) fs
  each_at [] up = tt
  each_at ((m, t) ∷ fs) up =
      let k = each_at fs (sorted_tail bytes_cmp m (labels_of fs) up) in
      (at_here m m (g t) (row_by g fs) refl, above m fs (sorted_head bytes_cmp m (labels_of fs) up) k (g t) (row_by g fs) k)

  some_field : (fs : Fields) (l : Label) → IsSome (at l (row_by g fs)) → IsSome (field l fs)
  some_field fs l h = by (field l fs) (subst IsSome (at_row_by fs l) h)
    where
      by : (o : Option ℕ) → IsSome (option_map g o) → IsSome o
      by None h = h
      by (Some x) h = refl

  rows_ground : (fs : Fields) → LabelsRise fs → ((i : ℕ) → IsGround (g i)) → IsRow (row_by g fs)
  rows_ground [] up ok = tt
  rows_ground ((m, t) ∷ fs) up ok =
      (λ l u e. at_label (λ l. bytes_cmp m l ≡ Less) fs l (sorted_head bytes_cmp m (labels_of fs) up) (some_field fs l (subst IsSome (sym e) refl)), ok t, rows_ground fs (sorted_tail bytes_cmp m (labels_of fs) up) ok)

  same_row : (fs : Fields) (r : Row) → LabelsRise fs → ((i : ℕ) → IsGround (g i)) → IsRow r → AllByRecursion (λ f. at f.0 r ≡ Some (g f.1)) fs → ((l : Label) → IsSome (at l r) → IsSome (field l fs)) → r ≡ row_by g fs
  same_row fs r up ok good each within = one_row r (row_by g fs) good (rows_ground fs up ok) (λ l. by l (field l fs) refl)
    where
      by : (l : Label) (o : Option ℕ) → field l fs ≡ o → at l r ≡ at l (row_by g fs)
      by l None e = others_of fs r l (within l) e ∙ sym (at_row_by fs l ∙ ap (option_map g) e)
      by l (Some n) e = all_at (λ k v. at k r ≡ Some (g v)) fs l n each e ∙ sym (at_row_by fs l ∙ ap (option_map g) e)

-- labels with numbers
labels_same : (fs : ValueFields) (is : List ℕ) → length is ≡ length fs → labels_of (numbered fs is) ≡ labels_of fs
labels_same [] is e = refl
labels_same (f ∷ fs) [] e = absurd (omega arith)
labels_same (f ∷ fs) (i ∷ is) e = ap (λ ls. f.0 ∷ ls) (labels_same fs is (omega arith))

labelled_rise : (fs : ValueFields) (is : List ℕ) → length is ≡ length fs → LabelsRise fs → LabelsRise (numbered fs is)
labelled_rise fs is e up = subst (IsStrictlySortedBy bytes_cmp) (sym (labels_same fs is e)) up

row_same : (g : ℕ → Ground) (fs : ValueFields) (is : List ℕ) → row_by g (numbered fs is) ≡ row_with fs (map g is)
row_same g [] is = refl
row_same g (f ∷ fs) [] = refl
row_same g (f ∷ fs) (i ∷ is) = ap (row f.0 (g i)) (row_same g fs is)

each_long : (ts : List Ground) (fs : ValueFields) → EachHas ts fs → length ts ≡ length fs
each_long [] [] h = refl
each_long [] (f ∷ fs) h = absurd h
each_long (t ∷ ts) [] h = absurd h
each_long (t ∷ ts) (f ∷ fs) h = let e = each_long ts fs h.1 in omega arith

each_ground : (ts : List Ground) (fs : ValueFields) → EachHas ts fs → IsRow (row_with fs ts) → AllByRecursion IsGround ts
each_ground [] fs h g = tt
each_ground (t ∷ ts) [] h g = absurd h
each_ground (t ∷ ts) (f ∷ fs) h g = (g.1, each_ground ts fs h.1 g.2)

-- fresh types, a record of them, and what each has
module _ (old mid new : List Cell) (fs : ValueFields) (is : List ℕ) (n want : ℕ) (ans : Bool) (lab : Fields) (up : LabelsRise fs) (size : n ≡ length fs) (there : IsType old want) (many : OpensMany old mid is n) (is_lab : lab ≡ numbered fs is) where
  long : length is ≡ length fs
  long = many.size ∙ size

  record_down : (s : Assignment) (ts : List Ground) → s.types want ≡ rec (row_with fs ts) → map s.types is ≡ ts → IsRecord false lab want s
  record_down s ts e k =
      let same : row_by s.types (numbered fs is) ≡ row_with fs ts = row_same s.types fs is ∙ ap (row_with fs) k in
      subst (λ l. IsRecord false l want s) (sym is_lab)
      (row_by s.types (numbered fs is), e ∙ ap rec (sym same), (each_at s.types (numbered fs is) (labelled_rise fs is long up), λ l. some_field s.types (numbered fs is) l))

  record_up : (s : Assignment) → IsRecord false lab want s → s.types want ≡ rec (row_with fs (map s.types is))
  record_up s d =
      let k = subst (λ l. HasFields false l d.0 s) is_lab d.2 in
      d.1 ∙ ap rec (same_row s.types (numbered fs is) d.0 (labelled_rise fs is long up) s.types_ground (subst IsGround d.1 (s.types_ground want)) k.0 k.1 ∙ row_same s.types fs is)

  pub record_checks : Checks ans mid new (λ s. IsRecord false lab want s × EachHas (map s.types is) fs) → Checks ans old new (TakesFields fs want)
  record_checks c = record {
    fine = c.fine;
    keeps = keeps_on old mid new many.keeps c.keeps;
    down = λ s h d.
        let w = many.down s d.0 h (each_long d.0 fs d.2 ∙ sym size) (each_ground d.0 fs d.2 (subst IsGround d.1 (s.types_ground want))) in
        let z = c.down w.to w.solves (record_down w.to d.0 (w.agrees.types want (type_within old want there) ∙ d.1) w.holds, subst (λ ts. EachHas ts fs) (sym w.holds) d.2) in
        let le = many.keeps.grows in
        (z.0, record { to = z.1.to; agrees = agrees_on (length old) (length mid) s w.to z.1.to le w.agrees z.1.agrees; solves = z.1.solves; holds = tt });
    up = λ e s h. let w = c.up e s h in (many.up s w.0, (map s.types is, record_up s w.1.0, w.1.1));
  }

-- a list of labels with numbers, as far as the loop has come
pub labels_start : (all : Fields) (fs : ValueFields) (is : List ℕ) → all ≡ [] → all ++ numbered (drop 0 fs) (drop 0 is) ≡ numbered fs is
labels_start all fs is e = ap (λ l. l ++ numbered fs is) e

pub labels_turn : (all after : Fields) (fs : ValueFields) (is : List ℕ) (k : ℕ) (d : List ℕ × Value) (l : List ℕ) → k < length fs → length is ≡ length fs → l ≡ (get_or fs k d).0 → after ≡ all ++ (l, get_or is k 0) ∷ []
    → all ++ numbered (drop k fs) (drop k is) ≡ numbered fs is → after ++ numbered (drop (k + 1) fs) (drop (k + 1) is) ≡ numbered fs is
labels_turn all after fs is k d l lt size same more h =
    let f = get_or fs k d in
    let next : suc k ≡ k + 1 = omega arith in
    let first : drop k fs ≡ f ∷ drop (k + 1) fs = drop-cons fs k d lt ∙ ap (λ j. f ∷ drop j fs) next in
    let second : drop k is ≡ get_or is k 0 ∷ drop (k + 1) is = drop-cons is k 0 (omega arith) ∙ ap (λ j. get_or is k 0 ∷ drop j is) next in
    let split : numbered (drop k fs) (drop k is) ≡ (l, get_or is k 0) ∷ numbered (drop (k + 1) fs) (drop (k + 1) is)
    = ap (λ x. numbered x (drop k is)) first ∙ (ap (λ x. numbered (f ∷ drop (k + 1) fs) x) second ∙ ap (λ x. (x, get_or is k 0) ∷ numbered (drop (k + 1) fs) (drop (k + 1) is)) (sym same)) in
    ap (λ x. x ++ numbered (drop (k + 1) fs) (drop (k + 1) is)) more ∙ (join all (l, get_or is k 0) (numbered (drop (k + 1) fs) (drop (k + 1) is)) ∙ (ap (λ x. all ++ x) (sym split) ∙ h))
  where
    join : (xs : Fields) (x : List ℕ × ℕ) (ys : Fields) → (xs ++ x ∷ []) ++ ys ≡ xs ++ x ∷ ys
    join [] x ys = refl
    join (y ∷ xs) x ys = ap (λ l. y ∷ l) (join xs x ys)

pub labels_end : (all : Fields) (fs : ValueFields) (is : List ℕ) (k : ℕ) → length fs ≤ k → all ++ numbered (drop k fs) (drop k is) ≡ numbered fs is → all ≡ numbered fs is
labels_end all fs is k past h = sym (nil all) ∙ (ap (λ x. all ++ numbered x (drop k is)) (sym (drop_all k fs past)) ∙ h)
  where
    nil : (xs : Fields) → xs ++ [] ≡ xs
    nil [] = refl
    nil (x ∷ xs) = ap (λ l. x ∷ l) (nil xs)

pub labelled_types : (ns : List Cell) (fs : ValueFields) (is : List ℕ) → AllByRecursion (IsType ns) is → AreTypes ns (numbered fs is)
labelled_types ns [] is h = tt
labelled_types ns (f ∷ fs) [] h = tt
labelled_types ns (f ∷ fs) (i ∷ is) h = (h.0, labelled_types ns fs is h.1)
