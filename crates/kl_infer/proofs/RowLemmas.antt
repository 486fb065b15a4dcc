-- Rows, field by field.
use Rattle.std.proofs.Common.{◌≡◌, ℕ, zero, suc, ◌+◌, ◌<◌, ◌≤◌, ◌==◌, Bool, true, false, cond, List, [], ◌∷◌, ◌++◌, length, map, take, get_or, slice_get, Some, None, add-one, codes, refl, sym, ap, ◌∙◌, subst, arith, append_assoc, append-nil}
use mathlib.Core.Path.{ap₂}
use Rattle.std.proofs.lemmas.Bool.Decides.{nat_tests}
use Rattle.std.specs.List.{AllByRecursion, flat_map}
use Rattle.std.specs.Ordering.{is_gt}
use Rattle.kl_base.specs.Sorted.{put_in, sorted}
use Rattle.kl_value.specs.Written.{with_commas, separator}
use Rattle.kl_rows.specs.declared.schemes.Part.{Part}
use Rattle.kl_rows.specs.declared.schemes.Part.TheVariants.{Is}
use Rattle.kl_rows.specs.declared.schemes.Node.TheVariants as node
use Rattle.kl_infer.specs.Printed.{Tree, any, base, product, choice, items, arrow, field, no_field, kind, tree_at, by_label, variables, field_variables, rest_variables, row_variables, text, field_texts, rest_text, row_text, name_text}
use Rattle.kl_infer.specs.Rows.{CanPrint, IsRowOf, IsEnd, fronted, front_of, mark_behind}
use Rattle.kl_infer.proofs.TreeLemmas.{tree_is, parts_can, end_tree}

abbrev pub Fields : Type 0
Fields = List (List ℕ × ℕ)

-- fields with something else behind their labels keep their order
abbrev with_each : {X : Type 0} → (List ℕ × ℕ → X) → Fields → List (List ℕ × X)
with_each h fs = map (λ f. (f.0, h f)) fs

put_in_if : {X : Type 0} (h : List ℕ × ℕ → X) (b : Bool) (f g : List ℕ × ℕ) (fs : Fields) → put_in by_label (f.0, h f) (with_each h fs) ≡ with_each h (put_in by_label f fs)
    → cond b ((g.0, h g) ∷ put_in by_label (f.0, h f) (with_each h fs)) ((f.0, h f) ∷ (g.0, h g) ∷ with_each h fs) ≡ with_each h (cond b (g ∷ put_in by_label f fs) (f ∷ g ∷ fs))
put_in_if h true f g fs e = ap (λ xs. (g.0, h g) ∷ xs) e
put_in_if h false f g fs e = refl

put_in_each : {X : Type 0} (h : List ℕ × ℕ → X) (f : List ℕ × ℕ) (fs : Fields) → put_in by_label (f.0, h f) (with_each h fs) ≡ with_each h (put_in by_label f fs)
put_in_each h f [] = refl
put_in_each h f (g ∷ fs) = put_in_if h (is_gt (by_label f g)) f g fs (put_in_each h f fs)

sorted_each : {X : Type 0} (h : List ℕ × ℕ → X) (fs : Fields) → sorted by_label (with_each h fs) ≡ with_each h (sorted by_label fs)
sorted_each h [] = refl
sorted_each h (f ∷ fs) = ap (put_in by_label (f.0, h f)) (sorted_each h fs) ∙ put_in_each h f (sorted by_label fs)

module _ (parts : List Part) where
  abbrev pub piece : List ℕ × ℕ → List ℕ → List ℕ
  piece f all = f.0 ++ codes ": " ++ text (tree_at parts f.1) all

  abbrev pub front_variables : Fields → List ℕ
  front_variables fs = flat_map (λ f. variables (tree_at parts f.1)) fs

  abbrev pub front_texts : ℕ → Fields → List ℕ → List ℕ
  front_texts i [] all = []
  front_texts i (f ∷ fs) all = separator i ++ piece f all ++ front_texts (suc i) fs all

  variables_each : (fs : Fields) (r : Tree) → IsEnd r → field_variables (fronted parts fs r) ≡ with_each (λ f. variables (tree_at parts f.1)) fs
  variables_each [] (any p) h = refl
  variables_each [] (base t) h = refl
  variables_each [] (product r) h = refl
  variables_each [] (choice r) h = refl
  variables_each [] (items k t) h = refl
  variables_each [] (arrow a b) h = refl
  variables_each [] (field l t r) h = absurd h
  variables_each [] no_field h = refl
  variables_each [] (kind k) h = refl
  variables_each (f ∷ fs) r h = ap (λ xs. (f.0, variables (tree_at parts f.1)) ∷ xs) (variables_each fs r h)

  texts_each : (fs : Fields) (r : Tree) (all : List ℕ) → IsEnd r → field_texts (fronted parts fs r) all ≡ with_each (λ f. piece f all) fs
  texts_each [] (any p) all h = refl
  texts_each [] (base t) all h = refl
  texts_each [] (product r) all h = refl
  texts_each [] (choice r) all h = refl
  texts_each [] (items k t) all h = refl
  texts_each [] (arrow a b) all h = refl
  texts_each [] (field l t r) all h = absurd h
  texts_each [] no_field all h = refl
  texts_each [] (kind k) all h = refl
  texts_each (f ∷ fs) r all h = ap (λ xs. (f.0, piece f all) ∷ xs) (texts_each fs r all h)

  rest_each : (fs : Fields) (r : Tree) → rest_variables (fronted parts fs r) ≡ rest_variables r
  rest_each [] r = refl
  rest_each (f ∷ fs) r = rest_each fs r

  rest_text_each : (fs : Fields) (r : Tree) (all : List ℕ) → rest_text (fronted parts fs r) all ≡ rest_text r all
  rest_text_each [] r all = refl
  rest_text_each (f ∷ fs) r all = rest_text_each fs r all

  flat_each : (fs : Fields) → flat_map (λ f. f.1) (with_each (λ f. variables (tree_at parts f.1)) fs) ≡ front_variables fs
  flat_each [] = refl
  flat_each (f ∷ fs) = ap (λ xs. variables (tree_at parts f.1) ++ xs) (flat_each fs)

  map_each : (fs : Fields) (all : List ℕ) → map (λ f. f.1) (with_each (λ f. piece f all) fs) ≡ map (λ f. piece f all) fs
  map_each [] all = refl
  map_each (f ∷ fs) all = ap (λ xs. piece f all ∷ xs) (map_each fs all)

  abbrev more : List (List ℕ) → List ℕ
  more xs = flat_map (λ x. codes ", " ++ x) xs

  commas : (x : List ℕ) (xs : List (List ℕ)) → with_commas (x ∷ xs) ≡ x ++ more xs
  commas x [] = sym (append-nil x)
  commas x (y ∷ xs) =
      ap (λ t. (x ++ codes ", ") ++ t) (commas y xs)
      ∙ regroup x (codes ", ") y (more xs)
    where
      regroup : (a b c d : List ℕ) → (a ++ b) ++ (c ++ d) ≡ a ++ ((b ++ c) ++ d)
      regroup a b c d = simp append_assoc

  behind_first : (i : ℕ) → separator (suc i) ≡ codes ", "
  behind_first i = let e : (suc i == 0) ≡ false = grind (arith, nat_tests) in ap (λ b. cond b [] (codes ", ")) e

  mark_more : (j : ℕ) (r : Tree) (all : List ℕ) → IsEnd r → mark_behind (suc j) r all ≡ more (rest_text r all)
  mark_more j (any p) all h = ap (λ s. s ++ name_text (codes "...'") p all) (behind_first j) ∙ sym (append-nil (codes ", " ++ name_text (codes "...'") p all))
  mark_more j (base t) all h = refl
  mark_more j (product r) all h = refl
  mark_more j (choice r) all h = refl
  mark_more j (items k t) all h = refl
  mark_more j (arrow a b) all h = refl
  mark_more j (field l t r) all h = absurd h
  mark_more j no_field all h = refl
  mark_more j (kind k) all h = refl

  mark_alone : (r : Tree) (all : List ℕ) → IsEnd r → mark_behind 0 r all ≡ with_commas (rest_text r all)
  mark_alone (any p) all h = refl
  mark_alone (base t) all h = refl
  mark_alone (product r) all h = refl
  mark_alone (choice r) all h = refl
  mark_alone (items k t) all h = refl
  mark_alone (arrow a b) all h = refl
  mark_alone (field l t r) all h = absurd h
  mark_alone no_field all h = refl
  mark_alone (kind k) all h = refl

  -- the fields behind the first, and the mark
  texts_more : (i j : ℕ) (fs : Fields) (r : Tree) (all : List ℕ) → IsEnd r → front_texts (suc i) fs all ++ mark_behind (suc j) r all ≡ more (map (λ f. piece f all) fs ++ rest_text r all)
  texts_more i j [] r all h = mark_more j r all h
  texts_more i j (f ∷ fs) r all h =
      append_assoc (separator (suc i) ++ piece f all) (front_texts (suc (suc i)) fs all) (mark_behind (suc j) r all)
      ∙ ap₂ (λ s t. (s ++ piece f all) ++ t) (behind_first i) (texts_more (suc i) j fs r all h)

  texts_all : (fs : Fields) (r : Tree) (all : List ℕ) → IsEnd r → front_texts 0 fs all ++ mark_behind (length fs) r all ≡ with_commas (map (λ f. piece f all) fs ++ rest_text r all)
  texts_all [] r all h = mark_alone r all h
  texts_all (f ∷ fs) r all h =
      append_assoc (piece f all) (front_texts 1 fs all) (mark_behind (suc (length fs)) r all)
      ∙ (ap (λ t. piece f all ++ t) (texts_more 0 (length fs) fs r all h)
      ∙ sym (commas (piece f all) (map (λ f. piece f all) fs ++ rest_text r all)))

  -- a row is its fields by rising label, and its mark
  module _ (place end : ℕ) (fs gs : Fields) (row : IsRowOf parts place fs end) (up : gs ≡ sorted by_label fs) where
    pub row_variables_are : front_variables gs ++ rest_variables (tree_at parts end) ≡ row_variables (tree_at parts place)
    row_variables_are =
        let whole : row_variables (tree_at parts place) ≡ row_variables (fronted parts fs (tree_at parts end)) = ap row_variables row.same in
        let fields : flat_map (λ f. f.1) (sorted by_label (field_variables (fronted parts fs (tree_at parts end)))) ≡ front_variables gs =
        ap (λ xs. flat_map (λ f. f.1) (sorted by_label xs)) (variables_each fs (tree_at parts end) row.is_end)
        ∙ (ap (flat_map (λ f. f.1)) (sorted_each (λ f. variables (tree_at parts f.1)) fs)
        ∙ (flat_each (sorted by_label fs) ∙ ap front_variables (sym up))) in
        sym (whole ∙ ap₂ (λ xs ys. xs ++ ys) fields (rest_each fs (tree_at parts end)))

    pub row_text_is : (all : List ℕ) → front_texts 0 gs all ++ mark_behind (length gs) (tree_at parts end) all ≡ row_text (tree_at parts place) all
    row_text_is all =
        let whole : row_text (tree_at parts place) all ≡ row_text (fronted parts fs (tree_at parts end)) all = ap (λ t. row_text t all) row.same in
        let fields : map (λ f. f.1) (sorted by_label (field_texts (fronted parts fs (tree_at parts end)) all)) ≡ map (λ f. piece f all) gs =
        ap (λ xs. map (λ f. f.1) (sorted by_label xs)) (texts_each fs (tree_at parts end) all row.is_end)
        ∙ (ap (map (λ f. f.1)) (sorted_each (λ f. piece f all) fs)
        ∙ (map_each (sorted by_label fs) all ∙ ap (map (λ f. piece f all)) (sym up))) in
        texts_all gs (tree_at parts end) all row.is_end
        ∙ sym (whole ∙ ap₂ (λ xs ys. with_commas (xs ++ ys)) fields (rest_text_each fs (tree_at parts end) all))

  pub variables_last : (fs : Fields) (f : List ℕ × ℕ) → front_variables (fs ++ f ∷ []) ≡ front_variables fs ++ variables (tree_at parts f.1)
  variables_last [] f = append-nil (variables (tree_at parts f.1))
  variables_last (g ∷ fs) f = ap (λ t. variables (tree_at parts g.1) ++ t) (variables_last fs f) ∙ sym (append_assoc (variables (tree_at parts g.1)) (front_variables fs) (variables (tree_at parts f.1)))

  pub texts_last : (i : ℕ) (fs : Fields) (f : List ℕ × ℕ) (all : List ℕ) → front_texts i (fs ++ f ∷ []) all ≡ front_texts i fs all ++ (separator (i + length fs) ++ piece f all)
  texts_last i [] f all = let e : i + 0 ≡ i = omega arith in append-nil (separator i ++ piece f all) ∙ ap (λ n. separator n ++ piece f all) (sym e)
  texts_last i (g ∷ fs) f all =
      let e : suc i + length fs ≡ i + suc (length fs) = omega arith in
      ap (λ t. (separator i ++ piece g all) ++ t) (texts_last (suc i) fs f all ∙ ap (λ n. front_texts (suc i) fs all ++ (separator n ++ piece f all)) e)
      ∙ sym (append_assoc (separator i ++ piece g all) (front_texts (suc i) fs all) (separator (i + suc (length fs)) ++ piece f all))

  -- on the way along a row
  pub record OnRow (place : ℕ) (fields : Fields) (end : ℕ) : Type 0 where
    pub can : CanPrint parts end
    pub same : tree_at parts place ≡ fronted parts fields (tree_at parts end)
    pub falls : AllByRecursion (λ f. f.1 < place) fields
    pub here : end ≤ place

  fronted_last : (fs : Fields) (f : List ℕ × ℕ) (r : Tree) → fronted parts (fs ++ f ∷ []) r ≡ fronted parts fs (field f.0 (tree_at parts f.1) r)
  fronted_last [] f r = refl
  fronted_last (g ∷ fs) f r = ap (field g.0 (tree_at parts g.1)) (fronted_last fs f r)

  all_last : (n : ℕ) (fs : Fields) (f : List ℕ × ℕ) → AllByRecursion (λ g. g.1 < n) fs → f.1 < n → AllByRecursion (λ g. g.1 < n) (fs ++ f ∷ [])
  all_last n [] f h k = (k, tt)
  all_last n (g ∷ fs) f h k = (h.0, all_last n fs f h.1 k)

  pub on_row_more : (place end : ℕ) (fs : Fields) (l : List ℕ) (t r : ℕ) (p : Part) → OnRow place fs end → slice_get parts end ≡ Some p → p ≡ Is (node.Row l t r) → OnRow place (fs ++ (l, t) ∷ []) r × (r < end)
  on_row_more place end fs l t r p o e is =
      let here : slice_get parts end ≡ Some (Is (node.Row l t r)) = e ∙ ap Some is in
      let inside = parts_can parts end (Is (node.Row l t r)) o.can here in
      let tree = tree_is parts end (Is (node.Row l t r)) o.can here in (
        record {
          can = inside.1.0;
          same = o.same ∙ ap (fronted parts fs) tree ∙ sym (fronted_last fs (l, t) (tree_at parts r));
          falls = let w = inside.0.1 in let z = o.here in all_last place fs (l, t) o.falls (omega arith);
          here = let w = inside.1.1 in let z = o.here in omega arith;
        },
        inside.1.1,
      )

  pub on_row_end : (place end : ℕ) (fs : Fields) (p : Part) → OnRow place fs end → slice_get parts end ≡ Some p → front_of p ≡ None → IsRowOf parts place fs end
  on_row_end place end fs p o e none = record {
    same = o.same;
    is_end = subst IsEnd (sym (tree_is parts end p o.can e)) (end_tree (tree_at parts) end p none);
    falls = o.falls;
    here = o.here;
  }

-- put_in, place by place
take_last : {X : Type 0} (xs : List X) (i : ℕ) (x : X) → i < length xs → x ≡ get_or xs i x → take (suc i) xs ≡ take i xs ++ x ∷ []
take_last [] i x lt e = absurd (omega arith)
take_last (y ∷ xs) zero x lt e = ap (λ z. z ∷ []) (sym e)
take_last (y ∷ xs) (suc i) x lt e = ap (λ zs. y ∷ zs) (take_last xs i x (omega arith) e)

-- one field more is written
pub take_more : {X : Type 0} (xs : List X) (i : ℕ) (x : X) → i < length xs → x ≡ get_or xs i x → take (i + 1) xs ≡ take i xs ++ x ∷ []
take_more xs i x lt e = rw add-one (take_last xs i x lt e)

pub all_at : (n : ℕ) (fs : Fields) (i : ℕ) (f : List ℕ × ℕ) → AllByRecursion (λ g. g.1 < n) fs → i < length fs → f ≡ get_or fs i f → f.1 < n
all_at n [] i f h lt e = absurd (omega arith)
all_at n (g ∷ fs) zero f h lt e = subst (λ (x : List ℕ × ℕ). x.1 < n) (sym e) h.0
all_at n (g ∷ fs) (suc i) f h lt e = all_at n fs i f h.1 (omega arith) e

all_put_if : (n : ℕ) (b : Bool) (f g : List ℕ × ℕ) (fs gs : Fields) → f.1 < n → g.1 < n → AllByRecursion (λ h. h.1 < n) fs → AllByRecursion (λ h. h.1 < n) gs → AllByRecursion (λ h. h.1 < n) (cond b (g ∷ gs) (f ∷ g ∷ fs))
all_put_if n true f g fs gs x y h k = (y, k)
all_put_if n false f g fs gs x y h k = (x, (y, h))

all_put : (n : ℕ) (f : List ℕ × ℕ) (fs : Fields) → f.1 < n → AllByRecursion (λ h. h.1 < n) fs → AllByRecursion (λ h. h.1 < n) (put_in by_label f fs)
all_put n f [] x h = (x, tt)
all_put n f (g ∷ fs) x h = all_put_if n (is_gt (by_label f g)) f g fs (put_in by_label f fs) x h.0 h.1 (all_put n f fs x h.1)

pub all_sorted : (n : ℕ) (fs : Fields) → AllByRecursion (λ h. h.1 < n) fs → AllByRecursion (λ h. h.1 < n) (sorted by_label fs)
all_sorted n [] h = tt
all_sorted n (f ∷ fs) h = all_put n f (sorted by_label fs) h.0 (all_sorted n fs h.1)

pub length_taken : {X : Type 0} (xs : List X) (i : ℕ) → i < length xs → length (take i xs) ≡ i
length_taken [] i lt = absurd (omega arith)
length_taken (x ∷ xs) zero lt = refl
length_taken (x ∷ xs) (suc i) lt = ap suc (length_taken xs i (omega arith))

pub take_whole : {X : Type 0} (xs : List X) → take (length xs) xs ≡ xs
take_whole [] = refl
take_whole (x ∷ xs) = ap (λ ys. x ∷ ys) (take_whole xs)
