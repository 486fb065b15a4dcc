-- Cells copied one after another.
use Rattle.std.proofs.Common.{◌≡◌, ◌≢◌, ◌⊎◌, inl, inr, ⊎_elim, ℕ, zero, suc, ◌+◌, ◌<◌, ◌≤◌, Bool, true, false, List, [], ◌∷◌, length, Some, None, slice_get, refl, sym, ap, ◌∙◌, subst, arith, length-set, get_or-set_same, get_or-set_other, true≢false}
use mathlib.Core.Path.{ap₂}
use Rattle.std.specs.List.{AllByRecursion}
use Rattle.std.proofs.Math.ListN.{set}
use Rattle.std.proofs.lemmas.Option.{same_Some, slice_get_within}
use Rattle.kl_base.specs.Fields.{field}
use Rattle.kl_type.specs.Ground.{Row, rec, var, coll, arrow, at}
use Rattle.kl_type.proofs.RowLemmas.{told, none_some}
use Rattle.kl_rows.specs.declared.cell.TypeNode.TheVariants.{AnyType, Base, Rec, Var, Coll, TypeLink}
use Rattle.kl_rows.specs.declared.cell.KindNode.TheVariants.{AnyKind, Fixed, KindLink}
use Rattle.kl_rows.specs.declared.cell.RowNode.TheVariants.{AnyRow, NoRow, Front}
use Rattle.kl_rows.specs.declared.cell.Cell.{Cell}
use Rattle.kl_rows.specs.declared.cell.Cell.TheVariants.{OfType, OfFunction, OfRow, OfKind}
use Rattle.kl_rows.specs.Lists.{Fields}
use Rattle.kl_rows.specs.Places.{Sort, a_type, a_function, a_row, a_kind, sort_of, sort_at, IsType, IsFunction, IsRowAt, IsKind, AreTypes, Parts, IsPlaced, Lacks, LacksAs, at_open, at_none, at_front, Differ, IsFine}
use Rattle.kl_rows.specs.Solutions.{Assignment, Splits, Says}
use Rattle.kl_rows.specs.Making.{IsNewTidy, CanMake}
use Rattle.kl_rows.specs.Copying.{Fits, SameAt, Takes, renamed_fields, renamed, number_in, pulled, IsSource, IsEarlier, InOrder, kept_in, IsClosed, SameOn, Copied, Copies}
use Rattle.kl_rows.proofs.Advancing.{agrees_refl, keeps_refl, keeps_on, lacks_kept}
use Rattle.kl_rows.proofs.Assigning.{parts_on, Off, says_off}
use Rattle.kl_rows.proofs.CellLists.{stands, sort_here, sort_within}
use Rattle.kl_rows.proofs.Growing.{grown_with, grown_map}
use Rattle.kl_rows.proofs.ListLemmas.{Label, field_here, field_there, below_or_last}

sort_renamed : (f : ℕ → ℕ) (c : Cell) → sort_of (renamed f c) ≡ sort_of c
sort_renamed f (OfType n) = refl
sort_renamed f (OfFunction a b) = refl
sort_renamed f (OfRow n) = refl
sort_renamed f (OfKind n) = refl

field_renamed : (f : ℕ → ℕ) (l : Label) (fs : Fields) → field l fs ≡ None → field l (renamed_fields f fs) ≡ None
field_renamed f l [] h = refl
field_renamed f l ((m, t) ∷ fs) h = ⊎_elim
    (λ e. none_some t _ (sym h ∙ field_here l m t fs e.1))
    (λ d. field_there l m (f t) (renamed_fields f fs) d.1 ∙ field_renamed f l fs (sym (field_there l m t fs d.1) ∙ h))
    (told l m)

field_unnamed : (f : ℕ → ℕ) (l : Label) (fs : Fields) → field l (renamed_fields f fs) ≡ None → field l fs ≡ None
field_unnamed f l [] h = refl
field_unnamed f l ((m, t) ∷ fs) h = ⊎_elim
    (λ e. none_some (f t) _ (sym h ∙ field_here l m (f t) (renamed_fields f fs) e.1))
    (λ d. field_there l m t fs d.1 ∙ field_unnamed f l fs (sym (field_there l m (f t) (renamed_fields f fs) d.1) ∙ h))
    (told l m)

-- a cell is renamed by its parts alone
fields_same : (f g : ℕ → ℕ) (fs : Fields) → AllByRecursion (λ x. g x.1 ≡ f x.1) fs → renamed_fields g fs ≡ renamed_fields f fs
fields_same f g [] h = refl
fields_same f g (x ∷ xs) h = ap₂ (λ t ys. (x.0, t) ∷ ys) h.0 (fields_same f g xs h.1)

renamed_same : (f g : ℕ → ℕ) (c : Cell) → Parts c (λ p. g p ≡ f p) → renamed g c ≡ renamed f c
renamed_same f g (OfType AnyType) h = refl
renamed_same f g (OfType (Base b)) h = refl
renamed_same f g (OfType (Rec r)) h = ap (λ x. OfType (Rec x)) h
renamed_same f g (OfType (Var r)) h = ap (λ x. OfType (Var x)) h
renamed_same f g (OfType (Coll k a)) h = ap₂ (λ x y. OfType (Coll x y)) h.0 h.1
renamed_same f g (OfFunction a b) h = ap₂ (λ x y. OfFunction x y) h.0 h.1
renamed_same f g (OfType (TypeLink a)) h = ap (λ x. OfType (TypeLink x)) h
renamed_same f g (OfRow (AnyRow ls)) h = refl
renamed_same f g (OfRow NoRow) h = refl
renamed_same f g (OfRow (Front fs r)) h = ap₂ (λ x y. OfRow (Front x y)) (fields_same f g fs h.0) h.1
renamed_same f g (OfKind AnyKind) h = refl
renamed_same f g (OfKind (Fixed k)) h = refl
renamed_same f g (OfKind (KindLink a)) h = ap (λ x. OfKind (KindLink x)) h

-- what a renamed cell says of a number, the cell says of the value there
fronts_pulled : (numbers : List ℕ) (s : Assignment) (fs : Fields) (w e : Row) → AllByRecursion (λ f. (at f.0 w ≡ Some (s.types f.1)) × (at f.0 e ≡ None)) (renamed_fields (number_in numbers) fs)
    → AllByRecursion (λ f. (at f.0 w ≡ Some (s.types (number_in numbers f.1))) × (at f.0 e ≡ None)) fs
fronts_pulled numbers s [] w e h = tt
fronts_pulled numbers s (f ∷ fs) w e h = (h.0, fronts_pulled numbers s fs w e h.1)

says_pulled : (numbers : List ℕ) (c : Cell) (s : Assignment) (i p : ℕ) → p ≡ number_in numbers i → Says (renamed (number_in numbers) c) s p → Says c (pulled numbers s) i
says_pulled numbers (OfType AnyType) s i p e h = tt
says_pulled numbers (OfType (Base b)) s i p e h = ap s.types (sym e) ∙ h
says_pulled numbers (OfType (Rec r)) s i p e h = ap s.types (sym e) ∙ h
says_pulled numbers (OfType (Var r)) s i p e h = ap s.types (sym e) ∙ h
says_pulled numbers (OfType (Coll k a)) s i p e h = ap s.types (sym e) ∙ h
says_pulled numbers (OfFunction a b) s i p e h = ap s.functions (sym e) ∙ h
says_pulled numbers (OfType (TypeLink a)) s i p e h = ap s.types (sym e) ∙ h
says_pulled numbers (OfRow (AnyRow ls)) s i p e h = subst (λ x. AllByRecursion (λ l. at l (s.rows x) ≡ None) ls) e h
says_pulled numbers (OfRow NoRow) s i p e h = ap s.rows (sym e) ∙ h
says_pulled numbers (OfRow (Front fs r)) s i p e h = record {
  fronts = subst (λ x. AllByRecursion (λ f. (at f.0 (s.rows x) ≡ Some (s.types (number_in numbers f.1))) × (at f.0 (s.rows (number_in numbers r)) ≡ None)) fs) e (fronts_pulled numbers s fs (s.rows p) (s.rows (number_in numbers r)) h.fronts);
  others = λ l n. ap (λ x. at l (s.rows x)) (sym e) ∙ h.others l (field_renamed (number_in numbers) l fs n);
}
says_pulled numbers (OfKind AnyKind) s i p e h = tt
says_pulled numbers (OfKind (Fixed k)) s i p e h = ap s.kinds (sym e) ∙ h
says_pulled numbers (OfKind (KindLink a)) s i p e h = ap s.kinds (sym e) ∙ h

-- where the parts' numbers have the parts' values, a renamed cell fits what the cell says
module _ (source : List Cell) (numbers : List ℕ) (D : ℕ → Type 0) (s u : Assignment) (same : SameOn D source numbers s u) where
  fronts_fit : (fs : Fields) (w e : Row) → AreTypes source fs → AllByRecursion (λ f. D f.1) fs → AllByRecursion (λ f. (at f.0 w ≡ Some (u.types f.1)) × (at f.0 e ≡ None)) fs
      → AllByRecursion (λ f. (at f.0 w ≡ Some (s.types f.1)) × (at f.0 e ≡ None)) (renamed_fields (number_in numbers) fs)
  fronts_fit [] w e t d h = tt
  fronts_fit (f ∷ fs) w e t d h = ((h.0.0 ∙ ap Some (sym (same.types f.1 d.0 t.0)), h.0.1), fronts_fit fs w e t.1 d.1 h.1)

  fits_renamed : (c : Cell) (i : ℕ) → IsPlaced source i c → Parts c D → Says c u i → Fits (renamed (number_in numbers) c) s u i
  fits_renamed (OfType AnyType) i p d h = tt
  fits_renamed (OfType (Base b)) i p d h = h
  fits_renamed (OfType (Rec r)) i p d h = h ∙ ap rec (sym (same.rows r d p))
  fits_renamed (OfType (Var r)) i p d h = h ∙ ap var (sym (same.rows r d p))
  fits_renamed (OfType (Coll k a)) i p d h = h ∙ ap₂ coll (sym (same.kinds k d.0 p.0)) (sym (same.types a d.1 p.1))
  fits_renamed (OfFunction a b) i p d h = h ∙ ap₂ arrow (sym (same.types a d.0 p.0)) (sym (same.types b d.1 p.1))
  fits_renamed (OfType (TypeLink a)) i p d h = h ∙ sym (same.types a d p.1)
  fits_renamed (OfRow (AnyRow ls)) i p d h = h
  fits_renamed (OfRow NoRow) i p d h = h
  fits_renamed (OfRow (Front fs r)) i p d h = subst (λ e. Splits (renamed_fields (number_in numbers) fs) s.types (u.rows i) e) (sym (same.rows r d.1 p.1)) (record {
    fronts = fronts_fit fs (u.rows i) (u.rows r) p.0 d.0 h.fronts;
    others = λ l n. h.others l (field_unnamed (number_in numbers) l fs n);
  })
  fits_renamed (OfKind AnyKind) i p d h = tt
  fits_renamed (OfKind (Fixed k)) i p d h = h
  fits_renamed (OfKind (KindLink a)) i p d h = h ∙ sym (same.kinds a d p.1)

differ_renamed : (f : ℕ → ℕ) (fs : Fields) → Differ fs → Differ (renamed_fields f fs)
differ_renamed f [] h = tt
differ_renamed f (x ∷ xs) h = (field_renamed f x.0 xs h.0, differ_renamed f xs h.1)

-- a cell whose parts are copied can be copied
module _ (D : ℕ → Type 0) (source old now : List Cell) (numbers : List ℕ) (good : IsSource source) (x : Copied D source old now numbers) where
  sorted : (j : ℕ) (q : Sort) → D j → sort_at source j ≡ Some q → sort_at now (number_in numbers j) ≡ Some q
  sorted j q d e = let st = stands source j q e in x.sorts j st.cell d st.here ∙ ap Some st.sort

  types_sorted : (fs : Fields) → AllByRecursion (λ f. D f.1) fs → AreTypes source fs → AreTypes now (renamed_fields (number_in numbers) fs)
  types_sorted [] d h = tt
  types_sorted (f ∷ fs) d h = (sorted f.1 a_type d.0 h.0, types_sorted fs d.1 h.1)

  lack_renamed : (fs : Fields) (r : ℕ) → D r → AllByRecursion (λ f. Lacks source f.0 r) fs → AllByRecursion (λ f. Lacks now f.0 (number_in numbers r)) (renamed_fields (number_in numbers) fs)
  lack_renamed [] r d h = tt
  lack_renamed (f ∷ fs) r d h = (x.lacks f.0 r d h.0, lack_renamed fs r d h.1)

  pub can_copy : (i : ℕ) (c : Cell) → slice_get source i ≡ Some c → Parts c D → CanMake now (renamed (number_in numbers) c)
  can_copy i c e d = record { placed = place c (good.placed i c e) d; tidy = tidy c e d }
    where
      place : (c : Cell) → IsPlaced source i c → Parts c D → IsPlaced now (length now) (renamed (number_in numbers) c)
      place (OfType AnyType) h d = tt
      place (OfType (Base b)) h d = tt
      place (OfType (Rec r)) h d = sorted r a_row d h
      place (OfType (Var r)) h d = sorted r a_row d h
      place (OfType (Coll k a)) h d = (sorted k a_kind d.0 h.0, sorted a a_type d.1 h.1)
      place (OfFunction a b) h d = (sorted a a_type d.0 h.0, sorted b a_type d.1 h.1)
      place (OfType (TypeLink a)) h d = let s = sorted a a_type d h.1 in (sort_within now (number_in numbers a) a_type s, s)
      place (OfRow (AnyRow ls)) h d = tt
      place (OfRow NoRow) h d = tt
      place (OfRow (Front fs r)) h d = (types_sorted fs d.0 h.0, sorted r a_row d.1 h.1)
      place (OfKind AnyKind) h d = tt
      place (OfKind (Fixed k)) h d = tt
      place (OfKind (KindLink a)) h d = let s = sorted a a_kind d h.1 in (sort_within now (number_in numbers a) a_kind s, s)

      tidy : (c : Cell) → slice_get source i ≡ Some c → Parts c D → IsNewTidy now (renamed (number_in numbers) c)
      tidy (OfType n) e d = tt
      tidy (OfFunction a b) e d = tt
      tidy (OfRow (AnyRow ls)) e d = tt
      tidy (OfRow NoRow) e d = tt
      tidy (OfRow (Front fs r)) e d = let t = good.tidy i fs r e in record { lack = lack_renamed fs r d.1 t.lack; differ = differ_renamed (number_in numbers) fs t.differ }
      tidy (OfKind n) e d = tt

  -- one cell more is copied
  module _ (i p : ℕ) (c : Cell) (new : List Cell) (e : slice_get source i ≡ Some c) (d : Parts c D) (off : D i → ⊥) (t : Takes now new (renamed (number_in numbers) c) p) where
    abbrev after : List ℕ
    after = set numbers i p

    within : i < length numbers
    within = let s = x.size in let l = slice_get_within source i c e in omega arith

    number_new : number_in after i ≡ p
    number_new = get_or-set_same numbers i p 0 within

    number_old : (j : ℕ) → D j → number_in after j ≡ number_in numbers j
    number_old j k = let ne : j ≢ i = λ z. off (subst D z k) in get_or-set_other numbers i j p 0 ne

    apart : (j : ℕ) → D j → j ≢ i
    apart j k z = off (subst D z k)

    abbrev More : ℕ → Type 0
    More j = D j ⊎ (j ≡ i)

    same_cell : (j : ℕ) (y : Cell) → j ≡ i → slice_get source j ≡ Some y → y ≡ c
    same_cell j y z h = same_Some y c (sym h ∙ ap (slice_get source) z ∙ e)

    lacks_of : (l : Label) (y : Cell) → y ≡ c → Lacks source l i → LacksAs (renamed (number_in numbers) y) now l
    lacks_of l y z (at_open ls h k) = subst (λ w. LacksAs (renamed (number_in numbers) w) now l) (same_Some (OfRow (AnyRow ls)) y (sym h ∙ e ∙ ap Some (sym z))) k
    lacks_of l y z (at_none h) = subst (λ w. LacksAs (renamed (number_in numbers) w) now l) (same_Some (OfRow NoRow) y (sym h ∙ e ∙ ap Some (sym z))) tt
    lacks_of l y z (at_front fs r h n k) =
        let is : OfRow (Front fs r) ≡ y = same_Some (OfRow (Front fs r)) y (sym h ∙ e ∙ ap Some (sym z)) in
        let part : Parts (OfRow (Front fs r)) D = subst (λ w. Parts w D) (sym (is ∙ z)) d in
        subst (λ w. LacksAs (renamed (number_in numbers) w) now l) is (field_renamed (number_in numbers) l fs n, x.lacks l r part.1 k)

    pulled_off : (s : Assignment) → Off i (pulled numbers s) (pulled after s)
    pulled_off s = record {
      types = λ j ne. ap s.types (get_or-set_other numbers i j p 0 ne);
      functions = λ j ne. ap s.functions (get_or-set_other numbers i j p 0 ne);
      rows = λ j ne. ap s.rows (get_or-set_other numbers i j p 0 ne);
      kinds = λ j ne. ap s.kinds (get_or-set_other numbers i j p 0 ne);
    }

    pub copied_more : Copied More source old new after
    copied_more = record {
      fine = t.fine;
      keeps = keeps_on old now new x.keeps t.keeps;
      size = length-set numbers i p ∙ x.size;
      sorts = λ j y m h. ⊎_elim
          (λ k. ap (sort_at new) (number_old j k) ∙ (let z = t.keeps in z.sorts (number_in numbers j) (sort_of y) (x.sorts j y k h)))
          (λ z. ap (λ w. sort_at new (number_in after w)) z ∙ ap (sort_at new) number_new ∙ t.sort ∙ ap Some (sort_renamed (number_in numbers) c ∙ ap sort_of (sym (same_cell j y z h))))
          m;
      closed = λ j y m h. ⊎_elim
          (λ k. parts_on y D More (λ q a. inl a) (x.closed j y k h))
          (λ z. subst (λ w. Parts w More) (sym (same_cell j y z h)) (parts_on c D More (λ q a. inl a) d))
          m;
      lacks = λ l j m h. ⊎_elim
          (λ k. subst (λ w. Lacks new l w) (sym (number_old j k)) (lacks_kept now new l t.rows (x.lacks l j k h)))
          (λ z. subst (λ w. Lacks new l (number_in after w)) (sym z) (subst (λ w. Lacks new l w) (sym number_new) (t.lacks l (lacks_of l c refl (subst (λ w. Lacks source l w) z h)))))
          m;
      settled = λ h. t.settled (x.settled h);
      up = λ s h.
          let a = t.up s h in
          let b = x.up s a.0 in
          let same : renamed (number_in after) c ≡ renamed (number_in numbers) c = renamed_same (number_in numbers) (number_in after) c (parts_on c D _ number_old d) in (
            b.0,
            λ j y m g. ⊎_elim
                (λ k. says_off i (pulled numbers s) (pulled after s) y j (pulled_off s) (apart j k) (parts_on y D _ apart (x.closed j y k g)) (b.1 j y k g))
                (λ z. subst (λ w. Says w (pulled after s) j) (sym (same_cell j y z g)) (subst (Says c (pulled after s)) (sym z) (says_pulled after c s i p (sym number_new) (subst (λ w. Says w s p) (sym same) a.1))))
                m,
          );
      down = λ s u h g.
          grown_with old now new s _ _ (let k = x.keeps in k.grows) (x.down s u h (λ j y k q. g j y (inl k) q))
          (λ v o w same.
          let more = t.down v u i w (fits_renamed source numbers D v u same c i (good.placed i c e) d (g i c (inr refl) e)) in
          record {
            to = more.to;
            agrees = more.agrees;
            solves = more.solves;
            holds = record {
              types = λ j m q. ⊎_elim
                  (λ k. ap more.to.types (number_old j k) ∙ (let z = more.agrees in z.types (number_in numbers j) (sort_within now (number_in numbers j) a_type (sorted j a_type k q))) ∙ same.types j k q)
                  (λ z. ap (λ y. more.to.types (number_in after y)) z ∙ ap more.to.types number_new ∙ at_sort a_type (subst (IsType source) z q) more.to u more.holds ∙ ap u.types (sym z))
                  m;
              functions = λ j m q. ⊎_elim
                  (λ k. ap more.to.functions (number_old j k) ∙ (let z = more.agrees in z.functions (number_in numbers j) (sort_within now (number_in numbers j) a_function (sorted j a_function k q))) ∙ same.functions j k q)
                  (λ z. ap (λ y. more.to.functions (number_in after y)) z ∙ ap more.to.functions number_new ∙ at_sort a_function (subst (IsFunction source) z q) more.to u more.holds ∙ ap u.functions (sym z))
                  m;
              rows = λ j m q. ⊎_elim
                  (λ k. ap more.to.rows (number_old j k) ∙ (let z = more.agrees in z.rows (number_in numbers j) (sort_within now (number_in numbers j) a_row (sorted j a_row k q))) ∙ same.rows j k q)
                  (λ z. ap (λ y. more.to.rows (number_in after y)) z ∙ ap more.to.rows number_new ∙ at_sort a_row (subst (IsRowAt source) z q) more.to u more.holds ∙ ap u.rows (sym z))
                  m;
              kinds = λ j m q. ⊎_elim
                  (λ k. ap more.to.kinds (number_old j k) ∙ (let z = more.agrees in z.kinds (number_in numbers j) (sort_within now (number_in numbers j) a_kind (sorted j a_kind k q))) ∙ same.kinds j k q)
                  (λ z. ap (λ y. more.to.kinds (number_in after y)) z ∙ ap more.to.kinds number_new ∙ at_sort a_kind (subst (IsKind source) z q) more.to u more.holds ∙ ap u.kinds (sym z))
                  m;
            };
          });
    }
      where
        at_sort : (q : Sort) → sort_at source i ≡ Some q → (w v : Assignment) → SameAt (sort_of (renamed (number_in numbers) c)) w p v i → SameAt q w p v i
        at_sort q h w v m = subst (λ r. SameAt r w p v i) (sort_renamed (number_in numbers) c ∙ same_Some (sort_of c) q (sym (sort_here source i c e) ∙ h)) m

-- the cells that an order names up to a place, where they are kept
abbrev pub IsDone : List Bool → List ℕ → ℕ → ℕ → Type 0
IsDone kept order k j = (m : ℕ) × (m < k) × (slice_get order m ≡ Some j) × (kept_in kept j ≡ true)

pub copied_none : (source old : List Cell) (kept : List Bool) (order numbers : List ℕ) → IsFine old → length numbers ≡ length source → Copied (IsDone kept order 0) source old old numbers
copied_none source old kept order numbers fine size = record {
  fine = fine;
  keeps = keeps_refl old;
  size = size;
  sorts = λ j c d e. none j d;
  closed = λ j c d e. none j d;
  lacks = λ l j d h. none j d;
  settled = λ h. h;
  up = λ s h. (h, λ j c d e. none j d);
  down = λ s u h g. record { to = s; agrees = agrees_refl (length old) s; solves = h; holds = record { types = λ j d q. none j d; functions = λ j d q. none j d; rows = λ j d q. none j d; kinds = λ j d q. none j d } };
}
  where
    none : {P : Type 0} (j : ℕ) → IsDone kept order 0 j → P
    none j d = absurd (let l = d.1 in omega arith)

copied_as : (D E : ℕ → Type 0) (source old now : List Cell) (numbers : List ℕ) → ((j : ℕ) → D j → E j) → ((j : ℕ) → E j → D j) → Copied D source old now numbers → Copied E source old now numbers
copied_as D E source old now numbers go come x = record {
  fine = x.fine;
  keeps = x.keeps;
  size = x.size;
  sorts = λ j c d e. x.sorts j c (come j d) e;
  closed = λ j c d e. parts_on c D E go (x.closed j c (come j d) e);
  lacks = λ l j d h. x.lacks l j (come j d) h;
  settled = x.settled;
  up = λ s h. (let a = x.up s h in (a.0, λ j c d e. a.1 j c (come j d) e));
  down = λ s u h g. grown_map old now s _ _ (λ w k same. record { types = λ j d q. same.types j (come j d) q; functions = λ j d q. same.functions j (come j d) q; rows = λ j d q. same.rows j (come j d) q; kinds = λ j d q. same.kinds j (come j d) q }) (x.down s u h (λ j c d e. g j c (go j d) e));
}

module _ (source old : List Cell) (kept : List Bool) (order : List ℕ) (good : IsSource source) (ordered : InOrder source order) (k at : ℕ) (here : slice_get order k ≡ Some at) where
  done_on : (j : ℕ) → IsDone kept order k j → IsDone kept order (k + 1) j
  done_on j d = (d.0, (let l = d.1 in omega arith), d.2, d.3)

  -- a cell that is not kept is left out
  pub copy_skip : (now : List Cell) (numbers : List ℕ) → kept_in kept at ≡ false → Copied (IsDone kept order k) source old now numbers → Copied (IsDone kept order (k + 1)) source old now numbers
  copy_skip now numbers no_keep x = copied_as _ _ source old now numbers done_on back x
    where
      back : (j : ℕ) → IsDone kept order (k + 1) j → IsDone kept order k j
      back j d = ⊎_elim (λ l. (d.0, l, d.2, d.3))
          (λ z. absurd (true≢false (sym d.3 ∙ ap (kept_in kept) (same_Some j at (sym d.2 ∙ ap (slice_get order) z ∙ here)) ∙ no_keep)))
          (below_or_last d.0 k d.1)

  part_done : IsClosed source kept → (c : Cell) → slice_get source at ≡ Some c → kept_in kept at ≡ true → Parts c (IsDone kept order k)
  part_done closed c e keep = both c (ordered.before k at c here e) (closed.parts at c e keep)
    where
      pair : (p : ℕ) → IsEarlier order k p → kept_in kept p ≡ true → IsDone kept order k p
      pair p a b = (a.0, a.1, a.2, b)

      fields : (fs : Fields) → AllByRecursion (λ f. IsEarlier order k f.1) fs → AllByRecursion (λ f. kept_in kept f.1 ≡ true) fs → AllByRecursion (λ f. IsDone kept order k f.1) fs
      fields [] a b = tt
      fields (f ∷ fs) a b = (pair f.1 a.0 b.0, fields fs a.1 b.1)

      both : (d : Cell) → Parts d (IsEarlier order k) → Parts d (λ p. kept_in kept p ≡ true) → Parts d (IsDone kept order k)
      both (OfType AnyType) a b = tt
      both (OfType (Base x)) a b = tt
      both (OfType (Rec r)) a b = pair r a b
      both (OfType (Var r)) a b = pair r a b
      both (OfType (Coll j t)) a b = (pair j a.0 b.0, pair t a.1 b.1)
      both (OfFunction t u) a b = (pair t a.0 b.0, pair u a.1 b.1)
      both (OfType (TypeLink t)) a b = pair t a b
      both (OfRow (AnyRow ls)) a b = tt
      both (OfRow NoRow) a b = tt
      both (OfRow (Front fs r)) a b = (fields fs a.0 b.0, pair r a.1 b.1)
      both (OfKind AnyKind) a b = tt
      both (OfKind (Fixed j)) a b = tt
      both (OfKind (KindLink j)) a b = pair j a b

  pub copy_can : (now : List Cell) (numbers : List ℕ) (c : Cell) → IsClosed source kept → slice_get source at ≡ Some c → kept_in kept at ≡ true → Copied (IsDone kept order k) source old now numbers → CanMake now (renamed (number_in numbers) c)
  copy_can now numbers c closed e keep x = can_copy (IsDone kept order k) source old now numbers good x at c e (part_done closed c e keep)

  pub copy_turn : (now new : List Cell) (numbers after : List ℕ) (c : Cell) (p : ℕ) → IsClosed source kept → slice_get source at ≡ Some c → kept_in kept at ≡ true → after ≡ set numbers at p
      → Copied (IsDone kept order k) source old now numbers → Takes now new (renamed (number_in numbers) c) p → Copied (IsDone kept order (k + 1)) source old new after
  copy_turn now new numbers after c p closed e keep is x t =
      subst (Copied (IsDone kept order (k + 1)) source old new) (sym is)
      (copied_as _ _ source old new (set numbers at p) go back (copied_more (IsDone kept order k) source old now numbers good x at p c new e (part_done closed c e keep) off t))
    where
      off : IsDone kept order k at → ⊥
      off d = let same : d.0 ≡ k = ordered.once d.0 k at d.2 here in let l = d.1 in omega arith

      go : (j : ℕ) → IsDone kept order k j ⊎ (j ≡ at) → IsDone kept order (k + 1) j
      go j (inl d) = done_on j d
      go j (inr z) = (k, omega arith, here ∙ ap Some (sym z), ap (kept_in kept) z ∙ keep)

      back : (j : ℕ) → IsDone kept order (k + 1) j → IsDone kept order k j ⊎ (j ≡ at)
      back j d = ⊎_elim (λ l. inl (d.0, l, d.2, d.3)) (λ z. inr (same_Some j at (sym d.2 ∙ ap (slice_get order) z ∙ here))) (below_or_last d.0 k d.1)

kept_within : (kept : List Bool) (j : ℕ) → kept_in kept j ≡ true → j < length kept
kept_within [] j h = absurd (true≢false (sym h))
kept_within (b ∷ kept) zero h = omega arith
kept_within (b ∷ kept) (suc j) h = omega (arith, kept_within kept j h)

-- all that is kept is copied
pub copy_end : (source old now : List Cell) (kept : List Bool) (order numbers : List ℕ) (k : ℕ) → InOrder source order → IsClosed source kept → length order ≤ k → Copied (IsDone kept order k) source old now numbers → Copies kept source old now numbers
copy_end source old now kept order numbers k ordered closed le x = copied_as _ _ source old now numbers (λ j d. d.3) go x
  where
    go : (j : ℕ) → kept_in kept j ≡ true → IsDone kept order k j
    go j h =
        let lt = kept_within kept j h in
        let size = closed.size in
        let m = ordered.all j (omega arith) in
        let l = slice_get_within order m.0 j m.1 in
        (m.0, omega arith, m.1, h)
