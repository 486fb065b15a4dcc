-- Rows that grow by a label at a time, from the last field to the first.
use Rattle.std.proofs.Common.{◌≡◌, ◌≢◌, inl, inr, ⊎_elim, ℕ, zero, suc, ◌-◌, ◌+◌, take, ◌<◌, ◌≤◌, Bool, true, false, IsTrue, cond, List, [], ◌∷◌, length, drop, get_or, Option, Some, None, is_none, is_some, IsSome, nat_eq, refl, sym, ap, ◌∙◌, subst, arith, drop-cons, length-drop}
use Rattle.std.proofs.lemmas.List.{take_all}
use Rattle.std.specs.List.{AllByRecursion}
use Rattle.std.specs.Cmp.Lexicographic.{pointwise}
use Rattle.std.proofs.lemmas.Option.{same_Some}
use Rattle.kl_base.specs.Fields.{field, labels_of}
use Rattle.kl_type.specs.Ground.{Ground, Row, no_row, row, at, IsRow}
use Rattle.kl_type.proofs.RowLemmas.{told, at_here, drops, at_drops, drops_row, none_some, one_row}
use Rattle.kl_prim.specs.Records.{is_label_of}
use Rattle.kl_outcome.specs.Typed.{IsWithout}
use Rattle.kl_rows.specs.declared.cell.RowNode.TheVariants.{AnyRow, NoRow, Front}
use Rattle.kl_rows.specs.declared.cell.Cell.{Cell}
use Rattle.kl_rows.specs.declared.cell.Cell.TheVariants.{OfRow}
use Rattle.kl_rows.specs.Lists.{Fields}
use Rattle.kl_rows.specs.Places.{a_type, a_row, IsIn, IsFine, IsType, IsRowAt, Lacks, AreTypes}
use Rattle.kl_rows.specs.Solutions.{Assignment, Splits, RowSays, Solves}
use Rattle.kl_rows.specs.Steps.{Agrees, Grown}
use Rattle.kl_rows.specs.Making.{CanMake, AddsCell}
use Rattle.kl_rows.proofs.CellLists.{sort_within}
use Rattle.kl_base.proofs.Each.{all_map}
use Rattle.kl_rows.proofs.ListLemmas.{Label, field_here, field_there, all_at}
use Rattle.kl_rows.proofs.Advancing.{agrees_refl, agrees_on, keeps_refl, keeps_on, absurd_true}
use Rattle.kl_rows.proofs.Growing.{grown_row}
use Rattle.kl_rows.proofs.RowCopies.{rest_of, at_rest_of, none_rest_of}
use Rattle.kl_forms.specs.Checks.{Checks}
use Rattle.kl_forms.specs.Forms.{HasFields}
use Rattle.kl_forms.specs.Rows.{HasEach, HasRest, StandBefore, OpensRow, OpensBoth, RefusesRow, Fronts, end_node}
use Rattle.kl_forms.proofs.Opening.{type_within}

none_is : {A : Type 0} (o : Option A) (P : Type 0) → o ≡ None → IsSome o → P
none_is o P e h = let z : ⊥ = cc in absurd z

false_some : false ≡ true → ⊥
false_some h = cc

-- labels of fields
pub some_front : (l m : Label) (t : ℕ) (fs : Fields) → IsSome (field l fs) → IsSome (field l ((m, t) ∷ fs))
some_front l m t fs h = ⊎_elim (λ p. subst IsSome (sym (field_here l m t fs p.1)) refl) (λ p. subst IsSome (sym (field_there l m t fs p.1)) h) (told l m)

pub none_behind : (l m : Label) (t : ℕ) (fs : Fields) → field l ((m, t) ∷ fs) ≡ None → (l ≢ m) × (field l fs ≡ None)
none_behind l m t fs e = ⊎_elim (λ p. none_some t _ (sym e ∙ field_here l m t fs p.1)) (λ p. (p.1, sym (field_there l m t fs p.1) ∙ e)) (told l m)

all_found : (fs : Fields) → AllByRecursion (λ f. IsSome (field f.0 fs)) fs
all_found [] = tt
all_found ((l, t) ∷ fs) = (subst IsSome (sym (field_here l l t fs refl)) refl, all_map (λ f. IsSome (field f.0 fs)) (λ f. IsSome (field f.0 ((l, t) ∷ fs))) fs (λ f h. some_front f.0 l t fs h) (all_found fs))

all_drop : (P : Label × ℕ → Type 0) (fs : Fields) (j : ℕ) → AllByRecursion P fs → AllByRecursion P (drop j fs)
all_drop P fs zero h = h
all_drop P [] (suc j) h = tt
all_drop P (f ∷ fs) (suc j) h = all_drop P fs j h.1

all_and : (P Q R : Label × ℕ → Type 0) (fs : Fields) → ((f : Label × ℕ) → P f → Q f → R f) → AllByRecursion P fs → AllByRecursion Q fs → AllByRecursion R fs
all_and P Q R [] go h k = tt
all_and P Q R (f ∷ fs) go h k = (go f h.0 k.0, all_and P Q R fs go h.1 k.1)

pub at_label : (P : Label → Type 0) (fs : Fields) (l : Label) → AllByRecursion P (labels_of fs) → IsSome (field l fs) → P l
at_label P [] l h k = absurd (false_some k)
at_label P ((m, t) ∷ fs) l h k = ⊎_elim (λ p. subst P (sym p.1) h.0) (λ p. at_label P fs l h.1 (subst IsSome (field_there l m t fs p.1) k)) (told l m)

each_label : (P : Label → Type 0) (fs : Fields) → ((l : Label) → IsSome (field l fs) → P l) → AllByRecursion P (labels_of fs)
each_label P [] go = tt
each_label P ((m, t) ∷ fs) go = (go m (subst IsSome (sym (field_here m m t fs refl)) refl), each_label P fs (λ l h. go l (some_front l m t fs h)))

is_in : (fs : Fields) (l : Label) → IsSome (field l fs) → IsIn l (labels_of fs)
is_in [] l k = absurd (false_some k)
is_in ((m, t) ∷ fs) l k = ⊎_elim (λ p. inl p.1) (λ p. inr (is_in fs l (subst IsSome (field_there l m t fs p.1) k))) (told l m)

-- the row has the fields, and the rest lacks their labels
abbrev pub FrontsAre : Assignment → Fields → Row → Row → Type 0
FrontsAre s fs r q = AllByRecursion (λ f. (at f.0 r ≡ Some (s.types f.1)) × (at f.0 q ≡ None)) fs

-- the turn of the loop at i, which looks at the field before it
pub record Turn (ns : List Cell) (all : Fields) (i : ℕ) (l : Label) (t : ℕ) : Type 0 where
  pub split : drop (i - 1) all ≡ (l, t) ∷ drop i all
  pub label : IsSome (field l all)
  pub types : AreTypes ns ((l, t) ∷ drop i all)
  pub fronts : (r q : Row) (s : Assignment) → FrontsAre s all r q → FrontsAre s ((l, t) ∷ drop i all) r q

pub turn : (ns : List Cell) (all : Fields) (i : ℕ) (l : Label) (t : ℕ) → 0 < i → i ≤ length all → (l, t) ≡ get_or all (i - 1) (l, t) → AreTypes ns all → Turn ns all i l t
turn ns all i l t low high is h =
    let next : suc (i - 1) ≡ i = omega arith in
    let e : drop (i - 1) all ≡ (l, t) ∷ drop i all = drop-cons all (i - 1) (l, t) (omega arith) ∙ (ap (λ f. f ∷ drop (suc (i - 1)) all) (sym is) ∙ ap (λ k. (l, t) ∷ drop k all) next) in
    record {
      split = e;
      label = (subst (AllByRecursion (λ f. IsSome (field f.0 all))) e (all_drop (λ f. IsSome (field f.0 all)) all (i - 1) (all_found all))).0;
      types = subst (AreTypes ns) e (all_drop (λ f. IsType ns f.1) all (i - 1) h);
      fronts = λ r q s k. subst (λ fs. FrontsAre s fs r q) e (all_drop (λ f. (at f.0 r ≡ Some (s.types f.1)) × (at f.0 q ≡ None)) all (i - 1) k);
    }

pub rest_slice : (all : Fields) (i : ℕ) → 0 < i → take (length all - (i - 1 + 1)) (drop (i - 1 + 1) all) ≡ drop i all
rest_slice all i low =
    let e : i - 1 + 1 ≡ i = omega arith in
    take_all (length all - (i - 1 + 1)) (drop (i - 1 + 1) all) (omega (arith, length-drop (i - 1 + 1) all)) ∙ ap (λ k. drop k all) e

pub front_later : (ns : List Cell) (fs : Fields) (l : Label) (t n : ℕ) → field l fs ≡ Some n → AreTypes ns ((l, t) ∷ fs) → IsType ns n
front_later ns fs l t n found types = all_at (λ k v. IsType ns v) fs l n types.1 found

-- a row that begins with a label, and the row behind it
module _ (end : ℕ) (fs : Fields) (l : Label) (t : ℕ) (s : Assignment) where
  each_behind : (r q : Row) (gs : Fields) → field l gs ≡ None → FrontsAre s gs r q → FrontsAre s gs (rest_of l r) q
  each_behind r q [] e h = tt
  each_behind r q ((m, u) ∷ gs) e h = let d = none_behind l m u gs e in ((at_rest_of l r m d.0 ∙ h.0.0, h.0.1), each_behind r q gs d.1 h.1)

  behind : (r : Row) → field l fs ≡ None → StandBefore end ((l, t) ∷ fs) r s → StandBefore end fs (rest_of l r) s
  behind r none h = record {
    fronts = each_behind r (s.rows end) fs none h.fronts.1;
    others = λ m e. ⊎_elim
        (λ p. ap (λ k. at k (rest_of l r)) (sym p.1) ∙ none_rest_of l r ∙ sym h.fronts.0.1 ∙ ap (λ k. at k (s.rows end)) p.1)
        (λ p. at_rest_of l r m p.1 ∙ h.others m (field_there m l t fs (λ x. p.1 (sym x)) ∙ e))
        (told l m);
  }

  beginning : (u : Assignment) (r : Row) → u.types t ≡ s.types t → StandBefore end ((l, t) ∷ fs) r s → Splits ((l, t) ∷ []) u.types r (rest_of l r)
  beginning u r here h = record {
    fronts = ((h.fronts.0.0 ∙ ap Some (sym here), none_rest_of l r), tt);
    others = λ m q. sym (at_rest_of l r m (λ x. none_some t _ (sym q ∙ field_here m l t [] (sym x))));
  }

  before : (w r : Row) → field l fs ≡ None → Splits ((l, t) ∷ []) s.types w r → StandBefore end fs r s → StandBefore end ((l, t) ∷ fs) w s
  before w r none p h = record {
    fronts = (
      (p.fronts.0.0, sym (h.others l none) ∙ p.fronts.0.1),
      all_map (λ f. (at f.0 r ≡ Some (s.types f.1)) × (at f.0 (s.rows end) ≡ None)) (λ f. (at f.0 w ≡ Some (s.types f.1)) × (at f.0 (s.rows end) ≡ None)) fs
          (λ f e. (p.others f.0 (field_there f.0 l t [] (λ x. none_some (s.types f.1) _ (sym p.fronts.0.1 ∙ (ap (λ k. at k r) (sym x) ∙ e.0)))) ∙ e.0, e.1)) h.fronts,
    );
    others = λ m e. (let d = none_behind m l t fs e in p.others m (field_there m l t [] d.0) ∙ h.others m d.1);
  }

-- before the first turn stands the end
pub end_stands : (all : Fields) (old : List Cell) (end : ℕ) → IsFine old → IsRowAt old end → ((l : Label) → IsSome (field l all) → Lacks old l end) → Fronts all [] old old end end
end_stands all old end fine there lacks = record {
  opens = record {
    fine = fine;
    keeps = keeps_refl old;
    sort = there;
    down = λ s r h g e. record { to = s; agrees = agrees_refl (length old) s; solves = h; holds = sym (one_row r (s.rows end) g (s.rows_ground end) (λ l. e.others l refl)) };
    up = λ s h. (h, record { fronts = tt; others = λ l e. refl });
  };
  lacks = λ l e k. lacks l k;
}

module _ (all fs : Fields) (l : Label) (t : ℕ) (old mid new : List Cell) (end i : ℕ) (fronts : Fronts all fs old mid end i) where
  apart : (m : Label) (u : ℕ) → field l fs ≡ Some u → field m fs ≡ None → m ≢ l
  apart m u e none same = none_some u _ (sym none ∙ (ap (λ k. field k fs) same ∙ e))

  -- one label more
  pub front_can : (k : Label) → k ≡ l → IsSome (field l all) → field l fs ≡ None → IsType old t → CanMake mid (OfRow (Front ((k, t) ∷ []) i))
  front_can k same label none there = subst (λ k. CanMake mid (OfRow (Front ((k, t) ∷ []) i))) (sym same)
      (record { placed = ((fronts.opens.keeps.sorts t a_type there, tt), fronts.opens.sort); tidy = record { lack = (fronts.lacks l none label, tt); differ = (refl, tt) } })

  module _ (j : ℕ) (label : IsSome (field l all)) (none : field l fs ≡ None) (there : IsType old t) (end_there : IsRowAt old end) (k : Label) (same : k ≡ l) (adds_as : AddsCell mid new (OfRow (Front ((k, t) ∷ []) i)) j) where
    can : CanMake mid (OfRow (Front ((l, t) ∷ []) i))
    can = front_can l refl label none there

    adds : AddsCell mid new (OfRow (Front ((l, t) ∷ []) i)) j
    adds = subst (λ k. AddsCell mid new (OfRow (Front ((k, t) ∷ []) i)) j) same adds_as

    more_down : (s : Assignment) (r : Row) → Solves old s → IsRow r → StandBefore end ((l, t) ∷ fs) r s → Grown old new s (λ u. u.rows j ≡ r)
    more_down s r h g e =
        let w = fronts.opens.down s (rest_of l r) h (drops_row (λ m. pointwise nat_eq l m) r g) (behind end fs l t s r none e) in
        let here : w.to.types t ≡ s.types t = w.agrees.types t (type_within old t there) in
        let splits : Splits ((l, t) ∷ []) w.to.types r (rest_of l r) = beginning end fs l t s w.to r here e in
        let x = grown_row mid new j fronts.opens.fine (Front ((l, t) ∷ []) i) can adds w.to w.solves r g (subst (Splits ((l, t) ∷ []) w.to.types r) (sym w.holds) splits) in
        let le = fronts.opens.keeps.grows in
        record { to = x.to; agrees = agrees_on (length old) (length mid) s w.to x.to le w.agrees x.agrees; solves = x.solves; holds = x.holds }

    pub front_more : Fronts all ((l, t) ∷ fs) old new end j
    front_more = record {
      opens = record {
        fine = adds.fine;
        keeps = keeps_on old mid new fronts.opens.keeps adds.keeps;
        sort = adds.sort;
        down = more_down;
        up = λ s h. let w = (adds.solves s).0 h in let x = fronts.opens.up s w.0 in (x.0, before end fs l t s (s.rows j) (s.rows i) none w.1 x.1);
      };
      lacks = λ m e k. (let d = none_behind m l t fs e in adds.lacks m (field_there m l t [] d.0, fronts.lacks m d.1 k));
    }

  -- a label that stands already
  module _ (n : ℕ) (ans : Bool) (found : field l fs ≡ Some n) (types : AreTypes old ((l, t) ∷ fs)) (check : Checks ans mid new (λ s. s.types t ≡ s.types n)) where
    later : IsType old n
    later = front_later old fs l t n found types

    abbrev At : Row → Row → Assignment → Label → ℕ → Type 0
    At r q s k v = (at k r ≡ Some (s.types v)) × (at k q ≡ None)

    one : (s u : Assignment) (r q : Row) → Agrees (length old) s u → FrontsAre s ((l, t) ∷ fs) r q → u.types t ≡ u.types n
    one s u r q a h =
        a.types t (type_within old t types.0)
        ∙ (same_Some (s.types t) (s.types n) (sym h.0.0 ∙ (all_at (At r q s) fs l n h.1 found).0)
        ∙ sym (a.types n (type_within old n later)))

    same_down : ans ≡ true → (s : Assignment) (r : Row) → Solves old s → IsRow r → StandBefore end ((l, t) ∷ fs) r s → Grown old new s (λ u. u.rows i ≡ r)
    same_down is s r h g e =
        let w = fronts.opens.down s r h g (record { fronts = e.fronts.1; others = λ m none. e.others m (field_there m l t fs (apart m n found none) ∙ none) }) in
        let z = (check.down w.to w.solves (one s w.to r (s.rows end) w.agrees e.fronts)).1 in
        let le = fronts.opens.keeps.grows in
        record { to = z.to; agrees = agrees_on (length old) (length mid) s w.to z.to le w.agrees z.agrees; solves = z.solves; holds = z.agrees.rows i (sort_within mid i a_row fronts.opens.sort) ∙ w.holds }

    pub front_same : ans ≡ true → Fronts all ((l, t) ∷ fs) old new end i
    front_same is = record {
      opens = record {
        fine = check.fine;
        keeps = keeps_on old mid new fronts.opens.keeps check.keeps;
        sort = check.keeps.sorts i a_row fronts.opens.sort;
        down = same_down is;
        up = λ s h.
            let w = check.up is s h in
            let x = fronts.opens.up s w.0 in
            let here = all_at (At (s.rows i) (s.rows end) s) fs l n x.1.fronts found in
            (x.0, record { fronts = ((here.0 ∙ ap Some (sym w.1), here.1), x.1.fronts); others = λ m e. x.1.others m (none_behind m l t fs e).1 });
      };
      lacks = λ m e k. check.keeps.lacks m i (fronts.lacks m (none_behind m l t fs e).1 k);
    }

    -- the row without the labels that stand before
    abbrev goes : Label → Bool
    goes m = cond (is_none (field m fs)) (is_some (field m all)) false

    abbrev cut_of : Row → Row
    cut_of r = drops goes r

    kept_at : (m : Label) (r : Row) → IsSome (field m fs) → at m (cut_of r) ≡ at m r
    kept_at m r h = at_drops goes m r ∙ stays (field m fs) h
      where
        stays : (o : Option ℕ) → IsSome o → cond (cond (is_none o) (is_some (field m all)) false) None (at m r) ≡ at m r
        stays None h = absurd (false_some h)
        stays (Some v) h = refl

    cut_front : (s : Assignment) (r : Row) → StandBefore end all r s → FrontsAre s fs r (s.rows end) → StandBefore end fs (cut_of r) s
    cut_front s r e h = record {
      fronts = all_and (λ f. IsSome (field f.0 fs)) (λ f. At r (s.rows end) s f.0 f.1) (λ f. At (cut_of r) (s.rows end) s f.0 f.1) fs (λ f k p. (kept_at f.0 r k ∙ p.0, p.1)) (all_found fs) h;
      others = λ m none. at_drops goes m r ∙ (ap (λ o. cond (cond (is_none o) (is_some (field m all)) false) None (at m r)) none ∙ by m (field m all) refl);
    }
      where
        by : (m : Label) (o : Option ℕ) → field m all ≡ o → cond (is_some (field m all)) None (at m r) ≡ at m (s.rows end)
        by m None q = ap (λ o. cond (is_some o) None (at m r)) q ∙ e.others m q
        by m (Some v) q = ap (λ o. cond (is_some o) None (at m r)) q ∙ sym (all_at (At r (s.rows end) s) all m v e.fronts q).1

    pub front_refuses : ans ≡ false → ((r q : Row) (s : Assignment) → FrontsAre s all r q → FrontsAre s ((l, t) ∷ fs) r q) → RefusesRow old new (StandBefore end all)
    front_refuses is inside = record {
      fine = check.fine;
      keeps = keeps_on old mid new fronts.opens.keeps check.keeps;
      none = λ s r h g e.
          let k = inside r (s.rows end) s e.fronts in
          let w = fronts.opens.down s (cut_of r) h (drops_row goes r g) (cut_front s r e k.1) in
          absurd_true _ (subst IsTrue is (check.down w.to w.solves (one s w.to r (s.rows end) w.agrees k)).0);
    }

-- ---- the end, and the row of the other fields

-- a row and what it has but for these labels
pub within_of : (fs : Fields) (r : Row) (l : Label) → (field l fs ≡ None → at l r ≡ None) → IsSome (at l r) → IsSome (field l fs)
within_of fs r l go h = by (field l fs) refl
  where
    by : (o : Option ℕ) → field l fs ≡ o → IsSome (field l fs)
    by None e = none_is (at l r) _ (go e) h
    by (Some v) e = subst IsSome (sym e) refl

pub others_of : (fs : Fields) (r : Row) (l : Label) → (IsSome (at l r) → IsSome (field l fs)) → field l fs ≡ None → at l r ≡ None
others_of fs r l go h = by (at l r) refl
  where
    by : (o : Option Ground) → at l r ≡ o → at l r ≡ None
    by None e = e
    by (Some v) e = none_is (field l fs) _ h (go (subst IsSome (sym e) refl))

abbrev Without : Fields → Row → Row → Type 0
Without fs r q = IsWithout (is_label_of fs) r q

gone : (fs : Fields) (r q : Row) (l : Label) → Without fs r q → IsSome (field l fs) → at l q ≡ None
gone fs r q l h k = h.1 l ∙ ap (λ b. cond b None (at l r)) k

stays_at : (fs : Fields) (r q : Row) (l : Label) → Without fs r q → field l fs ≡ None → at l r ≡ at l q
stays_at fs r q l h e = sym (h.1 l ∙ ap (λ o. cond (is_some o) None (at l r)) e)

no_label : (r : Row) → ((l : Label) → at l r ≡ None) → r ≡ no_row
no_label no_row h = refl
no_label (row l t r) h = none_some t _ (sym (h l) ∙ at_here l l t r refl)

pub end_can : (ns : List Cell) (b : Bool) (fs : Fields) → CanMake ns (OfRow (end_node b fs))
end_can ns true fs = record { placed = tt; tidy = tt }
end_can ns false fs = record { placed = tt; tidy = tt }

pub open_end : (b : Bool) (fs : Fields) (ls : List Label) (old new : List Cell) (i : ℕ) → b ≡ true → ls ≡ labels_of fs → AddsCell old new (OfRow (AnyRow ls)) i → AddsCell old new (OfRow (end_node b fs)) i
open_end b fs ls old new i e k adds = subst (λ n. AddsCell old new (OfRow n) i) (ap AnyRow k ∙ sym (ap (λ c. end_node c fs) e)) adds

pub closed_end : (b : Bool) (fs : Fields) (old new : List Cell) (i : ℕ) → b ≡ false → AddsCell old new (OfRow NoRow) i → AddsCell old new (OfRow (end_node b fs)) i
closed_end b fs old new i e adds = subst (λ n. AddsCell old new (OfRow n) i) (sym (ap (λ c. end_node c fs) e)) adds

-- what the end says of the others
end_says : (b : Bool) (fs : Fields) (r q : Row) (s : Assignment) → HasRest b fs r q s → RowSays (end_node b fs) s q
end_says true fs r q s h = each_label (λ l. at l q ≡ None) fs (λ l k. gone fs r q l h.1 k)
end_says false fs r q s h = no_label q (λ l. by l (field l fs) refl)
  where
    by : (l : Label) (o : Option ℕ) → field l fs ≡ o → at l q ≡ None
    by l None e = sym (stays_at fs r q l h.1 e) ∙ others_of fs r l (h.0.1 l) e
    by l (Some v) e = gone fs r q l h.1 (subst IsSome (sym e) refl)

pub end_lacks : (ns : List Cell) (b : Bool) (fs : Fields) (old : List Cell) (i : ℕ) → AddsCell old ns (OfRow (end_node b fs)) i → (l : Label) → IsSome (field l fs) → Lacks ns l i
end_lacks ns true fs old i adds l k = adds.lacks l (is_in fs l k)
end_lacks ns false fs old i adds l k = adds.lacks l tt

has_all : (b : Bool) (fs : Fields) (r q : Row) (s : Assignment) → RowSays (end_node b fs) s q → Splits fs s.types r q → HasFields b fs r s
has_all true fs r q s h e = (all_map (λ f. (at f.0 r ≡ Some (s.types f.1)) × (at f.0 q ≡ None)) (λ f. at f.0 r ≡ Some (s.types f.1)) fs (λ f p. p.0) e.fronts, tt)
has_all false fs r q s h e = (
  all_map (λ f. (at f.0 r ≡ Some (s.types f.1)) × (at f.0 q ≡ None)) (λ f. at f.0 r ≡ Some (s.types f.1)) fs (λ f p. p.0) e.fronts,
  λ l. within_of fs r l (λ none. e.others l none ∙ ap (at l) h),
)

-- the rest of a row that stands before an end
is_without : (fs : Fields) (r q : Row) (s : Assignment) → IsRow q → Splits fs s.types r q → Without fs r q
is_without fs r q s g e = (g, λ l. by l (field l fs) refl)
  where
    by : (l : Label) (o : Option ℕ) → field l fs ≡ o → at l q ≡ cond (is_some (field l fs)) None (at l r)
    by l None k = sym (e.others l k) ∙ sym (ap (λ o. cond (is_some o) None (at l r)) k)
    by l (Some v) k = (all_at (λ m n. (at m r ≡ Some (s.types n)) × (at m q ≡ None)) fs l v e.fronts k).1 ∙ sym (ap (λ o. cond (is_some o) None (at l r)) k)

-- and the other way round, where the types stay as they were
stands : (old : List Cell) (fs : Fields) (r q : Row) (s u : Assignment) → AreTypes old fs → Agrees (length old) s u → HasEach fs r s → Without fs r q → Splits fs u.types r q
stands old fs r q s u there a h e = record {
  fronts = all_and (λ f. IsSome (field f.0 fs) × IsType old f.1) (λ f. at f.0 r ≡ Some (s.types f.1)) (λ f. (at f.0 r ≡ Some (u.types f.1)) × (at f.0 q ≡ None)) fs
      (λ f k p. (p ∙ ap Some (sym (a.types f.1 (type_within old f.1 k.1))), gone fs r q f.0 e k.0))
      (all_and (λ f. IsSome (field f.0 fs)) (λ f. IsType old f.1) (λ f. IsSome (field f.0 fs) × IsType old f.1) fs (λ f k p. (k, p)) (all_found fs) there) h;
  others = λ l none. stays_at fs r q l e none;
}

-- the row of the others
abbrev rest_row : Fields → Row → Row
rest_row fs r = drops (is_label_of fs) r

rest_is : (fs : Fields) (r : Row) → IsRow r → Without fs r (rest_row fs r)
rest_is fs r g = (drops_row (is_label_of fs) r g, λ l. at_drops (is_label_of fs) l r)

module _ (b : Bool) (fs : Fields) (old mid new : List Cell) (end : ℕ) (fine : IsFine old) (there : AreTypes old fs) (adds : AddsCell old mid (OfRow (end_node b fs)) end) where
  ended : (s : Assignment) (r q : Row) → Solves old s → IsRow q → HasRest b fs r q s → Grown old mid s (λ u. (u.rows end ≡ q) × StandBefore end fs r u)
  ended s r q h k e =
      let w = grown_row old mid end fine (end_node b fs) (end_can old b fs) adds s h q k (end_says b fs r q s e) in
      record { to = w.to; agrees = w.agrees; solves = w.solves; holds = (w.holds, subst (λ x. Splits fs w.to.types r x) (sym w.holds) (stands old fs r q s w.to there w.agrees e.0.0 e.1)) }

  pub whole_found : (i : ℕ) → OpensRow mid new i (StandBefore end fs) → OpensBoth old new i end (HasRest b fs)
  whole_found i o = record {
    fine = o.fine;
    keeps = keeps_on old mid new adds.keeps o.keeps;
    sort = o.sort;
    rest_sort = o.keeps.sorts end a_row adds.sort;
    down = λ s r q h g k e.
        let w = ended s r q h k e in
        let x = o.down w.to r w.solves g w.holds.1 in
        let le = adds.keeps.grows in
        record { to = x.to; agrees = agrees_on (length old) (length mid) s w.to x.to le w.agrees x.agrees; solves = x.solves; holds = (x.holds, x.agrees.rows end (sort_within mid end a_row adds.sort) ∙ w.holds.0) };
    up = λ s h.
        let x = o.up s h in
        let w = (adds.solves s).0 x.0 in
        (w.0, (has_all b fs (s.rows i) (s.rows end) s w.1 x.1, is_without fs (s.rows i) (s.rows end) s (s.rows_ground end) x.1));
  }

  pub whole_refused : RefusesRow mid new (StandBefore end fs) → RefusesRow old new (HasFields b fs)
  whole_refused c = record {
    fine = c.fine;
    keeps = keeps_on old mid new adds.keeps c.keeps;
    none = λ s r h g e. let w = ended s r (rest_row fs r) h (drops_row (is_label_of fs) r g) (e, rest_is fs r g) in c.none w.to r w.solves g w.holds.1;
  }

-- of the two rows the first alone
pub first_row : (b : Bool) (fs : Fields) (old new : List Cell) (i j : ℕ) → OpensBoth old new i j (HasRest b fs) → OpensRow old new i (HasFields b fs)
first_row b fs old new i j o = record {
  fine = o.fine;
  keeps = o.keeps;
  sort = o.sort;
  down = λ s r h g e. let w = o.down s r (rest_row fs r) h g (drops_row (is_label_of fs) r g) (e, rest_is fs r g) in record { to = w.to; agrees = w.agrees; solves = w.solves; holds = w.holds.0 };
  up = λ s h. let w = o.up s h in (w.0, w.1.0);
}
